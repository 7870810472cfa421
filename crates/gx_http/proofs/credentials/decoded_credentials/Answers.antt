use Rattle.std.proofs.Common.{◌≤◌, List, length, ℕ, ◌∙◌, ap, sym, arith}
use Rattle.std.specs.Prelude.{Option, option_and_then}
use Rattle.base64.specs.{Decode.decoded_estimate, Engines.standard}
use Rattle.gx_http.specs.Credentials.{user_and_password}
use Rattle.gx_http.proofs.Text_decoded.{none_decoded, some_decoded}
use Rattle.gx_http.proofs.credentials.decoded_credentials.Goals as goal

pub returns-in_default : goal.returns-in_default
returns-in_default c =
    let room : decoded_estimate (length c.args.text.now) ≤ 18 = omega (arith, c.requires) in
    ap (λ (text : Option (List ℕ)). option_and_then user_and_password text) (sym (none_decoded standard c.args.text.now 18 _ room c.decode_slice.ensures.value c.in_default.not-Ok))

pub returns : goal.returns
returns c =
    let room : decoded_estimate (length c.args.text.now) ≤ 18 = omega (arith, c.requires) in
    c.user_and_password.ensures
    ∙ ap (λ (text : Option (List ℕ)). option_and_then user_and_password text) (sym (some_decoded standard c.args.text.now _ _ _ _ room c.decode_slice.ensures.value c.in-Ok.is c.decode_slice.ensures.written))
