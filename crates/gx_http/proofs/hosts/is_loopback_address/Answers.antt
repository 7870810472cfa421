use Rattle.std.proofs.Common.{◌==◌, ◌∙◌, ap, sym, List, ℕ, slice_index}
use Rattle.gx_http.proofs.Loopback_parsed.{address_parsed, none_parsed}
use Rattle.gx_http.proofs.hosts.is_loopback_address.Goals as goal

pub returns-in-Ok : goal.returns-in-Ok
returns-in-Ok c =
    ap (λ (numbers : List ℕ). slice_index numbers 0 == 127) c.octets.ensures ∙ sym (address_parsed c.args.text.now c.in-Ok.address c.in-Ok.ensures)

pub returns-in-Err : goal.returns-in-Err
returns-in-Err c = sym (none_parsed c.args.text.now c.in-Err.ensures)
