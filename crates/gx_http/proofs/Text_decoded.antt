-- What a slice that has room for all that a text may decode to says of it.
use Rattle.std.proofs.Common.{◌≡◌, ℕ, ◌≤◌, List, length, take, Option, Some, None, Ok, refl, ap, ◌∙◌}
use Rattle.std.specs.{Prelude.{Result, OnOk}, Result.result_ok}
use Rattle.base64.specs.{declared.{decode.{DecodeError.DecodeError, DecodeSliceError.DecodeSliceError}, engine.general_purpose.GeneralPurpose.GeneralPurpose}, Decode.{decode_error, decode_outcome, decoded_bytes, decoded_estimate, or_error, IsWrittenOver}, GeneralPurpose.{decoded_of, decode_slice_of, decoded_bytes_of}}
use Rattle.base64.proofs.Decoding.{conservative_ok, slice_result_room}

by_error : (error : Option DecodeError) (bytes : List ℕ) → ((x : ℕ) → or_error error (Ok (length bytes)) ≡ Ok x → ⊥) → result_ok (decode_outcome error bytes) ≡ None
by_error None bytes not_ok = absurd (not_ok (length bytes) refl)
by_error (Some e) bytes not_ok = refl

-- a text that was not decoded into it stands for no bytes
pub none_decoded : (e : GeneralPurpose) (s : List ℕ) (n : ℕ) (r : Result ℕ DecodeSliceError) → decoded_estimate (length s) ≤ n → r ≡ decode_slice_of e s n
    → ((x : ℕ) → r ≡ Ok x → ⊥) → decoded_of e s ≡ None
unfolding decoded_of
none_decoded e s n r room value not_ok =
    by_error (decode_error e.decode_table e.padding.value e.config.decode_allow_trailing_bits e.config.decode_padding_mode s) (decoded_bytes e.decode_table e.padding.value s)
    (λ x is. not_ok x (value ∙ slice_result_room e.decode_table s e.padding.value e.config.decode_allow_trailing_bits e.config.decode_padding_mode n room ∙ is))

-- and one that was, for those that it was decoded to
pub some_decoded : (e : GeneralPurpose) (s old new : List ℕ) (r : Result ℕ DecodeSliceError) (n : ℕ) → decoded_estimate (length s) ≤ length old
    → r ≡ decode_slice_of e s (length old) → r ≡ Ok n → OnOk r (IsWrittenOver (decoded_bytes_of e s) old new) → decoded_of e s ≡ Some (take n new)
unfolding decoded_of
some_decoded e s old new r n room value ok written =
    ap result_ok (conservative_ok e.decode_table s old new e.padding.value e.config.decode_allow_trailing_bits e.config.decode_padding_mode r n room value ok written).0
