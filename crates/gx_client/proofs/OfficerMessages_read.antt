-- An answer and a drop copy that the gate writes are shown by their bytes.
use Rattle.std.proofs.{Common.{◌≡◌, ℕ, ◌<◌, ◌^◌, List, [], ◌∷◌, Option, Some, refl, ap, ◌∙◌}, lemmas.Nat.from_be_bytes-to_be_bytes_8}
use Rattle.std.specs.{Prelude.{option_map, ◌==◌, None, if◌then◌else◌}, Int.{w64, to_be_bytes}}
use Rattle.gx_ouch.specs.Layout.{field_bytes}
use Rattle.gx_desk.specs.{declared.{Answer.Answer, AnswerCode.AnswerCode, DropCopy.DropCopy}, Messages.{answer, drop_copy}, Writing.{answer_code, answer_contents, answer_bytes, drop_copy_contents, drop_copy_bytes}}
use Rattle.gx_client.specs.{Letters.answer_code_in, Messages.{IsAnswer, IsDropCopy}, Reading.{moment_shown, message_in, answer_in_parts, answer_shown, drop_copy_in_parts, drop_copy_shown}}
use Rattle.gx_ouch.proofs.Requests_read.{one_byte}
use Rattle.gx_client.proofs.Messages_read.{lies_in, first_back, executed_parts, in_back}

code_back : (code : AnswerCode) → answer_code_in (answer_code code) ≡ Some code
code_back AnswerCode.Done = refl
code_back AnswerCode.PartlyLifted = refl
code_back AnswerCode.UnknownName = refl
code_back AnswerCode.NoPower = refl
code_back AnswerCode.NotHisAccount = refl
code_back AnswerCode.NoChange = refl

answer_parts : (timestamp : ℕ) (m : Answer) → m.record_number < 2 ^ 64 → answer_in_parts (answer_contents timestamp m) ≡ Some m
answer_parts timestamp m fits =
    λ i. option_map (λ code. record { tag = m.tag; command_type = one_byte m.command_type i; code = code; record_number = from_be_bytes-to_be_bytes_8 m.record_number fits i }) (code_back m.code i)

drop_copy_parts : (timestamp : ℕ) (m : DropCopy) → IsDropCopy timestamp m → drop_copy_in_parts (drop_copy_contents timestamp m) ≡ Some m
drop_copy_parts timestamp m is =
    λ i. option_map (λ filled. record { executed = filled; account = m.account; side = one_byte m.side i }) (executed_parts (to_be_bytes w64 timestamp) (m.account.bytes ∷ (m.side ∷ []) ∷ []) m.executed is.numbers.0 is.numbers.1 is.numbers.2 i)

-- what is shown of bytes of the right length
abbrev answer_by : ℕ → List ℕ → Option Answer
answer_by size bytes = if size == answer.size then answer_in_parts (field_bytes answer bytes) else None

abbrev drop_copy_by : ℕ → List ℕ → Option DropCopy
drop_copy_by size bytes = if size == drop_copy.size then drop_copy_in_parts (field_bytes drop_copy bytes) else None

answer_shown_back : (timestamp : ℕ) (m : Answer) → IsAnswer timestamp m → answer_shown (answer_bytes timestamp m) ≡ Some m
unfolding answer_bytes
answer_shown_back timestamp m is =
    let l = lies_in answer (answer_contents timestamp m) (record { offsets = refl; size = refl }) is.texts in
    ap (λ (n : ℕ). answer_by n (answer_bytes timestamp m)) l.0 ∙ (ap answer_in_parts l.1 ∙ answer_parts timestamp m is.record_number)

answer_moment : (timestamp : ℕ) (m : Answer) → IsAnswer timestamp m → moment_shown (answer_bytes timestamp m) ≡ timestamp
unfolding answer_bytes
answer_moment timestamp m is = first_back timestamp (field_bytes answer (answer_bytes timestamp m)) _ is.moment (lies_in answer (answer_contents timestamp m) (record { offsets = refl; size = refl }) is.texts).1

drop_copy_shown_back : (timestamp : ℕ) (m : DropCopy) → IsDropCopy timestamp m → drop_copy_shown (drop_copy_bytes timestamp m) ≡ Some m
unfolding drop_copy_bytes
drop_copy_shown_back timestamp m is =
    let l = lies_in drop_copy (drop_copy_contents timestamp m) (record { offsets = refl; size = refl }) is.texts in
    ap (λ (n : ℕ). drop_copy_by n (drop_copy_bytes timestamp m)) l.0 ∙ (ap drop_copy_in_parts l.1 ∙ drop_copy_parts timestamp m is)

drop_copy_moment : (timestamp : ℕ) (m : DropCopy) → IsDropCopy timestamp m → moment_shown (drop_copy_bytes timestamp m) ≡ timestamp
unfolding drop_copy_bytes
drop_copy_moment timestamp m is = first_back timestamp (field_bytes drop_copy (drop_copy_bytes timestamp m)) _ is.moment (lies_in drop_copy (drop_copy_contents timestamp m) (record { offsets = refl; size = refl }) is.texts).1

pub answer_back : (timestamp : ℕ) (m : Answer) (bytes : List ℕ) → IsAnswer timestamp m → answer_bytes timestamp m ≡ bytes
    → message_in answer_shown answer_bytes bytes ≡ Some (record { timestamp = timestamp; message = m })
answer_back = in_back IsAnswer answer_bytes answer_shown answer_shown_back answer_moment

pub drop_copy_back : (timestamp : ℕ) (m : DropCopy) (bytes : List ℕ) → IsDropCopy timestamp m → drop_copy_bytes timestamp m ≡ bytes
    → message_in drop_copy_shown drop_copy_bytes bytes ≡ Some (record { timestamp = timestamp; message = m })
drop_copy_back = in_back IsDropCopy drop_copy_bytes drop_copy_shown drop_copy_shown_back drop_copy_moment
