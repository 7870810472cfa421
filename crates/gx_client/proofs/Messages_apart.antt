-- Messages are told apart by their bytes.
use Rattle.std.proofs.Common.{◌≡◌, ◌≢◌, ℕ, List, length, Option, Some, refl, sym, ap, ◌∙◌, arith}
use Rattle.gx_ouch.proofs.Fields_placed.{outbound_known_to_lie}
use Rattle.gx_ouch.specs.{Writing.{outbound_bytes, outbound_layout, outbound_contents}, declared.outbound.Outbound.Outbound}
use Rattle.gx_desk.specs.{declared.{Answer.Answer, DropCopy.DropCopy}, Messages.{answer, drop_copy}, Writing.{answer_contents, answer_bytes, drop_copy_contents, drop_copy_bytes}}
use Rattle.gx_client.specs.{declared.reading.Stamped.Stamped, Messages.{IsOutbound, IsAnswer, IsDropCopy, AreToldApart, HaveNoneInCommon}, Reading.{outbound_shown, answer_shown, drop_copy_shown, message_in}}
use Rattle.gx_client.proofs.{Messages_read.{length_of, lies_in, outbound_back}, OfficerMessages_read.{answer_back, drop_copy_back}}

same : {M : Type 0} (x y : Stamped M) → Some x ≡ Some y → (x.timestamp ≡ y.timestamp) × (x.message ≡ y.message)
same x y e = let h : x ≡ y = cc in (ap (λ (s : Stamped _). s.timestamp) h, ap (λ (s : Stamped _). s.message) h)

-- messages that are read back are told apart
read_apart : {M : Type 0} (IsMessage : ℕ → M → Type 0) (bytes_of : ℕ → M → List ℕ) (read : List ℕ → Option (Stamped M))
    → ((timestamp : ℕ) (message : M) (bytes : List ℕ) → IsMessage timestamp message → bytes_of timestamp message ≡ bytes → read bytes ≡ Some (record { timestamp = timestamp; message = message }))
    → AreToldApart IsMessage bytes_of
read_apart IsMessage bytes_of read back = λ t u m n is_m is_n e.
    same (record { timestamp = t; message = m }) (record { timestamp = u; message = n }) (sym (back t m (bytes_of u n) is_m e) ∙ back u n (bytes_of u n) is_n refl)

pub outbound_apart : AreToldApart IsOutbound outbound_bytes
outbound_apart = read_apart IsOutbound outbound_bytes (message_in outbound_shown outbound_bytes) outbound_back

pub answer_apart : AreToldApart IsAnswer answer_bytes
answer_apart = read_apart IsAnswer answer_bytes (message_in answer_shown answer_bytes) answer_back

pub drop_copy_apart : AreToldApart IsDropCopy drop_copy_bytes
drop_copy_apart = read_apart IsDropCopy drop_copy_bytes (message_in drop_copy_shown drop_copy_bytes) drop_copy_back

-- the lengths of the kinds
pub outbound_length : (timestamp : ℕ) (m : Outbound) → IsOutbound timestamp m → length (outbound_bytes timestamp m) ≡ (outbound_layout m).size
outbound_length timestamp m is =
    length_of (outbound_layout m) (outbound_contents timestamp m) (outbound_bytes timestamp m) (outbound_known_to_lie timestamp m (outbound_bytes timestamp m) refl is.texts)

pub answer_length : (timestamp : ℕ) (m : Answer) → IsAnswer timestamp m → length (answer_bytes timestamp m) ≡ 34
unfolding answer_bytes
answer_length timestamp m is = (lies_in answer (answer_contents timestamp m) (record { offsets = refl; size = refl }) is.texts).0

pub drop_copy_length : (timestamp : ℕ) (m : DropCopy) → IsDropCopy timestamp m → length (drop_copy_bytes timestamp m) ≡ 49
unfolding drop_copy_bytes
drop_copy_length timestamp m is = (lies_in drop_copy (drop_copy_contents timestamp m) (record { offsets = refl; size = refl }) is.texts).0

pub no_size : (m : Outbound) (n : ℕ) → (outbound_layout m).size ≡ n → (n ≢ 34) × (n ≢ 49)
no_size (Outbound.SystemEvent code) n e = (omega arith, omega arith)
no_size (Outbound.Accepted m) n e = (omega arith, omega arith)
no_size (Outbound.Replaced m) n e = (omega arith, omega arith)
no_size (Outbound.Canceled m) n e = (omega arith, omega arith)
no_size (Outbound.Executed m) n e = (omega arith, omega arith)
no_size (Outbound.Rejected m) n e = (omega arith, omega arith)

pub no_answer : HaveNoneInCommon IsOutbound outbound_bytes IsAnswer answer_bytes
no_answer = λ t u m n is_m is_n e.
    (no_size m (length (answer_bytes u n)) (sym (outbound_length t m is_m) ∙ ap length e)).0 (answer_length u n is_n)

pub no_drop_copy : HaveNoneInCommon IsOutbound outbound_bytes IsDropCopy drop_copy_bytes
no_drop_copy = λ t u m n is_m is_n e.
    (no_size m (length (drop_copy_bytes u n)) (sym (outbound_length t m is_m) ∙ ap length e)).1 (drop_copy_length u n is_n)

differ : (m n : ℕ) → m ≡ 34 → n ≡ 49 → m ≢ n
differ m n is_m is_n e = omega arith

pub no_officers : HaveNoneInCommon IsAnswer answer_bytes IsDropCopy drop_copy_bytes
no_officers = λ t u m n is_m is_n e. differ _ _ (answer_length t m is_m) (drop_copy_length u n is_n) (ap length e)
