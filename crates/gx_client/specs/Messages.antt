-- Messages as the gate holds them: each text fills its field, and each number fits its own.
use Rattle.std.specs.Prelude.{◌≡◌, ◌≢◌, ℕ, ◌<◌, ◌^◌, List, Option, Some}
use Rattle.gx_ouch.specs.{declared.outbound.{OrderTerms.OrderTerms, Outbound.Outbound}, Layout.HasSizes, Writing.{outbound_layout, outbound_contents}}
use Rattle.gx_desk.specs.{declared.{Answer.Answer, DropCopy.DropCopy}, Messages.{answer, drop_copy}, Writing.{answer_contents, drop_copy_contents}}
use Rattle.gx_client.specs.declared.reading.Stamped.{Stamped}

-- no message of this kind has these bytes
abbrev pub HasNone : {M : Type 0} → (ℕ → M → Type 0) → (ℕ → M → List ℕ) → List ℕ → Type 0
HasNone IsMessage bytes_of bytes =
    (timestamp : ℕ) (message : _) → IsMessage timestamp message → bytes_of timestamp message ≢ bytes

-- a message of this kind that has these bytes is what was read
abbrev pub ReadsBack : {M : Type 0} → (ℕ → M → Type 0) → (ℕ → M → List ℕ) → List ℕ → Option (Stamped M) → Type 0
ReadsBack IsMessage bytes_of bytes read =
    (timestamp : ℕ) (message : _) → IsMessage timestamp message → bytes_of timestamp message ≡ bytes
    → read ≡ Some (record { timestamp = timestamp; message = message })

-- two messages of this kind that have the same bytes are one
abbrev pub AreToldApart : {M : Type 0} → (ℕ → M → Type 0) → (ℕ → M → List ℕ) → Type 0
AreToldApart IsMessage bytes_of =
    (t u : ℕ) (m n : _) → IsMessage t m → IsMessage u n → bytes_of t m ≡ bytes_of u n → (t ≡ u) × (m ≡ n)

-- no message of the one kind has the bytes of a message of the other
abbrev pub HaveNoneInCommon : {M N : Type 0} → (ℕ → M → Type 0) → (ℕ → M → List ℕ) → (ℕ → N → Type 0) → (ℕ → N → List ℕ) → Type 0
HaveNoneInCommon IsMessage bytes_of IsOther other_bytes =
    (t u : ℕ) (m : _) (n : _) → IsMessage t m → IsOther u n → bytes_of t m ≢ other_bytes u n

-- the numbers of an order's terms have 32 bits
abbrev pub TermsFit : OrderTerms → Type 0
TermsFit terms =
    (terms.shares < 2 ^ 32) × (terms.price < 2 ^ 32) × (terms.time_in_force < 2 ^ 32) × (terms.minimum_quantity < 2 ^ 32)

-- the numbers of a message fit their fields
abbrev pub NumbersFit : Outbound → Type 0
NumbersFit (Outbound.SystemEvent event) = Unit {0}
NumbersFit (Outbound.Accepted m) = TermsFit m.terms × (m.order_reference < 2 ^ 64)
NumbersFit (Outbound.Replaced m) = TermsFit m.terms × (m.order_reference < 2 ^ 64)
NumbersFit (Outbound.Canceled m) = m.decrement < 2 ^ 32
NumbersFit (Outbound.Executed m) = (m.shares < 2 ^ 32) × (m.price < 2 ^ 32) × (m.match_number < 2 ^ 64)
NumbersFit (Outbound.Rejected m) = Unit {0}

-- a message to a trader, of this moment
pub record IsOutbound (timestamp : ℕ) (message : Outbound) : Type 0 where
  pub moment : timestamp < 2 ^ 64
  pub texts : HasSizes (outbound_layout message) (outbound_contents timestamp message)
  pub numbers : NumbersFit message

-- an answer, of this moment
pub record IsAnswer (timestamp : ℕ) (message : Answer) : Type 0 where
  pub moment : timestamp < 2 ^ 64
  pub texts : HasSizes answer (answer_contents timestamp message)
  pub record_number : message.record_number < 2 ^ 64

-- a drop copy, of this moment
pub record IsDropCopy (timestamp : ℕ) (message : DropCopy) : Type 0 where
  pub moment : timestamp < 2 ^ 64
  pub texts : HasSizes drop_copy (drop_copy_contents timestamp message)
  pub numbers : NumbersFit (Outbound.Executed message.executed)
