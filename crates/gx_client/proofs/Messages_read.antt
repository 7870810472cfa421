-- A message that the gate writes is shown by its bytes.
use Rattle.gx_units.proofs.Test_known.{is_true}
use Rattle.std.proofs.{Common.{◌≡◌, ℕ, ◌<◌, ◌^◌, Bool, true, false, List, [], ◌∷◌, ◌++◌, length, Option, Some, None, refl, sym, ap, subst, ◌∙◌}, lemmas.{Bool.{eqb-true, and_parts}, Slice.Eq.bytes_eq-Decides, Nat.{from_be_bytes-to_be_bytes_4, from_be_bytes-to_be_bytes_8}}}
use Rattle.std.specs.{Prelude.{option_map, option_and_then, IfSome, IfNone, bytes_eq, slice_index, ◌&&◌, ◌==◌, if◌then◌else◌}, Int.{w64, to_be_bytes}}
use Rattle.gx_ouch.proofs.{Fields_placed.{lies, outbound_known_to_lie}, Requests_read.one_byte}
use Rattle.gx_ouch.specs.{Layout.{LiesIn, Layout, IsWithoutGaps, HasSizes, field_bytes, laid_out}, Letters.{event_letter, liquidity_letter, cancel_letter, reject_letter}, Messages.{system_event, accepted_layout, replaced_layout, canceled_layout, executed_layout, rejected_layout}, Writing.{outbound_bytes, outbound_layout, outbound_contents, contents_behind, order_contents}, declared.{letters.{EventCode.EventCode, Liquidity.Liquidity, CancelReason.CancelReason, RejectReason.RejectReason}, outbound.{OrderTerms.OrderTerms, Outbound.Outbound, Accepted.Accepted, Replaced.Replaced, Canceled.Canceled, Executed.Executed, Rejected.Rejected}}}
use Rattle.gx_client.specs.{declared.reading.Stamped.Stamped, Letters.{event_in, liquidity_in, cancel_reason_in, reject_reason_in}, Messages.{IsOutbound, HasNone, ReadsBack, TermsFit}, Reading.{long, part, moment_shown, stamped_message, message_in, terms_of, executed_in, event_in_parts, accepted_in_parts, replaced_in_parts, canceled_in_parts, executed_in_parts, rejected_in_parts, outbound_shown}}

-- each letter stands for its code
event_back : (code : EventCode) → event_in (event_letter code) ≡ Some code
event_back EventCode.EndOfDay = refl

liquidity_back : (flag : Liquidity) → liquidity_in (liquidity_letter flag) ≡ Some flag
liquidity_back Liquidity.Added = refl
liquidity_back Liquidity.Removed = refl

cancel_back : (reason : CancelReason) → cancel_reason_in (cancel_letter reason) ≡ Some reason
cancel_back CancelReason.UserRequested = refl
cancel_back CancelReason.ImmediateOrCancel = refl
cancel_back CancelReason.Supervisory = refl

reject_back : (reason : RejectReason) → reject_reason_in (reject_letter reason) ≡ Some reason
reject_back RejectReason.Closed = refl
reject_back RejectReason.RejectAll = refl
reject_back RejectReason.FirmNotAuthorized = refl
reject_back RejectReason.InvalidStock = refl
reject_back RejectReason.SharesExceedSafety = refl
reject_back RejectReason.InvalidPrice = refl
reject_back RejectReason.InvalidDisplay = refl
reject_back RejectReason.InvalidMinimumQuantity = refl
reject_back RejectReason.NotAllowedInCross = refl
reject_back RejectReason.Other = refl
reject_back RejectReason.Halted = refl
reject_back RejectReason.RestrictedStock = refl
reject_back RejectReason.ShortSale = refl
reject_back RejectReason.IntermarketSweep = refl
reject_back RejectReason.OddLot = refl
reject_back RejectReason.SharesLimit = refl
reject_back RejectReason.DollarLimit = refl

-- the fields of an order's terms show the terms
terms_back : (terms : OrderTerms) (moment token : List ℕ) (order_reference : ℕ) (behind : List (List ℕ)) → TermsFit terms
    → terms_of (moment ∷ token ∷ order_contents terms order_reference ++ behind) ≡ terms
terms_back terms moment token order_reference behind fit =
    λ i. record {
      side = one_byte terms.side i;
      shares = from_be_bytes-to_be_bytes_4 terms.shares fit.0 i;
      stock = terms.stock;
      price = from_be_bytes-to_be_bytes_4 terms.price fit.1 i;
      time_in_force = from_be_bytes-to_be_bytes_4 terms.time_in_force fit.2 i;
      firm = terms.firm;
      display = one_byte terms.display i;
      capacity = one_byte terms.capacity i;
      intermarket_sweep = one_byte terms.intermarket_sweep i;
      minimum_quantity = from_be_bytes-to_be_bytes_4 terms.minimum_quantity fit.3 i;
      cross_type = one_byte terms.cross_type i;
    }

-- the fields of each kind of message show it
event_parts : (timestamp : ℕ) (code : EventCode) → event_in_parts (outbound_contents timestamp (Outbound.SystemEvent code)) ≡ Some (Outbound.SystemEvent code)
event_parts timestamp code = ap (option_map Outbound.SystemEvent) (ap event_in (one_byte (event_letter code)) ∙ event_back code)

accepted_parts : (timestamp : ℕ) (m : Accepted) → TermsFit m.terms → m.order_reference < 2 ^ 64
    → accepted_in_parts (outbound_contents timestamp (Outbound.Accepted m)) ≡ Outbound.Accepted m
accepted_parts timestamp m terms reference =
    λ i. Outbound.Accepted (record {
      token = m.token;
      terms = terms_back m.terms [] [] m.order_reference [] terms i;
      order_reference = from_be_bytes-to_be_bytes_8 m.order_reference reference i;
    })

replaced_parts : (timestamp : ℕ) (m : Replaced) → TermsFit m.terms → m.order_reference < 2 ^ 64
    → replaced_in_parts (outbound_contents timestamp (Outbound.Replaced m)) ≡ Outbound.Replaced m
replaced_parts timestamp m terms reference =
    λ i. Outbound.Replaced (record {
      token = m.token;
      terms = terms_back m.terms [] [] m.order_reference [] terms i;
      order_reference = from_be_bytes-to_be_bytes_8 m.order_reference reference i;
      previous_token = m.previous_token;
    })

canceled_parts : (timestamp : ℕ) (m : Canceled) → m.decrement < 2 ^ 32
    → canceled_in_parts (outbound_contents timestamp (Outbound.Canceled m)) ≡ Some (Outbound.Canceled m)
canceled_parts timestamp m decrement =
    λ i. option_map (λ reason. Outbound.Canceled (record {
      token = m.token;
      decrement = from_be_bytes-to_be_bytes_4 m.decrement decrement i;
      reason = reason;
    })) ((ap cancel_reason_in (one_byte (cancel_letter m.reason)) ∙ cancel_back m.reason) i)

-- the fields of an Executed show it, whatever follows
pub executed_parts : (moment : List ℕ) (behind : List (List ℕ)) (m : Executed) → m.shares < 2 ^ 32 → m.price < 2 ^ 32 → m.match_number < 2 ^ 64
    → executed_in (moment ∷ contents_behind (Outbound.Executed m) ++ behind) ≡ Some m
executed_parts moment behind m shares price match_number =
    λ i. option_map (λ liquidity. executed_with (from_be_bytes-to_be_bytes_4 m.shares shares i) (from_be_bytes-to_be_bytes_4 m.price price i) liquidity (from_be_bytes-to_be_bytes_8 m.match_number match_number i))
    ((ap liquidity_in (one_byte (liquidity_letter m.liquidity)) ∙ liquidity_back m.liquidity) i)
  where
    executed_with : ℕ → ℕ → Liquidity → ℕ → Executed
    executed_with shares price liquidity match_number = record { token = m.token; shares = shares; price = price; liquidity = liquidity; match_number = match_number }

rejected_parts : (timestamp : ℕ) (m : Rejected) → rejected_in_parts (outbound_contents timestamp (Outbound.Rejected m)) ≡ Some (Outbound.Rejected m)
rejected_parts timestamp m =
    ap (option_map (λ reason. Outbound.Rejected (record { token = m.token; reason = reason }))) (ap reject_reason_in (one_byte (reject_letter m.reason)) ∙ reject_back m.reason)

pub length_of : (layout : Layout) (contents : List (List ℕ)) (bytes : List ℕ) → LiesIn layout contents bytes → length bytes ≡ layout.size
length_of layout contents bytes lies = eqb-true (length bytes) layout.size (and_parts (slice_index bytes 0 == layout.kind) (length bytes == layout.size) (is_true _ lies.is_of)).1

-- a message's bytes have its length, and its fields stand at their places
pub lies_in : (layout : Layout) (contents : List (List ℕ)) → IsWithoutGaps layout → HasSizes layout contents
    → (length (laid_out layout contents) ≡ layout.size) × (field_bytes layout (laid_out layout contents) ≡ contents)
lies_in layout contents gapless sizes =
    let l = lies layout contents gapless sizes in
    (length_of layout contents (laid_out layout contents) l, l.fields)

-- what is shown, by the first byte and the length
abbrev shown_by : ℕ → ℕ → List ℕ → Option Outbound
shown_by head size bytes =
    if (head == system_event.kind) && (size == system_event.size) then event_in_parts (field_bytes system_event bytes)
    else (if (head == accepted_layout.kind) && (size == accepted_layout.size) then Some (accepted_in_parts (field_bytes accepted_layout bytes))
    else (if (head == replaced_layout.kind) && (size == replaced_layout.size) then Some (replaced_in_parts (field_bytes replaced_layout bytes))
    else (if (head == canceled_layout.kind) && (size == canceled_layout.size) then canceled_in_parts (field_bytes canceled_layout bytes)
    else (if (head == executed_layout.kind) && (size == executed_layout.size) then executed_in_parts (field_bytes executed_layout bytes)
    else (if (head == rejected_layout.kind) && (size == rejected_layout.size) then rejected_in_parts (field_bytes rejected_layout bytes)
    else None)))))

shown_at : (bytes : List ℕ) (size : ℕ) → length bytes ≡ size → outbound_shown bytes ≡ shown_by (slice_index bytes 0) size bytes
unfolding outbound_shown
shown_at bytes size h = ap (λ (n : ℕ). shown_by (slice_index bytes 0) n bytes) h

-- a message that the gate writes stands at its places
shown_back : (timestamp : ℕ) (message : Outbound) → IsOutbound timestamp message → outbound_shown (outbound_bytes timestamp message) ≡ Some message
unfolding outbound_bytes
shown_back timestamp (Outbound.SystemEvent code) is =
    let l = lies_in system_event (outbound_contents timestamp (Outbound.SystemEvent code)) (record { offsets = refl; size = refl }) is.texts in
    shown_at (laid_out system_event (outbound_contents timestamp (Outbound.SystemEvent code))) 10 l.0 ∙ (ap event_in_parts l.1 ∙ event_parts timestamp code)
shown_back timestamp (Outbound.Accepted m) is =
    let l = lies_in accepted_layout (outbound_contents timestamp (Outbound.Accepted m)) (record { offsets = refl; size = refl }) is.texts in
    shown_at (laid_out accepted_layout (outbound_contents timestamp (Outbound.Accepted m))) 66 l.0 ∙ ap Some (ap accepted_in_parts l.1 ∙ accepted_parts timestamp m is.numbers.0 is.numbers.1)
shown_back timestamp (Outbound.Replaced m) is =
    let l = lies_in replaced_layout (outbound_contents timestamp (Outbound.Replaced m)) (record { offsets = refl; size = refl }) is.texts in
    shown_at (laid_out replaced_layout (outbound_contents timestamp (Outbound.Replaced m))) 80 l.0 ∙ ap Some (ap replaced_in_parts l.1 ∙ replaced_parts timestamp m is.numbers.0 is.numbers.1)
shown_back timestamp (Outbound.Canceled m) is =
    let l = lies_in canceled_layout (outbound_contents timestamp (Outbound.Canceled m)) (record { offsets = refl; size = refl }) is.texts in
    shown_at (laid_out canceled_layout (outbound_contents timestamp (Outbound.Canceled m))) 28 l.0 ∙ (ap canceled_in_parts l.1 ∙ canceled_parts timestamp m is.numbers)
shown_back timestamp (Outbound.Executed m) is =
    let l = lies_in executed_layout (outbound_contents timestamp (Outbound.Executed m)) (record { offsets = refl; size = refl }) is.texts in
    shown_at (laid_out executed_layout (outbound_contents timestamp (Outbound.Executed m))) 40 l.0 ∙ (ap executed_in_parts l.1 ∙ ap (option_map Outbound.Executed) (executed_parts (to_be_bytes w64 timestamp) [] m is.numbers.0 is.numbers.1 is.numbers.2))
shown_back timestamp (Outbound.Rejected m) is =
    let l = lies_in rejected_layout (outbound_contents timestamp (Outbound.Rejected m)) (record { offsets = refl; size = refl }) is.texts in
    shown_at (laid_out rejected_layout (outbound_contents timestamp (Outbound.Rejected m))) 24 l.0 ∙ (ap rejected_in_parts l.1 ∙ rejected_parts timestamp m)

-- the moment is the first field
pub first_back : (timestamp : ℕ) (parts others : List (List ℕ)) → timestamp < 2 ^ 64 → parts ≡ to_be_bytes w64 timestamp ∷ others → long (part parts 0) ≡ timestamp
first_back timestamp parts others fits e = ap (λ (ps : List (List ℕ)). long (part ps 0)) e ∙ from_be_bytes-to_be_bytes_8 timestamp fits

moment_back : (timestamp : ℕ) (message : Outbound) → IsOutbound timestamp message → moment_shown (outbound_bytes timestamp message) ≡ timestamp
moment_back timestamp message is =
    by message (first_back timestamp (field_bytes (outbound_layout message) (outbound_bytes timestamp message)) (contents_behind message) is.moment (outbound_known_to_lie timestamp message (outbound_bytes timestamp message) refl is.texts).fields)
  where
    by : (m : Outbound) → long (part (field_bytes (outbound_layout m) (outbound_bytes timestamp message)) 0) ≡ timestamp → moment_shown (outbound_bytes timestamp message) ≡ timestamp
    by (Outbound.SystemEvent code) e = e
    by (Outbound.Accepted m) e = e
    by (Outbound.Replaced m) e = e
    by (Outbound.Canceled m) e = e
    by (Outbound.Executed m) e = e
    by (Outbound.Rejected m) e = e

-- what is shown of a message's own bytes is the message
module _ {M : Type 0} (IsMessage : ℕ → M → Type 0) (bytes_of : ℕ → M → List ℕ) (shown : List ℕ → Option M)
    (message_back : (timestamp : ℕ) (message : M) → IsMessage timestamp message → shown (bytes_of timestamp message) ≡ Some message)
    (moment_is : (timestamp : ℕ) (message : M) → IsMessage timestamp message → moment_shown (bytes_of timestamp message) ≡ timestamp) where
  pub in_back : (timestamp : ℕ) (message : M) (bytes : List ℕ) → IsMessage timestamp message → bytes_of timestamp message ≡ bytes → message_in shown bytes_of bytes ≡ Some (record { timestamp = timestamp; message = message })
  in_back timestamp message bytes is e =
      subst (λ (bs : List ℕ). message_in shown bytes_of bs ≡ Some (record { timestamp = timestamp; message = message })) e
      (ap (option_and_then (λ (m : M). stamped_message bytes_of (bytes_of timestamp message) (moment_shown (bytes_of timestamp message)) m)) (message_back timestamp message is)
      ∙ (ap (λ (t : ℕ). stamped_message bytes_of (bytes_of timestamp message) t message) (moment_is timestamp message is)
      ∙ ap (λ (b : Bool). if b then Some (record { timestamp = timestamp; message = message }) else None) ((bytes_eq-Decides (bytes_of timestamp message) (bytes_of timestamp message)).1 refl)))

-- what was read has these bytes
checked_written : {M : Type 0} (bytes_of : ℕ → M → List ℕ) (bytes : List ℕ) (timestamp : ℕ) (message : M) (b : Bool) → bytes_eq (bytes_of timestamp message) bytes ≡ b
    → IfSome (if b then Some (record { timestamp = timestamp; message = message }) else None) (λ (read : Stamped M). bytes_of read.timestamp read.message ≡ bytes)
checked_written bytes_of bytes timestamp message true h = (bytes_eq-Decides (bytes_of timestamp message) bytes).0 h
checked_written bytes_of bytes timestamp message false h = tt

found_written : {M : Type 0} (bytes_of : ℕ → M → List ℕ) (bytes : List ℕ) (found : Option M)
    → IfSome (option_and_then (stamped_message bytes_of bytes (moment_shown bytes)) found) (λ (read : Stamped M). bytes_of read.timestamp read.message ≡ bytes)
found_written bytes_of bytes None = tt
found_written bytes_of bytes (Some m) = checked_written bytes_of bytes (moment_shown bytes) m (bytes_eq (bytes_of (moment_shown bytes) m) bytes) refl

-- what a reader gives that finds the message standing at its places
pub written : {M : Type 0} (bytes_of : ℕ → M → List ℕ) (shown : List ℕ → Option M) (bytes : List ℕ) (read : Option (Stamped M)) → read ≡ message_in shown bytes_of bytes
    → IfSome read (λ r. bytes_of r.timestamp r.message ≡ bytes)
written bytes_of shown bytes read e =
    subst (λ (r : Option (Stamped _)). IfSome r (λ s. bytes_of s.timestamp s.message ≡ bytes)) (sym e) (found_written bytes_of bytes (shown bytes))

pub none_read : {M : Type 0} (IsMessage : ℕ → M → Type 0) (bytes_of : ℕ → M → List ℕ) (bytes : List ℕ) (read : Option (Stamped M)) → ReadsBack IsMessage bytes_of bytes read
    → IfNone read (HasNone IsMessage bytes_of bytes)
none_read IsMessage bytes_of bytes None back = λ timestamp message is e. let h = back timestamp message is e in cc
none_read IsMessage bytes_of bytes (Some r) back = tt

pub outbound_back : (timestamp : ℕ) (message : Outbound) (bytes : List ℕ) → IsOutbound timestamp message → outbound_bytes timestamp message ≡ bytes
    → message_in outbound_shown outbound_bytes bytes ≡ Some (record { timestamp = timestamp; message = message })
outbound_back = in_back IsOutbound outbound_bytes outbound_shown shown_back moment_back
