-- Whatever names and numbers a message to a trader or a drop copy shows, its line is one line.
use Rattle.std.proofs.Common.{◌≡◌, ℕ, ◌^◌, ◌<◌, true, List, [], ◌∷◌, ◌++◌, refl, decimal}
use Rattle.std.specs.Prelude.{◌==◌, codes, None, unwrap_or}
use Rattle.gx_desk.specs.declared.DropCopy.{DropCopy}
use Rattle.gx_ouch.specs.{declared.{letters.{Liquidity.Liquidity, CancelReason.CancelReason, RejectReason.RejectReason}, outbound.{OrderTerms.OrderTerms, Executed.Executed, Outbound.Outbound}}, Letters.reject_letter}
use Rattle.gx_history.specs.OuchValues.{side_buy, side_sell, side_sell_short, side_sell_short_exempt}
use Rattle.gx_text.specs.{Laws.{JsonIsPrinted, ShownIsVisible}, Moments.moment_text, Shown.{shown_text, shown_name}, declared.{form.Form.TheVariants.{Text, Json}, moments.Decimals.TheVariants.Nine}}
use Rattle.gx_lines.specs.{NameLaws.IsBytes, Showing.price_text, OrderLines.{side_words, side_text, side_field, liquidity_word, cancel_words, reject_words, shares_text, terms_text, match_text, told_text, time_text, token_field, terms_fields, executed_fields, event_word, told_fields, copy_text, copy_fields}, LineLaws.{AreTermsInRange, IsExecutedInRange, IsMessageInRange, IsCopyInRange, OrdersAreOneLine, CopiesAreOneLine}}
use Rattle.gx_lines.proofs.Text_plain.{are_plain, joined, numbered, moment_plain, price_plain, IsPlain, ◌&◌, plain, chosen, or_plain, or_bytes, one_byte, decimal_field, price_field, shown_plain, named, text_field_plain, name_field_plain, word_field, json_is_line}

side_words_plain : (side : ℕ) → are_plain (unwrap_or (side_words side) []) ≡ true
unfolding side_words
side_words_plain side =
    chosen (side == side_buy) _ _ refl (chosen (side == side_sell) _ _ refl (chosen (side == side_sell_short) _ _ refl
    (chosen (side == side_sell_short_exempt) _ None refl refl)))

liquidity_plain : (liquidity : Liquidity) → are_plain (liquidity_word liquidity) ≡ true
unfolding liquidity_word
liquidity_plain Liquidity.Added = refl
liquidity_plain Liquidity.Removed = refl

cancel_plain : (reason : CancelReason) → are_plain (cancel_words reason) ≡ true
unfolding cancel_words
cancel_plain CancelReason.UserRequested = refl
cancel_plain CancelReason.ImmediateOrCancel = refl
cancel_plain CancelReason.Supervisory = refl

reject_plain : (reason : RejectReason) → are_plain (reject_words reason) ≡ true
unfolding reject_words
reject_plain RejectReason.Closed = refl
reject_plain RejectReason.RejectAll = refl
reject_plain RejectReason.FirmNotAuthorized = refl
reject_plain RejectReason.InvalidStock = refl
reject_plain RejectReason.SharesExceedSafety = refl
reject_plain RejectReason.InvalidPrice = refl
reject_plain RejectReason.InvalidDisplay = refl
reject_plain RejectReason.InvalidMinimumQuantity = refl
reject_plain RejectReason.NotAllowedInCross = refl
reject_plain RejectReason.Other = refl
reject_plain RejectReason.Halted = refl
reject_plain RejectReason.RestrictedStock = refl
reject_plain RejectReason.ShortSale = refl
reject_plain RejectReason.IntermarketSweep = refl
reject_plain RejectReason.OddLot = refl
reject_plain RejectReason.SharesLimit = refl
reject_plain RejectReason.DollarLimit = refl

letter_plain : (reason : RejectReason) → are_plain (reject_letter reason ∷ []) ≡ true
letter_plain RejectReason.Closed = refl
letter_plain RejectReason.RejectAll = refl
letter_plain RejectReason.FirmNotAuthorized = refl
letter_plain RejectReason.InvalidStock = refl
letter_plain RejectReason.SharesExceedSafety = refl
letter_plain RejectReason.InvalidPrice = refl
letter_plain RejectReason.InvalidDisplay = refl
letter_plain RejectReason.InvalidMinimumQuantity = refl
letter_plain RejectReason.NotAllowedInCross = refl
letter_plain RejectReason.Other = refl
letter_plain RejectReason.Halted = refl
letter_plain RejectReason.RestrictedStock = refl
letter_plain RejectReason.ShortSale = refl
letter_plain RejectReason.IntermarketSweep = refl
letter_plain RejectReason.OddLot = refl
letter_plain RejectReason.SharesLimit = refl
letter_plain RejectReason.DollarLimit = refl

number : (n : ℕ) → n < 2 ^ 64 → IsPlain (decimal n)
number n h = plain (decimal n) (numbered n h)

price : (n : ℕ) → n < 2 ^ 64 → IsPlain (price_text n)
price n h = plain (price_text n) (price_plain n h)

shares : (n p : ℕ) → n < 2 ^ 64 → p < 2 ^ 64 → IsPlain (shares_text n p)
unfolding shares_text
shares n p h k = plain _ (number n h & plain (codes " at ") refl & price p k).is

match : (m : Executed) → IsExecutedInRange m → IsPlain (match_text m)
unfolding match_text
match m r =
    plain _ (plain (codes ", match ") refl & number m.match_number r.match_number & plain (codes ", ") refl
    & plain (liquidity_word m.liquidity) (liquidity_plain m.liquidity) & plain (codes " liquidity") refl).is

time : (moment : ℕ) → moment < 2 ^ 64 → IsPlain (time_text moment)
time moment h = plain _ (plain (codes ", at ") refl & plain (moment_text Nine moment) (moment_plain moment h)).is

event_plain : (message : Outbound) → are_plain (event_word message) ≡ true
unfolding event_word
event_plain (Outbound.SystemEvent event) = refl
event_plain (Outbound.Accepted m) = refl
event_plain (Outbound.Replaced m) = refl
event_plain (Outbound.Canceled m) = refl
event_plain (Outbound.Executed m) = refl
event_plain (Outbound.Rejected m) = refl

module _ (seen : ShownIsVisible) where
  side_plain : (side : ℕ) → side < 256 → IsPlain (side_text side)
  side_plain side h =
      plain _ (or_plain (side_words side) (codes "side " ++ shown_text (side ∷ [])) (side_words_plain side)
      (joined (codes "side ") (shown_text (side ∷ [])) refl (shown_plain seen (side ∷ []) (one_byte side h))))

  terms : (t : OrderTerms) (n : ℕ) → AreTermsInRange t → n < 2 ^ 64 → IsPlain (terms_text t n)
  unfolding terms_text
  terms t n r h =
      plain _ (side_plain t.side r.side & plain (codes " ") refl & number t.shares r.shares & plain (codes " ") refl
      & plain (shown_name t.stock.bytes) (named seen t.stock.bytes r.stock) & plain (codes " at ") refl & price t.price r.price
      & plain (codes ", order ") refl & number n h).is

  told_plain : (message : Outbound) → IsMessageInRange message → are_plain (told_text message) ≡ true
  unfolding told_text
  told_plain (Outbound.SystemEvent event) r = refl
  told_plain (Outbound.Accepted m) r =
      (plain (shown_name m.token.bytes) (named seen m.token.bytes r.0) & plain (codes " accepted: ") refl & terms m.terms m.order_reference r.1 r.2).is
  told_plain (Outbound.Replaced m) r =
      (plain (shown_name m.token.bytes) (named seen m.token.bytes r.0) & plain (codes " replaces ") refl
      & plain (shown_name m.previous_token.bytes) (named seen m.previous_token.bytes r.3) & plain (codes ": ") refl & terms m.terms m.order_reference r.1 r.2).is
  told_plain (Outbound.Canceled m) r =
      (plain (shown_name m.token.bytes) (named seen m.token.bytes r.0) & plain (codes " canceled: ") refl & number m.decrement r.1
      & plain (codes ", ") refl & plain (cancel_words m.reason) (cancel_plain m.reason)).is
  told_plain (Outbound.Executed m) r =
      (plain (shown_name m.token.bytes) (named seen m.token.bytes r.token) & plain (codes " executed: ") refl
      & shares m.shares m.price r.shares r.price & match m r).is
  told_plain (Outbound.Rejected m) r =
      (plain (shown_name m.token.bytes) (named seen m.token.bytes r) & plain (codes " rejected: ") refl
      & plain (reject_letter m.reason ∷ codes ", ") (joined (reject_letter m.reason ∷ []) (codes ", ") (letter_plain m.reason) refl)
      & plain (reject_words m.reason) (reject_plain m.reason)).is

  copy_plain : (copy : DropCopy) → IsCopyInRange copy → are_plain (copy_text copy) ≡ true
  unfolding copy_text
  copy_plain copy r =
      (plain (shown_name copy.account.bytes) (named seen copy.account.bytes r.account) & plain (codes ": ") refl
      & side_plain copy.side r.side & plain (codes " ") refl
      & shares copy.executed.shares copy.executed.price r.executed.shares r.executed.price & plain (codes ", token ") refl
      & plain (shown_name copy.executed.token.bytes) (named seen copy.executed.token.bytes r.executed.token) & match copy.executed r.executed).is

module _ (printed : JsonIsPrinted) where
  token : (field : List ℕ) → IsBytes field → IsPlain (token_field field)
  token field h = name_field_plain printed (codes "token") field refl h

  side_of : (side : ℕ) → side < 256 → IsPlain (side_field side)
  side_of side h =
      text_field_plain printed (codes "side") _ refl
      (or_bytes (side_words side) (codes "side " ++ side ∷ []) (side_words_plain side) (one_byte side h))

  terms_of : (t : OrderTerms) (n : ℕ) → AreTermsInRange t → n < 2 ^ 64 → IsPlain (terms_fields t n)
  unfolding terms_fields
  terms_of t n r h =
      plain _ (side_of t.side r.side & decimal_field (codes "shares") t.shares refl r.shares & name_field_plain printed (codes "stock") t.stock.bytes refl r.stock
      & price_field (codes "price") t.price refl r.price & decimal_field (codes "time_in_force") t.time_in_force refl r.time_in_force
      & decimal_field (codes "order") n refl h).is

  executed : (m : Executed) → IsExecutedInRange m → IsPlain (executed_fields m)
  unfolding executed_fields
  executed m r =
      plain _ (token m.token.bytes r.token & decimal_field (codes "shares") m.shares refl r.shares & price_field (codes "price") m.price refl r.price
      & decimal_field (codes "match") m.match_number refl r.match_number
      & word_field printed (codes "liquidity") (liquidity_word m.liquidity) refl (liquidity_plain m.liquidity)).is

  told_fields_plain : (message : Outbound) → IsMessageInRange message → are_plain (told_fields message) ≡ true
  unfolding told_fields
  told_fields_plain (Outbound.SystemEvent event) r = refl
  told_fields_plain (Outbound.Accepted m) r = (token m.token.bytes r.0 & terms_of m.terms m.order_reference r.1 r.2).is
  told_fields_plain (Outbound.Replaced m) r =
      (token m.token.bytes r.0 & name_field_plain printed (codes "previous") m.previous_token.bytes refl r.3 & terms_of m.terms m.order_reference r.1 r.2).is
  told_fields_plain (Outbound.Canceled m) r =
      (token m.token.bytes r.0 & decimal_field (codes "shares") m.decrement refl r.1
      & word_field printed (codes "reason") (cancel_words m.reason) refl (cancel_plain m.reason)).is
  told_fields_plain (Outbound.Executed m) r = (executed m r).is
  told_fields_plain (Outbound.Rejected m) r =
      (token m.token.bytes r & word_field printed (codes "reason") (reject_letter m.reason ∷ []) refl (letter_plain m.reason)
      & word_field printed (codes "text") (reject_words m.reason) refl (reject_plain m.reason)).is

  copy_fields_plain : (copy : DropCopy) → IsCopyInRange copy → are_plain (copy_fields copy) ≡ true
  unfolding copy_fields
  copy_fields_plain copy r =
      (name_field_plain printed (codes "account") copy.account.bytes refl r.account & side_of copy.side r.side & executed copy.executed r.executed).is

module _ (seen : ShownIsVisible) (printed : JsonIsPrinted) where
  pub orders_are_one_line : OrdersAreOneLine
  orders_are_one_line Text moment message m r = record {
    text = told_text message ++ time_text moment;
    ends = refl;
    plain = (plain (told_text message) (told_plain seen message r) & time moment m).is;
  }
  orders_are_one_line Json moment message m r =
      json_is_line printed moment (event_word message) (told_fields message) m (event_plain message) (told_fields_plain printed message r)

  pub copies_are_one_line : CopiesAreOneLine
  copies_are_one_line Text moment copy m r = record {
    text = copy_text copy ++ time_text moment;
    ends = refl;
    plain = (plain (copy_text copy) (copy_plain seen copy r) & time moment m).is;
  }
  copies_are_one_line Json moment copy m r =
      json_is_line printed moment (codes "fill") (copy_fields copy) m refl (copy_fields_plain printed copy r)
