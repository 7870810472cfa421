-- The line that a trader is shown of what became of his orders, and a reader of a fill.
use Rattle.std.specs.Prelude.{ℕ, ◌==◌, if◌then◌else◌, List, [], ◌∷◌, ◌++◌, codes, decimal, Option, Some, None, unwrap_or}
use Rattle.gx_desk.specs.declared.DropCopy.{DropCopy}
use Rattle.gx_ouch.specs.{declared.{letters.{Liquidity.Liquidity, CancelReason.CancelReason, RejectReason.RejectReason}, outbound.{OrderTerms.OrderTerms, Executed.Executed, Outbound.Outbound}}, Letters.reject_letter}
use Rattle.gx_history.specs.OuchValues.{side_buy, side_sell, side_sell_short, side_sell_short_exempt}
use Rattle.gx_script_text.specs.Printing.{line_end}
use Rattle.gx_text.specs.{declared.{form.Form.{Form, TheVariants.{Text, Json}}, moments.Decimals.TheVariants.Nine}, Moments.moment_text, Shown.{shown_text, shown_name}}
use Rattle.gx_lines.specs.Showing.{price_text, text_field, name_field, json_number_field, json_line}

-- the side of an order by its Buy/Sell Indicator, where there is such a side
unfoldable pub side_words : ℕ → Option (List ℕ)
side_words side =
    if side == side_buy then Some (codes "buy")
    else (if side == side_sell then Some (codes "sell")
    else (if side == side_sell_short then Some (codes "sell short")
    else (if side == side_sell_short_exempt then Some (codes "sell short exempt")
    else None)))

-- the side of an order
abbrev pub side_text : ℕ → List ℕ
side_text side = unwrap_or (side_words side) (codes "side " ++ shown_text (side ∷ []))

-- the same as a field of a JSON line
abbrev pub side_field : ℕ → List ℕ
side_field side = text_field (codes "side") (unwrap_or (side_words side) (codes "side " ++ side ∷ []))

-- whether an execution added liquidity to the book or removed it
unfoldable pub liquidity_word : Liquidity → List ℕ
liquidity_word Liquidity.Added = codes "added"
liquidity_word Liquidity.Removed = codes "removed"

-- why shares were canceled
unfoldable pub cancel_words : CancelReason → List ℕ
cancel_words CancelReason.UserRequested = codes "requested"
cancel_words CancelReason.ImmediateOrCancel = codes "immediate or cancel"
cancel_words CancelReason.Supervisory = codes "supervisory"

-- why an order was rejected, behind the letter of the reason
unfoldable pub reject_words : RejectReason → List ℕ
reject_words RejectReason.Closed = codes "the day is closed"
reject_words RejectReason.RejectAll = codes "all orders of the account are rejected"
reject_words RejectReason.FirmNotAuthorized = codes "the firm is not the account's"
reject_words RejectReason.InvalidStock = codes "the stock is not listed"
reject_words RejectReason.SharesExceedSafety = codes "no shares, or more than is safe"
reject_words RejectReason.InvalidPrice = codes "no order may have this price, or it is off its collar"
reject_words RejectReason.InvalidDisplay = codes "there is no such display"
reject_words RejectReason.InvalidMinimumQuantity = codes "a minimum quantity is not taken"
reject_words RejectReason.NotAllowedInCross = codes "crosses are not taken"
reject_words RejectReason.Other = codes "another reason"
reject_words RejectReason.Halted = codes "the stock is halted"
reject_words RejectReason.RestrictedStock = codes "the stock is restricted"
reject_words RejectReason.ShortSale = codes "short sales are not taken"
reject_words RejectReason.IntermarketSweep = codes "intermarket sweeps are not taken"
reject_words RejectReason.OddLot = codes "odd lots are not taken"
reject_words RejectReason.SharesLimit = codes "more shares than the limit"
reject_words RejectReason.DollarLimit = codes "more dollars than the limit"

-- so many shares at a price
unfoldable pub shares_text : ℕ → ℕ → List ℕ
shares_text shares price = decimal shares ++ codes " at " ++ price_text price

-- what an order asks for, and its number
unfoldable pub terms_text : OrderTerms → ℕ → List ℕ
terms_text terms number =
    side_text terms.side ++ codes " " ++ decimal terms.shares ++ codes " " ++ shown_name terms.stock.bytes
    ++ codes " at " ++ price_text terms.price ++ codes ", order " ++ decimal number

-- the number of a fill, and what its order did
unfoldable pub match_text : Executed → List ℕ
match_text m = codes ", match " ++ decimal m.match_number ++ codes ", " ++ liquidity_word m.liquidity ++ codes " liquidity"

-- what a trader is told
unfoldable pub told_text : Outbound → List ℕ
told_text (Outbound.SystemEvent event) = codes "the day ends"
told_text (Outbound.Accepted m) = shown_name m.token.bytes ++ codes " accepted: " ++ terms_text m.terms m.order_reference
told_text (Outbound.Replaced m) =
    shown_name m.token.bytes ++ codes " replaces " ++ shown_name m.previous_token.bytes ++ codes ": " ++ terms_text m.terms m.order_reference
told_text (Outbound.Canceled m) =
    shown_name m.token.bytes ++ codes " canceled: " ++ decimal m.decrement ++ codes ", " ++ cancel_words m.reason
told_text (Outbound.Executed m) =
    shown_name m.token.bytes ++ codes " executed: " ++ shares_text m.shares m.price ++ match_text m
told_text (Outbound.Rejected m) =
    shown_name m.token.bytes ++ codes " rejected: " ++ reject_letter m.reason ∷ codes ", " ++ reject_words m.reason

-- when it was
abbrev pub time_text : ℕ → List ℕ
time_text moment = codes ", at " ++ moment_text Nine moment

-- the token of an order, a field of a JSON line
abbrev pub token_field : List ℕ → List ℕ
token_field token = name_field (codes "token") token

-- the terms of an order that was taken, and its number
unfoldable pub terms_fields : OrderTerms → ℕ → List ℕ
terms_fields terms number =
    side_field terms.side ++ json_number_field (codes "shares") (decimal terms.shares)
    ++ name_field (codes "stock") terms.stock.bytes ++ json_number_field (codes "price") (price_text terms.price)
    ++ json_number_field (codes "time_in_force") (decimal terms.time_in_force) ++ json_number_field (codes "order") (decimal number)

-- what was executed of an order
unfoldable pub executed_fields : Executed → List ℕ
executed_fields m =
    token_field m.token.bytes ++ json_number_field (codes "shares") (decimal m.shares) ++ json_number_field (codes "price") (price_text m.price)
    ++ json_number_field (codes "match") (decimal m.match_number) ++ text_field (codes "liquidity") (liquidity_word m.liquidity)

-- the event of a message
unfoldable pub event_word : Outbound → List ℕ
event_word (Outbound.SystemEvent event) = codes "day_ends"
event_word (Outbound.Accepted m) = codes "accepted"
event_word (Outbound.Replaced m) = codes "replaced"
event_word (Outbound.Canceled m) = codes "canceled"
event_word (Outbound.Executed m) = codes "executed"
event_word (Outbound.Rejected m) = codes "rejected"

-- what a trader is told, behind the event
unfoldable pub told_fields : Outbound → List ℕ
told_fields (Outbound.SystemEvent event) = []
told_fields (Outbound.Accepted m) = token_field m.token.bytes ++ terms_fields m.terms m.order_reference
told_fields (Outbound.Replaced m) =
    token_field m.token.bytes ++ name_field (codes "previous") m.previous_token.bytes ++ terms_fields m.terms m.order_reference
told_fields (Outbound.Canceled m) =
    token_field m.token.bytes ++ json_number_field (codes "shares") (decimal m.decrement) ++ text_field (codes "reason") (cancel_words m.reason)
told_fields (Outbound.Executed m) = executed_fields m
told_fields (Outbound.Rejected m) =
    token_field m.token.bytes ++ text_field (codes "reason") (reject_letter m.reason ∷ []) ++ text_field (codes "text") (reject_words m.reason)

-- the line of a message to a trader of this moment
abbrev pub order_line : Form → ℕ → Outbound → List ℕ
order_line Text moment message = told_text message ++ time_text moment ++ line_end
order_line Json moment message = json_line moment (event_word message) (told_fields message)

-- what a reader is told of one side of a fill
unfoldable pub copy_text : DropCopy → List ℕ
copy_text copy =
    shown_name copy.account.bytes ++ codes ": " ++ side_text copy.side ++ codes " " ++ shares_text copy.executed.shares copy.executed.price
    ++ codes ", token " ++ shown_name copy.executed.token.bytes ++ match_text copy.executed

-- the same as fields of a JSON line
unfoldable pub copy_fields : DropCopy → List ℕ
copy_fields copy =
    name_field (codes "account") copy.account.bytes ++ side_field copy.side
    ++ executed_fields copy.executed

-- the line of a drop copy of this moment
abbrev pub copy_line : Form → ℕ → DropCopy → List ℕ
copy_line Text moment copy = copy_text copy ++ time_text moment ++ line_end
copy_line Json moment copy = json_line moment (codes "fill") (copy_fields copy)
