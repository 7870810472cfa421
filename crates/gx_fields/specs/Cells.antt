-- The cells of a row, and their texts.
use Rattle.std.specs.{Prelude.{ℕ, Bool, true, false, List, [], ◌∷◌, Option, Some, None, option_map, codes, decimal}, Option.option_map_or}
use Rattle.gx_units.specs.declared.names.{AccountName.AccountName, Firm.Firm, RuleId.RuleId, Symbol.Symbol, Token.Token, UserName.UserName}
use Rattle.gx_desk.specs.declared.{Tag.Tag, WrittenName.WrittenName}
use Rattle.gx_ouch.specs.Letters.{reject_letter}
use Rattle.gx_policy.specs.RuleNames.{rule_id}
use Rattle.gx_text.specs.{Moments.moment_text, Shown.{shown_text, shown_name}, declared.moments.Decimals.Decimals}
use Rattle.gx_fields.specs.{Reasons.reason_words, declared.{cell.{Beside.Beside, Cell.Cell, EndedOrders.EndedOrders}, row.{Row.Row, RowKind.RowKind, RowVerdict.RowVerdict}}}

-- the cells, in the order of their names
abbrev pub cells_of : Row → Beside → List Cell
cells_of row beside =
    Cell.Number (Some row.number) ∷
    Cell.Number (Some row.moment) ∷
    Cell.Clock row.moment ∷
    Cell.Number16 row.line ∷
    Cell.User row.user ∷
    Cell.Account beside.account ∷
    Cell.Kind row.kind ∷
    Cell.Number (Some row.handed) ∷
    Cell.Token row.token ∷
    Cell.Token row.new_token ∷
    Cell.Letter row.side ∷
    Cell.Number32 row.shares ∷
    Cell.Stock row.stock ∷
    Cell.Number32 row.price ∷
    Cell.Number32 row.time_in_force ∷
    Cell.Firm row.firm ∷
    Cell.Letter row.display ∷
    Cell.Letter row.capacity ∷
    Cell.Letter row.intermarket_sweep ∷
    Cell.Number32 row.minimum_quantity ∷
    Cell.Letter row.cross_type ∷
    Cell.Letter row.customer_type ∷
    Cell.Tag row.tag ∷
    Cell.Account row.named_account ∷
    Cell.RuleId row.named_rule ∷
    Cell.Number row.limit ∷
    Cell.Reader row.reader ∷
    Cell.Right row.password_is_right ∷
    Cell.Right row.session_is_right ∷
    Cell.Number row.wanted ∷
    Cell.Number16 row.length ∷
    Cell.Number8 row.first ∷
    Cell.Verdict row.verdict ∷
    Cell.Rule row.rule ∷
    Cell.Reason beside.reason ∷
    Cell.Reject beside.reject ∷
    Cell.Number row.order ∷
    Cell.Number row.taker ∷
    Cell.Number row.maker ∷
    Cell.Number32 row.fill_shares ∷
    Cell.Number32 row.fill_price ∷
    Cell.Number (option_map (λ (e : EndedOrders). e.orders) beside.ended) ∷
    Cell.Number (option_map (λ (e : EndedOrders). e.shares) beside.ended) ∷
    []

-- the words of a kind
abbrev pub kind_words : RowKind → List ℕ
kind_words RowKind.Login = codes "login"
kind_words RowKind.Logout = codes "logout"
kind_words RowKind.Unreadable = codes "unreadable"
kind_words RowKind.Enter = codes "enter"
kind_words RowKind.Replace = codes "replace"
kind_words RowKind.Cancel = codes "cancel"
kind_words RowKind.Kill = codes "kill"
kind_words RowKind.Lift = codes "lift"
kind_words RowKind.SetLimit = codes "limit"
kind_words RowKind.Restrict = codes "restrict"
kind_words RowKind.Unrestrict = codes "unrestrict"
kind_words RowKind.Grant = codes "grant"
kind_words RowKind.Revoke = codes "revoke"
kind_words RowKind.CloseDay = codes "close"
kind_words RowKind.Match = codes "match"

-- the word of a verdict
abbrev pub verdict_words : RowVerdict → List ℕ
verdict_words RowVerdict.Granted = codes "granted"
verdict_words RowVerdict.Denied = codes "denied"
verdict_words RowVerdict.Filled = codes "filled"
verdict_words RowVerdict.Rested = codes "rested"
verdict_words RowVerdict.Expired = codes "expired"

-- the word of an answer
abbrev pub right_words : Bool → List ℕ
right_words true = codes "right"
right_words false = codes "wrong"

-- the text of a cell: nothing where it has no value
abbrev pub cell_text : Cell → List ℕ
cell_text (Cell.Number n) = option_map_or decimal n []
cell_text (Cell.Number32 n) = option_map_or decimal n []
cell_text (Cell.Number16 n) = option_map_or decimal n []
cell_text (Cell.Number8 n) = option_map_or decimal n []
cell_text (Cell.Clock moment) = moment_text Decimals.Nine moment
cell_text (Cell.Letter byte) = option_map_or (λ (b : ℕ). shown_text (b ∷ [])) byte []
cell_text (Cell.User name) = option_map_or (λ (n : UserName). shown_name n.bytes) name []
cell_text (Cell.Account name) = option_map_or (λ (n : AccountName). shown_name n.bytes) name []
cell_text (Cell.Stock name) = option_map_or (λ (n : Symbol). shown_name n.bytes) name []
cell_text (Cell.RuleId name) = option_map_or (λ (n : RuleId). shown_name n.bytes) name []
cell_text (Cell.Token name) = option_map_or (λ (n : Token). shown_name n.bytes) name []
cell_text (Cell.Firm name) = option_map_or (λ (n : Firm). shown_name n.bytes) name []
cell_text (Cell.Tag name) = option_map_or (λ (n : Tag). shown_name n.bytes) name []
cell_text (Cell.Reader name) = option_map_or (λ (n : WrittenName). shown_name n.bytes) name []
cell_text (Cell.Kind kind) = kind_words kind
cell_text (Cell.Verdict verdict) = verdict_words verdict
cell_text (Cell.Right answer) = option_map_or right_words answer []
cell_text (Cell.Rule name) = option_map_or (λ n. shown_name (rule_id n).bytes) name []
cell_text (Cell.Reason reason) = option_map_or reason_words reason []
cell_text (Cell.Reject reason) = option_map_or (λ r. shown_text (reject_letter r ∷ [])) reason []

-- the number in a cell, if it has one
abbrev pub number_in : Cell → Option ℕ
number_in (Cell.Number n) = n
number_in (Cell.Number32 n) = n
number_in (Cell.Number16 n) = n
number_in (Cell.Number8 n) = n
number_in other = None
