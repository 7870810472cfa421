-- The kinds of rules that a policy file may have: each kind's word, its letter and how its denials are told.
use Rattle.std.specs.Prelude.{ℕ, Bool, true, false, List, [], ◌∷◌, codes, Option, Some, None}
use Rattle.gx_units.specs.declared.names.Symbol.{Symbol}
use Rattle.gx_ouch.specs.declared.letters.RejectReason.{RejectReason}
use Rattle.gx_policy.specs.declared.{kinds.{KindName.KindName, ExposureLimit.ExposureLimit, ListKind.ListKind, OrderLimit.OrderLimit, PlainKind.PlainKind}, policy.RuleKind.RuleKind}

-- the kind, without its stocks and its numbers
abbrev pub kind_name : RuleKind → KindName
kind_name (RuleKind.Listed kind stocks) = KindName.Listed kind
kind_name (RuleKind.Plain kind) = KindName.Plain kind
kind_name (RuleKind.Order kind limit) = KindName.Order kind
kind_name (RuleKind.Exposure kind limit count) = KindName.Exposure kind
kind_name (RuleKind.Rate rate count) = KindName.Rate
kind_name (RuleKind.Repeat repeat count) = KindName.Repeat

-- the limit that Set Limit may change
abbrev pub limit_of : RuleKind → Option ℕ
limit_of (RuleKind.Order kind limit) = Some limit
limit_of (RuleKind.Exposure kind limit count) = Some limit
limit_of (RuleKind.Listed kind stocks) = None
limit_of (RuleKind.Plain kind) = None
limit_of (RuleKind.Rate rate count) = None
limit_of (RuleKind.Repeat repeat count) = None

-- the rule with this limit in place of its own, if it has one
abbrev pub with_limit : ℕ → RuleKind → RuleKind
with_limit limit (RuleKind.Order kind before) = RuleKind.Order kind limit
with_limit limit (RuleKind.Exposure kind before count) = RuleKind.Exposure kind limit count
with_limit limit (RuleKind.Listed kind stocks) = RuleKind.Listed kind stocks
with_limit limit (RuleKind.Plain kind) = RuleKind.Plain kind
with_limit limit (RuleKind.Rate rate count) = RuleKind.Rate rate count
with_limit limit (RuleKind.Repeat repeat count) = RuleKind.Repeat repeat count

-- the stocks that Restrict and Unrestrict may change
abbrev pub stocks_of : RuleKind → Option (List Symbol)
stocks_of (RuleKind.Listed kind stocks) = Some stocks
stocks_of (RuleKind.Plain kind) = None
stocks_of (RuleKind.Order kind limit) = None
stocks_of (RuleKind.Exposure kind limit count) = None
stocks_of (RuleKind.Rate rate count) = None
stocks_of (RuleKind.Repeat repeat count) = None

-- the rule with its list of stocks changed, if it has one
abbrev pub with_stocks : (List Symbol → List Symbol) → RuleKind → RuleKind
with_stocks change (RuleKind.Listed kind stocks) = RuleKind.Listed kind (change stocks)
with_stocks change (RuleKind.Plain kind) = RuleKind.Plain kind
with_stocks change (RuleKind.Order kind limit) = RuleKind.Order kind limit
with_stocks change (RuleKind.Exposure kind limit count) = RuleKind.Exposure kind limit count
with_stocks change (RuleKind.Rate rate count) = RuleKind.Rate rate count
with_stocks change (RuleKind.Repeat repeat count) = RuleKind.Repeat repeat count

-- a limit of gross shares or of gross value
abbrev pub is_gross : RuleKind → Bool
is_gross (RuleKind.Exposure ExposureLimit.GrossShares limit count) = true
is_gross (RuleKind.Exposure ExposureLimit.GrossValue limit count) = true
is_gross (RuleKind.Exposure ExposureLimit.NetShares limit count) = false
is_gross (RuleKind.Listed kind stocks) = false
is_gross (RuleKind.Plain kind) = false
is_gross (RuleKind.Order kind limit) = false
is_gross (RuleKind.Rate rate count) = false
is_gross (RuleKind.Repeat repeat count) = false

-- a limit of net shares
abbrev pub is_net : RuleKind → Bool
is_net (RuleKind.Exposure ExposureLimit.NetShares limit count) = true
is_net (RuleKind.Exposure ExposureLimit.GrossShares limit count) = false
is_net (RuleKind.Exposure ExposureLimit.GrossValue limit count) = false
is_net (RuleKind.Listed kind stocks) = false
is_net (RuleKind.Plain kind) = false
is_net (RuleKind.Order kind limit) = false
is_net (RuleKind.Rate rate count) = false
is_net (RuleKind.Repeat repeat count) = false

-- the words of a rule's key `kind` in a policy file of version 1
abbrev pub first_kind_words : List (List ℕ × KindName)
first_kind_words =
    (codes "halt", KindName.Listed ListKind.Halt) ∷ (codes "restricted", KindName.Listed ListKind.Restricted)
    ∷ (codes "no_short", KindName.Plain PlainKind.NoShort) ∷ (codes "no_iso", KindName.Plain PlainKind.NoIso) ∷ (codes "odd_lot", KindName.Plain PlainKind.OddLot)
    ∷ (codes "order_shares", KindName.Order OrderLimit.Shares) ∷ (codes "order_value", KindName.Order OrderLimit.Value) ∷ (codes "collar", KindName.Order OrderLimit.Collar)
    ∷ (codes "gross_shares", KindName.Exposure ExposureLimit.GrossShares) ∷ (codes "gross_value", KindName.Exposure ExposureLimit.GrossValue)
    ∷ (codes "rate", KindName.Rate) ∷ (codes "repeat", KindName.Repeat) ∷ []

-- the words that came with version 2
abbrev pub later_kind_words : List (List ℕ × KindName)
later_kind_words = (codes "net_shares", KindName.Exposure ExposureLimit.NetShares) ∷ []

-- the letter that stands for it where a policy is digested
abbrev pub kind_letter : KindName → ℕ
kind_letter (KindName.Listed ListKind.Halt) = 72
kind_letter (KindName.Listed ListKind.Restricted) = 82
kind_letter (KindName.Plain PlainKind.NoShort) = 78
kind_letter (KindName.Plain PlainKind.NoIso) = 73
kind_letter (KindName.Plain PlainKind.OddLot) = 76
kind_letter (KindName.Order OrderLimit.Shares) = 83
kind_letter (KindName.Order OrderLimit.Value) = 86
kind_letter (KindName.Order OrderLimit.Collar) = 67
kind_letter (KindName.Exposure ExposureLimit.GrossShares) = 71
kind_letter (KindName.Exposure ExposureLimit.GrossValue) = 87
kind_letter (KindName.Exposure ExposureLimit.NetShares) = 84
kind_letter KindName.Rate = 81
kind_letter KindName.Repeat = 80

-- the reason in the Rejected that answers a denial by a rule of this kind
abbrev pub kind_reason : KindName → RejectReason
kind_reason (KindName.Listed ListKind.Halt) = RejectReason.Halted
kind_reason (KindName.Listed ListKind.Restricted) = RejectReason.RestrictedStock
kind_reason (KindName.Plain PlainKind.NoShort) = RejectReason.ShortSale
kind_reason (KindName.Plain PlainKind.NoIso) = RejectReason.IntermarketSweep
kind_reason (KindName.Plain PlainKind.OddLot) = RejectReason.OddLot
kind_reason (KindName.Order OrderLimit.Shares) = RejectReason.SharesExceedSafety
kind_reason (KindName.Order OrderLimit.Value) = RejectReason.DollarLimit
kind_reason (KindName.Order OrderLimit.Collar) = RejectReason.InvalidPrice
kind_reason (KindName.Exposure ExposureLimit.GrossShares) = RejectReason.SharesLimit
kind_reason (KindName.Exposure ExposureLimit.GrossValue) = RejectReason.DollarLimit
kind_reason (KindName.Exposure ExposureLimit.NetShares) = RejectReason.SharesLimit
kind_reason KindName.Rate = RejectReason.Other
kind_reason KindName.Repeat = RejectReason.Other

-- what a denial by a rule of this kind means, in words
abbrev pub kind_meaning : KindName → List ℕ
kind_meaning (KindName.Listed ListKind.Halt) = codes "stock is halted"
kind_meaning (KindName.Listed ListKind.Restricted) = codes "stock is restricted"
kind_meaning (KindName.Plain PlainKind.NoShort) = codes "short sales are not taken"
kind_meaning (KindName.Plain PlainKind.NoIso) = codes "intermarket sweeps are not taken"
kind_meaning (KindName.Plain PlainKind.OddLot) = codes "shares are no multiple of 100"
kind_meaning (KindName.Order OrderLimit.Shares) = codes "more shares than one order may have"
kind_meaning (KindName.Order OrderLimit.Value) = codes "more value than one order may have"
kind_meaning (KindName.Order OrderLimit.Collar) = codes "price is off the collar"
kind_meaning (KindName.Exposure ExposureLimit.GrossShares) = codes "more open and executed shares than the limit"
kind_meaning (KindName.Exposure ExposureLimit.GrossValue) = codes "more open and executed value than the limit"
kind_meaning (KindName.Exposure ExposureLimit.NetShares) = codes "more shares on a side than the limit"
kind_meaning KindName.Rate = codes "more orders than the limit in the window"
kind_meaning KindName.Repeat = codes "more like orders than the limit"
