-- A warning in words.
use Rattle.std.specs.{Prelude.{ℕ, Bool, false, if◌then◌else◌, List, [], ◌++◌, codes, decimal, Option, Some, None}, Option.option_map_or}
use Rattle.gx_units.specs.declared.names.{AccountName.AccountName, RuleId.RuleId}
use Rattle.gx_policy.specs.{Kinds.kind_name, People.rule_in, declared.policy.{FileRule.FileRule, PolicyData.PolicyData}}
use Rattle.gx_history.specs.declared.facts.StockSide.{StockSide}
use Rattle.gx_text.specs.Shown.{shown_name}
use Rattle.gx_money.specs.Amounts.{dollars_text}
use Rattle.gx_events.specs.{Known.counts_money, Words.of_name}
use Rattle.gx_peaks.specs.{declared.figure.Figure.Figure, Keys.key_of}
use Rattle.gx_warnings.specs.declared.warning.Warning.{Warning}

-- an account, or all of the rule's scope where it counts them together
abbrev pub whose_text : Option AccountName → List ℕ
whose_text None = codes "all its accounts"
whose_text (Some account) = shown_name account.bytes

-- whose figure it is
unfoldable pub whose_of : PolicyData → Figure → List ℕ
whose_of policy figure = whose_text (key_of policy figure).whose

-- the side of a stock that a net rule counts
abbrev pub side_text : Option StockSide → List ℕ
side_text None = []
side_text (Some on) = if on.buys then of_name (codes " for buys of ") on.stock.bytes else of_name (codes " for sells of ") on.stock.bytes

-- the rule of this name counts a value; one that is not there does not
abbrev pub is_in_dollars : PolicyData → RuleId → Bool
is_in_dollars policy name = option_map_or (λ (rule : FileRule). counts_money (kind_name rule.kind)) (rule_in policy.rules name) false

-- an amount of what a rule counts: money in dollars, anything else as a number
abbrev pub amount_text : Bool → ℕ → List ℕ
amount_text is_money amount = if is_money then dollars_text amount else decimal amount

abbrev pub of_limit : Bool → Option ℕ → List ℕ
of_limit is_money None = []
of_limit is_money (Some limit) = codes " of " ++ amount_text is_money limit

-- what is used, and the limit
abbrev pub used_of_limit : Bool → ℕ → Option ℕ → List ℕ
used_of_limit is_money used limit = codes ": " ++ amount_text is_money used ++ of_limit is_money limit

-- the share, the rule, and whose figure it is
unfoldable pub share_text : PolicyData → Warning → List ℕ
share_text policy w =
    decimal w.share ++ of_name (codes " % of the limit of ") w.figure.rule.bytes ++ codes " are used by " ++ whose_of policy w.figure

unfoldable pub warning_text : PolicyData → Warning → List ℕ
warning_text policy w =
    share_text policy w ++ side_text w.figure.side ++ used_of_limit (is_in_dollars policy w.figure.rule) w.reading.used w.reading.limit
