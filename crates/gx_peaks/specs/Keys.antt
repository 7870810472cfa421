-- Under which key the peak of a figure is kept.
use Rattle.gx_policy.specs.{declared.{policy.{Count.Count, FileRule.FileRule, PolicyData.PolicyData, RuleKind.RuleKind}}, People.rule_in}
use Rattle.std.specs.{Prelude.{ℕ, Bool, ◌&&◌, List, [], ◌∷◌, replicate, Option, Some, None, option_and_then}, Option.option_eq, Bool.beq}
use Rattle.gx_units.specs.{Names.{same_account, same_rule, same_stock}, declared.names.AccountName.AccountName}
use Rattle.gx_history.specs.declared.facts.StockSide.{StockSide}
use Rattle.gx_peaks.specs.declared.{figure.Figure.Figure, key.PeakKey.PeakKey}

-- the account, where a rule of this kind counts it by itself
abbrev pub whose : RuleKind → AccountName → Option AccountName
whose (RuleKind.Exposure kind limit Count.Each) account = Some account
whose other account = None

-- the key of the figure's peak
abbrev pub key_of : PolicyData → Figure → PeakKey
key_of policy figure = record {
  rule = figure.rule;
  whose = option_and_then (λ (rule : FileRule). whose rule.kind figure.account) (rule_in policy.rules figure.rule);
  side = figure.side;
}

-- the sides are of one stock, and both its buys or neither
abbrev pub same_side : StockSide → StockSide → Bool
same_side a b = same_stock a.stock b.stock && beq a.buys b.buys

-- the keys are the same
abbrev pub same_key : PeakKey → PeakKey → Bool
same_key a b = same_rule a.rule b.rule && (option_eq same_account a.whose b.whose && option_eq same_side a.side b.side)

-- the account's bytes; zeros where there is none
abbrev pub account_bytes : Option AccountName → List ℕ
account_bytes None = replicate 8 0
account_bytes (Some account) = account.bytes

-- the bytes of the side's stock; zeros where there is none
abbrev pub stock_bytes : Option StockSide → List ℕ
stock_bytes None = replicate 8 0
stock_bytes (Some side) = side.stock.bytes

-- the bytes that a key is hashed by
abbrev pub key_bytes : PeakKey → List (List ℕ)
key_bytes key = key.rule.bytes ∷ account_bytes key.whose ∷ stock_bytes key.side ∷ []
