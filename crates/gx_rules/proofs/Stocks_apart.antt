-- Stocks that are kept apart from their kind.
use Rattle.gx_policy.specs.{Kinds.with_stocks, declared.policy.RuleKind.RuleKind}
use Rattle.std.proofs.Common.{◌≡◌, List, refl}
use Rattle.gx_units.specs.declared.names.Symbol.{Symbol}

-- a change of the stocks is a change of the kind's list
pub changed_stocks : (change : List Symbol → List Symbol) (stocks : List Symbol) (kind : RuleKind)
    → with_stocks (λ listed. change stocks) kind ≡ with_stocks change (with_stocks (λ listed. stocks) kind)
changed_stocks change stocks (RuleKind.Listed kind listed) = refl
changed_stocks change stocks (RuleKind.Plain kind) = refl
changed_stocks change stocks (RuleKind.Order kind limit) = refl
changed_stocks change stocks (RuleKind.Exposure kind limit count) = refl
changed_stocks change stocks (RuleKind.Rate rate count) = refl
changed_stocks change stocks (RuleKind.Repeat repeat count) = refl
