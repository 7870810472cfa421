-- A change of a kind's stocks leaves its limit.
use Rattle.std.proofs.Common.{◌≡◌, List, refl}
use Rattle.gx_units.specs.declared.names.Symbol.{Symbol}
use Rattle.gx_policy.specs.{Kinds.{limit_of, with_stocks}, declared.policy.RuleKind.RuleKind}

pub limit_stays : (change : List Symbol → List Symbol) (kind : RuleKind) → limit_of (with_stocks change kind) ≡ limit_of kind
limit_stays change (RuleKind.Order kind before) = refl
limit_stays change (RuleKind.Exposure kind before count) = refl
limit_stays change (RuleKind.Listed kind stocks) = refl
limit_stays change (RuleKind.Plain kind) = refl
limit_stays change (RuleKind.Rate rate count) = refl
limit_stays change (RuleKind.Repeat repeat count) = refl
