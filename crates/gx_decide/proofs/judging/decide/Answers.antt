use Rattle.std.proofs.{Common.{◌≡◌, Bool, true, false, refl, ◌∙◌, ap, sym, subst}, Math.Bool.beq}
use Rattle.gx_history.specs.declared.facts.Facts.{Facts}
use Rattle.gx_decide.specs.Deciding.{Judges}
use Rattle.gx_decide.proofs.judging.decide.Goals as goal

same : (a b : Bool) → beq a b ≡ true → a ≡ b
same true true is = refl
same false false is = refl
same true false is = cc
same false true is = cc

-- the facts say of the power what the people say
pub returns-then-has_power-given : goal.returns-then-has_power-given
returns-then-has_power-given c = record {
  decided =
      subst (λ (facts : Facts). Judges c.args.rules.now c.args.ledger.now facts c.args.a.now c.judged.result)
      (ap (λ (b : Bool). record c.args.given.now { has_power = b }) (sym (same _ _ c.if-has_power-given.true) ∙ c.has_power-has_power.ensures)) c.judged.ensures.judged;
}
