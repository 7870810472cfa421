use Rattle.std.proofs.Common.{rules, ◌≡◌, IsTrue, sym, ap, ◌∙◌, subst, Bool}
use Rattle.gx_history.specs.Showing.{is_rule_shown}
use Rattle.gx_units.specs.declared.names.RuleId.{RuleId}
use Rattle.gx_audit_bytes.proofs.Verdict_read.{one_rule}
use Rattle.gx_audit_bytes.proofs.reading.shows_rule.Goals as goal

pub returns-then-eq-clause-same : goal.returns-then-eq-clause-same
returns-then-eq-clause-same c so =
    let is_made : IsTrue (is_rule_shown c.args.made.now) = subst (λ (b : Bool). IsTrue b) c.is_rule_shown.ensures so in
    let named : c.id.result.bytes ≡ c.id-2.result.bytes = search rules in
    one_rule c.args.shown.now c.args.made.now c.id.ensures.fits c.id-2.ensures.fits c.requires is_made
    (ap (λ (name : RuleId). name.bytes) (sym c.id.ensures.is) ∙ named ∙ ap (λ (name : RuleId). name.bytes) c.id-2.ensures.is)
