use Rattle.std.proofs.Common.{◌≡◌, ◌∙◌, ap, sym}
use Rattle.gx_history.specs.{Showing.answers, Verdicts.{facts_now, verdict}}
use Rattle.gx_laws.proofs.Records_showable.{verdict_is_shown}
use Rattle.gx_decide.proofs.Verdict_decided.{decided_is_the_verdict}
use Rattle.gx_access_gate.specs.Gates.{GateData}
use Rattle.gx_core.proofs.gate.Gate.verdict.Goals as goal

pub returns-clause-verdict : goal.returns-clause-verdict
returns-clause-verdict c =
    let policy = c.self.inside.policy in
    let records = c.self.inside.history.records in
    let state = c.self.inside.state in
    let in_force = c.self.invariant.kept.in_force in
    let known : c.args.known.now ≡ facts_now policy records c.args.a.now =
    c.requires.known ∙ ap (λ (g : GateData). facts_now g.policy g.records c.args.a.now) (sym c.self.view_is) in
    decided_is_the_verdict policy records state.people state.rules state.ledger c.args.known.now c.args.a.now c.decide.result
    c.rules.ensures.sound c.self.invariant.kept.legal in_force.people in_force.rules known in_force.ledger c.decide.ensures.decided
    ∙ ap (λ (g : GateData). verdict g.policy g.records c.args.a.now) c.self.view_is

pub returns-clause-shown : goal.returns-clause-shown
returns-clause-shown c =
    ap (answers c.args.a.now.request)
    (returns-clause-verdict c ∙ ap (λ (g : GateData). verdict g.policy g.records c.args.a.now) (sym c.self.view_is))
    ∙ verdict_is_shown c.self.inside.policy c.self.inside.history.records c.args.a.now c.rules.ensures.sound
