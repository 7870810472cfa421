use Rattle.std.proofs.Common.{ℕ, List, length, ◌∙◌, ap, subst}
use Rattle.gx_policy.specs.declared.policy.PolicyData.{PolicyData}
use Rattle.gx_history.specs.{declared.record.RecordData.RecordData, Verdicts.IsLegal}
use Rattle.gx_pass.specs.{Rules.IsMet, Views.line_view}
use Rattle.gx_pass.proofs.Lists_prefix.{prefix_self}
use Rattle.gx_shared.proofs.{Match_next.still_met, Pass_met.{goes_later, holds_own}, Turn_call.matches}
use Rattle.gx_shared.proofs.guarded_gate.GuardedGate.match_some.Goals as goal

pub returns-clause-later : goal.returns-clause-later
returns-clause-later g c =
    let was = (g.G.AccessGate.state c.self.inside.gate) in
    let now = (g.G.AccessGate.state c.match_some-matched.new.gate) in
    let all = c.leave.ensures.pass ∙ ap (λ (l : ℕ). line_view l now.records (length now.records)) c.enter-entered.ensures.line in
    let met : IsMet was.records c.args.pass = subst (λ (xs : List RecordData). IsMet xs c.args.pass) c.self.invariant.1 c.enter-entered.ensures.met in
    let later = still_met c.args.moment c.match_some-matched.result.made c.args.pass c.enter-entered.ensures.some met c.match_some-matched.ensures.made in
    let legal : IsLegal g.N.GateName.policy now.records = subst (λ (p : PolicyData). IsLegal p now.records) (c.match_some-matched.ensures.policy ∙ c.self.invariant.0) c.leave.ensures.legal in
    goes_later c.args.pass c.leave.result all later (prefix_self now.records) legal

pub returns-clause-made : goal.returns-clause-made
returns-clause-made g c =
    let was = (g.G.AccessGate.state c.self.inside.gate) in
    let now = (g.G.AccessGate.state c.match_some-matched.new.gate) in
    let all = c.leave.ensures.pass ∙ ap (λ (l : ℕ). line_view l now.records (length now.records)) c.enter-entered.ensures.line in
    let met : IsMet was.records c.args.pass = subst (λ (xs : List RecordData). IsMet xs c.args.pass) c.self.invariant.1 c.enter-entered.ensures.met in
    matches c.args.moment c.match_some-matched.result.made c.args.pass c.leave.result all met c.match_some-matched.ensures.made

pub returns-clause-own : goal.returns-clause-own
returns-clause-own g c =
    let was = (g.G.AccessGate.state c.self.inside.gate) in
    let now = (g.G.AccessGate.state c.match_some-matched.new.gate) in
    let all = c.leave.ensures.pass ∙ ap (λ (l : ℕ). line_view l now.records (length now.records)) c.enter-entered.ensures.line in
    let met : IsMet was.records c.args.pass = subst (λ (xs : List RecordData). IsMet xs c.args.pass) c.self.invariant.1 c.enter-entered.ensures.met in
    let later = still_met c.args.moment c.match_some-matched.result.made c.args.pass c.enter-entered.ensures.some met c.match_some-matched.ensures.made in
    holds_own c.args.pass c.leave.result all later
