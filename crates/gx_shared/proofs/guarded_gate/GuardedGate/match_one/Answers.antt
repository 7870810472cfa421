use Rattle.std.proofs.Common.{ℕ, List, length, ◌∙◌, ap, subst}
use Rattle.gx_policy.specs.declared.policy.PolicyData.{PolicyData}
use Rattle.gx_history.specs.{declared.record.RecordData.RecordData, Verdicts.IsLegal}
use Rattle.gx_pass.specs.{Rules.IsMet, Views.line_view}
use Rattle.gx_shared.proofs.Pass_met.{goes_later, match_begins, match_is_nobodys}
use Rattle.gx_shared.proofs.guarded_gate.GuardedGate.match_one.Goals as goal

pub returns-clause-later : goal.returns-clause-later
returns-clause-later g c =
    let was = (g.G.AccessGate.state c.self.inside.gate) in
    let now = (g.G.AccessGate.state c.match_and_note-result.new.gate) in
    let all = c.leave.ensures.pass ∙ ap (λ (l : ℕ). line_view l now.records (length now.records)) c.enter-entered.ensures.line in
    let met : IsMet was.records c.args.pass = subst (λ (xs : List RecordData). IsMet xs c.args.pass) c.self.invariant.1 c.enter-entered.ensures.met in
    let begins = match_begins c.args.moment c.match_and_note-result.result was now c.match_and_note-result.ensures.found c.match_and_note-result.ensures.refused in
    let legal : IsLegal g.N.GateName.policy now.records = subst (λ (p : PolicyData). IsLegal p now.records) (c.match_and_note-result.ensures.policy ∙ c.self.invariant.0) c.leave.ensures.legal in
    goes_later c.args.pass c.leave.result all met begins legal

pub returns-clause-own : goal.returns-clause-own
returns-clause-own g c =
    let was = (g.G.AccessGate.state c.self.inside.gate) in
    let now = (g.G.AccessGate.state c.match_and_note-result.new.gate) in
    let all = c.leave.ensures.pass ∙ ap (λ (l : ℕ). line_view l now.records (length now.records)) c.enter-entered.ensures.line in
    let met : IsMet was.records c.args.pass = subst (λ (xs : List RecordData). IsMet xs c.args.pass) c.self.invariant.1 c.enter-entered.ensures.met in
    match_is_nobodys c.args.moment c.match_and_note-result.result was now c.args.pass c.leave.result all met c.enter-entered.ensures.some c.match_and_note-result.ensures.found c.match_and_note-result.ensures.refused
