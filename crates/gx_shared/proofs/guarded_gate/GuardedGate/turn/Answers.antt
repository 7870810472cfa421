use Rattle.std.proofs.Common.{◌≡◌, ℕ, List, ◌∷◌, ◌++◌, [], length, IfOk, refl, ◌∙◌, ap, subst}
use Rattle.gx_policy.specs.declared.policy.PolicyData.{PolicyData}
use Rattle.gx_history.specs.{declared.record.{Asked.Asked, RecordData.RecordData}, Verdicts.IsLegal}
use Rattle.gx_access_gate.specs.Gates.{left_by}
use Rattle.gx_pass.specs.{Rules.IsMet, Views.line_view}
use Rattle.gx_door.specs.{Acts.asked_on, Endings.{ended_by, sums_of}, Matching.AddsMatchingSteps}
use Rattle.gx_shared.proofs.{Pass_met.goes_later, Refused_call.stays_refused, Turn_call.{turn_begins, turns}}
use Rattle.gx_shared.proofs.guarded_gate.GuardedGate.turn.Goals as goal

pub returns-clause-later : goal.returns-clause-later
returns-clause-later g c =
    let was = (g.G.AccessGate.state c.self.inside.gate) in
    let now = (g.G.AccessGate.state c.turn-result.new.gate) in
    let all = c.leave.ensures.pass ∙ ap (λ (l : ℕ). line_view l now.records (length now.records)) c.enter-entered.ensures.line in
    let met : IsMet was.records c.args.pass = subst (λ (xs : List RecordData). IsMet xs c.args.pass) c.self.invariant.1 c.enter-entered.ensures.met in
    let begins = turn_begins c.asked_on-asked.result c.turn-result.result was now c.turn-result.ensures.done c.turn-result.ensures.refused in
    let legal : IsLegal g.N.GateName.policy now.records = subst (λ (p : PolicyData). IsLegal p now.records) (c.turn-result.ensures.policy ∙ c.self.invariant.0) c.leave.ensures.legal in
    goes_later c.args.pass c.leave.result all met begins legal

pub returns-clause-done : goal.returns-clause-done
returns-clause-done g c =
    let was = (g.G.AccessGate.state c.self.inside.gate) in
    let now = (g.G.AccessGate.state c.turn-result.new.gate) in
    let a = asked_on c.args.pass.line c.args.user c.args.request c.args.moment in
    let is : c.asked_on-asked.result ≡ a = c.asked_on-asked.ensures.asked ∙ ap (λ (l : ℕ). asked_on l c.args.user c.args.request c.args.moment) c.line-line.ensures in
    let all = c.leave.ensures.pass ∙ ap (λ (l : ℕ). line_view l now.records (length now.records)) c.enter-entered.ensures.line in
    let met : IsMet was.records c.args.pass = subst (λ (xs : List RecordData). IsMet xs c.args.pass) c.self.invariant.1 c.enter-entered.ensures.met in
    turns g.N.GateName.policy c.turn-result.result now.records a c.args.pass c.leave.result all met refl c.enter-entered.ensures.some
    (subst (λ (x : Asked). IfOk c.turn-result.result (λ t. AddsMatchingSteps x.handed t.matched.made (was.records ++ left_by x t.outcome ∷ []) now.records)) is c.turn-result.ensures.done)
    (subst (λ (p : PolicyData). IfOk c.turn-result.result (λ t. t.ended ≡ sums_of (ended_by p was.records (left_by a t.outcome)))) c.self.invariant.0
    (subst (λ (x : Asked). IfOk c.turn-result.result (λ t. t.ended ≡ sums_of (ended_by was.policy was.records (left_by x t.outcome)))) is c.turn-result.ensures.ends))

pub returns-clause-never_refused : goal.returns-clause-never_refused
returns-clause-never_refused g c =
    let now = (g.G.AccessGate.state c.turn-result.new.gate) in
    let a = asked_on c.args.pass.line c.args.user c.args.request c.args.moment in
    let is : c.asked_on-asked.result ≡ a = c.asked_on-asked.ensures.asked ∙ ap (λ (l : ℕ). asked_on l c.args.user c.args.request c.args.moment) c.line-line.ensures in
    stays_refused c.turn-result.result now g.N.GateName.policy c.asked_on-asked.result a (c.turn-result.ensures.policy ∙ c.self.invariant.0) is c.turn-result.ensures.never_refused
