use Rattle.std.proofs.Common.{◌≡◌, ℕ, List, ◌∷◌, ◌++◌, [], length, IfOk, refl, ◌∙◌, ap, subst}
use Rattle.gx_policy.specs.declared.policy.PolicyData.{PolicyData}
use Rattle.gx_history.specs.{declared.record.{Asked.Asked, RecordData.RecordData}, Verdicts.IsLegal}
use Rattle.gx_access_gate.specs.Gates.{left_by}
use Rattle.gx_pass.specs.{Rules.IsMet, Views.line_view}
use Rattle.gx_door.specs.Acts.{asked_on}
use Rattle.gx_shared.proofs.{Pass_met.{adds_own, goes_later, step_begins}, Refused_call.stays_refused}
use Rattle.gx_shared.proofs.guarded_gate.GuardedGate.act_with_pass.Goals as goal

pub returns-clause-later : goal.returns-clause-later
returns-clause-later g c =
    let was = (g.G.AccessGate.state c.self.inside.gate) in
    let now = (g.G.AccessGate.state c.step_and_note-result.new.gate) in
    let all = c.leave.ensures.pass ∙ ap (λ (l : ℕ). line_view l now.records (length now.records)) c.enter-entered.ensures.line in
    let met : IsMet was.records c.args.pass = subst (λ (xs : List RecordData). IsMet xs c.args.pass) c.self.invariant.1 c.enter-entered.ensures.met in
    let begins = step_begins c.asked_on-asked.result c.step_and_note-result.result was now c.step_and_note-result.ensures.done c.step_and_note-result.ensures.refused in
    let legal : IsLegal g.N.GateName.policy now.records = subst (λ (p : PolicyData). IsLegal p now.records) (c.step_and_note-result.ensures.policy ∙ c.self.invariant.0) c.leave.ensures.legal in
    goes_later c.args.pass c.leave.result all met begins legal

pub returns-clause-done : goal.returns-clause-done
returns-clause-done g c =
    let was = (g.G.AccessGate.state c.self.inside.gate) in
    let now = (g.G.AccessGate.state c.step_and_note-result.new.gate) in
    let a = asked_on c.args.pass.line c.args.user c.args.request c.args.moment in
    let is : c.asked_on-asked.result ≡ a = c.asked_on-asked.ensures.asked ∙ ap (λ (l : ℕ). asked_on l c.args.user c.args.request c.args.moment) c.line-line.ensures in
    let all = c.leave.ensures.pass ∙ ap (λ (l : ℕ). line_view l now.records (length now.records)) c.enter-entered.ensures.line in
    let met : IsMet was.records c.args.pass = subst (λ (xs : List RecordData). IsMet xs c.args.pass) c.self.invariant.1 c.enter-entered.ensures.met in
    adds_own c.step_and_note-result.result now.records a c.args.pass c.leave.result all met refl
    (subst (λ (x : Asked). IfOk c.step_and_note-result.result (λ o. now.records ≡ was.records ++ left_by x o ∷ [])) is c.step_and_note-result.ensures.done)

pub returns-clause-never_refused : goal.returns-clause-never_refused
returns-clause-never_refused g c =
    let now = (g.G.AccessGate.state c.step_and_note-result.new.gate) in
    let a = asked_on c.args.pass.line c.args.user c.args.request c.args.moment in
    let is : c.asked_on-asked.result ≡ a = c.asked_on-asked.ensures.asked ∙ ap (λ (l : ℕ). asked_on l c.args.user c.args.request c.args.moment) c.line-line.ensures in
    stays_refused c.step_and_note-result.result now g.N.GateName.policy c.asked_on-asked.result a (c.step_and_note-result.ensures.policy ∙ c.self.invariant.0) is c.step_and_note-result.ensures.never_refused
