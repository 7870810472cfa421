use Rattle.std.proofs.Common.{◌≡◌, Bool, true, false, ◌&&◌, ◌∙◌, ap, sym}
use Rattle.gx_policy.specs.People.{is_officer, role_in}
use Rattle.gx_access_gate.specs.Gates.{GateData}
use Rattle.gx_core.specs.Known.{has_concerned}
use Rattle.gx_core.proofs.{Command_call.concerned_are_his, Facts_call.officers_are_known}
use Rattle.gx_core.proofs.gate.Gate.holds_accounts.Goals as goal

pub returns-then-is_officer : goal.returns-then-is_officer
returns-then-is_officer c =
    let role = role_in c.args.self.now.policy.users c.args.officer in
    let is : is_officer role ≡ true =
    ap (λ (g : GateData). is_officer (role_in g.policy.users c.args.officer)) (sym c.self.view_is)
    ∙ sym (officers_are_known c.self.inside.policy c.self.inside.history.records c.self.inside.state c.args.officer c.self.invariant.kept)
    ∙ sym c.is_officer.ensures ∙ c.if-is_officer.true in
    c.has_concerned.ensures
    ∙ ap (λ (b : Bool). b && has_concerned c.args.self.now role c.args.action.now) (sym is)
    ∙ concerned_are_his c.args.self.now.policy c.args.self.now.records role c.args.action.now

pub returns-else-is_officer : goal.returns-else-is_officer
returns-else-is_officer c =
    let role = role_in c.args.self.now.policy.users c.args.officer in
    let is : is_officer role ≡ false =
    ap (λ (g : GateData). is_officer (role_in g.policy.users c.args.officer)) (sym c.self.view_is)
    ∙ sym (officers_are_known c.self.inside.policy c.self.inside.history.records c.self.inside.state c.args.officer c.self.invariant.kept)
    ∙ sym c.is_officer.ensures ∙ c.if-is_officer.false in
    c.if-is_officer.false
    ∙ ap (λ (b : Bool). b && has_concerned c.args.self.now role c.args.action.now) (sym is)
    ∙ concerned_are_his c.args.self.now.policy c.args.self.now.records role c.args.action.now
