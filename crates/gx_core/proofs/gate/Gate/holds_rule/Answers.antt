use Rattle.std.proofs.Common.{◌∙◌, ap}
use Rattle.std.specs.List.{list_all}
use Rattle.gx_policy.specs.People.{role_in}
use Rattle.gx_access_gate.specs.Gates.{GateData}
use Rattle.gx_core.specs.Known.{is_his_or_not_its}
use Rattle.gx_core.proofs.Command_call.{its_accounts_are_his, its_accounts_are_known}
use Rattle.gx_core.proofs.gate.Gate.holds_rule.Goals as goal

pub returns : goal.returns
returns c =
    c.are_its_accounts_his.ensures
    ∙ ap (its_accounts_are_his c.self.inside.state c.args.officer c.args.rule) c.accounts.ensures
    ∙ its_accounts_are_known c.self.inside.state c.args.officer c.args.rule c.self.invariant.kept
    ∙ ap (λ (g : GateData). list_all (is_his_or_not_its g (role_in g.policy.users c.args.officer) c.args.rule) g.policy.accounts) c.self.view_is
