use Rattle.std.proofs.Common.{◌≡◌, ◌∙◌, List, ap, subst}
use Rattle.gx_policy.specs.declared.policy.FileRule.{FileRule}
use Rattle.gx_ledger.specs.Standing.{GivesNet}
use Rattle.gx_access_gate.specs.Gates.{GateData}
use Rattle.gx_records.specs.State.{net_used}
use Rattle.gx_core.proofs.Figures_call.{net_is_known, net_is_small, place_of_rule}
use Rattle.gx_core.proofs.state.GateShowsState.net_used.Goals as goal

pub net_of-requires : goal.net_of-requires
net_of-requires c =
    net_is_small c.self.inside.state c.rule_place-place.result c.args.account c.args.side c.net.result c.self.invariant.kept c.net.ensures.net

pub returns : goal.returns
returns c =
    let place : c.rule_place-place.result ≡ place_of_rule c.self.inside.policy.rules c.args.rule =
    c.rule_place-place.ensures ∙ ap (λ (rules : List FileRule). place_of_rule rules c.args.rule) c.rules.ensures.same in
    c.net_of.ensures
    ∙ net_is_known c.self.inside.state c.args.rule c.args.account c.args.side c.net.result c.self.invariant.kept
    (subst (λ n. GivesNet c.self.inside.state.ledger n c.args.account c.args.side c.net.result) place c.net.ensures.net)
    ∙ ap (λ (g : GateData). net_used g.policy g.records c.args.rule c.args.account c.args.side) c.self.view_is
