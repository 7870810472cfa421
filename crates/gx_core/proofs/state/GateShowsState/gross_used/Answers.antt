use Rattle.std.proofs.Common.{◌≡◌, ◌∙◌, List, ap, subst}
use Rattle.gx_policy.specs.declared.policy.FileRule.{FileRule}
use Rattle.gx_ledger.specs.Standing.{GivesGross}
use Rattle.gx_access_gate.specs.Gates.{GateData}
use Rattle.gx_records.specs.State.{gross_used}
use Rattle.gx_core.proofs.Figures_call.{gross_is_known, gross_is_small, place_of_rule}
use Rattle.gx_core.proofs.state.GateShowsState.gross_used.Goals as goal

pub gross_of-requires : goal.gross_of-requires
gross_of-requires c =
    gross_is_small c.self.inside.state c.rule_place-place.result c.args.account c.gross.result c.self.invariant.kept c.gross.ensures.gross

pub returns : goal.returns
returns c =
    let place : c.rule_place-place.result ≡ place_of_rule c.self.inside.policy.rules c.args.rule =
    c.rule_place-place.ensures ∙ ap (λ (rules : List FileRule). place_of_rule rules c.args.rule) c.rules.ensures.same in
    c.gross_of.ensures
    ∙ gross_is_known c.self.inside.state c.args.rule c.args.account c.gross.result c.self.invariant.kept
    (subst (λ n. GivesGross c.self.inside.state.ledger n c.args.account c.gross.result) place c.gross.ensures.gross)
    ∙ ap (λ (g : GateData). gross_used g.policy g.records c.args.rule c.args.account) c.self.view_is
