use Rattle.std.proofs.Common.{ℕ, ◌+◌, ◌∙◌, ap, length, sym}
use Rattle.std.specs.Prelude.{Some, max}
use Rattle.gx_history.specs.Verdicts.{last_moment}
use Rattle.gx_matching.specs.Meeting.{outcome_against}
use Rattle.gx_access_gate.specs.{Gates.GateData, Matches.{matching_of, next_match}}
use Rattle.gx_core.specs.Known.{first_of}
use Rattle.gx_core.proofs.Match_call.{first_is_known, first_is_met, match_in_parts}
use Rattle.gx_core.proofs.gate.Gate.match_outcome.Goals as goal

pub returns-clause-verdict : goal.returns-clause-verdict
returns-clause-verdict c =
    ap matching_of (sym c.self.view_is)
    ∙ first_is_met c.self.inside.state c.args.first.now c.self.invariant.kept
    (first_is_known c.self.inside.policy c.self.inside.history.records c.self.inside.state c.self.invariant.kept ∙ ap first_of c.self.view_is ∙ c.requires.waits)
    ∙ ap Some (sym (c.outcome_against.ensures ∙ ap (outcome_against c.args.first.now) c.best_against.ensures))

pub returns-clause-next : goal.returns-clause-next
returns-clause-next c =
    ap (λ (g : GateData). next_match g c.args.handed) (sym c.self.view_is)
    ∙ match_in_parts c.self.inside.policy c.self.inside.history.records c.args.handed _ _ c.outcome_against.result
    (ap (λ (n : ℕ). n + 1) (c.length.ensures.count ∙ ap (λ (g : GateData). length g.records) (sym c.self.view_is)))
    (c.max.ensures ∙ ap (max c.args.handed) (c.last_moment.ensures ∙ ap (λ (g : GateData). last_moment g.records) (sym c.self.view_is)))
    (ap matching_of c.self.view_is ∙ returns-clause-verdict c)
