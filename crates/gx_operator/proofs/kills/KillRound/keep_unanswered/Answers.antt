use Rattle.std.proofs.{Common.rules, lemmas.Fn.filter_same}
use Rattle.gx_operator.specs.{declared.kills.KillOutcome.KillOutcome, Kills.came_to}
use Rattle.gx_operator.proofs.kills.KillRound.keep_unanswered.Goals as goal

pub returns : goal.returns
returns c = filter_same _ (came_to KillOutcome.NotAnswered c.args.self.now) _ (λ x b f' k. search rules) _ _ c.retain.ensures.filtered
