use Rattle.std.proofs.{Common.{rules, not}, lemmas.Fn.filter_same}
use Rattle.gx_operator.specs.Answering.{answers_request}
use Rattle.gx_operator.proofs.operator.remove_answered.Goals as goal

pub returns : goal.returns
returns c = filter_same _ (λ asked. not (answers_request c.args.message.now asked)) _ (λ x b f' k. search rules) _ _ c.retain.ensures.filtered
