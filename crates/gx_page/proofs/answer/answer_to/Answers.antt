use Rattle.std.proofs.Common.{rules}
use Rattle.gx_page.proofs.Answer_made.{answered}
use Rattle.gx_page.proofs.answer.answer_to.Goals as goal

pub returns-in-Ok-response_if_kept-clause-answer : goal.returns-in-Ok-response_if_kept-clause-answer
returns-in-Ok-response_if_kept-clause-answer g c =
    answered g.D.Door.kept g.D.Door.policy c.args.secret.now.bytes c.args.about c.args.board c.reply_to-board.result.0 c.length-count.new.self
    c.args.request.now (record { text = c.in-Ok-response_if_kept.text; is_stranger = c.is_stranger-is_stranger.result }) c.in-Ok.reply
    c.keep-is_kept.result c.length-count.result
    (search rules) c.length-count.ensures.front c.length-count.ensures.own c.length-count.ensures.met c.keep-is_kept.ensures.kept
    (search rules) (search rules)
