use Rattle.gx_script_text.proofs.Name_next.{not_named}
use Rattle.gx_script_text.proofs.words.name.Goals as goal

pub returns-then-end-word : goal.returns-then-end-word
returns-then-end-word g c = not_named g.row.N c.visible_front-front.result.1 c.args.word.now c.if-end-word.true c.visible_front-front.ensures.ends
