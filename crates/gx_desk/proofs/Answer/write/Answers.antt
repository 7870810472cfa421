use Rattle.std.proofs.Common.{refl, ◌∙◌}
use Rattle.gx_ouch.proofs.Fields_placed.{known_to_lie}
use Rattle.gx_desk.specs.{Messages.answer, Writing.{answer_contents, answer_bytes}}
use Rattle.gx_desk.proofs.Answer.write.Goals as goal

pub returns-clause-fields : goal.returns-clause-fields
unfolding answer_bytes
returns-clause-fields c =
    known_to_lie answer (answer_contents c.args.timestamp c.args.self.now) _
    (c.copy_to.ensures.bytes ∙ c.draft.ensures.bytes)
    (record { offsets = refl; size = refl })
    c.draft.ensures.sizes
