use Rattle.std.proofs.Common.{refl, ◌∙◌}
use Rattle.gx_ouch.proofs.Fields_placed.{known_to_lie}
use Rattle.gx_desk.specs.{Messages.drop_copy, Writing.{drop_copy_contents, drop_copy_bytes}}
use Rattle.gx_desk.proofs.DropCopy.write.Goals as goal

pub returns-clause-fields : goal.returns-clause-fields
unfolding drop_copy_bytes
returns-clause-fields c =
    known_to_lie drop_copy (drop_copy_contents c.args.timestamp c.args.self.now) _
    (c.copy_to.ensures.bytes ∙ c.draft.ensures.bytes)
    (record { offsets = refl; size = refl })
    c.draft.ensures.sizes
