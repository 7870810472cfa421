use Rattle.std.proofs.Common.{refl, ◌∙◌}
use Rattle.gx_journal.proofs.Journal_call.{kept_begun}
use Rattle.gx_journal.proofs.journal.Journal.new.Goals as goal

pub invariant_of-result : goal.invariant_of-result
invariant_of-result g c = (
  refl,
  c.requires.none_added,
  kept_begun g.J.JournalName.begun g.J.JournalName.count g.J.JournalName.earlier g.J.JournalName.version (g.D.Door.observed c.args.pass) c.new.result c.requires.met (rw (← c.requires.count) c.requires.within)
      (c.new.ensures.contents ∙ c.requires.begun) (c.new.ensures.done ∙ c.requires.count) c.new.ensures.fault (c.new.ensures.version ∙ c.requires.version),
  c.room.invariant.0,
)
