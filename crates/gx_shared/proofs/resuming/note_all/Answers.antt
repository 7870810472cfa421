use Rattle.std.proofs.Common.{◌∙◌}
use Rattle.gx_shared.proofs.Lines_noted.{portion_noted}
use Rattle.gx_shared.proofs.resuming.note_all.Goals as goal

pub loop-done-preserved : goal.loop-done-preserved
loop-done-preserved g c = record {
  list =
      portion_noted (g.G.AccessGate.state c.args.gate.now).records c.loop-done.keeper.list c.as_slice.result.now c.note_portion.new.keeper.list c.loop-done.done 256
      c.loop-done.invariant.list (c.as_slice.ensures.value ∙ c.in_ok-portion.ensures) c.in_ok-note_portion.ensures.list;
  stands = c.in_ok-note_portion.ensures.stands;
}
