use Rattle.std.proofs.Common.{◌≡◌, ◌≤◌, ◌-◌, length, take}
use Rattle.std.specs.Io.KnownBytes.{Appends}
use Rattle.gx_devices.proofs.write.write_flushing.Given as goal

abbrev pub invariant-loop-done : goal.invariant-loop-done
invariant-loop-done g l = record {
  within : l.done ≤ length l.bytes;
  text : Appends (g.W.Write.contents l.fn.writer.device) (g.W.Write.contents l.writer.device) (take l.done l.bytes);
  kept : l.writer.failed ≡ l.fn.writer.failed;
}

abbrev pub decreases-loop-done : goal.decreases-loop-done
decreases-loop-done g l = length l.initial.bytes - l.done
