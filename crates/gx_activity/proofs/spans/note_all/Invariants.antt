use Rattle.std.proofs.Common.{◌≡◌, ℕ, ◌<◌, length, slice_get, take}
use Rattle.std.specs.Prelude.{Some}
use Rattle.gx_activity.specs.Spanning.{span_so_far}
use Rattle.gx_activity.proofs.spans.note_all.Given as goal

abbrev pub invariant-loop-place : goal.invariant-loop-place
invariant-loop-place l = (k : ℕ) → k < length l.initial.rows → slice_get l.rows k ≡ Some (span_so_far (take l.place l.records) l.from l.width k)
