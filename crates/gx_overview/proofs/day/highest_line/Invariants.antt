use Rattle.std.proofs.Common.{◌≡◌, fold, map, max, take}
use Rattle.gx_pass.specs.Views.{line_in}
use Rattle.gx_overview.proofs.day.highest_line.Given as goal

abbrev pub invariant-loop-place : goal.invariant-loop-place
invariant-loop-place l = l.highest ≡ fold max 0 (map line_in (take l.place l.records))
