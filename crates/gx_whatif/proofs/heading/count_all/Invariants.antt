use Rattle.std.proofs.Common.{◌≡◌, take}
use Rattle.gx_whatif.specs.{Counting.heading_table, Headings.all_headings}
use Rattle.gx_whatif.proofs.heading.count_all.Given as goal

abbrev pub invariant-loop-change : goal.invariant-loop-change
invariant-loop-change l = l.table.entries ≡ heading_table (all_headings l.policy (take l.change-index l.found))
