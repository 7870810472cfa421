use Rattle.std.proofs.Common.{length}
use Rattle.gx_units.proofs.spelling.+without_left_spaces.Given as goal

abbrev pub decreases-without_left_spaces : goal.decreases-without_left_spaces
decreases-without_left_spaces l = length l.field.now
