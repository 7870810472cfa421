use Rattle.std.specs.Prelude.{Some}
use Rattle.gx_whatif.proofs.comparing.compare.Given as goal

-- the policy that is meant is the other one
abbrev pub ghosts-compare_under : goal.ghosts-compare_under
ghosts-compare_under g a = record { meant = Some a.other.now }
