use Rattle.std.proofs.Common.{length}
use Rattle.gx_people.proofs.people.People.+mask_of.Given as goal

abbrev pub decreases-mask_of : goal.decreases-mask_of
decreases-mask_of l = length l.accounts.now
