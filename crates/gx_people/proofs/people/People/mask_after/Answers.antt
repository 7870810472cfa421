use Rattle.std.proofs.Common.{◌≤◌, List, length, subst, sym}
use Rattle.gx_policy.specs.declared.policy.Account.{Account}
use Rattle.gx_laws.proofs.Names_differ.{accounts_few}
use Rattle.gx_people.proofs.people.People.mask_after.Goals as goal

pub mask_of-requires : goal.mask_of-requires
mask_of-requires c = record { few = subst (λ (accounts : List Account). length accounts ≤ 64) (sym c.accounts.ensures) (accounts_few c.args.policy.now c.rules.ensures.sound) }
