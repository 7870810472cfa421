-- Accounts as the bits of a number, in the file's order, the first in the lowest bit.
use Rattle.std.specs.Prelude.{ℕ, ◌+◌, ◌*◌, ◌/◌, ◌%◌, ◌^◌, ◌==◌, ◌&&◌, nat_lt, Bool, List, [], ◌∷◌, if◌then◌else◌}
use Rattle.gx_units.specs.declared.names.AccountName.{AccountName}
use Rattle.gx_policy.specs.declared.policy.Account.{Account}

-- the accounts that pass the test
abbrev pub mask_by : (AccountName → Bool) → List Account → ℕ
mask_by test [] = 0
mask_by test (a ∷ others) = (if test a.name then 1 else 0) + 2 * mask_by test others

-- the mask has the account at this place
abbrev pub has_account : ℕ → ℕ → Bool
has_account mask place = nat_lt place 64 && (mask / 2 ^ place % 2 == 1)
