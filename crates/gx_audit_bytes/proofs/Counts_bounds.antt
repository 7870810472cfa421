-- What a policy counts has room in two bytes.
use Rattle.std.proofs.{Common.{◌≡◌, ℕ, ◌<◌, ◌^◌, true, nat_le, length, arith}, lemmas.Bool.{Decides.nat_tests, and_parts}}
use Rattle.std.specs.Prelude.{IsTrue}
use Rattle.gx_policy.specs.{declared.policy.PolicyData.PolicyData, Soundness.{is_sound, is_within_limits}}
use Rattle.gx_units.proofs.Test_known.{is_true}

limits_of : (policy : PolicyData) → IsTrue (is_sound policy) → is_within_limits policy ≡ true
unfolding is_sound
limits_of policy sound =
    (and_parts _ _ (and_parts _ _ (and_parts _ _ (and_parts _ _ (and_parts _ _ (and_parts _ _ (is_true (is_sound policy) sound)).0).0).0).0).0).0

bounded : (n most : ℕ) → most < 2 ^ 16 → nat_le n most ≡ true → n < 2 ^ 16
bounded n most small within = grind (arith, nat_tests)

pub rules_fit : (policy : PolicyData) → IsTrue (is_sound policy) → length policy.rules < 2 ^ 16
rules_fit policy sound = bounded (length policy.rules) 128 (omega arith) (and_parts _ _ (limits_of policy sound)).1

pub users_fit : (policy : PolicyData) → IsTrue (is_sound policy) → length policy.users < 2 ^ 16
users_fit policy sound = bounded (length policy.users) 256 (omega arith) (and_parts _ _ (and_parts _ _ (limits_of policy sound)).0).1

pub stocks_fit : (policy : PolicyData) → IsTrue (is_sound policy) → length policy.stocks < 2 ^ 16
stocks_fit policy sound =
    bounded (length policy.stocks) 1024 (omega arith) (and_parts _ _ (and_parts _ _ (and_parts _ _ (limits_of policy sound)).0).0).1

pub accounts_fit : (policy : PolicyData) → IsTrue (is_sound policy) → length policy.accounts < 2 ^ 16
accounts_fit policy sound =
    bounded (length policy.accounts) 64 (omega arith) (and_parts _ _ (and_parts _ _ (and_parts _ _ (limits_of policy sound)).0).0).0
