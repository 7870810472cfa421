-- Names: those that are the same byte for byte are equal, and a sound policy's differ.
use Rattle.std.proofs.{Common.{◌≡◌, ◌≤◌, arith, length, nat_le, true}, lemmas.Bool.and_parts}
use Rattle.gx_units.specs.Names.{same_account, same_user}
use Rattle.gx_policy.specs.{declared.policy.{Account.Account, PolicyData.PolicyData, User.User}, Lists.are_distinct, Soundness.{is_sound, is_within_limits, names_differ}}

names_are_apart : (policy : PolicyData) → is_sound policy ≡ true → names_differ policy ≡ true
unfolding is_sound
names_are_apart policy h = (and_parts _ _ (and_parts _ _ (and_parts _ _ (and_parts _ _ (and_parts _ _ (and_parts _ _ h).0).0).0).0).0).1

-- no two users of a sound policy have one name
pub users_differ : (policy : PolicyData) → is_sound policy ≡ true → are_distinct (λ (a b : User). same_user a.name b.name) policy.users ≡ true
users_differ policy h = (and_parts _ _ (and_parts _ _ (names_are_apart policy h)).0).1

-- no two accounts of a sound policy have one name
pub accounts_differ : (policy : PolicyData) → is_sound policy ≡ true → are_distinct (λ (a b : Account). same_account a.name b.name) policy.accounts ≡ true
accounts_differ policy h = (and_parts _ _ (and_parts _ _ (and_parts _ _ (names_are_apart policy h)).0).0).0

-- a sound policy has at most 64 accounts
pub accounts_few : (policy : PolicyData) → is_sound policy ≡ true → length policy.accounts ≤ 64
unfolding is_sound
accounts_few policy h =
    let within : is_within_limits policy ≡ true = (and_parts _ _ (and_parts _ _ (and_parts _ _ (and_parts _ _ (and_parts _ _ (and_parts _ _ h).0).0).0).0).0).0 in
    let few : nat_le (length policy.accounts) 64 ≡ true = (and_parts _ _ (and_parts _ _ (and_parts _ _ within).0).0).0 in
    grind (arith, few)
