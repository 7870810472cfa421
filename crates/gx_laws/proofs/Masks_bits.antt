-- Accounts as bits: which account a bit is, and how great the number is.
use Rattle.std.proofs.{Common.{◌≡◌, ℕ, zero, suc, ◌+◌, ◌*◌, ◌/◌, ◌%◌, ◌^◌, ◌<◌, ◌≤◌, ◌==◌, nat_lt, Bool, true, false, List, [], ◌∷◌, length, refl, ◌∙◌, sym, ap, arith, if◌then◌else◌, ◌&&◌}, Math.Nat.{div-div-eq-div-mul, pow-succ'}, lemmas.Option.same_Some}
use Rattle.std.specs.{Prelude.{Option, Some, option_map}, List.slice_get}
use Rattle.gx_units.specs.declared.names.AccountName.{AccountName}
use Rattle.gx_policy.specs.declared.policy.Account.{Account}
use Rattle.gx_history.specs.Masks.{has_account, mask_by}

-- the account at this place
abbrev pub account_at : List Account → ℕ → Option AccountName
account_at accounts place = option_map (λ (a : Account). a.name) (slice_get accounts place)

bit_of : Bool → ℕ
bit_of b = if b then 1 else 0

low_bit : (b : Bool) (rest : ℕ) → ((bit_of b + 2 * rest) / 1 % 2 == 1) ≡ b
unfolding bit_of
low_bit true rest = grind arith
low_bit false rest = grind arith

next_bits : (b : Bool) (rest : ℕ) → (bit_of b + 2 * rest) / 2 ≡ rest
unfolding bit_of
next_bits true rest = omega arith
next_bits false rest = omega arith

pub bit_is : (test : AccountName → Bool) (accounts : List Account) (place : ℕ) (account : AccountName) → account_at accounts place ≡ Some account
    → (mask_by test accounts / 2 ^ place % 2 == 1) ≡ test account
unfolding bit_of
bit_is test [] place account at = cc
bit_is test (a ∷ others) zero account at = low_bit (test a.name) (mask_by test others) ∙ ap test (same_Some _ _ at)
bit_is test (a ∷ others) (suc place) account at =
    ap (λ n. ((bit_of (test a.name) + 2 * mask_by test others) / n % 2 == 1)) (pow-succ' 2 place)
    ∙ ap (λ n. (n % 2 == 1)) (sym (div-div-eq-div-mul (bit_of (test a.name) + 2 * mask_by test others) 2 (2 ^ place)))
    ∙ ap (λ n. (n / 2 ^ place % 2 == 1)) (next_bits (test a.name) (mask_by test others))
    ∙ bit_is test others place account at

place_is_there : (accounts : List Account) (place : ℕ) (account : AccountName) → account_at accounts place ≡ Some account → place < length accounts
place_is_there [] place account at = cc
place_is_there (a ∷ others) zero account at = omega arith
place_is_there (a ∷ others) (suc place) account at = let later = place_is_there others place account at in omega (arith, later)

below : (place count : ℕ) → place < count → count ≤ 64 → nat_lt place 64 ≡ true
below place count within few = grind (arith, within, few)

-- a mask of at most 64 accounts has an account exactly where it passes the test
pub has_where : (test : AccountName → Bool) (accounts : List Account) (place : ℕ) (account : AccountName) → length accounts ≤ 64 → account_at accounts place ≡ Some account
    → has_account (mask_by test accounts) place ≡ test account
has_where test accounts place account few at =
    ap (λ b. b && (mask_by test accounts / 2 ^ place % 2 == 1)) (below place (length accounts) (place_is_there accounts place account at) few)
    ∙ bit_is test accounts place account at

at_most_one : (b : Bool) → bit_of b ≤ 1
unfolding bit_of
at_most_one true = omega arith
at_most_one false = omega arith

-- it has no bit for more accounts than there are
pub mask_within : (test : AccountName → Bool) (accounts : List Account) → mask_by test accounts < 2 ^ length accounts
unfolding bit_of
mask_within test [] = omega arith
mask_within test (a ∷ others) =
    let rest = mask_within test others in
    let one = at_most_one (test a.name) in
    let twice : 2 ^ length (a ∷ others) ≡ 2 * 2 ^ length others = pow-succ' 2 (length others) in
    omega (arith, rest, one, twice)

pub same_mask : (f g : AccountName → Bool) → ((account : AccountName) → f account ≡ g account) → (accounts : List Account) → mask_by f accounts ≡ mask_by g accounts
same_mask f g same [] = refl
same_mask f g same (a ∷ others) =
    ap (λ b. (if b then 1 else 0) + 2 * mask_by f others) (same a.name) ∙ ap (λ n. (if g a.name then 1 else 0) + 2 * n) (same_mask f g same others)
