-- Names without lower case are told apart by what is written in either case.
use Rattle.std.proofs.{Common.{◌≡◌, ℕ, ◌+◌, Bool, true, false, ◌&&◌, ◌||◌, cond, not, nat_lt, List, [], ◌∷◌, refl, ap, sym, ◌∙◌, arith}, lemmas.{Bool.{Decides.nat_tests, and_parts, and_from}, Slice.Eq.bytes_eq-Decides}}
use Rattle.std.specs.{Char.{to_ascii_uppercase, to_ascii_lowercase}, List.{list_all, AllByRecursion}, Str.{str_to_ascii_uppercase, str_to_ascii_lowercase}}
use Rattle.gx_units.specs.{Names.{is_lower_case, has_no_lower_case}, Spelling.{is_space, is_blank, is_visible}, declared.names.UserName.UserName}
use Rattle.gx_desk.specs.{Names.is_written, declared.WrittenName.WrittenName}
use Rattle.gx_policy.specs.{declared.policy.{PolicyData.PolicyData, User.User}, Soundness.{is_sound, is_user_sound, is_padded, is_folded}}

back_by : (low high : Bool) (c : ℕ) → nat_lt c 65 ≡ low → nat_lt c 91 ≡ high → not (is_lower_case c) ≡ true → to_ascii_uppercase (cond low c (cond high (c + 32) c)) ≡ c
back_by true high c l h upper = grind (arith, nat_tests)
back_by false true c l h upper = grind (arith, nat_tests)
back_by false false c l h upper = grind (arith, nat_tests)

back : (c : ℕ) → not (is_lower_case c) ≡ true → to_ascii_uppercase (to_ascii_lowercase c) ≡ c
back c upper = back_by (nat_lt c 65) (nat_lt c 91) c refl refl upper

all_back : (bytes : List ℕ) → has_no_lower_case bytes ≡ true → str_to_ascii_uppercase (str_to_ascii_lowercase bytes) ≡ bytes
all_back [] upper = refl
all_back (c ∷ cs) upper =
    let parts = and_parts (not (is_lower_case c)) (has_no_lower_case cs) upper in
    ap (λ x. x ∷ str_to_ascii_uppercase (str_to_ascii_lowercase cs)) (back c parts.0) ∙ ap (λ xs. c ∷ xs) (all_back cs parts.1)

-- two names that are written alike are the same
pub same_written : (written : WrittenName) (a b : UserName) → has_no_lower_case a.bytes ≡ true → has_no_lower_case b.bytes ≡ true
    → is_written written a ≡ true → is_written written b ≡ true → a ≡ b
same_written written a b upper_a upper_b is_a is_b =
    let lower : List ℕ → List ℕ = λ (bytes : List ℕ). str_to_ascii_lowercase bytes in
    let alike : lower a.bytes ≡ lower b.bytes =
    sym ((bytes_eq-Decides (lower written.bytes) (lower a.bytes)).0 is_a) ∙ (bytes_eq-Decides (lower written.bytes) (lower b.bytes)).0 is_b
    in
    let name : List ℕ → UserName = λ (bytes : List ℕ). record { bytes = bytes } in
    ap name (sym (all_back a.bytes upper_a) ∙ ap str_to_ascii_uppercase alike ∙ all_back b.bytes upper_b)

-- each name is without lower case
abbrev pub AreUpper : List User → Type 0
AreUpper users = AllByRecursion (λ (u : User). has_no_lower_case u.name.bytes ≡ true) users

space_upper : (byte : ℕ) → is_space byte ≡ true → not (is_lower_case byte) ≡ true
space_upper byte space = grind (arith, nat_tests)

blank_upper : (bytes : List ℕ) → is_blank bytes ≡ true → has_no_lower_case bytes ≡ true
blank_upper [] blank = refl
blank_upper (byte ∷ bytes) blank =
    let parts = and_parts (is_space byte) (is_blank bytes) blank in
    and_from (not (is_lower_case byte)) (has_no_lower_case bytes) (space_upper byte parts.0) (blank_upper bytes parts.1)

padded_upper : (bytes : List ℕ) → is_padded is_folded bytes ≡ true → has_no_lower_case bytes ≡ true
padded_upper [] padded = refl
padded_upper (byte ∷ bytes) padded = by (is_folded byte && is_padded is_folded bytes) refl padded (λ rest. padded_upper bytes rest)
  where
    by : (b : Bool) → (is_folded byte && is_padded is_folded bytes) ≡ b → (b || is_blank (byte ∷ bytes)) ≡ true
        → (is_padded is_folded bytes ≡ true → has_no_lower_case bytes ≡ true) → has_no_lower_case (byte ∷ bytes) ≡ true
    by true letters padded later =
        let parts = and_parts (is_folded byte) (is_padded is_folded bytes) letters in
        and_from (not (is_lower_case byte)) (has_no_lower_case bytes) (and_parts (is_visible byte) (not (is_lower_case byte)) parts.0).1 (later parts.1)
    by false letters padded later = blank_upper (byte ∷ bytes) padded

users_upper : (policy : PolicyData) (users : List User) → list_all (is_user_sound policy) users ≡ true → AreUpper users
users_upper policy [] sound = tt
users_upper policy (u ∷ users) sound =
    let parts = and_parts (is_user_sound policy u) (list_all (is_user_sound policy) users) sound in
    (padded_upper u.name.bytes (and_parts _ _ (and_parts _ _ (and_parts _ _ parts.0).0).0).1, users_upper policy users parts.1)

-- the names of a sound policy's users are without lower case
pub sound_upper : (policy : PolicyData) → is_sound policy ≡ true → AreUpper policy.users
unfolding is_sound
sound_upper policy sound = users_upper policy policy.users (and_parts _ _ (and_parts _ _ sound).0).1
