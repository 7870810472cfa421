-- Among accounts of different names, one that has the name is the only one.
use Rattle.std.proofs.{Common.{◌≡◌, ◌∙◌, ◌+◌, ℕ, zero, suc, Bool, true, false, cond, not, ◌||◌, nat_lt, List, [], ◌∷◌, length, Some, None, is_some, unwrap_or, slice_get, position, refl, sym, ap, true≢false, arith, lt-ltb}, lemmas.{Option.slice_get_within, Bool.and_parts}}
use Rattle.std.specs.List.{find, list_any, position_or_len}
use Rattle.gx_units.specs.{Names.same_account, declared.names.AccountName.AccountName}
use Rattle.gx_units.proofs.Names_equal.{account_is}
use Rattle.gx_policy.specs.{declared.policy.Account.Account, Soundness.accounts_differ}

abbrev has : AccountName → Account → Bool
has name a = same_account a.name name

-- none of them has the name of one that is apart from all
apart_at : (x : Account) (accounts : List Account) (i : ℕ) (a : Account) → not (list_any (λ (b : Account). same_account x.name b.name) accounts) ≡ true → slice_get accounts i ≡ Some a → same_account x.name a.name ≡ false
apart_at x [] i a apart at = absurd (true≢false (sym (ap is_some at)))
apart_at x (b ∷ accounts) i a apart at = by (same_account x.name b.name) refl i at apart (λ j later rest. apart_at x accounts j a rest later)
  where
    by : (c : Bool) → same_account x.name b.name ≡ c → (i : ℕ) → slice_get (b ∷ accounts) i ≡ Some a → not (same_account x.name b.name || list_any (λ (d : Account). same_account x.name d.name) accounts) ≡ true
        → ((j : ℕ) → slice_get accounts j ≡ Some a → not (list_any (λ (d : Account). same_account x.name d.name) accounts) ≡ true → same_account x.name a.name ≡ false)
        → same_account x.name a.name ≡ false
    by true is i at apart later = absurd (true≢false (sym apart ∙ ap (λ c. not (c || list_any (λ (d : Account). same_account x.name d.name) accounts)) is))
    by false is zero at apart later = ap (λ (d : Account). same_account x.name d.name) (sym (ap (λ o. unwrap_or o b) at)) ∙ is
    by false is (suc i) at apart later = later i at (sym (ap (λ c. not (c || list_any (λ (d : Account). same_account x.name d.name) accounts)) is) ∙ apart)

-- the first of two that differ does not have the name of the other
not_first : (x : Account) (accounts : List Account) (i : ℕ) (name : AccountName) (a : Account) → accounts_differ (x ∷ accounts) ≡ true → slice_get accounts i ≡ Some a → has name a ≡ true → has name x ≡ false
not_first x accounts i name a differ at same =
    ap (same_account x.name) (sym (account_is a.name name same))
    ∙ apart_at x accounts i a (and_parts (not (list_any (λ (b : Account). same_account x.name b.name) accounts)) (accounts_differ accounts) differ).0 at

others : (x : Account) (accounts : List Account) → accounts_differ (x ∷ accounts) ≡ true → accounts_differ accounts ≡ true
others x accounts differ = (and_parts (not (list_any (λ (b : Account). same_account x.name b.name) accounts)) (accounts_differ accounts) differ).1

pub found_near : (accounts : List Account) (i : ℕ) (name : AccountName) (a : Account) → accounts_differ accounts ≡ true → slice_get accounts i ≡ Some a → has name a ≡ true → Some a ≡ find (has name) accounts
found_near [] i name a differ at same = absurd (true≢false (sym (ap is_some at)))
found_near (x ∷ accounts) zero name a differ at same =
    let is : x ≡ a = ap (λ o. unwrap_or o x) at in
    sym (ap Some is) ∙ sym (ap (λ b. cond b (Some x) (find (has name) accounts)) (ap (has name) is ∙ same))
found_near (x ∷ accounts) (suc i) name a differ at same =
    found_near accounts i name a (others x accounts differ) at same
    ∙ sym (ap (λ b. cond b (Some x) (find (has name) accounts)) (not_first x accounts i name a differ at same))

steps_near : (accounts : List Account) (i : ℕ) (name : AccountName) (a : Account) → accounts_differ accounts ≡ true → slice_get accounts i ≡ Some a → has name a ≡ true → position_or_len (has name) accounts ≡ i
steps_near [] i name a differ at same = absurd (true≢false (sym (ap is_some at)))
steps_near (x ∷ accounts) zero name a differ at same =
    ap (λ b. cond (not b) (1 + position_or_len (has name) accounts) 0) (ap (has name) (ap (λ o. unwrap_or o x) at) ∙ same)
steps_near (x ∷ accounts) (suc i) name a differ at same =
    ap (λ b. cond (not b) (1 + position_or_len (has name) accounts) 0) (not_first x accounts i name a differ at same)
    ∙ ap (λ n. 1 + n) (steps_near accounts i name a (others x accounts differ) at same) ∙ omega arith

pub place_near : (accounts : List Account) (i : ℕ) (name : AccountName) (a : Account) → accounts_differ accounts ≡ true → slice_get accounts i ≡ Some a → has name a ≡ true → Some i ≡ position (has name) accounts
place_near accounts i name a differ at same =
    sym
    (ap (λ n. cond (nat_lt n (length accounts)) (Some n) None) (steps_near accounts i name a differ at same)
    ∙ ap (λ b. cond b (Some i) None) (lt-ltb i (length accounts) (slice_get_within accounts i a at)))
