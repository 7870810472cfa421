-- To tell the tallies that count an account's orders is to tell all.
use Rattle.std.proofs.{Common.{◌≡◌, ℕ, zero, suc, ◌+◌, ◌<◌, Bool, true, false, cond, ◌&&◌, List, [], ◌∷◌, ◌++◌, map, length, get_or, take, slice_get, refl, sym, ap, ◌∙◌, arith}, lemmas.{List.take_more, Option.same_Some}}
use Rattle.std.specs.Prelude.{Option, Some, None, option_map, is_some, unwrap_or, fold}
use Rattle.gx_units.specs.{Names.same_account, declared.names.AccountName.AccountName}
use Rattle.gx_units.proofs.Names_equal.{account_is}
use Rattle.gx_policy.specs.{declared.policy.{Account.Account, Count.Count}, People.covers}
use Rattle.gx_ledger.specs.{Changes.Change, declared.{tally.Tally.Tally, tally_places.CountedAt.CountedAt}, Counts.{AreCounted, places_counting, counting_from, counts, group_place, noted_in, tally_with}, Accounts.{account_names, account_place}, Keeping.{LedgerData, data_after, tallies_after}, Running.changed_group, Tallies.{changed_at, changed_in, place_in, tally_after}}
use Rattle.gx_ledger.proofs.Tallies_changed.{place-cons}

-- where the tally counts orders
abbrev counted : Option ℕ → ℕ → Tally → CountedAt
counted own place t = record { tally = place; group = group_place t own }

-- the place of one more tally
pub counting-more : (account : AccountName) (own : Option ℕ) (place : ℕ) (tallies : List Tally) (i : ℕ) (d : Tally) → i < length tallies
    → counting_from account own place (take (i + 1) tallies)
    ≡ cond (counts (get_or tallies i d) account) (counting_from account own place (take i tallies) ++ counted own (place + i) (get_or tallies i d) ∷ []) (counting_from account own place (take i tallies))
counting-more account own place [] i d within = absurd (omega (arith, within))
counting-more account own place (t ∷ tallies) zero d within = here (counts t account)
  where
    at : place ≡ place + 0
    at = omega arith

    here : (b : Bool) → cond b (counted own place t ∷ []) [] ≡ cond b ([] ++ counted own (place + 0) t ∷ []) []
    here true = ap (λ n. counted own n t ∷ []) at
    here false = refl
counting-more account own place (t ∷ tallies) (suc i) d within =
    (λ j. counting_from account own place (take (next j) (t ∷ tallies)))
    ∙ by (counts t account) (counting-more account own (suc place) tallies i d (omega (arith, within)))
    ∙ (λ j. cond (counts (get_or tallies i d) account) (counting_from account own place (t ∷ take i tallies) ++ counted own (later j) (get_or tallies i d) ∷ []) (counting_from account own place (t ∷ take i tallies)))
  where
    next : suc i + 1 ≡ suc (i + 1)
    next = omega arith

    later : suc place + i ≡ place + suc i
    later = omega arith

    inner : (b : Bool) (xs : List CountedAt) (n : CountedAt) → counted own place t ∷ cond b (xs ++ n ∷ []) xs ≡ cond b (counted own place t ∷ (xs ++ n ∷ [])) (counted own place t ∷ xs)
    inner true xs n = refl
    inner false xs n = refl

    by : (b : Bool) → counting_from account own (suc place) (take (i + 1) tallies)
        ≡ cond (counts (get_or tallies i d) account) (counting_from account own (suc place) (take i tallies) ++ counted own (suc place + i) (get_or tallies i d) ∷ []) (counting_from account own (suc place) (take i tallies))
        → cond b (counted own place t ∷ counting_from account own (suc place) (take (i + 1) tallies)) (counting_from account own (suc place) (take (i + 1) tallies))
        ≡ cond (counts (get_or tallies i d) account)
        (cond b (counted own place t ∷ counting_from account own (suc place) (take i tallies)) (counting_from account own (suc place) (take i tallies)) ++ counted own (suc place + i) (get_or tallies i d) ∷ [])
        (cond b (counted own place t ∷ counting_from account own (suc place) (take i tallies)) (counting_from account own (suc place) (take i tallies)))
    by true deeper = ap (λ l. counted own place t ∷ l) deeper ∙ inner (counts (get_or tallies i d) account) (counting_from account own (suc place) (take i tallies)) (counted own (suc place + i) (get_or tallies i d))
    by false deeper = deeper

-- the next of the tallies
pub next_place : (account : AccountName) (own : Option ℕ) (tallies : List Tally) (places : List CountedAt) (i group : ℕ) (t d : Tally) (inside : Bool) → i < length tallies
    → places ≡ counting_from account own 0 (take i tallies) → group ≡ group_place t own → inside ≡ counts t account → t ≡ get_or tallies i d
    → cond inside (places ++ (record { tally = i; group = group }) ∷ []) places ≡ counting_from account own 0 (take (i + 1) tallies)
next_place account own tallies places i group t d inside within so_far placed asked is =
    (λ j. cond ((asked ∙ ap (λ (x : Tally). counts x account) is) j) (so_far j ++ (record { tally = zero_more j; group = (placed ∙ ap (λ (x : Tally). group_place x own) is) j }) ∷ []) (so_far j))
    ∙ sym (counting-more account own 0 tallies i d within)
  where
    zero_more : i ≡ 0 + i
    zero_more = omega arith

map_names : (f : AccountName → List CountedAt) (before : List Account) (a : Account) → map f (account_names before) ++ f a.name ∷ [] ≡ map f (account_names (before ++ a ∷ []))
map_names f [] a = refl
map_names f (b ∷ before) a = ap (λ l. f b.name ∷ l) (map_names f before a)

-- the next of the accounts
pub next_account : (f : AccountName → List CountedAt) (accounts : List Account) (all : List (List CountedAt)) (i : ℕ) (a d : Account) (places : List CountedAt) → i < length accounts
    → all ≡ map f (account_names (take i accounts)) → places ≡ f a.name → a ≡ get_or accounts i d
    → all ++ places ∷ [] ≡ map f (account_names (take (i + 1) accounts))
next_account f accounts all i a d places within so_far are is =
    (λ j. so_far j ++ are j ∷ [])
    ∙ map_names f (take i accounts) a
    ∙ ap (λ (l : List Account). map f (account_names l)) (ap (λ x. take i accounts ++ x ∷ []) is ∙ sym (take_more accounts i d within))

-- where the account's orders are counted, by its place among the names
pub his_places : (names keys : List AccountName) (tallies : List Tally) (account : AccountName) (own : Option ℕ) (places : List CountedAt) → places ≡ counting_from account own 0 tallies
    → own ≡ account_place keys account → keys ≡ names → places ≡ places_counting names tallies account
his_places names keys tallies account own places are at same =
    are ∙ ap (λ (o : Option ℕ). counting_from account o 0 tallies) (at ∙ ap (λ (ns : List AccountName). account_place ns account) same)

-- what stands at the place of an account
pub at_place : {X : Type 0} (f : AccountName → X) (account : AccountName) (names : List AccountName) (place : ℕ) → account_place names account ≡ Some place
    → slice_get (map f names) place ≡ Some (f account)
at_place f account [] place is = cc
at_place {X} f account (n ∷ names) place is =
    by (same_account account n) refl (account_place names account) (λ p found. at_place f account names p found) (sym (place-cons account n names) ∙ is)
  where
    by : (b : Bool) → same_account account n ≡ b → (o : Option ℕ) → ((p : ℕ) → o ≡ Some p → slice_get (map f names) p ≡ Some (f account))
        → cond b (Some 0) (option_map suc o) ≡ Some place → slice_get (f n ∷ map f names) place ≡ Some (f account)
    by true same o deeper is =
        ap (slice_get (f n ∷ map f names)) (sym (same_Some _ _ is)) ∙ ap (λ (name : AccountName). Some (f name)) (sym (account_is account n same))
    by false same None deeper is = cc
    by false same (Some p) deeper is = ap (slice_get (f n ∷ map f names)) (sym (same_Some _ _ is)) ∙ deeper p refl

-- the list of the account at the place
pub his_list : (names : List AccountName) (tallies : List Tally) (all : List (List CountedAt)) (account : AccountName) (place : ℕ) → AreCounted names tallies all → account_place names account ≡ Some place
    → slice_get all place ≡ Some (places_counting names tallies account)
his_list names tallies all account place are is = ap (λ (l : List (List CountedAt)). slice_get l place) are ∙ at_place (places_counting names tallies) account names place is

-- what a change leaves of the lists
counting-noted : (change : Change) (of : Option ℕ) (account : AccountName) (own : Option ℕ) (place : ℕ) (tallies : List Tally)
    → counting_from account own place (tallies_after change of tallies) ≡ counting_from account own place tallies
counting-noted change of account own place [] = refl
counting-noted change of account own place (t ∷ tallies) =
    ap (λ (l : List CountedAt). cond (counts t account) (counted own place t ∷ l) l) (counting-noted change of account own (suc place) tallies)

pub still_counted : (names : List AccountName) (tallies after : List Tally) (all : List (List CountedAt)) (change : Change) (of : Option ℕ) → AreCounted names tallies all → after ≡ tallies_after change of tallies
    → AreCounted names after all
still_counted names tallies after all change of are is =
    are ∙ (λ i. map (λ (account : AccountName). sym (ap (λ (ts : List Tally). places_counting names ts account) is ∙ counting-noted change of account (account_place names account) 0 tallies) i) names)

module _ (change : Change) (place : ℕ) where
  abbrev told : List Tally → CountedAt → List Tally
  told ts at = changed_at at.tally (tally_with change at.group) ts

  abbrev next : CountedAt → CountedAt
  next at = record { tally = suc at.tally; group = at.group }

  abbrev his : ℕ → List Tally → List CountedAt
  his first ts = counting_from change.order.account (Some place) first ts

  later : (first : ℕ) (ts : List Tally) → his (suc first) ts ≡ map next (his first ts)
  later first [] = refl
  later first (t ∷ ts) = by (counts t change.order.account) (later (suc first) ts)
    where
      by : (b : Bool) → his (suc (suc first)) ts ≡ map next (his (suc first) ts)
          → cond b (counted (Some place) (suc first) t ∷ his (suc (suc first)) ts) (his (suc (suc first)) ts)
          ≡ map next (cond b (counted (Some place) first t ∷ his (suc first) ts) (his (suc first) ts))
      by true deeper = ap (λ l. counted (Some place) (suc first) t ∷ l) deeper
      by false deeper = deeper

  behind : (t : Tally) (ns : List CountedAt) (ts : List Tally) → fold told (t ∷ ts) (map next ns) ≡ t ∷ fold told ts ns
  behind t [] ts = refl
  behind t (n ∷ ns) ts = behind t ns (told ts n)

  inside_is : (t : Tally) → counts t change.order.account ≡ true → tally_with change (group_place t (Some place)) t ≡ tally_after change (Some place) t
  inside_is t counted = λ i. record t { groups = by t.count (covers t.scope change.order.account) counted i }
    where
      by : (count : Option Count) (b : Bool) → (is_some count && b) ≡ true
          → changed_at (unwrap_or (place_in count (Some place)) 0) (changed_group change) t.groups ≡ cond b (changed_in (place_in count (Some place)) (changed_group change) t.groups) t.groups
      by None true h = cc
      by None false h = cc
      by (Some Count.Each) true h = refl
      by (Some Count.Together) true h = refl
      by (Some count) false h = cc

  outside_is : (t : Tally) → counts t change.order.account ≡ false → t ≡ tally_after change (Some place) t
  outside_is t others = λ i. record t { groups = by t.count (covers t.scope change.order.account) others i }
    where
      by : (count : Option Count) (b : Bool) → (is_some count && b) ≡ false → t.groups ≡ cond b (changed_in (place_in count (Some place)) (changed_group change) t.groups) t.groups
      by None true h = refl
      by None false h = refl
      by (Some count) true h = cc
      by (Some count) false h = refl

  -- to tell those that count is to tell all
  pub told_all : (ts : List Tally) → noted_in change ts (his 0 ts) ≡ tallies_after change (Some place) ts
  told_all [] = refl
  told_all (t ∷ ts) = by (counts t change.order.account) refl (told_all ts)
    where
      by : (b : Bool) → counts t change.order.account ≡ b → fold told ts (his 0 ts) ≡ tallies_after change (Some place) ts
          → fold told (t ∷ ts) (cond b (counted (Some place) 0 t ∷ his 1 ts) (his 1 ts)) ≡ tally_after change (Some place) t ∷ tallies_after change (Some place) ts
      by true his_own deeper =
          ap (fold told (tally_with change (group_place t (Some place)) t ∷ ts)) (later 0 ts)
          ∙ behind (tally_with change (group_place t (Some place)) t) (his 0 ts) ts
          ∙ (λ i. inside_is t his_own i ∷ deeper i)
      by false others deeper =
          ap (fold told (t ∷ ts)) (later 0 ts)
          ∙ behind t (his 0 ts) ts
          ∙ (λ i. outside_is t others i ∷ deeper i)

-- the tallies, once those on the account's list were told
pub told_his : (change : Change) (place : ℕ) (names : List AccountName) (tallies : List Tally) (places : List CountedAt) (before after : List Tally) → after ≡ noted_in change before places → before ≡ tallies
    → account_place names change.order.account ≡ Some place → places ≡ places_counting names tallies change.order.account → after ≡ tallies_after change (Some place) tallies
told_his change place names tallies places before after is same at are =
    is
    ∙ (λ i. noted_in change (same i) ((are ∙ ap (λ (own : Option ℕ). counting_from change.order.account own 0 tallies) at) i))
    ∙ told_all change place tallies

-- what is kept then
pub kept_told : (change : Change) (k : LedgerData) (of : Option ℕ) (after : List Tally) → account_place k.accounts change.order.account ≡ of → after ≡ tallies_after change of k.tallies
    → record { accounts = k.accounts; prices = k.prices; tallies = after } ≡ data_after change k
kept_told change k of after at is = λ i. record {
  accounts = k.accounts;
  prices = k.prices;
  tallies = (is ∙ ap (λ (p : Option ℕ). tallies_after change p k.tallies) (sym at)) i;
}
