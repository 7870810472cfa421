-- What stands under the rank of its price and its number is in price-time priority.
use Rattle.std.proofs.{Common.{◌≡◌, ℕ, zero, suc, ◌+◌, ◌-◌, ◌<◌, ◌≤◌, inl, inr, Bool, true, false, cond, not, ◌&&◌, List, [], ◌∷◌, refl, ◌∙◌, sym, ap, subst, arith, eq-eqb, if◌then◌else◌}, lemmas.{Bool.{and_from, and_parts, cases_eq, eqb-true, lt-ltb, le-ltb, false_from_ne_true, not-true}, Cmp.ranked, Option.same_Some}}
use Rattle.std.specs.{Prelude.{nat_lt, None, Some, option_map, slice_get}, BTreeMap.{insert_entry, is_at}, List.{AllByRecursion, find, list_all, Sorted.IsStrictlySortedBy}, Map.{keys_of, values_of, lookup, remove_entry, set_value}, Ordering.{is_eq, nat_cmp, match_ordering, ordering_then, MatchOrdering}, declared.cmp.Ordering.{Ordering, TheVariants.{Less, Equal, Greater}}}
use Rattle.gx_history.specs.declared.live_order.LiveOrder.{LiveOrder}
use Rattle.gx_book.specs.{declared.resting.KeptOrder.KeptOrder, Resting.{RestingData, resting_of}, Keys.{are_keyed, resting_of_kept, is_keyed, is_rank, order_at, orders_at, price_at}, Queue.{IsLatest, is_better, is_numbered, is_same, left_with, taken_from_first, with_order, with_open_shares, without_order}}
use Rattle.gx_book.proofs.Side_order.{ahead_of_all, all_pass, behind_first}

-- ---- keys

abbrev pub key_cmp : ℕ × ℕ → ℕ × ℕ → Ordering
key_cmp k j = ordering_then (nat_cmp k.0 j.0) (nat_cmp k.1 j.1)

abbrev IsBelow : ℕ × ℕ → ℕ × ℕ → Type 0
IsBelow k j = (k.0 ≤ j.0) × (k.0 ≡ j.0 → k.1 < j.1)

compared : (k j : ℕ × ℕ) (o : Ordering) → o ≡ key_cmp k j → MatchOrdering o (IsBelow k j) (k ≡ j) (IsBelow j k)
compared k j o e = subst (λ (p : Ordering). MatchOrdering p (IsBelow k j) (k ≡ j) (IsBelow j k)) (sym e) (by (nat_cmp k.0 j.0) (nat_cmp k.1 j.1) (ranked k.0 j.0 _ refl) (ranked k.1 j.1 _ refl))
  where
    by : (p q : Ordering) → MatchOrdering p (k.0 < j.0) (k.0 ≡ j.0) (j.0 < k.0) → MatchOrdering q (k.1 < j.1) (k.1 ≡ j.1) (j.1 < k.1)
        → MatchOrdering (ordering_then p q) (IsBelow k j) (k ≡ j) (IsBelow j k)
    by Less q h i = (omega (arith, h), λ e. absurd (omega (arith, h, e)))
    by Greater q h i = (omega (arith, h), λ e. absurd (omega (arith, h, e)))
    by Equal Less h i = (omega (arith, h), λ e. i)
    by Equal Greater h i = (omega (arith, h), λ e. i)
    by Equal Equal h i = ap (λ a. (a, k.1)) h ∙ ap (λ a. (j.0, a)) i

-- ---- ranks

-- the lower the rank the better the price, and of one rank is one price
abbrev RanksTell : Bool → ℕ → ℕ → ℕ → ℕ → Type 0
RanksTell buy p q k j = ((if buy then nat_lt q p else nat_lt p q) ≡ nat_lt k j) × (k ≡ j → p ≡ q) × (p ≡ q → k ≡ j)

ranks_tell : (buy : Bool) (p q k j : ℕ) → is_rank buy p k ≡ true → is_rank buy q j ≡ true → RanksTell buy p q k j
ranks_tell true p q k j here there =
    let a : p + k ≡ 4294967295 = eqb-true (p + k) 4294967295 here in
    let b : q + j ≡ 4294967295 = eqb-true (q + j) 4294967295 there in
    (grind arith, λ e. omega arith, λ e. omega arith)
ranks_tell false p q k j here there =
    let a : p ≡ k = eqb-true p k here in
    let b : q ≡ j = eqb-true q j there in
    (grind arith, λ e. omega arith, λ e. omega arith)

-- ---- entries

tells : (buy : Bool) (e f : (ℕ × ℕ) × RestingData) → is_keyed buy e ≡ true → is_keyed buy f ≡ true → RanksTell buy e.1.price f.1.price e.0.0 f.0.0
tells buy e f here there = ranks_tell buy e.1.price f.1.price e.0.0 f.0.0 (and_parts (is_rank buy e.1.price e.0.0) _ here).0 (and_parts (is_rank buy f.1.price f.0.0) _ there).0

number_is : (buy : Bool) (e : (ℕ × ℕ) × RestingData) → is_keyed buy e ≡ true → e.1.order ≡ e.0.1
number_is buy e here = eqb-true e.1.order e.0.1 (and_parts (is_rank buy e.1.price e.0.0) _ here).1

-- all behind a key of a higher rank are bettered
behind_all : (buy : Bool) (e : (ℕ × ℕ) × RestingData) (k : ℕ × ℕ) (fs : List ((ℕ × ℕ) × RestingData)) → is_keyed buy e ≡ true → are_keyed buy fs ≡ true → e.0.0 < k.0
    → AllByRecursion (λ (y : ℕ × ℕ). key_cmp k y ≡ Less) (keys_of fs) → list_all (is_better buy e.1) (values_of fs) ≡ true
behind_all buy e k [] here there below all = refl
behind_all buy e k (f ∷ fs) here there below all =
    let parts = and_parts (is_keyed buy f) (are_keyed buy fs) there in
    let above : k.0 ≤ f.0.0 = (compared k f.0 Less (sym all.0)).0 in
    and_from _ _ ((tells buy e f here parts.0).0 ∙ lt-ltb e.0.0 f.0.0 (omega (arith, below, above))) (behind_all buy e k fs here parts.1 below all.1)

-- the latest of its price goes to its place
put_is : (buy : Bool) (k : ℕ × ℕ) (r : RestingData) (es : List ((ℕ × ℕ) × RestingData)) → is_keyed buy (k, r) ≡ true → are_keyed buy es ≡ true
    → IsStrictlySortedBy key_cmp (keys_of es) → IsLatest r (values_of es)
    → (are_keyed buy (insert_entry key_cmp es k r) ≡ true) × (values_of (insert_entry key_cmp es k r) ≡ with_order buy r (values_of es))
unfolding IsStrictlySortedBy
put_is buy k r [] here keyed sorted latest = (and_from _ _ here refl, refl)
put_is buy k r (e ∷ es) here keyed sorted latest =
    let parts = and_parts (is_keyed buy e) (are_keyed buy es) keyed in
    by (key_cmp k e.0) refl parts sorted.0 latest.0 (put_is buy k r es here parts.1 sorted.1 latest.1)
  where
    into : Ordering → List ((ℕ × ℕ) × RestingData)
    into o = match_ordering o ((k, r) ∷ e ∷ es) ((e.0, r) ∷ es) (e ∷ insert_entry key_cmp es k r)

    by : (o : Ordering) → o ≡ key_cmp k e.0 → (is_keyed buy e ≡ true) × (are_keyed buy es ≡ true) → AllByRecursion (λ (y : ℕ × ℕ). key_cmp e.0 y ≡ Less) (keys_of es)
        → (e.1.price ≡ r.price → e.1.order < r.order)
        → (are_keyed buy (insert_entry key_cmp es k r) ≡ true) × (values_of (insert_entry key_cmp es k r) ≡ with_order buy r (values_of es))
        → (are_keyed buy (into o) ≡ true) × (values_of (into o) ≡ with_order buy r (e.1 ∷ values_of es))
    by o is parts sorted latest later = at o is
      where
        rank : RanksTell buy r.price e.1.price k.0 e.0.0
        rank = tells buy (k, r) e here parts.0

        after : k.0 ≡ e.0.0 → e.0.1 < k.1
        after same = omega (arith, latest (sym (rank.1 same)), number_is buy (k, r) here, number_is buy e parts.0)

        at : (o : Ordering) → o ≡ key_cmp k e.0 → (are_keyed buy (into o) ≡ true) × (values_of (into o) ≡ with_order buy r (e.1 ∷ values_of es))
        at Less is =
            let below = compared k e.0 Less is in
            let lower : k.0 < e.0.0 = elim (cases_eq k.0 e.0.0) [ inl same ↦ absurd (omega (arith, below.1 same, after same)) | inr differ ↦ omega (arith, below.0, differ) ] in
            let all : list_all (is_better buy r) (e.1 ∷ values_of es) ≡ true =
            and_from _ _ (rank.0 ∙ lt-ltb k.0 e.0.0 lower) (behind_all buy (k, r) e.0 es here parts.1 lower sorted)
            in
            (and_from _ _ here (and_from _ _ parts.0 parts.1), sym (ahead_of_all (is_better buy) r (e.1 ∷ values_of es) all))
        at Equal is =
            let same : k ≡ e.0 = compared k e.0 Equal is in
            absurd (omega (arith, after (ap (λ (a : ℕ × ℕ). a.0) same), ap (λ (a : ℕ × ℕ). a.1) same))
        at Greater is =
            let above : e.0.0 ≤ k.0 = (compared k e.0 Greater is).0 in
            (and_from _ _ parts.0 later.0, ap (λ rest. e.1 ∷ rest) later.1 ∙ sym (behind_first (is_better buy) r e.1 (values_of es) (rank.0 ∙ le-ltb k.0 e.0.0 above)))

-- the same order stands under the same key
same_by_key : (buy : Bool) (e f : (ℕ × ℕ) × RestingData) → is_keyed buy e ≡ true → is_keyed buy f ≡ true → is_same e.1 f.1 ≡ is_at (key_cmp e.0) f.0
same_by_key buy e f here there = by (key_cmp e.0 f.0) refl
  where
    rank : RanksTell buy e.1.price f.1.price e.0.0 f.0.0
    rank = tells buy e f here there

    keys : is_same e.1 f.1 ≡ true → (e.0.0 ≡ f.0.0) × (e.0.1 ≡ f.0.1)
    keys same =
        let parts = and_parts (is_numbered f.1.order e.1) _ same in
        (rank.2 (eqb-true e.1.price f.1.price parts.1), sym (number_is buy e here) ∙ eqb-true e.1.order f.1.order parts.0 ∙ number_is buy f there)

    by : (o : Ordering) → o ≡ key_cmp e.0 f.0 → is_same e.1 f.1 ≡ is_eq o
    by Less is = false_from_ne_true _ (λ same. let below = compared e.0 f.0 Less is in omega (arith, below.1 (keys same).0, (keys same).1))
    by Greater is = false_from_ne_true _ (λ same. let below = compared e.0 f.0 Greater is in omega (arith, below.1 (sym (keys same).0), (keys same).1))
    by Equal is =
        let same : e.0 ≡ f.0 = compared e.0 f.0 Equal is in
        and_from _ _ (eq-eqb _ _ (number_is buy e here ∙ ap (λ (a : ℕ × ℕ). a.1) same ∙ sym (number_is buy f there))) (eq-eqb _ _ (rank.1 (ap (λ (a : ℕ × ℕ). a.0) same)))

apart_all : (buy : Bool) (e : (ℕ × ℕ) × RestingData) (fs : List ((ℕ × ℕ) × RestingData)) → is_keyed buy e ≡ true → are_keyed buy fs ≡ true → AllByRecursion (λ (y : ℕ × ℕ). key_cmp e.0 y ≡ Less) (keys_of fs)
    → list_all (λ x. not (is_same e.1 x)) (values_of fs) ≡ true
apart_all buy e [] here there all = refl
apart_all buy e (f ∷ fs) here there all =
    let parts = and_parts (is_keyed buy f) (are_keyed buy fs) there in
    and_from _ _ (ap not (same_by_key buy e f here parts.0 ∙ ap is_eq all.0)) (apart_all buy e fs here parts.1 all.1)

-- the order is taken out
taken_is : (buy : Bool) (k : ℕ × ℕ) (gone : RestingData) (es : List ((ℕ × ℕ) × RestingData)) → is_keyed buy (k, gone) ≡ true → are_keyed buy es ≡ true → IsStrictlySortedBy key_cmp (keys_of es)
    → (are_keyed buy (remove_entry (is_at (key_cmp k)) es) ≡ true) × (values_of (remove_entry (is_at (key_cmp k)) es) ≡ without_order gone (values_of es))
unfolding IsStrictlySortedBy
taken_is buy k gone [] here keyed sorted = (refl, refl)
taken_is buy k gone (e ∷ es) here keyed sorted =
    let parts = and_parts (is_keyed buy e) (are_keyed buy es) keyed in
    by (key_cmp k e.0) refl parts sorted.0 (taken_is buy k gone es here parts.1 sorted.1)
  where
    left : Ordering → List ((ℕ × ℕ) × RestingData)
    left o = cond (is_eq o) es (e ∷ remove_entry (is_at (key_cmp k)) es)

    by : (o : Ordering) → o ≡ key_cmp k e.0 → (is_keyed buy e ≡ true) × (are_keyed buy es ≡ true) → AllByRecursion (λ (y : ℕ × ℕ). key_cmp e.0 y ≡ Less) (keys_of es)
        → (are_keyed buy (remove_entry (is_at (key_cmp k)) es) ≡ true) × (values_of (remove_entry (is_at (key_cmp k)) es) ≡ without_order gone (values_of es))
        → (are_keyed buy (left o) ≡ true) × (values_of (left o) ≡ without_order gone (e.1 ∷ values_of es))
    by o is parts sorted later = at o is (ap (λ b. cond (not b) (e.1 ∷ without_order gone (values_of es)) (without_order gone (values_of es))) (same_by_key buy (k, gone) e here parts.0 ∙ ap is_eq (sym is)))
      where
        stays : List RestingData
        stays = e.1 ∷ values_of (remove_entry (is_at (key_cmp k)) es)

        at : (o : Ordering) → o ≡ key_cmp k e.0 → without_order gone (e.1 ∷ values_of es) ≡ cond (not (is_eq o)) (e.1 ∷ without_order gone (values_of es)) (without_order gone (values_of es))
            → (are_keyed buy (left o) ≡ true) × (values_of (left o) ≡ without_order gone (e.1 ∷ values_of es))
        at Less is out = (and_from _ _ parts.0 later.0, ap (λ rest. e.1 ∷ rest) later.1 ∙ sym out)
        at Greater is out = (and_from _ _ parts.0 later.0, ap (λ rest. e.1 ∷ rest) later.1 ∙ sym out)
        at Equal is out =
            let behind = subst (λ (a : ℕ × ℕ). AllByRecursion (λ (y : ℕ × ℕ). key_cmp a y ≡ Less) (keys_of es)) (sym (compared k e.0 Equal is)) sorted in
            (parts.1, sym (all_pass (λ x. not (is_same gone x)) (values_of es) (apart_all buy (k, gone) es here parts.1 behind)) ∙ sym out)

-- what stands under its key
found_is : (buy : Bool) (k : ℕ × ℕ) (r : RestingData) (es : List ((ℕ × ℕ) × RestingData)) → is_keyed buy (k, r) ≡ true → are_keyed buy es ≡ true
    → find (is_same r) (values_of es) ≡ lookup (is_at (key_cmp k)) es
found_is buy k r [] here keyed = refl
found_is buy k r (e ∷ es) here keyed =
    let parts = and_parts (is_keyed buy e) (are_keyed buy es) keyed in
    ap (λ b. cond b (Some e.1) (find (is_same r) (values_of es))) (same_by_key buy (k, r) e here parts.0)
    ∙ ap (cond (is_at (key_cmp k) e.0) (Some e.1)) (found_is buy k r es here parts.1)

-- where no order is the same, none has other shares
none_shared : (r : RestingData) (shares : ℕ) (rs : List RestingData) → list_all (λ x. not (is_same r x)) rs ≡ true → with_open_shares r shares rs ≡ rs
none_shared r shares [] all = refl
none_shared r shares (x ∷ rs) all =
    let parts = and_parts (not (is_same r x)) (list_all (λ y. not (is_same r y)) rs) all in
    ap (λ (b : Bool). (if b then record x { shares = shares } else x) ∷ with_open_shares r shares rs) (not-true (is_same r x) parts.0) ∙ ap (λ more. x ∷ more) (none_shared r shares rs parts.1)

-- ---- what is kept under keys, and the orders that are meant

-- the price of a rank, and the rank of a price
pub order_is_keyed : (buy : Bool) (o : LiveOrder) (rank : ℕ) → o.terms.price ≤ 4294967295 → rank ≡ price_at buy o.terms.price
    → (is_keyed buy ((rank, o.number), resting_of o) ≡ true) × (price_at buy rank ≡ o.terms.price)
order_is_keyed true o rank few is = (and_from _ _ (eq-eqb _ _ (omega (arith, few, is))) (eq-eqb o.number o.number refl), omega (arith, few, is))
order_is_keyed false o rank few is = (and_from _ _ (eq-eqb _ _ (sym is)) (eq-eqb o.number o.number refl), is)

-- the first order
pub first_at : (buy : Bool) (es : List ((ℕ × ℕ) × KeptOrder)) (k : ℕ × ℕ) (kept : KeptOrder) (price : ℕ) → slice_get es 0 ≡ Some (k, kept) → price ≡ price_at buy k.0
    → Some (resting_of_kept k.1 price kept) ≡ slice_get (values_of (orders_at buy es)) 0
first_at buy [] k kept price first is = cc
first_at buy (e ∷ es) k kept price first is =
    ap (λ (p : ℕ). Some (resting_of_kept k.1 p kept)) is ∙ ap (option_map (λ (f : (ℕ × ℕ) × KeptOrder). (order_at buy f).1)) (sym first)

keys_stay : (buy : Bool) (es : List ((ℕ × ℕ) × KeptOrder)) → keys_of (orders_at buy es) ≡ keys_of es
keys_stay buy [] = refl
keys_stay buy (e ∷ es) = ap (λ keys. e.0 ∷ keys) (keys_stay buy es)

inserted : (buy : Bool) (k : ℕ × ℕ) (kept : KeptOrder) (es : List ((ℕ × ℕ) × KeptOrder))
    → orders_at buy (insert_entry key_cmp es k kept) ≡ insert_entry key_cmp (orders_at buy es) k (order_at buy (k, kept)).1
inserted buy k kept [] = refl
inserted buy k kept (e ∷ es) = by (key_cmp k e.0) refl (inserted buy k kept es)
  where
    into : Ordering → List ((ℕ × ℕ) × KeptOrder)
    into o = match_ordering o ((k, kept) ∷ e ∷ es) ((e.0, kept) ∷ es) (e ∷ insert_entry key_cmp es k kept)

    meant : Ordering → List ((ℕ × ℕ) × RestingData)
    meant o =
        match_ordering o ((k, (order_at buy (k, kept)).1) ∷ order_at buy e ∷ orders_at buy es) ((e.0, (order_at buy (k, kept)).1) ∷ orders_at buy es)
        (order_at buy e ∷ insert_entry key_cmp (orders_at buy es) k (order_at buy (k, kept)).1)

    by : (o : Ordering) → o ≡ key_cmp k e.0 → orders_at buy (insert_entry key_cmp es k kept) ≡ insert_entry key_cmp (orders_at buy es) k (order_at buy (k, kept)).1 → orders_at buy (into o) ≡ meant o
    by Less is later = refl
    by Equal is later = ap (λ (key : ℕ × ℕ). (e.0, (order_at buy (key, kept)).1) ∷ orders_at buy es) (sym (compared k e.0 Equal is))
    by Greater is later = ap (λ rest. order_at buy e ∷ rest) later

removed : (buy : Bool) (test : ℕ × ℕ → Bool) (es : List ((ℕ × ℕ) × KeptOrder)) → orders_at buy (remove_entry test es) ≡ remove_entry test (orders_at buy es)
removed buy test [] = refl
removed buy test (e ∷ es) =
    elim (test e.0) as (λ b. orders_at buy (cond b es (e ∷ remove_entry test es)) ≡ cond b (orders_at buy es) (order_at buy e ∷ remove_entry test (orders_at buy es))) [
      | true ↦ refl
      | false ↦ ap (λ rest. order_at buy e ∷ rest) (removed buy test es)
    ]

-- what is kept under a key is the order of its number and its price
found : (buy : Bool) (k : ℕ × ℕ) (es : List ((ℕ × ℕ) × KeptOrder))
    → lookup (is_at (key_cmp k)) (orders_at buy es) ≡ option_map (resting_of_kept k.1 (price_at buy k.0)) (lookup (is_at (key_cmp k)) es)
found buy k [] = refl
found buy k (e ∷ es) = by (key_cmp k e.0) refl (found buy k es)
  where
    by : (o : Ordering) → o ≡ key_cmp k e.0 → lookup (is_at (key_cmp k)) (orders_at buy es) ≡ option_map (resting_of_kept k.1 (price_at buy k.0)) (lookup (is_at (key_cmp k)) es)
        → cond (is_eq o) (Some (order_at buy e).1) (lookup (is_at (key_cmp k)) (orders_at buy es)) ≡ option_map (resting_of_kept k.1 (price_at buy k.0)) (cond (is_eq o) (Some e.1) (lookup (is_at (key_cmp k)) es))
    by Less is later = later
    by Greater is later = later
    by Equal is later = ap (λ (key : ℕ × ℕ). Some (resting_of_kept key.1 (price_at buy key.0) e.1)) (sym (compared k e.0 Equal is))

pub put_at : (buy : Bool) (k : ℕ × ℕ) (o : LiveOrder) (kept : KeptOrder) (es : List ((ℕ × ℕ) × KeptOrder)) → is_keyed buy (k, resting_of o) ≡ true → price_at buy k.0 ≡ o.terms.price → k.1 ≡ o.number
    → kept.shares ≡ (resting_of o).shares → kept.order.value ≡ o
    → are_keyed buy (orders_at buy es) ≡ true → IsStrictlySortedBy key_cmp (keys_of es) → IsLatest (resting_of o) (values_of (orders_at buy es))
    → (are_keyed buy (orders_at buy (insert_entry key_cmp es k kept)) ≡ true) × (values_of (orders_at buy (insert_entry key_cmp es k kept)) ≡ with_order buy (resting_of o) (values_of (orders_at buy es)))
put_at buy k o kept es here priced numbered shares whose keyed sorted latest =
    let meant : resting_of_kept k.1 (price_at buy k.0) kept ≡ resting_of o =
    λ i. record { order = numbered i; account = (whose i).account; user = (whose i).user; price = priced i; shares = shares i } in
    let same : orders_at buy (insert_entry key_cmp es k kept) ≡ insert_entry key_cmp (orders_at buy es) k (resting_of o) =
    inserted buy k kept es ∙ ap (insert_entry key_cmp (orders_at buy es) k) meant in
    let all = put_is buy k (resting_of o) (orders_at buy es) here keyed (subst (IsStrictlySortedBy key_cmp) (sym (keys_stay buy es)) sorted) latest in
    (ap (are_keyed buy) same ∙ all.0, ap values_of same ∙ all.1)

pub taken_at : (buy : Bool) (k : ℕ × ℕ) (gone : RestingData) (es : List ((ℕ × ℕ) × KeptOrder)) → is_keyed buy (k, gone) ≡ true → are_keyed buy (orders_at buy es) ≡ true → IsStrictlySortedBy key_cmp (keys_of es)
    → (are_keyed buy (orders_at buy (remove_entry (is_at (key_cmp k)) es)) ≡ true) × (values_of (orders_at buy (remove_entry (is_at (key_cmp k)) es)) ≡ without_order gone (values_of (orders_at buy es)))
taken_at buy k gone es here keyed sorted =
    let same = removed buy (is_at (key_cmp k)) es in
    let all = taken_is buy k gone (orders_at buy es) here keyed (subst (IsStrictlySortedBy key_cmp) (sym (keys_stay buy es)) sorted) in
    (ap (are_keyed buy) same ∙ all.0, ap values_of same ∙ all.1)

pub found_at : (buy : Bool) (k : ℕ × ℕ) (r : RestingData) (es : List ((ℕ × ℕ) × KeptOrder)) → is_keyed buy (k, r) ≡ true → are_keyed buy (orders_at buy es) ≡ true
    → find (is_same r) (values_of (orders_at buy es)) ≡ option_map (resting_of_kept k.1 (price_at buy k.0)) (lookup (is_at (key_cmp k)) es)
found_at buy k r es here keyed = found_is buy k r (orders_at buy es) here keyed ∙ found buy k es

-- ---- so many shares are left

-- what is kept of the order, with so many shares
abbrev pub sized : ℕ → KeptOrder → KeptOrder
sized shares kept = record kept { shares = shares }

shared_at : (buy : Bool) (k : ℕ × ℕ) (r : RestingData) (shares : ℕ) (kept : KeptOrder) (es : List ((ℕ × ℕ) × KeptOrder))
    → is_keyed buy (k, r) ≡ true → are_keyed buy (orders_at buy es) ≡ true → IsStrictlySortedBy key_cmp (keys_of es) → lookup (is_at (key_cmp k)) es ≡ Some kept
    → (are_keyed buy (orders_at buy (set_value (is_at (key_cmp k)) es (sized shares kept))) ≡ true)
    × (values_of (orders_at buy (set_value (is_at (key_cmp k)) es (sized shares kept))) ≡ with_open_shares r shares (values_of (orders_at buy es)))
unfolding IsStrictlySortedBy
shared_at buy k r shares kept [] here keyed sorted there = cc
shared_at buy k r shares kept (e ∷ es) here keyed sorted there =
    let parts = and_parts (is_keyed buy (order_at buy e)) (are_keyed buy (orders_at buy es)) keyed in
    by (key_cmp k e.0) refl parts sorted.0 there (λ deeper. shared_at buy k r shares kept es here parts.1 sorted.1 deeper)
  where
    left : Ordering → List ((ℕ × ℕ) × KeptOrder)
    left o = cond (is_eq o) ((e.0, sized shares kept) ∷ es) (e ∷ set_value (is_at (key_cmp k)) es (sized shares kept))

    by : (o : Ordering) → o ≡ key_cmp k e.0 → (is_keyed buy (order_at buy e) ≡ true) × (are_keyed buy (orders_at buy es) ≡ true) → AllByRecursion (λ (y : ℕ × ℕ). key_cmp e.0 y ≡ Less) (keys_of es)
        → cond (is_eq o) (Some e.1) (lookup (is_at (key_cmp k)) es) ≡ Some kept
        → (lookup (is_at (key_cmp k)) es ≡ Some kept
        → (are_keyed buy (orders_at buy (set_value (is_at (key_cmp k)) es (sized shares kept))) ≡ true)
        × (values_of (orders_at buy (set_value (is_at (key_cmp k)) es (sized shares kept))) ≡ with_open_shares r shares (values_of (orders_at buy es))))
        → (are_keyed buy (orders_at buy (left o)) ≡ true) × (values_of (orders_at buy (left o)) ≡ with_open_shares r shares ((order_at buy e).1 ∷ values_of (orders_at buy es)))
    by o is parts sorted there deeper = at o is there (same_by_key buy (k, r) (order_at buy e) here parts.0 ∙ ap is_eq (sym is))
      where
        shown : Bool → RestingData
        shown b = if b then record (order_at buy e).1 { shares = shares } else (order_at buy e).1

        at : (o : Ordering) → o ≡ key_cmp k e.0 → cond (is_eq o) (Some e.1) (lookup (is_at (key_cmp k)) es) ≡ Some kept → is_same r (order_at buy e).1 ≡ is_eq o
            → (are_keyed buy (orders_at buy (left o)) ≡ true) × (values_of (orders_at buy (left o)) ≡ with_open_shares r shares ((order_at buy e).1 ∷ values_of (orders_at buy es)))
        at Less is there same =
            (and_from _ _ parts.0 (deeper there).0, ap (λ rest. (order_at buy e).1 ∷ rest) (deeper there).1 ∙ ap (λ b. shown b ∷ with_open_shares r shares (values_of (orders_at buy es))) (sym same))
        at Greater is there same =
            (and_from _ _ parts.0 (deeper there).0, ap (λ rest. (order_at buy e).1 ∷ rest) (deeper there).1 ∙ ap (λ b. shown b ∷ with_open_shares r shares (values_of (orders_at buy es))) (sym same))
        at Equal is there same =
            let behind = subst (λ (a : ℕ × ℕ). AllByRecursion (λ (y : ℕ × ℕ). key_cmp a y ≡ Less) (keys_of es)) (sym (compared k e.0 Equal is)) sorted in
            let apart = apart_all buy (k, r) (orders_at buy es) here parts.1 (subst (AllByRecursion (λ (y : ℕ × ℕ). key_cmp k y ≡ Less)) (sym (keys_stay buy es)) behind) in
            let its : e.1 ≡ kept = same_Some _ _ there in (
              and_from _ _ parts.0 parts.1,
              ap (λ (x : KeptOrder). resting_of_kept e.0.1 (price_at buy e.0.0) (sized shares x) ∷ values_of (orders_at buy es)) (sym its)
                  ∙ ap (λ rest. shown true ∷ rest) (sym (none_shared r shares (values_of (orders_at buy es)) apart))
                  ∙ ap (λ b. shown b ∷ with_open_shares r shares (values_of (orders_at buy es))) (sym same),
            )

-- where no order is found, none is the same
none_found : (r : RestingData) (rs : List RestingData) → find (is_same r) rs ≡ None → list_all (λ x. not (is_same r x)) rs ≡ true
none_found r [] none = refl
none_found r (x ∷ rs) none = at (is_same r x) none (none_found r rs)
  where
    at : (b : Bool) → cond b (Some x) (find (is_same r) rs) ≡ None → (find (is_same r) rs ≡ None → list_all (λ y. not (is_same r y)) rs ≡ true) → (not b && list_all (λ y. not (is_same r y)) rs) ≡ true
    at true none deeper = cc
    at false none deeper = deeper none

some_left : (shares : ℕ) → (shares ≡ 0 → ⊥) → nat_lt 0 shares ≡ true
some_left zero some = absurd (some refl)
some_left (suc n) some = lt-ltb 0 (suc n) (omega arith)

-- the order stays with so many
pub stays_at : (buy : Bool) (k : ℕ × ℕ) (r : RestingData) (shares : ℕ) (kept : KeptOrder) (es : List ((ℕ × ℕ) × KeptOrder)) → (shares ≡ 0 → ⊥)
    → is_keyed buy (k, r) ≡ true → are_keyed buy (orders_at buy es) ≡ true → IsStrictlySortedBy key_cmp (keys_of es) → lookup (is_at (key_cmp k)) es ≡ Some kept
    → values_of (orders_at buy (set_value (is_at (key_cmp k)) es (sized shares kept))) ≡ left_with r shares (values_of (orders_at buy es))
stays_at buy k r shares kept es some here keyed sorted there =
    (shared_at buy k r shares kept es here keyed sorted there).1 ∙ ap (λ b. if b then with_open_shares r shares (values_of (orders_at buy es)) else without_order r (values_of (orders_at buy es))) (sym (some_left shares some))

-- or none was there
pub none_stays : (buy : Bool) (k : ℕ × ℕ) (r : RestingData) (shares : ℕ) (es : List ((ℕ × ℕ) × KeptOrder)) → (shares ≡ 0 → ⊥)
    → is_keyed buy (k, r) ≡ true → are_keyed buy (orders_at buy es) ≡ true → lookup (is_at (key_cmp k)) es ≡ None
    → values_of (orders_at buy es) ≡ left_with r shares (values_of (orders_at buy es))
none_stays buy k r shares es some here keyed missing =
    sym (none_shared r shares (values_of (orders_at buy es)) (none_found r (values_of (orders_at buy es)) (found_at buy k r es here keyed ∙ ap (option_map (resting_of_kept k.1 (price_at buy k.0))) missing)))
    ∙ ap (λ b. if b then with_open_shares r shares (values_of (orders_at buy es)) else without_order r (values_of (orders_at buy es))) (sym (some_left shares some))

-- a key alone tells that the orders stay keyed
pub stay_keyed : (buy : Bool) (k : ℕ × ℕ) (shares : ℕ) (kept : KeptOrder) (es : List ((ℕ × ℕ) × KeptOrder))
    → are_keyed buy (orders_at buy es) ≡ true → lookup (is_at (key_cmp k)) es ≡ Some kept
    → are_keyed buy (orders_at buy (set_value (is_at (key_cmp k)) es (sized shares kept))) ≡ true
stay_keyed buy k shares kept [] keyed there = refl
stay_keyed buy k shares kept (e ∷ es) keyed there =
    let parts = and_parts (is_keyed buy (order_at buy e)) (are_keyed buy (orders_at buy es)) keyed in
    elim (is_at (key_cmp k) e.0) as (λ b. cond b (Some e.1) (lookup (is_at (key_cmp k)) es) ≡ Some kept → are_keyed buy (orders_at buy (cond b ((e.0, sized shares kept) ∷ es) (e ∷ set_value (is_at (key_cmp k)) es (sized shares kept)))) ≡ true) [
      | true ↦ (λ found. and_from _ _ parts.0 parts.1)
      | false ↦ (λ found. and_from _ _ parts.0 (stay_keyed buy k shares kept es parts.1 found))
    ] there

-- and where one goes
pub go_keyed : (buy : Bool) (test : ℕ × ℕ → Bool) (es : List ((ℕ × ℕ) × KeptOrder)) → are_keyed buy (orders_at buy es) ≡ true → are_keyed buy (orders_at buy (remove_entry test es)) ≡ true
go_keyed buy test [] keyed = refl
go_keyed buy test (e ∷ es) keyed =
    let parts = and_parts (is_keyed buy (order_at buy e)) (are_keyed buy (orders_at buy es)) keyed in
    elim (test e.0) as (λ b. are_keyed buy (orders_at buy (cond b es (e ∷ remove_entry test es))) ≡ true) [
      | true ↦ parts.1
      | false ↦ and_from _ _ parts.0 (go_keyed buy test es parts.1)
    ]

-- what is kept of an order under its key
pub is_held : (buy : Bool) (k : ℕ × ℕ) (o : LiveOrder) (kept : KeptOrder) → price_at buy k.0 ≡ o.terms.price → k.1 ≡ o.number
    → resting_of_kept o.number o.terms.price kept ≡ resting_of_kept k.1 (price_at buy k.0) kept
is_held buy k o kept priced numbered = λ i. resting_of_kept (sym numbered i) (sym priced i) kept

-- what is kept first is the first order, under its key
pub first_is_keyed : (buy : Bool) (es : List ((ℕ × ℕ) × KeptOrder)) (k : ℕ × ℕ) (kept : KeptOrder) (shares : ℕ) → are_keyed buy (orders_at buy es) ≡ true → slice_get es 0 ≡ Some (k, kept)
    → (is_keyed buy (k, resting_of_kept k.1 (price_at buy k.0) kept) ≡ true)
    × (taken_from_first shares (values_of (orders_at buy es)) ≡ left_with (resting_of_kept k.1 (price_at buy k.0) kept) (kept.shares - shares) (values_of (orders_at buy es)))
first_is_keyed buy [] k kept shares keyed first = cc
first_is_keyed buy (e ∷ es) k kept shares keyed first =
    let parts = and_parts (is_keyed buy (order_at buy e)) (are_keyed buy (orders_at buy es)) keyed in
    let its : e ≡ (k, kept) = same_Some _ _ first in (
      ap (λ (x : (ℕ × ℕ) × KeptOrder). is_keyed buy (order_at buy x)) (sym its) ∙ parts.0,
      ap (λ (x : (ℕ × ℕ) × KeptOrder). left_with (order_at buy x).1 (x.1.shares - shares) (values_of (orders_at buy (e ∷ es)))) its,
    )
