-- How one more record is counted within its minute.
use Rattle.std.proofs.{Common.{◌≡◌, ℕ, ◌+◌, Bool, true, false, not, min, List, [], ◌∷◌, ◌++◌, length, cond, refl, ◌∙◌, ap, arith}, lemmas.{List.{length-append, Elements.filter-append}, Bool.Decides.nat_tests}}
use Rattle.std.specs.{Prelude.{Option, Some, None, ◌==◌, filter, unwrap_or, option_map, if◌then◌else◌}, Option.{option_map_or, option_or}, List.last_or}
use Rattle.gx_policy.specs.Lists.{behind_last, where_true}
use Rattle.gx_history.specs.{declared.record.RecordData.RecordData, Verdicts.last_moment}
use Rattle.gx_events.specs.Known.{one_more_if, denied_within, denies_login, minute_of, most_counted, within}

-- one more that does not pass the test stands behind the last that does
kept_behind : {X : Type 0} (test : X → Bool) (xs : List X) (x : X) → test x ≡ false
    → behind_last test (xs ++ x ∷ []) ≡ option_map (λ (ys : List X). ys ++ x ∷ []) (behind_last test xs)
kept_behind {X} test [] x fails = ap (λ b. option_or None (where_true b [])) fails
kept_behind {X} test (y ∷ ys) x fails =
    ap (λ (o : Option (List X)). option_or o (where_true (test y) (ys ++ x ∷ []))) (kept_behind test ys x fails)
    ∙ there (behind_last test ys) (test y)
  where
    more : List X → List X
    more zs = zs ++ x ∷ []

    there : (o : Option (List X)) (b : Bool)
        → option_or (option_map (λ (zs : List X). zs ++ x ∷ []) o) (where_true b (ys ++ x ∷ [])) ≡ option_map (λ (zs : List X). zs ++ x ∷ []) (option_or o (where_true b ys))
    there (Some zs) b = refl
    there None true = refl
    there None false = refl

-- a record of the minute is one more within it
within_more : (minute : ℕ) (records : List RecordData) (r : RecordData) → (minute_of r.moment == minute) ≡ true
    → within minute (records ++ r ∷ []) ≡ within minute records ++ r ∷ []
within_more minute records r same =
    ap (λ (o : Option (List RecordData)). unwrap_or o (records ++ r ∷ [])) (kept_behind (λ (x : RecordData). not (minute_of x.moment == minute)) records r (ap not same))
    ∙ there (behind_last (λ (x : RecordData). not (minute_of x.moment == minute)) records)
  where
    there : (o : Option (List RecordData)) → unwrap_or (option_map (λ (zs : List RecordData). zs ++ r ∷ []) o) (records ++ r ∷ []) ≡ unwrap_or o records ++ r ∷ []
    there None = refl
    there (Some zs) = refl

-- nothing stands behind the last record where that is of another minute
none_behind : (minute : ℕ) (x : RecordData) (xs : List RecordData)
    → (minute_of (option_map_or (λ (r : RecordData). r.moment) (last_or (Some x) xs) 0) == minute) ≡ false
    → behind_last (λ (r : RecordData). not (minute_of r.moment == minute)) (x ∷ xs) ≡ Some []
none_behind minute x [] other = ap (λ b. option_or None (where_true (not b) [])) other
none_behind minute x (y ∷ ys) other =
    ap (λ (o : Option (List RecordData)). option_or o (where_true (not (minute_of x.moment == minute)) (y ∷ ys))) (none_behind minute y ys other)

none_within : (minute : ℕ) (records : List RecordData) → (minute_of (last_moment records) == minute) ≡ false → within minute records ≡ []
none_within minute [] other = refl
none_within minute (x ∷ xs) other = ap (λ (o : Option (List RecordData)). unwrap_or o (x ∷ xs)) (none_behind minute x xs other)

-- how many are counted, with one more if there is one
counted_more : (count more : ℕ) (b : Bool) → more ≡ cond b 1 0 → min most_counted (count + more) ≡ one_more_if b (min most_counted count)
counted_more count more true one = grind (arith, nat_tests)
counted_more count more false none = grind (arith, nat_tests)

one_denied : (r : RecordData) → length (filter denies_login (r ∷ [])) ≡ cond (denies_login r) 1 0
one_denied r = elim (denies_login r) as (λ b. length (cond b (r ∷ []) []) ≡ cond b 1 0) [ true ↦ refl | false ↦ refl ]

-- the count within the minute of one more record
pub denied_more : (minute : ℕ) (records : List RecordData) (r : RecordData) → (minute_of r.moment == minute) ≡ true
    → denied_within minute (records ++ r ∷ []) ≡ one_more_if (denies_login r) (denied_within minute records)
denied_more minute records r same =
    ap (λ (rs : List RecordData). min most_counted (length (filter denies_login rs))) (within_more minute records r same)
    ∙ ap (λ (rs : List RecordData). min most_counted (length rs)) (filter-append denies_login (within minute records) (r ∷ []))
    ∙ ap (min most_counted) (length-append (filter denies_login (within minute records)) (filter denies_login (r ∷ [])))
    ∙ counted_more (length (filter denies_login (within minute records))) (length (filter denies_login (r ∷ []))) (denies_login r) (one_denied r)

-- the count within a minute is that within the last record's minute, or none
pub denied_is : (minute : ℕ) (records : List RecordData)
    → denied_within minute records ≡ (if minute_of (last_moment records) == minute then denied_within (minute_of (last_moment records)) records else 0)
denied_is minute records = by_minute (minute_of (last_moment records) == minute) refl
  where
    by_minute : (b : Bool) → (minute_of (last_moment records) == minute) ≡ b
        → denied_within minute records ≡ cond b (denied_within (minute_of (last_moment records)) records) 0
    by_minute true same = let e : minute ≡ minute_of (last_moment records) = grind (arith, nat_tests) in ap (λ m. denied_within m records) e
    by_minute false other = ap (λ (rs : List RecordData). min most_counted (length (filter denies_login rs))) (none_within minute records other)
