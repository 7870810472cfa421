-- One more entry of a list of keys and values.
use Rattle.std.proofs.{Common.{◌≡◌, ◌+◌, ◌≤◌, Bool, true, false, cond, List, [], ◌∷◌, ◌++◌, refl, sym, ap, ◌∙◌, arith}, lemmas.List.Sums.sum_by-append}
use Rattle.std.specs.{Prelude.{Option, Some, None}, List.count_by, Map.lookup}

-- how many pass of one and more
pub counts_first : {X : Type 0} (p : X → Bool) (x : X) (xs : List X) → count_by p (x ∷ xs) ≡ cond (p x) 1 0 + count_by p xs
counts_first p x xs =
    let parts : count_by p (x ∷ xs) ≡ (0 + cond (p x) 1 0) + count_by p xs = sum_by-append (λ y. cond (p y) 1 0) (x ∷ []) xs in
    omega (arith, parts)

module _ {K V : Type 0} (test : K → Bool) where
  -- what is found stays found
  pub found_stays : (entries : List (K × V)) (e : K × V) (v : V) → lookup test entries ≡ Some v → lookup test (entries ++ e ∷ []) ≡ Some v
  found_stays [] e v h = cc
  found_stays (f ∷ entries) e v h = by (test f.0) h (found_stays entries e v)
    where
      by : (b : Bool) → cond b (Some f.1) (lookup test entries) ≡ Some v → (lookup test entries ≡ Some v → lookup test (entries ++ e ∷ []) ≡ Some v)
          → cond b (Some f.1) (lookup test (entries ++ e ∷ [])) ≡ Some v
      by true k later = k
      by false k later = later k

  -- what is not found is the new entry, if that passes
  pub found_last : (entries : List (K × V)) (e : K × V) → lookup test entries ≡ None → lookup test (entries ++ e ∷ []) ≡ cond (test e.0) (Some e.1) None
  found_last [] e h = refl
  found_last (f ∷ entries) e h = by (test f.0) h (found_last entries e)
    where
      by : (b : Bool) → cond b (Some f.1) (lookup test entries) ≡ None → (lookup test entries ≡ None → lookup test (entries ++ e ∷ []) ≡ cond (test e.0) (Some e.1) None)
          → cond b (Some f.1) (lookup test (entries ++ e ∷ [])) ≡ cond (test e.0) (Some e.1) None
      by true k later = cc
      by false k later = later k

  -- another entry changes nothing
  pub found_elsewhere : (entries : List (K × V)) (e : K × V) → test e.0 ≡ false → lookup test (entries ++ e ∷ []) ≡ lookup test entries
  found_elsewhere entries e apart = by (lookup test entries) refl
    where
      by : (found : Option V) → lookup test entries ≡ found → lookup test (entries ++ e ∷ []) ≡ lookup test entries
      by None k = found_last entries e k ∙ ap (λ (b : Bool). cond b (Some e.1) None) apart ∙ sym k
      by (Some v) k = found_stays entries e v k ∙ sym k

  -- where none is found, none counts
  pub none_counts : (entries : List (K × V)) → lookup test entries ≡ None → count_by (λ (e : K × V). test e.0) entries ≡ 0
  none_counts [] h = refl
  none_counts (f ∷ entries) h = counts_first (λ (e : K × V). test e.0) f entries ∙ by (test f.0) h (none_counts entries)
    where
      by : (b : Bool) → cond b (Some f.1) (lookup test entries) ≡ None → (lookup test entries ≡ None → count_by (λ (e : K × V). test e.0) entries ≡ 0)
          → cond b 1 0 + count_by (λ (e : K × V). test e.0) entries ≡ 0
      by true k later = cc
      by false k later = let none = later k in omega (arith, none)

  -- where one is found, one counts
  pub one_counts : (entries : List (K × V)) (v : V) → lookup test entries ≡ Some v → 1 ≤ count_by (λ (e : K × V). test e.0) entries
  one_counts [] v h = cc
  one_counts (f ∷ entries) v h =
      let parts = counts_first (λ (e : K × V). test e.0) f entries in
      let some = by (test f.0) h (one_counts entries v) in
      omega (arith, parts, some)
    where
      by : (b : Bool) → cond b (Some f.1) (lookup test entries) ≡ Some v → (lookup test entries ≡ Some v → 1 ≤ count_by (λ (e : K × V). test e.0) entries)
          → 1 ≤ cond b 1 0 + count_by (λ (e : K × V). test e.0) entries
      by true k later = omega arith
      by false k later = let some = later k in omega (arith, some)

  pub one_more_counts : (entries : List (K × V)) (e : K × V) → count_by (λ (x : K × V). test x.0) (entries ++ e ∷ []) ≡ count_by (λ (x : K × V). test x.0) entries + cond (test e.0) 1 0
  one_more_counts entries e =
      let parts : count_by (λ (x : K × V). test x.0) (entries ++ e ∷ []) ≡ count_by (λ (x : K × V). test x.0) entries + (0 + cond (test e.0) 1 0) =
      sum_by-append (λ (x : K × V). cond (test x.0) 1 0) entries (e ∷ []) in
      omega (arith, parts)
