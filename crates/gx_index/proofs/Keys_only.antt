-- Among entries of distinct keys, one with an equal key is the only one.
use Rattle.std.proofs.{Common.{◌≡◌, ◌∙◌, ◌+◌, ◌<◌, ℕ, zero, suc, Bool, true, false, cond, not, nat_lt, lt-ltb, arith, length, List, [], ◌∷◌, Some, None, IfSome, refl, sym, ap, subst, true≢false, is_some, unwrap_or, slice_get, position}, lemmas.{Map.{Entries.place_from_lookup, NonePasses, none_passes_from_lookup}, Option.{slice_get_within, same_Some}}}
use Rattle.std.specs.{Cmp.IsEquivalence, List.{AllByRecursion, IsDistinct, position_or_len}, Map.{keys_of, values_of, lookup, set_value}}
use Rattle.indexmap.specs.IndexMap.{IndexMap, UpdatesBy, WritesThrough, set_value_at, with_value_at}
use Rattle.indexmap.proofs.{CallerLemmas.{index_map_len-with_value_at, keys-with_value_at, updates-with_value_at}, MapLemmas.{Found-position, Missing-position, some_index, value_index}}

-- the same of values alone
module _ {K : Type 0} {R : K → K → Bool} (equal : IsEquivalence R) where
  apart_from : (first : K) (ks : List K) (i : ℕ) (k : K) → AllByRecursion (λ other. R first other ≡ false) ks → slice_get ks i ≡ Some k → R first k ≡ false
  apart_from first [] i k apart at = absurd (true≢false (sym (ap is_some at)))
  apart_from first (x ∷ xs) zero k apart at = ap (R first) (sym (ap (λ u. unwrap_or u x) at)) ∙ apart.0
  apart_from first (x ∷ xs) (suc i) k apart at = apart_from first xs i k apart.1 at

  steps_to : (ks : List K) (i : ℕ) (key k : K) → IsDistinct R ks → slice_get ks i ≡ Some k → R k key ≡ true → position_or_len (R key) ks ≡ i
  unfolding IsDistinct
  steps_to [] i key k distinct at same = absurd (true≢false (sym (ap is_some at)))
  steps_to (x ∷ xs) zero key k distinct at same =
      ap (λ b. cond (not b) (1 + position_or_len (R key) xs) 0) (equal.symm key x ∙ ap (λ y. R y key) (ap (λ u. unwrap_or u x) at) ∙ same)
  steps_to (x ∷ xs) (suc i) key k distinct at same =
      ap (λ b. cond (not b) (1 + position_or_len (R key) xs) 0) (sym (equal.congr k key x same) ∙ equal.symm k x ∙ apart_from x xs i k distinct.0 at)
      ∙ ap (λ n. 1 + n) (steps_to xs i key k distinct.1 at same) ∙ omega arith

  pub place_at : (ks : List K) (i : ℕ) (key k : K) → IsDistinct R ks → slice_get ks i ≡ Some k → R k key ≡ true → position (R key) ks ≡ Some i
  place_at ks i key k distinct at same =
      let within : i < length ks = slice_get_within ks i k at in
      ap (λ n. cond (nat_lt n (length ks)) (Some n) None) (steps_to ks i key k distinct at same) ∙ ap (λ b. cond b (Some i) None) (lt-ltb i _ within)

module _ {K V : Type 0} {R : K → K → Bool} (equal : IsEquivalence R) where
  key_at : (es : List (K × V)) (i : ℕ) (k : K) (v : V) → slice_get es i ≡ Some (k, v) → slice_get (keys_of es) i ≡ Some k
  key_at [] i k v at = absurd (true≢false (sym (ap is_some at)))
  key_at (e ∷ es) zero k v at = ap (λ (p : K × V). Some p.0) (ap (λ u. unwrap_or u e) at)
  key_at (e ∷ es) (suc i) k v at = key_at es i k v at

  pub index_at : (es : List (K × V)) (i : ℕ) (key k : K) (v : V) → IsDistinct R (keys_of es) → slice_get es i ≡ Some (k, v) → R k key ≡ true → position (R key) (keys_of es) ≡ Some i
  index_at es i key k v distinct at same = place_at equal (keys_of es) i key k distinct (key_at es i k v at) same

  pub found_at : (es : List (K × V)) (i : ℕ) (key k : K) (v : V) → IsDistinct R (keys_of es) → slice_get es i ≡ Some (k, v) → R k key ≡ true → true ≡ is_some (lookup (R key) es)
  found_at es i key k v distinct at same = ap is_some (sym (index_at es i key k v distinct at same)) ∙ some_index (R key) es

  pub value_at : (es : List (K × V)) (i : ℕ) (key k : K) (v : V) → IsDistinct R (keys_of es) → slice_get es i ≡ Some (k, v) → R k key ≡ true → slice_get (values_of es) i ≡ lookup (R key) es
  value_at es i key k v distinct at same = subst (λ found. IfSome found (λ j. slice_get (values_of es) j ≡ lookup (R key) es)) (index_at es i key k v distinct at same) (value_index (R key) es)

-- a write at the index of a key writes to the key
module _ {K V : Type 0} (test : K → Bool) where
  set_at : (es : List (K × V)) (i : ℕ) (w : V) → position_or_len test (keys_of es) ≡ i → i < length es → set_value_at es i w ≡ set_value test es w
  set_at [] i w at within = absurd (omega (arith, within))
  set_at (e ∷ es) i w at within = by (test e.0) refl i at within (λ j. set_at es j w)
    where
      by : (b : Bool) → test e.0 ≡ b → (i : ℕ) → cond (not (test e.0)) (1 + position_or_len test (keys_of es)) 0 ≡ i → i < length (e ∷ es)
          → ((j : ℕ) → position_or_len test (keys_of es) ≡ j → j < length es → set_value_at es j w ≡ set_value test es w)
          → set_value_at (e ∷ es) i w ≡ cond (test e.0) ((e.0, w) ∷ es) (e ∷ set_value test es w)
      by true is zero at within later = sym (ap (λ b. cond b ((e.0, w) ∷ es) (e ∷ set_value test es w)) is)
      by true is (suc i) at within later = absurd (omega (arith, sym at ∙ ap (λ b. cond (not b) (1 + position_or_len test (keys_of es)) 0) is))
      by false is zero at within later = absurd (omega (arith, sym at ∙ ap (λ b. cond (not b) (1 + position_or_len test (keys_of es)) 0) is))
      by false is (suc i) at within later =
          let next : position_or_len test (keys_of es) ≡ i = omega (arith, sym at ∙ ap (λ b. cond (not b) (1 + position_or_len test (keys_of es)) 0) is) in
          ap (λ rest. e ∷ rest) (later i next (omega (arith, within))) ∙ sym (ap (λ b. cond b ((e.0, w) ∷ es) (e ∷ set_value test es w)) is)

  set_none : (es : List (K × V)) (w : V) → NonePasses test es → es ≡ set_value test es w
  set_none [] w apart = refl
  set_none (e ∷ es) w apart = ap (λ rest. e ∷ rest) (set_none es w apart.1) ∙ sym (ap (λ b. cond b ((e.0, w) ∷ es) (e ∷ set_value test es w)) apart.0)

module _ {K V S : Type 0} {R : K → K → Bool} (equal : IsEquivalence R) (m : IndexMap K V S) (key : K) where
  updates : (i : ℕ) (v w : V) → IsDistinct R (keys_of m.entries) → position (R key) (keys_of m.entries) ≡ Some i → lookup (R key) m.entries ≡ Some v → UpdatesBy R (R key) m (with_value_at m i w) (Some w)
  updates i v w distinct at found =
      let there = place_from_lookup (R key) m.entries v found in
      let same : there.0 ≡ i = same_Some _ _ (sym (index_at equal m.entries there.0 key there.1 v distinct there.2 (equal.symm there.1 key ∙ there.3)) ∙ at) in
      let here : slice_get m.entries i ≡ Some (there.1, v) = subst (λ n. slice_get m.entries n ≡ Some (there.1, v)) same there.2 in
      let one_test : R there.1 ≡ R key = λ j q. sym (equal.congr key there.1 q there.3) j in
      subst (λ test. UpdatesBy R test m (with_value_at m i w) (Some w)) one_test (updates-with_value_at m i w equal distinct there.1 v here)

  pub writes_through : (i : ℕ) (v : V) → IsDistinct R (keys_of m.entries) → position (R key) (keys_of m.entries) ≡ Some i → lookup (R key) m.entries ≡ Some v → (w : V) → WritesThrough R (R key) m w (with_value_at m i w)
  writes_through i v distinct at found w = (
    set_at (R key) m.entries i w (Found-position (R key) m.entries i at).or_len (Found-position (R key) m.entries i at).within,
    keys-with_value_at m i w,
    index_map_len-with_value_at m i w,
    λ some. updates i v w distinct at found,
    subst (IsDistinct R) (sym (keys-with_value_at m i w)) distinct,
    refl,
    refl,
  )

  pub nothing_found : position (R key) (keys_of m.entries) ≡ None → None ≡ lookup (R key) m.entries
  nothing_found none = sym (Missing-position (R key) m.entries none).value

  -- and at no key it changes nothing
  pub writes_nothing : IsDistinct R (keys_of m.entries) → position (R key) (keys_of m.entries) ≡ None → (w : V) → WritesThrough R (R key) m w m
  writes_nothing distinct none w = (
    nothing m.entries none,
    refl,
    refl,
    λ some. absurd (true≢false (sym some ∙ sym (some_index (R key) m.entries) ∙ ap is_some none)),
    distinct,
    refl,
    refl,
  )
    where
      nothing : (es : List (K × V)) → position (R key) (keys_of es) ≡ None → es ≡ set_value (R key) es w
      nothing es none = set_none (R key) es w (none_passes_from_lookup (R key) es (Missing-position (R key) es none).value)
