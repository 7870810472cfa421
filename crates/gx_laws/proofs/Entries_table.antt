-- Tables and the lists that they stand for, whatever the keys.
use Rattle.std.proofs.{Common.{◌≡◌, ℕ, ◌+◌, ◌<◌, Bool, true, false, cond, not, List, [], ◌∷◌, ◌++◌, map, refl, ◌∙◌, sym, ap, subst, length, take, drop, get_or, append_assoc, arith, zero, suc}, lemmas.{List.{take_more, take-append-drop}, Bool.{and_parts, not-true, or_parts}}}
use Rattle.std.specs.{Prelude.{Some, None, ◌||◌}, List.{list_any, AllByRecursion, IsDistinct}, Map.{keys_of, lookup, set_value}}
use Rattle.gx_policy.specs.Lists.{are_distinct}
use Rattle.gx_laws.proofs.Rules_first.{none_among}

-- where none is found, none has the key
pub none_found : {K V : Type 0} (same : K → K → Bool) (key : K) (entries : List (K × V)) → None ≡ lookup (same key) entries
    → AllByRecursion (λ other. same key other ≡ false) (keys_of entries)
none_found same key [] none = tt
none_found {K} {V} same key (e ∷ es) none = by (same key e.0) refl none (λ deeper. none_found same key es deeper)
  where
    by : (b : Bool) → same key e.0 ≡ b → None ≡ cond b (Some e.1) (lookup (same key) es)
        → (None ≡ lookup (same key) es → AllByRecursion (λ other. same key other ≡ false) (keys_of es))
        → AllByRecursion (λ other. same key other ≡ false) (keys_of (e ∷ es))
    by true is h deeper = cc
    by false is h deeper = (is, deeper h)

-- where no entry has the key, a change of what has it changes nothing
pub none_changed : {K V X : Type 0} (same : K → K → Bool) (view : K × V → X) (change : X → X) (key : K) → ((e : K × V) → same key e.0 ≡ false → change (view e) ≡ view e)
    → (entries : List (K × V)) → AllByRecursion (λ other. same key other ≡ false) (keys_of entries) → map change (map view entries) ≡ map view entries
none_changed same view change key others [] apart = refl
none_changed same view change key others (e ∷ es) apart =
    ap (λ x. x ∷ map change (map view es)) (others e apart.0) ∙ ap (λ xs. view e ∷ xs) (none_changed same view change key others es apart.1)

-- a write in place changes what has the key
pub changed_in_place : {K V X : Type 0} (same : K → K → Bool) → ((a b : K) → same a b ≡ true → a ≡ b) → (view : K × V → X) (change : X → X) (key : K) (value : V)
    → ((e : K × V) → same key e.0 ≡ false → change (view e) ≡ view e) → (entries : List (K × V)) → IsDistinct same (keys_of entries)
    → ((e : K × V) → lookup (same key) entries ≡ Some e.1 → same key e.0 ≡ true → change (view e) ≡ view (e.0, value))
    → map view (set_value (same key) entries value) ≡ map change (map view entries)
unfolding IsDistinct
changed_in_place same decides view change key value others [] distinct this = refl
changed_in_place {K} {V} {X} same decides view change key value others (e ∷ es) distinct this =
    by (same key e.0) refl (this e) (λ (before : V) (c : K) found. this (c, before) found)
    (λ later. changed_in_place same decides view change key value others es distinct.1 later)
  where
    Here : Bool → Type 0
    Here b = cond b (Some e.1) (lookup (same key) es) ≡ Some e.1 → b ≡ true → change (view e) ≡ view (e.0, value)

    There : Bool → Type 0
    There b = (before : V) (c : K) → cond b (Some e.1) (lookup (same key) es) ≡ Some before → same key c ≡ true → change (view (c, before)) ≡ view (c, value)

    by : (b : Bool) → same key e.0 ≡ b → Here (same key e.0) → There (same key e.0)
        → (((d : K × V) → lookup (same key) es ≡ Some d.1 → same key d.0 ≡ true → change (view d) ≡ view (d.0, value)) → map view (set_value (same key) es value) ≡ map change (map view es))
        → map view (cond (same key e.0) ((e.0, value) ∷ es) (e ∷ set_value (same key) es value)) ≡ map change (map view (e ∷ es))
    by true is here there later =
        let others_apart : AllByRecursion (λ other. same key other ≡ false) (keys_of es) =
        subst (λ (k : K). AllByRecursion (λ other. same k other ≡ false) (keys_of es)) (sym (decides key e.0 is)) distinct.0
        in
        ap (λ b. map view (cond b ((e.0, value) ∷ es) (e ∷ set_value (same key) es value))) is
        ∙ ap (λ x. x ∷ map view es) (sym (subst Here is here refl refl))
        ∙ ap (λ xs. change (view e) ∷ xs) (sym (none_changed same view change key others es others_apart))
    by false is here there later =
        ap (λ b. map view (cond b ((e.0, value) ∷ es) (e ∷ set_value (same key) es value))) is
        ∙ ap (λ xs. view e ∷ xs) (later (λ (d : K × V) found at. subst There is there d.1 d.0 found at))
        ∙ ap (λ x. x ∷ map change (map view es)) (sym (others e is))

new_behind : {X K : Type 0} (same : K → K → Bool) → ((a b : K) → same a b ≡ same b a) → (name : X → K) (before : List X) (x : X) (rest : List X)
    → are_distinct (λ (a b : X). same (name a) (name b)) (before ++ x ∷ rest) ≡ true → AllByRecursion (λ other. same (name x) other ≡ false) (map name before)
new_behind same flip name [] x rest differ = tt
new_behind {X} same flip name (y ∷ before) x rest differ =
    let test : X → Bool = λ (b : X). same (name y) (name b) in
    let parts = and_parts (not (list_any test (before ++ x ∷ rest))) (are_distinct (λ (a b : X). same (name a) (name b)) (before ++ x ∷ rest)) differ in
    (flip (name x) (name y) ∙ none_among test before x rest (not-true (list_any test (before ++ x ∷ rest)) parts.0), new_behind same flip name before x rest parts.1)

-- of items whose names differ, none before the one at an index has its name
pub new_next : {X K : Type 0} (same : K → K → Bool) → ((a b : K) → same a b ≡ same b a) → (name : X → K) (items : List X) (i : ℕ) (x other : X)
    → are_distinct (λ (a b : X). same (name a) (name b)) items ≡ true → i < length items → x ≡ get_or items i other
    → AllByRecursion (λ k. same (name x) k ≡ false) (map name (take i items))
new_next {X} same flip name items i x other differ within at =
    let front : take i items ++ x ∷ [] ≡ take (i + 1) items = ap (λ (y : X). take i items ++ y ∷ []) at ∙ sym (take_more items i other within) in
    let whole : take i items ++ x ∷ drop (i + 1) items ≡ items =
    sym (append_assoc (take i items) (x ∷ []) (drop (i + 1) items)) ∙ ap (λ xs. xs ++ drop (i + 1) items) front ∙ take-append-drop (i + 1) items
    in
    new_behind same flip name (take i items) x (drop (i + 1) items) (ap (are_distinct (λ (a b : X). same (name a) (name b))) whole ∙ differ)

none_at : {X : Type 0} (p : X → Bool) (xs : List X) (i : ℕ) (d : X) → list_any p xs ≡ false → i < length xs → p (get_or xs i d) ≡ false
none_at p [] i d none within = absurd (omega (arith, within))
none_at p (x ∷ xs) zero d none within = (or_parts (p x) (list_any p xs) none).0
none_at p (x ∷ xs) (suc i) d none within = none_at p xs i d (or_parts (p x) (list_any p xs) none).1 (omega (arith, within))

-- one of a list of distinct ones is unlike those before it
pub none_before : {X : Type 0} (same : X → X → Bool) (symm : (x y : X) → same x y ≡ same y x) (xs : List X) (i : ℕ) (d : X)
    → are_distinct same xs ≡ true → i < length xs → list_any (same (get_or xs i d)) (take i xs) ≡ false
none_before same symm [] i d distinct within = absurd (omega (arith, within))
none_before same symm (x ∷ xs) zero d distinct within = refl
none_before same symm (x ∷ xs) (suc i) d distinct within =
    let here : same (get_or xs i d) x ≡ false = symm (get_or xs i d) x ∙ none_at (same x) xs i d (not-true _ (and_parts _ _ distinct).0) (omega (arith, within)) in
    ap (λ b. b || list_any (same (get_or xs i d)) (take i xs)) here
    ∙ none_before same symm xs i d (and_parts (not (list_any (same x) xs)) (are_distinct same xs) distinct).1 (omega (arith, within))
