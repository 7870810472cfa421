-- A table with a row for each key, where the keys first come: what one more item makes of it.
use Rattle.std.proofs.{Common.{◌≡◌, Bool, true, false, not, cond, ◌||◌, List, [], ◌∷◌, ◌++◌, map, refl, ap, sym, subst, ◌∙◌, append_assoc, true≢false}, lemmas.List.{Elements.filter-append, append-nil, map_push}}
use Rattle.std.specs.{Prelude.{IfOk, Option, Some, None, Result, Ok, Err, filter, find, fold, unwrap_or}, List.list_any, Map.lookup}
use Rattle.indexmap.specs.IndexMap.{insert_entry}
use Rattle.gx_policy.specs.Lists.{once}

-- what follows of what came, where it went well
pub of_items : {V E X : Type 0} (r : Result V E) (items : V → List X) (xs : List X) (Q : V → Type 0) → ((v : V) → items v ≡ xs → Q v) → IfOk r (λ v. items v ≡ xs) → IfOk r Q
of_items (Ok v) items xs Q follows is = follows v is
of_items (Err e) items xs Q follows is = tt

-- of keys that are the same where they are equal
module _ {K : Type 0} (eq : K → K → Bool) (itself : (k : K) → eq k k ≡ true) (equals : (a b : K) → eq a b ≡ true → a ≡ b) where
  -- two that are not the same, in either order
  other_way : (a b : K) → eq a b ≡ false → eq b a ≡ false
  other_way a b apart = by (eq b a) refl
    where
      by : (c : Bool) → eq b a ≡ c → c ≡ false
      by false is = refl
      by true is = absurd (true≢false (sym (itself a) ∙ ap (λ (k : K). eq a k) (sym (equals b a is)) ∙ apart))

  abbrev others : K → List K → List K
  others x ks = filter (λ (k : K). not (eq x k)) ks

  -- it is among the others exactly where it is among all
  any_kept : (x q : K) (ks : List K) → eq q x ≡ false → list_any (eq q) (others x ks) ≡ list_any (eq q) ks
  any_kept x q [] apart = refl
  any_kept x q (k ∷ ks) apart = by (eq x k) refl (any_kept x q ks apart)
    where
      by : (c : Bool) → eq x k ≡ c → list_any (eq q) (others x ks) ≡ list_any (eq q) ks → list_any (eq q) (cond (not c) (k ∷ others x ks) (others x ks)) ≡ (eq q k || list_any (eq q) ks)
      by true is rest = rest ∙ ap (λ (c : Bool). c || list_any (eq q) ks) (sym apart ∙ ap (eq q) (equals x k is))
      by false is rest = ap (λ (c : Bool). eq q k || c) rest

  -- none of the others is the same
  none_kept : (x : K) (ks : List K) → list_any (eq x) (others x ks) ≡ false
  none_kept x [] = refl
  none_kept x (k ∷ ks) = by (eq x k) refl (none_kept x ks)
    where
      by : (c : Bool) → eq x k ≡ c → list_any (eq x) (others x ks) ≡ false → list_any (eq x) (cond (not c) (k ∷ others x ks) (others x ks)) ≡ false
      by true is rest = rest
      by false is rest = ap (λ (c : Bool). c || list_any (eq x) (others x ks)) is ∙ rest

  -- a key is there once exactly where it is there
  any_once : (q : K) (ks : List K) → list_any (eq q) (once eq ks) ≡ list_any (eq q) ks
  any_once q [] = refl
  any_once q (k ∷ ks) = by (eq q k) refl (any_once q ks)
    where
      by : (c : Bool) → eq q k ≡ c → list_any (eq q) (once eq ks) ≡ list_any (eq q) ks → (c || list_any (eq q) (others k (once eq ks))) ≡ (c || list_any (eq q) ks)
      by true is rest = refl
      by false is rest = any_kept k q (once eq ks) is ∙ rest

  -- one more key goes last, unless it is there
  once_next : (ks : List K) (q : K) → once eq (ks ++ q ∷ []) ≡ cond (list_any (eq q) (once eq ks)) (once eq ks) (once eq ks ++ q ∷ [])
  once_next [] q = refl
  once_next (x ∷ ks) q = ap (λ (rest : List K). x ∷ others x rest) (once_next ks q) ∙ by (eq q x) (list_any (eq q) (once eq ks)) refl refl
    where
      old : List K
      old = once eq ks

      last : (c : Bool) → eq x q ≡ c → others x (old ++ q ∷ []) ≡ others x old ++ cond (not c) (q ∷ []) []
      last c is = filter-append (λ (k : K). not (eq x k)) old (q ∷ []) ∙ ap (λ (d : Bool). others x old ++ cond (not d) (q ∷ []) []) is

      by : (c d : Bool) → eq q x ≡ c → list_any (eq q) old ≡ d → x ∷ others x (cond d old (old ++ q ∷ [])) ≡ cond (c || list_any (eq q) (others x old)) (x ∷ others x old) (x ∷ others x old ++ q ∷ [])
      by true true same there = refl
      by true false same there =
          ap (λ (rest : List K). x ∷ rest) (last true (ap (eq x) (equals q x same) ∙ itself x) ∙ append-nil (others x old))
      by false true same there = ap (λ (e : Bool). cond e (x ∷ others x old) (x ∷ others x old ++ q ∷ [])) (sym (any_kept x q old same ∙ there))
      by false false same there =
          ap (λ (rest : List K). x ∷ rest) (last false (other_way q x same))
          ∙ ap (λ (e : Bool). cond e (x ∷ others x old) (x ∷ others x old ++ q ∷ [])) (sym (any_kept x q old same ∙ there))

  -- no two of them are the same
  abbrev Differ : List K → Type 0
  Differ [] = Unit {0}
  Differ (k ∷ ks) = (list_any (eq k) ks ≡ false) × Differ ks

  fewer_differ : (x : K) (ks : List K) → Differ ks → Differ (others x ks)
  fewer_differ x [] differ = tt
  fewer_differ x (k ∷ ks) differ = by (eq x k) refl (fewer_differ x ks differ.1)
    where
      by : (c : Bool) → eq x k ≡ c → Differ (others x ks) → Differ (cond (not c) (k ∷ others x ks) (others x ks))
      by true is rest = rest
      by false is rest = (any_kept x k ks (other_way x k is) ∙ differ.0, rest)

  once_differ : (ks : List K) → Differ (once eq ks)
  once_differ [] = tt
  once_differ (k ∷ ks) = (none_kept k (once eq ks), fewer_differ k (once eq ks) (once_differ ks))

  module _ {V : Type 0} where
    abbrev rows_of : (K → V) → List K → List (K × V)
    rows_of f ks = map {B = K × V} (λ (k : K). (k, f k)) ks

    -- the row of a key that is there
    found_row : (f : K → V) (q : K) (ks : List K) → lookup (eq q) (rows_of f ks) ≡ cond (list_any (eq q) ks) (Some (f q)) None
    found_row f q [] = refl
    found_row f q (k ∷ ks) = by (eq q k) refl (found_row f q ks)
      where
        by : (c : Bool) → eq q k ≡ c → lookup (eq q) (rows_of f ks) ≡ cond (list_any (eq q) ks) (Some (f q)) None
            → cond c (Some (f k)) (lookup (eq q) (rows_of f ks)) ≡ cond (c || list_any (eq q) ks) (Some (f q)) None
        by true is rest = ap (λ (x : K). Some (f x)) (sym (equals q k is))
        by false is rest = rest

    -- with w for one key
    abbrev but : (K → V) → K → V → K → V
    but f q w k = cond (eq q k) w (f k)

    rows_stay : (f : K → V) (q : K) (w : V) (ks : List K) → list_any (eq q) ks ≡ false → rows_of f ks ≡ rows_of (but f q w) ks
    rows_stay f q w [] none = refl
    rows_stay f q w (k ∷ ks) none = by (eq q k) none (λ n. rows_stay f q w ks n)
      where
        by : (c : Bool) → (c || list_any (eq q) ks) ≡ false → (list_any (eq q) ks ≡ false → rows_of f ks ≡ rows_of (but f q w) ks)
            → rows_of f (k ∷ ks) ≡ (k, cond c w (f k)) ∷ rows_of (but f q w) ks
        by true n rest = absurd (true≢false n)
        by false n rest = ap (λ (others : List (K × V)). (k, f k) ∷ others) (rest n)

    -- the row of a key is written, or a new key's goes last
    row_written : (f : K → V) (q : K) (w : V) (ks : List K) → Differ ks
        → insert_entry eq (rows_of f ks) q w ≡ rows_of (but f q w) (cond (list_any (eq q) ks) ks (ks ++ q ∷ []))
    row_written f q w [] differ = ap (λ (c : Bool). (q, cond c w (f q)) ∷ []) (sym (itself q))
    row_written f q w (k ∷ ks) differ = by (eq q k) refl (row_written f q w ks differ.1)
      where
        front : (c d : Bool) → eq q k ≡ d → d ≡ false → (k, f k) ∷ rows_of (but f q w) (cond c ks (ks ++ q ∷ [])) ≡ rows_of (but f q w) (cond c (k ∷ ks) (k ∷ ks ++ q ∷ []))
        front true d is none = ap (λ (e : Bool). (k, cond e w (f k)) ∷ rows_of (but f q w) ks) (sym (is ∙ none))
        front false d is none = ap (λ (e : Bool). (k, cond e w (f k)) ∷ rows_of (but f q w) (ks ++ q ∷ [])) (sym (is ∙ none))

        by : (c : Bool) → eq q k ≡ c → insert_entry eq (rows_of f ks) q w ≡ rows_of (but f q w) (cond (list_any (eq q) ks) ks (ks ++ q ∷ []))
            → cond c ((k, w) ∷ rows_of f ks) ((k, f k) ∷ insert_entry eq (rows_of f ks) q w) ≡ rows_of (but f q w) (cond (c || list_any (eq q) ks) (k ∷ ks) (k ∷ ks ++ q ∷ []))
        by true is rest =
            (λ i. (k, cond (sym is i) w (f k)) ∷ rows_stay f q w ks (subst (λ (x : K). list_any (eq x) ks ≡ false) (sym (equals q k is)) differ.0) i)
        by false is rest = ap (λ (others : List (K × V)). (k, f k) ∷ others) rest ∙ front (list_any (eq q) ks) (eq q k) refl is

    -- ---- rows that go on with each item
    module _ {A : Type 0} (key : A → K) (val : List A → K → V) (first : K → V) (step : A → V → V) (none : (k : K) → val [] k ≡ first k)
        (next : (xs : List A) (x : A) (k : K) → val (xs ++ x ∷ []) k ≡ cond (eq (key x) k) (step x (val xs k)) (val xs k)) where
      -- a row for each key, where it first comes
      abbrev table : List A → List (K × V)
      table xs = rows_of (val xs) (once eq (map key xs))

      -- the value of a key that has not come
      absent : (q : K) (before xs : List A) → val before q ≡ first q → list_any (eq q) (map key xs) ≡ false → val (before ++ xs) q ≡ first q
      absent q before [] so_far gone = ap (λ (ys : List A). val ys q) (append-nil before) ∙ so_far
      absent q before (x ∷ xs) so_far gone = by (eq q (key x)) refl gone (λ far n. absent q (before ++ x ∷ []) xs far n)
        where
          by : (c : Bool) → eq q (key x) ≡ c → (c || list_any (eq q) (map key xs)) ≡ false
              → (val (before ++ x ∷ []) q ≡ first q → list_any (eq q) (map key xs) ≡ false → val ((before ++ x ∷ []) ++ xs) q ≡ first q) → val (before ++ x ∷ xs) q ≡ first q
          by true is n rest = absurd (true≢false n)
          by false is n rest =
              ap (λ (ys : List A). val ys q) (sym (append_assoc before (x ∷ []) xs))
              ∙ rest (next before x q ∙ ap (λ (c : Bool). cond c (step x (val before q)) (val before q)) (other_way q (key x) is) ∙ so_far) n

      -- of any key: the value of its row, or the first
      pub value_of : (xs : List A) (q : K) → unwrap_or (lookup (eq q) (table xs)) (first q) ≡ val xs q
      value_of xs q = ap (λ (found : Option V). unwrap_or found (first q)) (found_row (val xs) q (once eq (map key xs)) ∙ ap (λ (c : Bool). cond c (Some (val xs q)) None) (any_once q (map key xs))) ∙ by (list_any (eq q) (map key xs)) refl
        where
          by : (c : Bool) → list_any (eq q) (map key xs) ≡ c → unwrap_or (cond c (Some (val xs q)) None) (first q) ≡ val xs q
          by true is = refl
          by false is = sym (absent q [] xs (none q) is)

      stepped : (xs : List A) (x : A) (ks : List K) → rows_of (but (val xs) (key x) (step x (val xs (key x)))) ks ≡ rows_of (val (xs ++ x ∷ [])) ks
      stepped xs x [] = refl
      stepped xs x (k ∷ ks) = λ i. (k, by (eq (key x) k) refl i) ∷ stepped xs x ks i
        where
          by : (c : Bool) → eq (key x) k ≡ c → cond c (step x (val xs (key x))) (val xs k) ≡ val (xs ++ x ∷ []) k
          by true is =
              ap (λ (q : K). step x (val xs q)) (equals (key x) k is)
              ∙ sym (next xs x k ∙ ap (λ (c : Bool). cond c (step x (val xs k)) (val xs k)) is)
          by false is = sym (next xs x k ∙ ap (λ (c : Bool). cond c (step x (val xs k)) (val xs k)) is)

      -- one more item
      pub table_next : (xs : List A) (x : A) → insert_entry eq (table xs) (key x) (step x (unwrap_or (lookup (eq (key x)) (table xs)) (first (key x)))) ≡ table (xs ++ x ∷ [])
      table_next xs x =
          ap (λ (v : V). insert_entry eq (table xs) (key x) (step x v)) (value_of xs (key x))
          ∙ row_written (val xs) (key x) (step x (val xs (key x))) (once eq (map key xs)) (once_differ (map key xs))
          ∙ ap (rows_of (but (val xs) (key x) (step x (val xs (key x))))) (sym (once_next (map key xs) (key x)) ∙ ap (once eq) (sym (map_push key xs x)))
          ∙ stepped xs x (once eq (map key (xs ++ x ∷ [])))

      -- and many more
      pub table_from : (before xs : List A)
          → fold (λ (es : List (K × V)) (x : A). insert_entry eq es (key x) (step x (unwrap_or (lookup (eq (key x)) es) (first (key x))))) (table before) xs ≡ table (before ++ xs)
      table_from before [] = ap table (sym (append-nil before))
      table_from before (x ∷ xs) =
          ap (λ (start : List (K × V)). fold (λ (es : List (K × V)) (y : A). insert_entry eq es (key y) (step y (unwrap_or (lookup (eq (key y)) es) (first (key y))))) start xs) (table_next before x)
          ∙ table_from (before ++ x ∷ []) xs
          ∙ ap table (append_assoc before (x ∷ []) xs)

      -- and of the rows alone, where a row tells its key
      listed : (keyed : V → K) → ((xs : List A) (k : K) → keyed (val xs k) ≡ k) → (xs : List A) (q : K) (ks : List K)
          → find (λ (v : V). eq q (keyed v)) (map (val xs) ks) ≡ lookup (eq q) (rows_of (val xs) ks)
      listed keyed is xs q [] = refl
      listed keyed is xs q (k ∷ ks) = λ i. cond (eq q (is xs k i)) (Some (val xs k)) (listed keyed is xs q ks i)

      pub listed_value_of : (keyed : V → K) → ((xs : List A) (k : K) → keyed (val xs k) ≡ k) → (xs : List A) (q : K)
          → unwrap_or (find (λ (v : V). eq q (keyed v)) (map (val xs) (once eq (map key xs)))) (first q) ≡ val xs q
      listed_value_of keyed is xs q = ap (λ (found : Option V). unwrap_or found (first q)) (listed keyed is xs q (once eq (map key xs))) ∙ value_of xs q
