-- An order is written in the place of the one of its number.
use Rattle.std.proofs.{Common.{◌≡◌, ◌<◌, ◌-◌, ℕ, zero, suc, ◌+◌, Bool, true, false, cond, List, [], ◌∷◌, map, length, set, refl, ◌∙◌, sym, ap, arith, ◌==◌, if◌then◌else◌}, lemmas.{Bool.{eqb-true, eqb-false, false_from_ne_true, and_parts, and_from}, List.Quantifiers.position-Some, Option.{slice_get_within, slice_get-get_or, same_Some}}}
use Rattle.std.specs.{Prelude.{Option, Some, None, slice_get, get_or}, List.position, Option.option_map_or}
use Rattle.gx_history.specs.declared.live_order.LiveOrder.{LiveOrder}
use Rattle.gx_slab.proofs.{Order_found.{alone, found_at, found_nowhere}, Order_put.{fresh_apart, is_set, others_stay}}
use Rattle.gx_slab.specs.Slabs.{IsPlaced, at_rest, has_number, is_open, live_numbered, open_ones, stands_for, live_with}

-- the order in the place of the one of its number
abbrev in_place : LiveOrder → LiveOrder → LiveOrder
in_place o x = if has_number o.number x then o else x

-- those that are live are all live
pub open_twice : (rows : List LiveOrder) → open_ones (open_ones rows) ≡ open_ones rows
open_twice [] = refl
open_twice (x ∷ rows) = by (open_twice rows) (is_open x) refl
  where
    by : open_ones (open_ones rows) ≡ open_ones rows → (b : Bool) → is_open x ≡ b → open_ones (cond b (x ∷ open_ones rows) (open_ones rows)) ≡ cond b (x ∷ open_ones rows) (open_ones rows)
    by later true e = ap (λ (b : Bool). cond b (x ∷ open_ones (open_ones rows)) (open_ones (open_ones rows))) e ∙ ap (λ (xs : List LiveOrder). x ∷ xs) later
    by later false e = later

-- where no live row has the number, nothing changes
none_written : (o : LiveOrder) (rows : List LiveOrder) → ((i : ℕ) (p : LiveOrder) → slice_get rows i ≡ Some p → is_open p ≡ true → has_number o.number p ≡ false) → map (in_place o) (open_ones rows) ≡ open_ones rows
none_written o [] apart = refl
none_written o (x ∷ rows) apart = by (none_written o rows (λ i p at lives. apart (suc i) p at lives)) (is_open x) refl
  where
    by : map (in_place o) (open_ones rows) ≡ open_ones rows → (b : Bool) → is_open x ≡ b → map (in_place o) (cond b (x ∷ open_ones rows) (open_ones rows)) ≡ cond b (x ∷ open_ones rows) (open_ones rows)
    by later true e = ap (λ (b : Bool). (if b then o else x) ∷ map (in_place o) (open_ones rows)) (apart 0 x refl e) ∙ ap (λ (xs : List LiveOrder). x ∷ xs) later
    by later false e = later

pub nothing_written : (rows : List LiveOrder) (o : LiveOrder) → position (stands_for o.number) rows ≡ None → open_ones rows ≡ live_with o (open_ones rows)
nothing_written rows o none =
    sym (ap open_ones (none_written o rows (λ i p at lives. false_from_ne_true (has_number o.number p) (λ h.
    fresh_apart rows o.number (found_nowhere rows o.number none) i p at lives (eqb-true p.number o.number h)))) ∙ open_twice rows)

-- the live rows, with another order in the place of the one of its number
shown_written : (rows : List LiveOrder) (o p : LiveOrder) (i : ℕ) → slice_get rows i ≡ Some p → is_open p ≡ true → has_number o.number p ≡ true
    → ((k : ℕ) (q : LiveOrder) → slice_get rows k ≡ Some q → is_open q ≡ true → has_number o.number q ≡ true → k ≡ i)
    → open_ones (set rows i o) ≡ live_with o (open_ones rows)
shown_written [] o p i at lives is apart = let never : None ≡ Some p = at in cc
shown_written (x ∷ rows) o p zero at lives is apart =
    let same : x ≡ p = same_Some _ _ at in
    let kept = none_written o rows (λ k q e l. false_from_ne_true (has_number o.number q) (λ h. omega (arith, apart (suc k) q e l h))) in
    sym (ap (λ (b : Bool). open_ones (map (in_place o) (cond b (x ∷ open_ones rows) (open_ones rows)))) (ap is_open same ∙ lives)
    ∙ ap (λ (b : Bool). open_ones ((if b then o else x) ∷ map (in_place o) (open_ones rows))) (ap (has_number o.number) same ∙ is)
    ∙ ap (λ (xs : List LiveOrder). open_ones (o ∷ xs)) kept
    ∙ ap (λ (xs : List LiveOrder). cond (is_open o) (o ∷ xs) xs) (open_twice rows))
shown_written (x ∷ rows) o p (suc i) at lives is apart =
    by (shown_written rows o p i at lives is (λ k q e l h. omega (arith, apart (suc k) q e l h))) (is_open x) refl
  where
    by : open_ones (set rows i o) ≡ live_with o (open_ones rows) → (b : Bool) → is_open x ≡ b
        → cond b (x ∷ open_ones (set rows i o)) (open_ones (set rows i o)) ≡ live_with o (cond b (x ∷ open_ones rows) (open_ones rows))
    by later true e =
        let other : has_number o.number x ≡ false = false_from_ne_true (has_number o.number x) (λ h. omega (arith, apart 0 x refl e h)) in
        sym (ap (λ (b : Bool). open_ones ((if b then o else x) ∷ map (in_place o) (open_ones rows))) other
        ∙ ap (λ (b : Bool). cond b (x ∷ live_with o (open_ones rows)) (live_with o (open_ones rows))) e
        ∙ ap (λ (xs : List LiveOrder). x ∷ xs) (sym later))
    by later false e = later

-- one live row, less or not
count_written : (rows : List LiveOrder) (o p : LiveOrder) (i : ℕ) → slice_get rows i ≡ Some p → is_open p ≡ true → length (open_ones (set rows i o)) + 1 ≡ length (open_ones rows) + (if is_open o then 1 else 0)
count_written [] o p i at lives = let never : None ≡ Some p = at in cc
count_written (x ∷ rows) o p zero at lives =
    by (is_open o) (ap (λ (b : Bool). length (cond b (x ∷ open_ones rows) (open_ones rows))) (ap is_open (same_Some _ _ at) ∙ lives))
  where
    by : (b : Bool) → length (open_ones (x ∷ rows)) ≡ length (x ∷ open_ones rows) → length (cond b (o ∷ open_ones rows) (open_ones rows)) + 1 ≡ length (open_ones (x ∷ rows)) + (if b then 1 else 0)
    by true is = omega (arith, is)
    by false is = omega (arith, is)
count_written (x ∷ rows) o p (suc i) at lives = by (is_open x) (count_written rows o p i at lives)
  where
    more : ℕ
    more = if is_open o then 1 else 0

    by : (b : Bool) → length (open_ones (set rows i o)) + 1 ≡ length (open_ones rows) + more
        → length (cond b (x ∷ open_ones (set rows i o)) (open_ones (set rows i o))) + 1 ≡ length (cond b (x ∷ open_ones rows) (open_ones rows)) + more
    by true later = omega (arith, later)
    by false later = later

-- ---- the table

placed_set : (places : List ℕ) (rows : List LiveOrder) (o p : LiveOrder) (i : ℕ) → IsPlaced places rows → slice_get rows i ≡ Some p → is_open p ≡ true → p.number ≡ o.number → IsPlaced places (set rows i o)
placed_set places rows o p i placed at lives is j q e live = by (j == i) refl
  where
    by : (b : Bool) → (j == i) ≡ b → slice_get places q.number ≡ Some j
    by true same =
        let here : j ≡ i = eqb-true j i same in
        let it : q ≡ o = same_Some _ _ (sym e ∙ ap (slice_get (set rows i o)) here ∙ is_set rows i o (slice_get_within rows i p at)) in
        ap (λ (y : LiveOrder). slice_get places y.number) it ∙ ap (slice_get places) (sym is) ∙ placed i p at lives ∙ ap (λ (k : ℕ). Some k) (sym here)
    by false other = placed j q (sym (others_stay rows i j o (eqb-false j i other)) ∙ e) live

-- what is written at the place of the number
pub record IsWritten (places : List ℕ) (rows : List LiveOrder) (o : LiveOrder) (i : ℕ) : Type 0 where
  pub within : i < length rows
  pub placed : IsPlaced places (set rows i o)
  pub shown : open_ones (set rows i o) ≡ live_with o (open_ones rows)
  pub counted : (if is_open o then length (open_ones rows) else length (open_ones rows) - 1) ≡ length (open_ones (set rows i o))

pub is_written : (places : List ℕ) (rows : List LiveOrder) (o : LiveOrder) (i : ℕ) → IsPlaced places rows → position (stands_for o.number) rows ≡ Some i → IsWritten places rows o i
is_written places rows o i placed found =
    let there = position-Some (stands_for o.number) rows i o found in
    at_row (get_or rows i o) (slice_get-get_or rows i o there.0) there.1
  where
    counts : (b : Bool) (n m : ℕ) → m + 1 ≡ n + (if b then 1 else 0) → (if b then n else n - 1) ≡ m
    counts true n m h = omega (arith, h)
    counts false n m h = omega (arith, h)

    at_row : (p : LiveOrder) → slice_get rows i ≡ Some p → stands_for o.number p ≡ true → IsWritten places rows o i
    at_row p at is =
        let parts = and_parts (is_open p) (has_number o.number p) is in
        record {
          within = slice_get_within rows i p at;
          placed = placed_set places rows o p i placed at parts.0 (eqb-true p.number o.number parts.1);
          shown = shown_written rows o p i at parts.0 parts.1 (λ k q e l h. alone places rows o.number i p placed at is k q e (and_from (is_open q) (has_number o.number q) l h));
          counted = counts (is_open o) (length (open_ones rows)) (length (open_ones (set rows i o))) (count_written rows o p i at parts.0);
        }

-- the live order at the place of its number, once it waits no more
pub record IsRested (places : List ℕ) (rows : List LiveOrder) (number : ℕ) (r : LiveOrder) (i : ℕ) : Type 0 where
  pub placed : IsPlaced places (set rows i (at_rest r))
  pub shown : open_ones (set rows i (at_rest r)) ≡ option_map_or (λ (o : LiveOrder). live_with (at_rest o) (open_ones rows)) (live_numbered (open_ones rows) number) (open_ones rows)
  pub counted : length (open_ones rows) ≡ length (open_ones (set rows i (at_rest r)))

pub is_rested : (places : List ℕ) (rows : List LiveOrder) (number : ℕ) (r : LiveOrder) (i : ℕ) → IsPlaced places rows → position (stands_for number) rows ≡ Some i → r ≡ get_or rows i r
    → IsRested places rows number r i
is_rested places rows number r i placed found at =
    let there = position-Some (stands_for number) rows i r found in
    let parts = and_parts (is_open r) (has_number number r) (ap (stands_for number) at ∙ there.1) in
    let w = is_written places rows (at_rest r) i placed (ap (λ (n : ℕ). position (stands_for n) rows) (eqb-true r.number number parts.1) ∙ found) in
    record {
      placed = w.placed;
      shown =
          w.shown
          ∙ ap (λ (o : Option LiveOrder). option_map_or (λ (p : LiveOrder). live_with (at_rest p) (open_ones rows)) o (open_ones rows)) (ap (λ (p : LiveOrder). Some p) at ∙ sym (slice_get-get_or rows i r there.0) ∙ found_at rows number i found);
      counted = sym (ap (λ (b : Bool). if b then length (open_ones rows) else length (open_ones rows) - 1) parts.0) ∙ w.counted;
    }

pub none_rested : (rows : List LiveOrder) (number : ℕ) → position (stands_for number) rows ≡ None
    → open_ones rows ≡ option_map_or (λ (o : LiveOrder). live_with (at_rest o) (open_ones rows)) (live_numbered (open_ones rows) number) (open_ones rows)
none_rested rows number none =
    ap (λ (o : Option LiveOrder). option_map_or (λ (p : LiveOrder). live_with (at_rest p) (open_ones rows)) o (open_ones rows)) (sym (found_nowhere rows number none))
