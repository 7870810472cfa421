-- An order is found by its number among those that are live.
use Rattle.std.proofs.{Common.{◌≡◌, ◌≤◌, ℕ, zero, suc, ◌+◌, Bool, true, false, not, cond, List, [], ◌∷◌, length, refl, ◌∙◌, sym, ap, arith, if◌then◌else◌}, lemmas.{Bool.{eqb-true, lt-ltb, le-ltb, ltb-false, false_from_ne_true, and_parts}, Option.{slice_get_within, slice_get_past, same_Some}}}
use Rattle.std.specs.{Prelude.{Option, Some, None, ◌&&◌, nat_lt, slice_get}, List.{find, position, position_or_len}}
use Rattle.gx_units.specs.{Names.same_account, declared.names.AccountName.AccountName}
use Rattle.gx_history.specs.declared.live_order.LiveOrder.{LiveOrder}
use Rattle.gx_slab.specs.Slabs.{IsPlaced, has_number, is_open, open_ones, live_numbered, order_of, stands_for}

-- ---- what passes a test first

pub found_first : {X : Type 0} (p : X → Bool) (xs : List X) → slice_get xs (position_or_len p xs) ≡ find p xs
found_first p [] = refl
found_first {X} p (x ∷ xs) = by (p x) (found_first p xs)
  where
    by : (b : Bool) → slice_get xs (position_or_len p xs) ≡ find p xs → slice_get (x ∷ xs) (cond (not b) (1 + position_or_len p xs) 0) ≡ cond b (Some x) (find p xs)
    by true later = refl
    by false later = ap (slice_get (x ∷ xs)) (let next : 1 + position_or_len p xs ≡ suc (position_or_len p xs) = omega arith in next) ∙ later

pub found_open : (q : LiveOrder → Bool) (rows : List LiveOrder) → find (λ (o : LiveOrder). is_open o && q o) rows ≡ find q (open_ones rows)
found_open q [] = refl
found_open q (x ∷ rows) = by (is_open x) (q x) refl (found_open q rows)
  where
    by : (a b : Bool) → q x ≡ b → find (λ (o : LiveOrder). is_open o && q o) rows ≡ find q (open_ones rows)
        → cond (a && b) (Some x) (find (λ (o : LiveOrder). is_open o && q o) rows) ≡ find q (cond a (x ∷ open_ones rows) (open_ones rows))
    by true true e later = ap (λ (b : Bool). cond b (Some x) (find q (open_ones rows))) (sym e)
    by true false e later = later ∙ ap (λ (b : Bool). cond b (Some x) (find q (open_ones rows))) (sym e)
    by false b e later = later

passes_nowhere : {X : Type 0} (p : X → Bool) (xs : List X) → ((i : ℕ) (x : X) → slice_get xs i ≡ Some x → p x ≡ false) → position_or_len p xs ≡ length xs
passes_nowhere p [] never = refl
passes_nowhere p (x ∷ xs) never =
    ap (λ (b : Bool). cond (not b) (1 + position_or_len p xs) 0) (never 0 x refl)
    ∙ omega (arith, passes_nowhere p xs (λ i y at. never (suc i) y at))

passes_once : {X : Type 0} (p : X → Bool) (xs : List X) (i : ℕ) (x : X) → slice_get xs i ≡ Some x → p x ≡ true → ((k : ℕ) (y : X) → slice_get xs k ≡ Some y → p y ≡ true → k ≡ i) → position_or_len p xs ≡ i
passes_once p [] i x at is alone = let never : None ≡ Some x = at in cc
passes_once p (y ∷ xs) zero x at is alone = ap (λ (b : Bool). cond (not b) (1 + position_or_len p xs) 0) (ap p (same_Some _ _ at) ∙ is)
passes_once p (y ∷ xs) (suc i) x at is alone =
    ap (λ (b : Bool). cond (not b) (1 + position_or_len p xs) 0) (false_from_ne_true (p y) (λ h. omega (arith, alone 0 y refl h)))
    ∙ omega (arith, passes_once p xs i x at is (λ k z e h. omega (arith, alone (suc k) z e h)))

position_at : {X : Type 0} (p : X → Bool) (xs : List X) (i : ℕ) → (b : Bool) → nat_lt (position_or_len p xs) (length xs) ≡ b → cond b (Some (position_or_len p xs)) None ≡ Some i → position_or_len p xs ≡ i
position_at p xs i true e h = same_Some _ _ h
position_at p xs i false e h = let never : None ≡ Some i = h in cc

nowhere : {X : Type 0} (p : X → Bool) (xs : List X) (b : Bool) → nat_lt (position_or_len p xs) (length xs) ≡ b → cond b (Some (position_or_len p xs)) None ≡ None → length xs ≤ position_or_len p xs
nowhere p xs true e h = let never : Some (position_or_len p xs) ≡ None = h in cc
nowhere p xs false e h = ltb-false (position_or_len p xs) (length xs) e

-- ---- where the live order of a number stands

pub place_is : {X : Type 0} (p : X → Bool) (xs : List X) (i : ℕ) → position p xs ≡ Some i → position_or_len p xs ≡ i
place_is p xs i at = position_at p xs i (nat_lt (position_or_len p xs) (length xs)) refl at

pub found_at : (rows : List LiveOrder) (n i : ℕ) → position (stands_for n) rows ≡ Some i → slice_get rows i ≡ live_numbered (open_ones rows) n
found_at rows n i at = ap (slice_get rows) (sym (place_is (stands_for n) rows i at)) ∙ found_first (stands_for n) rows ∙ found_open (has_number n) rows

pub found_nowhere : (rows : List LiveOrder) (n : ℕ) → position (stands_for n) rows ≡ None → live_numbered (open_ones rows) n ≡ None
found_nowhere rows n at =
    sym (found_first (stands_for n) rows ∙ found_open (has_number n) rows)
    ∙ slice_get_past rows (position_or_len (stands_for n) rows) (nowhere (stands_for n) rows (nat_lt (position_or_len (stands_for n) rows) (length rows)) refl at)

-- ---- by the places

-- a live row of the number stands where the places say
said : (places : List ℕ) (rows : List LiveOrder) (n : ℕ) → IsPlaced places rows → (k : ℕ) (p : LiveOrder) → slice_get rows k ≡ Some p → stands_for n p ≡ true → slice_get places n ≡ Some k
said places rows n placed k p at is =
    let parts = and_parts (is_open p) (has_number n p) is in
    ap (slice_get places) (sym (eqb-true p.number n parts.1)) ∙ placed k p at parts.0

-- no other row has it
pub alone : (places : List ℕ) (rows : List LiveOrder) (n i : ℕ) (o : LiveOrder) → IsPlaced places rows → slice_get rows i ≡ Some o → stands_for n o ≡ true
    → (k : ℕ) (p : LiveOrder) → slice_get rows k ≡ Some p → stands_for n p ≡ true → k ≡ i
alone places rows n i o placed at is k p e h = same_Some _ _ (sym (said places rows n placed k p e h) ∙ said places rows n placed i o at is)

pub placed_at : (places : List ℕ) (rows : List LiveOrder) (n i : ℕ) (o : LiveOrder) → IsPlaced places rows → slice_get rows i ≡ Some o → stands_for n o ≡ true → position (stands_for n) rows ≡ Some i
placed_at places rows n i o placed at is =
    ap (λ (k : ℕ). cond (nat_lt k (length rows)) (Some k) None) (passes_once (stands_for n) rows i o at is (alone places rows n i o placed at is))
    ∙ ap (λ (b : Bool). cond b (Some i) None) (lt-ltb i (length rows) (slice_get_within rows i o at))

pub placed_nowhere : (places : List ℕ) (rows : List LiveOrder) (n : ℕ) → IsPlaced places rows
    → ((i : ℕ) (o : LiveOrder) → slice_get places n ≡ Some i → slice_get rows i ≡ Some o → stands_for n o ≡ false) → position (stands_for n) rows ≡ None
placed_nowhere places rows n placed never =
    ap (λ (k : ℕ). cond (nat_lt k (length rows)) (Some k) None)
    (passes_nowhere (stands_for n) rows (λ i o at. false_from_ne_true (stands_for n o) (λ is. wrong i o at is (never i o (said places rows n placed i o at is) at))))
    ∙ ap (λ (b : Bool). cond b (Some (length rows)) None) (le-ltb (length rows) (length rows) (omega arith))
  where
    wrong : (i : ℕ) (o : LiveOrder) → slice_get rows i ≡ Some o → stands_for n o ≡ true → stands_for n o ≡ false → ⊥
    wrong i o at is not_it = let never : true ≡ false = sym is ∙ not_it in cc

pub no_place : (places : List ℕ) (rows : List LiveOrder) (n : ℕ) → IsPlaced places rows → slice_get places n ≡ None → None ≡ position (stands_for n) rows
no_place places rows n placed none =
    sym (placed_nowhere places rows n placed (λ i o at there. let never : None ≡ Some i = sym none ∙ at in let wrong : ⊥ = cc in elim wrong [ ]))

pub no_row : (places : List ℕ) (rows : List LiveOrder) (n i : ℕ) → IsPlaced places rows → slice_get places n ≡ Some i → slice_get rows i ≡ None → None ≡ position (stands_for n) rows
no_row places rows n i placed here none =
    sym (placed_nowhere places rows n placed (λ k o at there. let never : None ≡ Some o = sym none ∙ ap (slice_get rows) (same_Some _ _ (sym here ∙ at)) ∙ there in let wrong : ⊥ = cc in elim wrong [ ]))

pub other_row : (places : List ℕ) (rows : List LiveOrder) (n i : ℕ) (o : LiveOrder) → IsPlaced places rows → slice_get places n ≡ Some i → slice_get rows i ≡ Some o → stands_for n o ≡ false → None ≡ position (stands_for n) rows
other_row places rows n i o placed here it differs =
    sym (placed_nowhere places rows n placed (λ k p at there.
    ap (stands_for n) (same_Some _ _ (sym there ∙ ap (slice_get rows) (same_Some _ _ (sym at ∙ here)) ∙ it)) ∙ differs))

pub this_row : (places : List ℕ) (rows : List LiveOrder) (n i : ℕ) (o : LiveOrder) → IsPlaced places rows → slice_get rows i ≡ Some o → stands_for n o ≡ true → Some i ≡ position (stands_for n) rows
this_row places rows n i o placed it is = sym (placed_at places rows n i o placed it is)

-- ---- of an account

-- the order, where it is one of the account
abbrev pub kept_of : AccountName → Option LiveOrder → Option LiveOrder
kept_of account found = elim found [ None ↦ None | Some o ↦ if same_account account o.account then Some o else None ]

none_of : (account : AccountName) (rows : List LiveOrder) (n : ℕ) → ((k : ℕ) (p : LiveOrder) → slice_get rows k ≡ Some p → stands_for n p ≡ true → ⊥) → order_of account (open_ones rows) n ≡ None
none_of account [] n never = refl
none_of account (x ∷ rows) n never = by (is_open x) refl (none_of account rows n (λ k p at is. never (suc k) p at is))
  where
    by : (b : Bool) → is_open x ≡ b → order_of account (open_ones rows) n ≡ None → order_of account (cond b (x ∷ open_ones rows) (open_ones rows)) n ≡ None
    by true e later =
        ap (λ (b : Bool). cond (b && same_account account x.account) (Some x) (order_of account (open_ones rows) n))
        (false_from_ne_true (has_number n x) (λ h. never 0 x refl (ap (λ (b : Bool). b && has_number n x) e ∙ h)))
        ∙ later
    by false e later = later

-- the live order of a number that is one of the account: where no two rows live under one number
order_kept : (account : AccountName) (rows : List LiveOrder) (n : ℕ)
    → ((i k : ℕ) (o p : LiveOrder) → slice_get rows i ≡ Some o → stands_for n o ≡ true → slice_get rows k ≡ Some p → stands_for n p ≡ true → k ≡ i)
    → order_of account (open_ones rows) n ≡ kept_of account (live_numbered (open_ones rows) n)
order_kept account [] n apart = refl
order_kept account (x ∷ rows) n apart =
    by (is_open x) refl (order_kept account rows n (λ i k o p at is e h. omega (arith, apart (suc i) (suc k) o p at is e h)))
  where
    it : has_number n x ≡ true → is_open x ≡ true → (same : Bool) → cond same (Some x) (order_of account (open_ones rows) n) ≡ (if same then Some x else None)
    it is lives true = refl
    it is lives false = none_of account rows n (λ k p at h. omega (arith, apart 0 (suc k) x p refl (ap (λ (b : Bool). b && has_number n x) lives ∙ is) at h))

    numbered : (b : Bool) → has_number n x ≡ b → is_open x ≡ true → order_of account (open_ones rows) n ≡ kept_of account (live_numbered (open_ones rows) n)
        → cond (b && same_account account x.account) (Some x) (order_of account (open_ones rows) n) ≡ kept_of account (cond b (Some x) (live_numbered (open_ones rows) n))
    numbered true is lives later = it is lives (same_account account x.account)
    numbered false is lives later = later

    by : (b : Bool) → is_open x ≡ b → order_of account (open_ones rows) n ≡ kept_of account (live_numbered (open_ones rows) n)
        → order_of account (cond b (x ∷ open_ones rows) (open_ones rows)) n ≡ kept_of account (live_numbered (cond b (x ∷ open_ones rows) (open_ones rows)) n)
    by true e later = numbered (has_number n x) refl e later
    by false e later = later

-- as it is found by its place
pub order_found : (account : AccountName) (places : List ℕ) (rows : List LiveOrder) (n : ℕ) (found : Option LiveOrder) → IsPlaced places rows → live_numbered (open_ones rows) n ≡ found
    → kept_of account found ≡ order_of account (open_ones rows) n
order_found account places rows n found placed is =
    sym (order_kept account rows n (λ i k o p at stands e h. alone places rows n i o placed at stands k p e h) ∙ ap (kept_of account) is)
