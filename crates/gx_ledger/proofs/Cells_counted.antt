-- Enters counted by cells.
use Rattle.std.proofs.{Common.{◌≡◌, ℕ, ◌+◌, ◌-◌, ◌<◌, ◌≤◌, min, Bool, true, false, cond, ◌&&◌, List, [], ◌∷◌, ◌++◌, length, set, get_or, drop, Some, None, if◌then◌else◌, refl, sym, ap, subst, ◌∙◌, arith}, lemmas.{Option.{none-some, same_Some}, Slice.Eq.bytes_eq-Decides, Bool.{and_parts, eqb-true, eqb-false, ltb-false}, List.{get_or_default, get_or-set_same, get_or-set_other, length-append, length-set, Sums.{sum_by-cons, sum_by-le-sum_by, sum_by_push}}}}
use Rattle.std.specs.Prelude.{◌==◌, count_by, nat_lt, slice_get}
use Rattle.circular_buffer.specs.Buffer.{keep_last}
use Rattle.gx_units.specs.Names.{same_stock}
use Rattle.gx_ledger.specs.{declared.group.RepeatKey.RepeatKey, Cells.{AreCounted, cell_of, one_less}, Running.are_alike}

-- one where it is so
abbrev one_of : Bool → ℕ
one_of b = cond b 1 0

-- one where the Enter falls into the cell
abbrev pub one_in : ℕ → ℕ → RepeatKey → ℕ
one_in cells cell e = one_of (cell_of cells e == cell)

-- how many of the Enters do
abbrev pub in_cell : ℕ → ℕ → List RepeatKey → ℕ
in_cell cells cell enters = count_by (λ (e : RepeatKey). cell_of cells e == cell) enters

-- it falls into its own
own_cell : (cells : ℕ) (e : RepeatKey) (at : ℕ) → at ≡ cell_of cells e → one_in cells at e ≡ 1
own_cell cells e at is = by (cell_of cells e == at) refl
  where
    by : (b : Bool) → (cell_of cells e == at) ≡ b → one_of b ≡ 1
    by true same = refl
    by false differs = absurd (eqb-false (cell_of cells e) at differs (sym is))

-- the count of one cell alone changed
recounted : (cells : List ℕ) (e : RepeatKey) (at count : ℕ) (before after : List RepeatKey) → at ≡ cell_of (length cells) e → at < length cells → (count < 255 → count ≡ in_cell (length cells) at after)
    → ((cell : ℕ) → one_in (length cells) cell e ≡ 0 → in_cell (length cells) cell after ≡ in_cell (length cells) cell before)
    → AreCounted cells before → AreCounted (set cells at count) after
recounted cells e at count before after is within here others counted =
    subst (λ (n : ℕ). (cell : ℕ) → cell < n → get_or (set cells at count) cell 0 < 255 → get_or (set cells at count) cell 0 ≡ in_cell n cell after) (sym (length-set cells at count))
    (λ cell there. by (cell_of (length cells) e == cell) cell refl there)
  where
    Holds : ℕ → Type 0
    Holds cell = get_or (set cells at count) cell 0 < 255 → get_or (set cells at count) cell 0 ≡ in_cell (length cells) cell after

    by : (b : Bool) (cell : ℕ) → (cell_of (length cells) e == cell) ≡ b → cell < length cells → Holds cell
    by true cell same there =
        subst Holds (is ∙ eqb-true (cell_of (length cells) e) cell same) (subst (λ (n : ℕ). n < 255 → n ≡ in_cell (length cells) at after) (sym (get_or-set_same cells at count 0 within)) here)
    by false cell differs there =
        let stays = get_or-set_other cells at cell count 0 (λ here_is. eqb-false (cell_of (length cells) e) cell differs (sym is ∙ sym here_is)) in
        subst (λ (n : ℕ). n < 255 → n ≡ in_cell (length cells) cell after) (sym stays) (λ few. counted cell there few ∙ sym (others cell (ap (λ (b : Bool). one_of b) differs)))

-- one more Enter
pub counted_up : (cells : List ℕ) (e : RepeatKey) (at count found : ℕ) (enters : List RepeatKey) → at ≡ cell_of (length cells) e → at < length cells → found ≡ get_or cells at found
    → count ≡ min (found + 1) 255 → AreCounted cells enters → AreCounted (set cells at count) (enters ++ e ∷ [])
counted_up cells e at count found enters is within read next counted =
    recounted cells e at count enters (enters ++ e ∷ []) is within here (λ cell other. let more = one_more cell in omega (arith, more, other)) counted
  where
    one_more : (cell : ℕ) → in_cell (length cells) cell (enters ++ e ∷ []) ≡ in_cell (length cells) cell enters + one_in (length cells) cell e
    one_more cell = sum_by_push (one_in (length cells) cell) enters e

    here : count < 255 → count ≡ in_cell (length cells) at (enters ++ e ∷ [])
    here few =
        let own = own_cell (length cells) e at is in
        let there = read ∙ get_or_default cells at found 0 within in
        let before = counted at within (grind (arith, few, next, there)) in
        let more = one_more at in
        grind (arith, next, few, own, there, before, more)

-- the first Enter no more
pub counted_down : (cells : List ℕ) (e : RepeatKey) (at count found : ℕ) (enters : List RepeatKey) → at ≡ cell_of (length cells) e → at < length cells → found ≡ get_or cells at found
    → count ≡ one_less found → AreCounted cells (e ∷ enters) → AreCounted (set cells at count) enters
counted_down cells e at count found enters is within read next counted =
    recounted cells e at count (e ∷ enters) enters is within (here (found == 255) refl next) (λ cell other. let more = one_more cell in omega (arith, more, other)) counted
  where
    one_more : (cell : ℕ) → in_cell (length cells) cell (e ∷ enters) ≡ one_in (length cells) cell e + in_cell (length cells) cell enters
    one_more cell = sum_by-cons (one_in (length cells) cell) e enters

    here : (b : Bool) → (found == 255) ≡ b → count ≡ cond b 255 (found - 1) → count < 255 → count ≡ in_cell (length cells) at enters
    here true full none few = absurd (omega (arith, none, few))
    here false fuller less few =
        let own = own_cell (length cells) e at is in
        let there = read ∙ get_or_default cells at found 0 within in
        let other : found ≡ 255 → ⊥ = eqb-false found 255 fuller in
        let before = counted at within (omega (arith, less, few, there, other)) in
        let more = one_more at in
        omega (arith, less, own, there, before, more)

-- like Enters are one
alike_is : (asked e : RepeatKey) → are_alike asked e ≡ true → e ≡ asked
alike_is asked e like =
    let (most, price) = and_parts ((e.side == asked.side && e.shares == asked.shares) && same_stock e.stock asked.stock) (e.price == asked.price) like in
    let (terms, stock) = and_parts (e.side == asked.side && e.shares == asked.shares) (same_stock e.stock asked.stock) most in
    let (side, shares) = and_parts (e.side == asked.side) (e.shares == asked.shares) terms in
    λ i. record {
      side = eqb-true e.side asked.side side i;
      shares = eqb-true e.shares asked.shares shares i;
      stock = record { bytes = (bytes_eq-Decides e.stock.bytes asked.stock.bytes).0 stock i };
      price = eqb-true e.price asked.price price i;
    }

-- no more are like an Enter than fall into its cell
pub few_alike : (cells : List ℕ) (asked : RepeatKey) (at : ℕ) (enters : List RepeatKey) → at ≡ cell_of (length cells) asked → at < length cells → get_or cells at 0 < 255
    → AreCounted cells enters → count_by (are_alike asked) enters ≤ get_or cells at 0
few_alike cells asked at enters is within few counted =
    let fewer = sum_by-le-sum_by (λ (e : RepeatKey). one_of (are_alike asked e)) (one_in (length cells) at) enters (λ e. by e (are_alike asked e) refl) in
    let there = counted at within few in
    omega (arith, fewer, there)
  where
    by : (e : RepeatKey) (b : Bool) → are_alike asked e ≡ b → one_of b ≤ one_in (length cells) at e
    by e true like =
        let own = own_cell (length cells) e at (is ∙ ap (cell_of (length cells)) (sym (alike_is asked e like))) in
        omega (arith, own)
    by e false like = omega arith

-- what a full ring gives up is the first of what it had and gained
pub first_goes : {X : Type 0} (capacity : ℕ) (xs : List X) (x gone : X) → length xs ≤ capacity → (if nat_lt (length xs) capacity then None else slice_get (xs ++ x ∷ []) 0) ≡ Some gone
    → xs ++ x ∷ [] ≡ gone ∷ keep_last capacity (xs ++ x ∷ [])
first_goes {X} capacity xs x gone fits gives = by (nat_lt (length xs) capacity) refl gives
  where
    first : (ys : List X) → capacity + 1 ≡ length ys → slice_get ys 0 ≡ Some gone → ys ≡ gone ∷ keep_last capacity ys
    first [] len is = absurd (omega (arith, len))
    first (y ∷ ys) len is =
        let one : length (y ∷ ys) - capacity ≡ 1 = omega (arith, len) in
        (λ i. same_Some y gone is i ∷ ys) ∙ ap (λ (n : ℕ). gone ∷ drop n (y ∷ ys)) (sym one)

    by : (b : Bool) → nat_lt (length xs) capacity ≡ b → cond b None (slice_get (xs ++ x ∷ []) 0) ≡ Some gone → xs ++ x ∷ [] ≡ gone ∷ keep_last capacity (xs ++ x ∷ [])
    by true less is = absurd (none-some gone is)
    by false full is =
        let most = ltb-false (length xs) capacity full in
        let len = length-append xs (x ∷ []) in
        first (xs ++ x ∷ []) (omega (arith, most, fits, len)) is
