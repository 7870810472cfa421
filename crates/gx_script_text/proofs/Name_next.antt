-- Names that are put into their fields as they are read.
use Rattle.std.proofs.{Common.{◌≡◌, ℕ, zero, suc, ◌+◌, ◌-◌, ◌<◌, ◌≤◌, Bool, true, false, not, ◌&&◌, List, [], ◌∷◌, ◌++◌, length, take, slice_get, slice_set, slice_index_or, replicate, refl, sym, ap, ◌∙◌, arith}, lemmas.{Bool.{and_from, and_parts, leb-true}, List.length-take}}
use Rattle.std.specs.{Prelude.{IfSome, IsFalse, Some, None, nat_le, if◌then◌else◌}, List.list_all}
use Rattle.gx_units.specs.Spelling.{padded_to, is_visible}
use Rattle.gx_script_text.specs.Words.{is_empty, is_name, padded_name}

pub padded_behind : (b m : ℕ) (t : List ℕ) → padded_to (suc m) (b ∷ t) ≡ b ∷ padded_to m t
padded_behind b m t = ap (λ k. b ∷ (t ++ replicate k 32)) (omega arith)

-- the field has one more byte of the text
pub put_next : (n end : ℕ) (text : List ℕ) → end < length text → end < n → slice_set (padded_to n (take end text)) end (slice_index_or text end 0) ≡ padded_to n (take (end + 1) text)
put_next n end [] within room = absurd (omega (arith, within))
put_next zero end (b ∷ bs) within room = absurd (omega (arith, room))
put_next (suc m) zero (b ∷ bs) within room =
    let first : suc m - 0 ≡ suc m = omega arith in
    let behind : m ≡ suc m - 1 = omega arith in
    ap (λ k. slice_set (replicate k 32) 0 b) first ∙ ap (λ k. b ∷ replicate k 32) behind
put_next (suc m) (suc e) (b ∷ bs) within room =
    let next : suc (e + 1) ≡ suc e + 1 = omega arith in
    ap (λ l. slice_set l (suc e) (slice_index_or bs e 0)) (padded_behind b m (take e bs))
    ∙ ap (λ l. b ∷ l) (put_next m e bs (omega (arith, within)) (omega (arith, room)))
    ∙ sym (padded_behind b m (take (e + 1) bs))
    ∙ ap (λ k. padded_to (suc m) (take k (b ∷ bs))) next

-- what stands in a front stands in the text
pub front_item : (most end : ℕ) (text : List ℕ) → end < length (take most text) → slice_index_or (take most text) end 0 ≡ slice_index_or text end 0
front_item most end [] within = absurd (omega (arith, within, length-take {A = ℕ} most []))
front_item zero end (b ∷ bs) within = absurd (omega (arith, within))
front_item (suc most) zero (b ∷ bs) within = refl
front_item (suc most) (suc end) (b ∷ bs) within = front_item most end bs (omega (arith, within))

-- one more visible byte
pub visible_more : (end : ℕ) (text : List ℕ) → end < length text → is_visible (slice_index_or text end 0) ≡ true → list_all is_visible (take end text) ≡ true
    → list_all is_visible (take (end + 1) text) ≡ true
visible_more end [] within visible before = absurd (omega (arith, within))
visible_more zero (b ∷ bs) within visible before = and_from (is_visible b) true visible refl
visible_more (suc e) (b ∷ bs) within visible before =
    let parts = and_parts (is_visible b) (list_all is_visible (take e bs)) before in
    let next : suc (e + 1) ≡ suc e + 1 = omega arith in
    ap (λ k. list_all is_visible (take k (b ∷ bs))) (sym next)
    ∙ and_from (is_visible b) (list_all is_visible (take (e + 1) bs)) parts.0 (visible_more e bs (omega (arith, within)) visible parts.1)

-- the byte at this place is not visible
pub ends_here : (P : Type 0) (end : ℕ) (text : List ℕ) → end < length text → is_visible (slice_index_or text end 0) ≡ false → IfSome (slice_get text end) (λ byte. P → IsFalse (is_visible byte))
ends_here P end [] within hidden = absurd (omega (arith, within))
ends_here P zero (b ∷ bs) within hidden = λ room. hidden
ends_here P (suc e) (b ∷ bs) within hidden = ends_here P e bs (omega (arith, within)) hidden

-- no byte stands past the text
pub ends_past : (P : Type 0) (end : ℕ) (text : List ℕ) → (P → length text ≤ end) → IfSome (slice_get text end) (λ byte. P → IsFalse (is_visible byte))
ends_past P end [] past = tt
ends_past P zero (b ∷ bs) past = λ room. absurd (omega (arith, past room))
ends_past P (suc e) (b ∷ bs) past = ends_past P e bs (λ room. omega (arith, past room))

all_here : (P : Type 0) (end : ℕ) (word : List ℕ) → end < length word → P → IfSome (slice_get word end) (λ byte. P → IsFalse (is_visible byte)) → list_all is_visible word ≡ true → true ≡ false
all_here P end [] within room hidden all = absurd (omega (arith, within))
all_here P zero (b ∷ bs) within room hidden all = sym (and_parts (is_visible b) (list_all is_visible bs) all).0 ∙ hidden room
all_here P (suc e) (b ∷ bs) within room hidden all = all_here P e bs (omega (arith, within)) room hidden (and_parts (is_visible b) (list_all is_visible bs) all).1

-- a word that goes on behind what was read of it is no name
pub not_named : (n end : ℕ) (word : List ℕ) → end < length word → IfSome (slice_get word end) (λ byte. end < n → IsFalse (is_visible byte)) → None ≡ padded_name n word
not_named n end word within hidden = by (is_name word && nat_le (length word) n) refl
  where
    by : (b : Bool) → (is_name word && nat_le (length word) n) ≡ b → None ≡ (if b then Some (padded_to n word) else None)
    by false is = refl
    by true is =
        let parts = and_parts (is_name word) (nat_le (length word) n) is in
        let few : length word ≤ n = leb-true (length word) n parts.1 in
        let clash : true ≡ false = all_here (end < n) end word within (omega (arith, within, few)) hidden (and_parts (not (is_empty word)) (list_all is_visible word) parts.0).1 in
        cc
