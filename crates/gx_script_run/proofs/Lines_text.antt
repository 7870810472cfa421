-- The lines of a text, with their ends, are the text.
use Rattle.std.proofs.{Common.{◌≡◌, ℕ, suc, ◌+◌, ◌-◌, length, take, drop, get_or, arith, Bool, true, false, ◌&&◌, not, cond, eqb, ltb, Some, None, List, [], ◌∷◌, ◌++◌, refl, sym, ap, ◌∙◌, subst, append_assoc, append-nil}, lemmas.{Bool.{eqb-true, false_from_ne_true, le-ltb, lt-ltb, ltb-true, ltb-false, and_parts, and_from}, List.{take_all, take_rest, Sums.{position_or_len_is, split_at_first, passes_at_first}, Folds.list_all-append}, Option.cond_some, Grind.flat_map-append}}
use Rattle.std.specs.{Prelude.{fold, Option, position, IfNone}, List.{flat_map, position_or_len}}
use Rattle.memchr.specs.Find.{IsFirstByte, is_byte}
use Rattle.gx_script_run.specs.{Scripting.{Cut, on_byte, cut_of}, ScriptTexts.{with_line_end, has_no_end, is_end, joined_lines, are_lines}}
use Rattle.gx_script_text.proofs.Words_cut.{missed}

-- one byte more
joined_step : (whole : List (List ℕ)) (rest : List ℕ) (byte : ℕ) (test : Bool) → eqb byte 10 ≡ test
    → joined_lines (cond test (record { whole = whole ++ rest ∷ []; rest = [] }) (record { whole = whole; rest = rest ++ byte ∷ [] })) ≡ joined_lines (record { whole = whole; rest = rest }) ++ byte ∷ []
joined_step whole rest byte true e =
    append-nil (flat_map with_line_end (whole ++ rest ∷ []))
    ∙ (flat_map-append with_line_end whole (rest ∷ [])
    ∙ (ap (λ t. flat_map with_line_end whole ++ t) (append-nil (with_line_end rest) ∙ ap (λ b. rest ++ b ∷ []) (sym (eqb-true byte 10 e)))
    ∙ sym (append_assoc (flat_map with_line_end whole) rest (byte ∷ []))))
joined_step whole rest byte false e = sym (append_assoc (flat_map with_line_end whole) rest (byte ∷ []))

joined_all : (tail : List ℕ) (cut : Cut) → joined_lines (fold on_byte cut tail) ≡ joined_lines cut ++ tail
joined_all [] cut = sym (append-nil (joined_lines cut))
joined_all (byte ∷ tail) cut =
    joined_all tail (on_byte cut byte)
    ∙ (ap (λ t. t ++ tail) (joined_step cut.whole cut.rest byte (eqb byte 10) refl)
    ∙ append_assoc (joined_lines cut) (byte ∷ []) tail)

pub lines_join : (text : List ℕ) → joined_lines (cut_of text) ≡ text
unfolding cut_of
lines_join text = joined_all text (record { whole = []; rest = [] })

lines_step : (whole : List (List ℕ)) (rest : List ℕ) (byte : ℕ) (test : Bool) → eqb byte 10 ≡ test → are_lines (record { whole = whole; rest = rest }) ≡ true
    → are_lines (cond test (record { whole = whole ++ rest ∷ []; rest = [] }) (record { whole = whole; rest = rest ++ byte ∷ [] })) ≡ true
lines_step whole rest byte true e h =
    let p = and_parts _ _ h in
    and_from _ _ (list_all-append has_no_end whole (rest ∷ []) ∙ and_from _ _ p.0 (and_from _ _ p.1 refl)) refl
lines_step whole rest byte false e h =
    let p = and_parts _ _ h in
    and_from _ _ p.0 (list_all-append (λ b. not (eqb b 10)) rest (byte ∷ []) ∙ and_from _ _ p.1 (ap (λ b. not b && true) e))

lines_all : (tail : List ℕ) (cut : Cut) → are_lines cut ≡ true → are_lines (fold on_byte cut tail) ≡ true
lines_all [] cut h = h
lines_all (byte ∷ tail) cut h = lines_all tail (on_byte cut byte) (lines_step cut.whole cut.rest byte (eqb byte 10) refl h)

pub lines_have_no_end : (text : List ℕ) → are_lines (cut_of text) ≡ true
unfolding cut_of
lines_have_no_end text = lines_all text (record { whole = []; rest = [] }) refl

-- in front of the first LF none stands
front_has_none : (text : List ℕ) → has_no_end (take (position_or_len is_end text) text) ≡ true
front_has_none [] = refl
front_has_none (byte ∷ bytes) = at (is_end byte) refl (front_has_none bytes)
  where
    at : (b : Bool) → is_end byte ≡ b → has_no_end (take (position_or_len is_end bytes) bytes) ≡ true
        → has_no_end (take (cond (not b) (1 + position_or_len is_end bytes) 0) (byte ∷ bytes)) ≡ true
    at true e h = refl
    at false e h = more (1 + position_or_len is_end bytes) (omega arith) (and_from _ _ (ap not e) h)
      where
        more : (n : ℕ) → n ≡ suc (position_or_len is_end bytes) → has_no_end (byte ∷ take (position_or_len is_end bytes) bytes) ≡ true → has_no_end (take n (byte ∷ bytes)) ≡ true
        more n is h = rw is h

module _ (text : List ℕ) (i : ℕ) (found : Some i ≡ position is_end text) where
  place : (ltb (position_or_len is_end text) (length text) ≡ true) × (position_or_len is_end text ≡ i)
  place = cond_some (ltb (position_or_len is_end text) (length text)) (position_or_len is_end text) i (sym found)

  pub line_at_end : has_no_end (take i text) ≡ true
  line_at_end = subst (λ n. has_no_end (take n text) ≡ true) place.1 (front_has_none text)

  -- the first line, its LF, and what stands behind it
  pub parts_at_end : text ≡ with_line_end (take i text) ++ take (length text - (i + 1)) (drop (i + 1) text)
  parts_at_end =
      let p = position_or_len is_end text in
      let within = ltb-true p (length text) place.0 in
      let split : text ≡ with_line_end (take p text) ++ drop (p + 1) text =
      split_at_first is_end text 0 within
      ∙ (ap (λ b. take p text ++ b ∷ drop (p + 1) text) (eqb-true (get_or text p 0) 10 (passes_at_first is_end text 0 within))
      ∙ sym (append_assoc (take p text) (10 ∷ []) (drop (p + 1) text))) in
      rw (take_rest text (i + 1)) (subst (λ n. text ≡ with_line_end (take n text) ++ drop (n + 1) text) place.1 split)

pub no_end_found : (text : List ℕ) → None ≡ position is_end text → has_no_end text ≡ true
no_end_found text e =
    let p = position_or_len is_end text in
    ap has_no_end (sym (take_all p text (ltb-false p (length text) (missed _ _ e)))) ∙ front_has_none text

pub where_none : {T : Type 0} (r : Option T) (A : Type 0) → A → IfNone r A
where_none (Some x) A a = tt
where_none None A a = a

-- the first LF stands at its position
pub first_place : (text : List ℕ) (found : Option ℕ) → IsFirstByte (is_byte 10) text found → found ≡ position is_end text
first_place text None none =
    let all : position_or_len is_end text ≡ length text =
    position_or_len_is is_end text (length text) 0 (omega arith) (λ k within. false_from_ne_true (is_end (get_or text k 0)) (none k (omega arith) within)) (λ past. absurd (omega (arith, past)))
    in
    sym (ap (λ b. cond b (Some (position_or_len is_end text)) None) (le-ltb _ _ (omega (arith, all))))
first_place text (Some i) first =
    let place : position_or_len is_end text ≡ i =
    position_or_len_is is_end text i 0 (omega (arith, first.0.high)) (λ k before. false_from_ne_true (is_end (get_or text k 0)) (first.0.before k (omega arith) before)) (λ within. first.1)
    in
    sym (ap (λ b. cond b (Some (position_or_len is_end text)) None) (lt-ltb _ _ (omega (arith, place, first.0.high))) ∙ ap Some place)
