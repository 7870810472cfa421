-- How a line is cut into the words between its spaces.
use Rattle.std.proofs.{Common.{◌≡◌, ℕ, suc, ◌+◌, ◌-◌, ◌<◌, Bool, true, false, not, cond, List, [], ◌∷◌, length, take, drop, Some, None, sym, ap, ◌∙◌, arith, ltb}, lemmas.{Option.cond_some, Bool.Decides.nat_tests}}
use Rattle.std.specs.{Prelude.{position, slice_index, filter}, List.position_or_len}
use Rattle.gx_units.specs.Spelling.{is_space}
use Rattle.gx_script_text.specs.Words.{words_of, is_empty}
use Rattle.gx_script_text.proofs.Words_cut.{cut_found, cut_missed}
use Rattle.gx_terminal.specs.Cursor.{words_between}

abbrev filled : List (List ℕ) → List (List ℕ)
filled words = filter (λ word. not (is_empty word)) words

kept : (word : List ℕ) (words : List (List ℕ)) → is_empty word ≡ false → filled (word ∷ words) ≡ word ∷ filled words
kept word words e = ap (λ b. cond (not b) (word ∷ filled words) (filled words)) e

-- the first space does not stand where another byte does
behind_other : (space : Bool) (p i : ℕ) → cond (not space) (1 + p) 0 ≡ i → space ≡ false → 0 < i
behind_other true p i e h = cc
behind_other false p i e h = omega arith

some_front : (text : List ℕ) (i : ℕ) → Some i ≡ position is_space text → is_space (slice_index text 0) ≡ false → 0 < i
some_front [] i e h = cc
some_front (c ∷ cs) i e h =
    behind_other (is_space c) (position_or_len is_space cs) i (cond_some (ltb (position_or_len is_space (c ∷ cs)) (length (c ∷ cs))) (position_or_len is_space (c ∷ cs)) i (sym e)).1 h

some_bytes : (c : ℕ) (cs : List ℕ) → is_empty (c ∷ cs) ≡ false
some_bytes c cs = grind (arith, nat_tests)

front_is_some : (c : ℕ) (cs : List ℕ) (i : ℕ) → 0 < i → is_empty (take i (c ∷ cs)) ≡ false
front_is_some c cs i h = let e : i ≡ suc (i - 1) = omega arith in rw e (some_bytes c (take (i - 1) cs))

-- a word ends at a space
pub word_found : (text : List ℕ) (i : ℕ) → Some i ≡ position is_space text → is_space (slice_index text 0) ≡ false
    → words_between text ≡ take i text ∷ words_between (take (length text - (i + 1)) (drop (i + 1) text))
word_found [] i e h = cc
word_found (c ∷ cs) i e h =
    ap filled (cut_found (c ∷ cs) i e) ∙ kept (take i (c ∷ cs)) (words_of (take (length (c ∷ cs) - (i + 1)) (drop (i + 1) (c ∷ cs)))) (front_is_some c cs i (some_front (c ∷ cs) i e h))

-- or it is the last of the line
pub word_last : (text : List ℕ) → None ≡ position is_space text → is_empty text ≡ false → words_between text ≡ text ∷ []
word_last text e h = ap filled (cut_missed text e) ∙ kept text [] h
