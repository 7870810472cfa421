-- How a line is cut into words.
use Rattle.std.proofs.{Common.{◌≡◌, ℕ, zero, suc, ◌+◌, ◌-◌, ◌<◌, ◌≤◌, Bool, true, false, not, cond, List, [], ◌∷◌, length, take, drop, get_or, Some, None, refl, sym, ap, ◌∙◌, subst, arith}, lemmas.{Bool.{and_from, and_parts, ltb-false}, List.{take_all, take_rest, Quantifiers.position-Some, Sums.fails_before_first}}}
use Rattle.std.specs.{Prelude.{Option, is_some, option_map, position, if◌then◌else◌}, List.position_or_len}
use Rattle.gx_units.specs.Spelling.{is_space}
use Rattle.gx_script_text.specs.Words.{has_no_space, is_done, onto_first, words_left, words_of}

no_space_first : (byte : ℕ) (bytes : List ℕ) → not (is_space byte) ≡ true → words_of (byte ∷ bytes) ≡ onto_first byte (words_of bytes)
no_space_first byte bytes clear = at (is_space byte) clear
  where
    at : (space : Bool) → not space ≡ true → (if space then [] ∷ words_of bytes else onto_first byte (words_of bytes)) ≡ onto_first byte (words_of bytes)
    at true h = cc
    at false h = refl

-- a space ends the word in front of it
pub ends_at : (text : List ℕ) (end : ℕ) → has_no_space (take end text) ≡ true → end < length text → is_space (get_or text end 0) ≡ true → words_of text ≡ take end text ∷ words_of (drop (end + 1) text)
ends_at [] end clear within space = absurd (omega (arith, within))
ends_at (b ∷ bytes) zero clear within space = ap (λ c. if c then [] ∷ words_of bytes else onto_first b (words_of bytes)) space
ends_at (b ∷ bytes) (suc end) clear within space =
    let parts = and_parts (not (is_space b)) (has_no_space (take end bytes)) clear in
    no_space_first b bytes parts.0
    ∙ ap (onto_first b) (ends_at bytes end parts.1 (omega (arith, within)) space)
    ∙ ap (λ n. (b ∷ take end bytes) ∷ words_of (drop n (b ∷ bytes))) (let e : suc (end + 1) ≡ suc end + 1 = omega arith in e)

-- a text that has no space is a word
pub ends_with : (text : List ℕ) (end : ℕ) → has_no_space (take end text) ≡ true → length text ≤ end → words_of text ≡ take end text ∷ []
ends_with [] zero clear past = refl
ends_with [] (suc end) clear past = refl
ends_with (b ∷ bytes) zero clear past = absurd (omega (arith, past))
ends_with (b ∷ bytes) (suc end) clear past =
    let parts = and_parts (not (is_space b)) (has_no_space (take end bytes)) clear in
    no_space_first b bytes parts.0 ∙ ap (onto_first b) (ends_with bytes end parts.1 (omega (arith, past)))

front_clear : (text : List ℕ) (end : ℕ) → ((k : ℕ) → k < end → is_space (get_or text k 0) ≡ false) → has_no_space (take end text) ≡ true
front_clear [] zero clear = refl
front_clear [] (suc end) clear = refl
front_clear (b ∷ bytes) zero clear = refl
front_clear (b ∷ bytes) (suc end) clear = and_from _ _ (ap not (clear 0 (omega arith))) (front_clear bytes end (λ k h. clear (suc k) (omega (arith, h))))

-- the first word ends at the first space
pub cut_found : (text : List ℕ) (i : ℕ) → Some i ≡ position is_space text → words_of text ≡ take i text ∷ words_of (take (length text - (i + 1)) (drop (i + 1) text))
cut_found text i e =
    let found = position-Some is_space text i 0 (sym e) in
    rw (take_rest text (i + 1)) (ends_at text i (front_clear text i found.2) found.0 found.1)

pub missed : (test : Bool) (p : ℕ) → None ≡ cond test (Some p) None → test ≡ false
missed true p e = cc
missed false p e = refl

pub cut_missed : (text : List ℕ) → None ≡ position is_space text → words_of text ≡ text ∷ []
cut_missed text e =
    let past = ltb-false (position_or_len is_space text) (length text) (missed _ _ e) in
    subst (λ word. words_of text ≡ word ∷ []) (take_all (length text) text (omega arith))
    (ends_with text (length text) (front_clear text (length text) (λ k h. fails_before_first is_space text k 0 (omega (arith, h, past)))) (omega arith))

-- a line has a word at least
some_word : (text : List ℕ) → is_done (words_of text) ≡ false
some_word [] = refl
some_word (byte ∷ bytes) = at (is_space byte) (words_of bytes)
  where
    at : (space : Bool) (words : List (List ℕ)) → is_done (if space then [] ∷ words else onto_first byte words) ≡ false
    at true words = refl
    at false [] = refl
    at false (word ∷ words) = refl

-- so no word is left where nothing is left of the line
pub done_by_rest : {A : Type 0} (text : A → List ℕ) (rest : Option A) (none : Bool) → is_some rest ≡ not none → none ≡ is_done (words_left (option_map text rest))
done_by_rest text None true h = refl
done_by_rest text None false h = cc
done_by_rest text (Some found) true h = cc
done_by_rest text (Some found) false h = sym (some_word (text found))
