-- The words of a line, taken one after the other.
use Rattle.std.specs.Prelude.{ℕ, ◌+◌, not, List, [], ◌∷◌, filter, Option, Some, None, Result, Ok, Err, ◌≡◌}
use Rattle.gx_script_text.specs.Words.{words_of, is_empty}
use Rattle.gx_terminal.specs.declared.wrong.{ExpectedInput.{ExpectedInput, TheVariants.End}, WrongWord.WrongWord}

-- what stands between the spaces of a line, one or more of them
abbrev pub words_between : List ℕ → List (List ℕ)
words_between line = filter (λ word. not (is_empty word)) (words_of line)

-- how many words of a line were taken, and those that are left
pub record Left : Type 0 where
  pub taken : ℕ
  pub words : List (List ℕ)

abbrev pub left_of : ℕ → List (List ℕ) → Left
left_of taken words = record { taken = taken; words = words }

-- the word of this number is not what was wanted there
abbrev pub wrong_at : ℕ → ExpectedInput → WrongWord
wrong_at word wanted = record { word = word; wanted = wanted }

-- what follows, where there is a value
infixl 10 ◌>>=◌
abbrev pub ◌>>=◌ : {A B E : Type 0} → Result A E → (A → Result B E) → Result B E
(Ok value) >>= following = following value
(Err e) >>= following = Err e

-- what a word stands for, and the words behind it
abbrev pub word_meaning : {A : Type 0} → ExpectedInput → Option A → Left → Result (A × Left) WrongWord
word_meaning wanted (Some value) behind = Ok (value, behind)
word_meaning wanted None behind = Err (wrong_at behind.taken wanted)

abbrev pub next_of : {A : Type 0} → ExpectedInput → (List ℕ → Option A) → ℕ → List (List ℕ) → Result (A × Left) WrongWord
next_of wanted meaning taken [] = Err (wrong_at (taken + 1) wanted)
next_of wanted meaning taken (word ∷ words) = word_meaning wanted (meaning word) (left_of (taken + 1) words)

-- what the next_word word stands for, and what is left behind it; wrong where it stands for nothing, or where there is none
abbrev pub next_word : {A : Type 0} → ExpectedInput → (List ℕ → Option A) → Left → Result (A × Left) WrongWord
next_word wanted meaning left = next_of wanted meaning left.taken left.words

abbrev pub next_or_of : {A : Type 0} → A → ExpectedInput → (List ℕ → Option A) → ℕ → List (List ℕ) → Result (A × Left) WrongWord
next_or_of without wanted meaning taken [] = Ok (without, left_of taken [])
next_or_of without wanted meaning taken (word ∷ words) = next_of wanted meaning taken (word ∷ words)

-- the same of a word that may be left out, and the value that it then has
abbrev pub next_or : {A : Type 0} → A → ExpectedInput → (List ℕ → Option A) → Left → Result (A × Left) WrongWord
next_or without wanted meaning left = next_or_of without wanted meaning left.taken left.words

abbrev pub value_at_end_of : {A : Type 0} → A → ℕ → List (List ℕ) → Result A WrongWord
value_at_end_of value taken [] = Ok value
value_at_end_of value taken (word ∷ words) = Err (wrong_at (taken + 1) End)

-- the value, where no word is left
abbrev pub value_at_end : {A : Type 0} → A → Left → Result A WrongWord
value_at_end value left = value_at_end_of value left.taken left.words

-- what a call gave: the value, and what is left
abbrev pub Reads : {A : Type 0} → Result (A × Left) WrongWord → Left → Result A WrongWord → Type 0
Reads meant left (Ok value) = meant ≡ Ok (value, left)
Reads meant left (Err wrong) = meant ≡ Err wrong
