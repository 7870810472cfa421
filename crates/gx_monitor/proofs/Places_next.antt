-- One more place of a list, and what was told and what is left.
use Rattle.std.proofs.{Common.{◌≡◌, ℕ, ◌+◌, ◌<◌, ◌≤◌, List, [], ◌∷◌, ◌++◌, length, drop, get_or, append_assoc, sym, ap, ◌∙◌, arith}, lemmas.{List.{append-nil, drop_all, drop_more, Concat.flat_map-cons}, Option.slice_get-get_or}}
use Rattle.std.specs.{Prelude.{Option, flat_map, slice_get}, Option.option_map_or}

-- what is told of the place, and of those behind it
one_told : {X : Type 0} (line : X → List ℕ) (xs : List X) (i : ℕ) → i < length xs → flat_map line (drop i xs) ≡ option_map_or line (slice_get xs i) [] ++ flat_map line (drop (i + 1) xs)
one_told line [] i within = absurd (omega (arith, within))
one_told {X} line (x ∷ xs) i within =
    let all : List X = x ∷ xs in
    ap (flat_map line) (drop_more all i x within)
    ∙ flat_map-cons line (get_or all i x) (drop (i + 1) all)
    ∙ ap (λ (found : Option X). option_map_or line found [] ++ flat_map line (drop (i + 1) all)) (sym (slice_get-get_or all i x within))

pub one_more_told : {X : Type 0} (line : X → List ℕ) (xs : List X) (i : ℕ) (all mid last : List ℕ) → i < length xs → mid ++ flat_map line (drop i xs) ≡ all → last ≡ mid ++ option_map_or line (slice_get xs i) []
    → last ++ flat_map line (drop (i + 1) xs) ≡ all
one_more_told line xs i all mid last within so_far adds =
    ap (λ (text : List ℕ). text ++ flat_map line (drop (i + 1) xs)) adds
    ∙ append_assoc mid (option_map_or line (slice_get xs i) []) (flat_map line (drop (i + 1) xs))
    ∙ ap (λ (text : List ℕ). mid ++ text) (sym (one_told line xs i within))
    ∙ so_far

pub all_told : {X : Type 0} (line : X → List ℕ) (xs : List X) (i : ℕ) (all mid : List ℕ) → length xs ≤ i → mid ++ flat_map line (drop i xs) ≡ all → mid ≡ all
all_told {X} line xs i all mid whole so_far = sym (append-nil mid) ∙ ap (λ (rest : List X). mid ++ flat_map line rest) (sym (drop_all i xs whole)) ∙ so_far

-- three pieces, one behind the other
pub three_more : (text a b c one two three : List ℕ) → one ≡ text ++ a → two ≡ one ++ b → three ≡ two ++ c → three ≡ text ++ (a ++ b ++ c)
three_more text a b c one two three first second third =
    third
    ∙ ap (λ (t : List ℕ). t ++ c) (second ∙ ap (λ (t : List ℕ). t ++ b) first ∙ append_assoc text a b)
    ∙ append_assoc text (a ++ b) c
