-- Rows as a JSON array.
use Rattle.std.specs.Prelude.{ℕ, List, [], ◌∷◌, ◌++◌, codes, flat_map}

-- rows with commas between them
abbrev pub rows_text : {X : Type 0} → (X → List ℕ) → List X → List ℕ
rows_text row [] = []
rows_text row (x ∷ xs) = row x ++ flat_map (λ y. codes "," ++ row y) xs

abbrev pub array_text : {X : Type 0} → (X → List ℕ) → List X → List ℕ
array_text row rows = codes "[" ++ rows_text row rows ++ codes "]"
