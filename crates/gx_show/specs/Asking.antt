-- Names that are asked for.
use Rattle.std.specs.Prelude.{◌≡◌, ℕ, List, Option, Some, None, option_map}

-- what is found is what the text stands for; nothing is where nothing is asked for
abbrev pub IsNamed : {X : Type 0} → (List ℕ → Option X) → Option (List ℕ) → Option X → Type 0
IsNamed stands_for text found = option_map stands_for text ≡ option_map Some found

-- a text is asked for that stands for nothing
abbrev pub IsUnknown : {X : Type 0} → (List ℕ → Option X) → Option (List ℕ) → Type 0
IsUnknown stands_for text = option_map stands_for text ≡ Some None
