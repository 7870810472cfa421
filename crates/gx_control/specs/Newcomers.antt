-- Who goes first of those who have not logged in.
use Rattle.std.specs.Prelude.{◌≡◌, ◌∷◌, ℕ, List}

-- the first of these is the one, and these are left
abbrev pub IsFirst : {P : Type 0} → P → List (ℕ × P) → List (ℕ × P) → Type 0
IsFirst peer before left = (number : ℕ) × (before ≡ (number, peer) ∷ left)
