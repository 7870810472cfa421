-- What a hasher takes in.
use Rattle.std.specs.Prelude.{ℕ, List, ◌++◌}
use Rattle.sha2.specs.{declared.Sha256.Sha256, Hashers.Holds256}

-- the hasher has taken in these bytes, behind all that it held
abbrev pub TakesIn : Sha256 → Sha256 → List ℕ → Type 0
TakesIn before after bytes = (held : List ℕ) → Holds256 before held → Holds256 after (held ++ bytes)
