-- A place of several entries: an array of tables.
use Rattle.std.specs.{Prelude.{ℕ, Bool, nat_lt, List, [], ◌∷◌, ◌++◌, length, Result, Ok, Err, if◌then◌else◌}, List.list_any}
use Rattle.toml.specs.Data.{Members}
use Rattle.gx_policyvalues.specs.{declared.fault.FaultKind.{FaultKind, TheVariants.{DuplicateName, TooMany}}, Field.◌>>=◌}

-- an entry of this name stands among these
unfoldable pub is_taken : {X : Type 0} → (X → X → Bool) → List X → X → Bool
is_taken is_same earlier x = list_any (λ other. is_same other x) earlier

-- the entry, unless one before it has its name
abbrev pub next : {X : Type 0} → (X → X → Bool) → (Members → Result X FaultKind) → List X → Members → Result X FaultKind
next is_same meant earlier entry = meant entry >>= λ x. if is_taken is_same earlier x then Err DuplicateName else Ok x

-- each entry in turn, behind those before it
abbrev pub each : {X : Type 0} → (X → X → Bool) → (Members → Result X FaultKind) → List X → List Members → Result (List X) FaultKind
each is_same meant earlier [] = Ok earlier
each is_same meant earlier (entry ∷ entries) = next is_same meant earlier entry >>= λ x. each is_same meant (earlier ++ x ∷ []) entries

-- the entries of a place, at most so many
abbrev pub place_of : {X : Type 0} → ℕ → (X → X → Bool) → (Members → Result X FaultKind) → List Members → Result (List X) FaultKind
place_of most is_same meant entries = if nat_lt most (length entries) then Err TooMany else each is_same meant [] entries
