-- Devices, their calls, and what is written by a call that fails.
use Rattle.std.specs.{Prelude.{◌≡◌, ℕ, ◌+◌, ◌-◌, ◌^◌, min, List, ◌++◌, Option}, Io.KnownBytes.Appends}

-- a device, how many calls of it there were, and how many of these failed
pub record CountedData (D : Type 0) : Type 0 where
  pub device : D
  pub calls : ℕ
  pub failed : ℕ

-- a front of the text was written
pub record IsFront (output left : Option (List ℕ)) (text : List ℕ) : Type 0 where
  pub front : List ℕ
  pub rest : List ℕ
  pub written : Appends output left front
  pub whole : text ≡ front ++ rest

-- n more calls, as far as the count goes
abbrev pub counted_on : ℕ → ℕ → ℕ
counted_on calls n = min (calls + n) (2 ^ 64 - 1)

abbrev pub one_more : ℕ → ℕ
one_more calls = counted_on calls 1

-- of the counts of failed calls of a reader and a writer, before and after: no call failed
abbrev pub IsUnfailing : (reads reads' writes writes' : ℕ) → Type 0
IsUnfailing reads reads' writes writes' = (reads' ≡ reads) × (writes' ≡ writes)
