-- How much of a file is read.
use Rattle.std.specs.{Prelude.{◌≡◌, ℕ, ◌<◌, ◌≤◌, List, ◌++◌, length, Option}, Io.KnownBytes.Consumes}
use Rattle.gx_files.specs.declared.reading.ReadFault.{ReadFault}

-- of what was left no more than so many bytes were taken
pub record TakesAtMost (left left' : Option (List ℕ)) (most : ℕ) : Type 0 where
  pub piece : List ℕ
  pub taken : Consumes left left' piece
  pub few : length piece ≤ most

-- so many bytes were taken, and stand behind those that were there
pub record ReadsMore (left left' : Option (List ℕ)) (before after : List ℕ) (count : ℕ) : Type 0 where
  pub piece : List ℕ
  pub taken : Consumes left left' piece
  pub last : after ≡ before ++ piece
  pub size : length piece ≡ count

-- of the counts of failed calls of a reader, before and after: it is blamed exactly where a call of it failed
abbrev pub IsReaderBlamed : (reads reads' : ℕ) → ReadFault → Type 0
IsReaderBlamed reads reads' ReadFault.ReadFailed = reads < reads'
IsReaderBlamed reads reads' ReadFault.OutOfMemory = reads' ≡ reads
IsReaderBlamed reads reads' ReadFault.TooLong = reads' ≡ reads
