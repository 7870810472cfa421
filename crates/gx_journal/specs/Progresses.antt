-- How far a journal is kept, as those who wait for it see it.
use Rattle.std.specs.Prelude.{ℕ, Bool}

-- how many records are kept, whether somebody writes more, and whether a write has failed
pub record ProgressData : Type 0 where
  pub kept : ℕ
  pub writes : Bool
  pub broken : Bool
