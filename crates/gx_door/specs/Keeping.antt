-- How far records are kept.
use Rattle.std.specs.Prelude.{ℕ, ◌≤◌}

-- something shows that so many of the day's first records are kept
pub record ShowsKept {K : Type 0} (kept : K → ℕ) (count : ℕ) : Type 0 where
  pub by : K
  pub enough : count ≤ kept by
