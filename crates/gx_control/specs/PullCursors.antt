-- What a writer has seen of the records.
use Rattle.std.specs.Prelude.{ℕ, Bool, ◌==◌, ◌||◌, not}

-- how many records there were at the last look, and whether that look may have left reports that were there
pub record PullCursorData : Type 0 where
  pub seen : ℕ
  pub more : Bool

abbrev pub pull_cursor : ℕ → Bool → PullCursorData
pull_cursor seen more = record { seen = seen; more = more }

-- where there are so many records, there may be reports that no look has brought
abbrev pub may_have_more : PullCursorData → ℕ → Bool
may_have_more watch count = watch.more || not (count == watch.seen)
