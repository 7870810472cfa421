-- How long it takes until a user is told of a step.
use Rattle.std.specs.Prelude.{◌≡◌, ℕ, ◌-◌, List, Option, Some, None, filter_map, if◌then◌else◌, nat_le}
use Rattle.gx_history.specs.declared.report.Report.{Report}
use Rattle.gx_control.specs.{declared.answer_times.AnswerCounts.AnswerCounts, Buckets.all_counted}

-- from the report's moment until it was sent, in nanoseconds; it is not asked for, where that moment is before the login
abbrev pub time_to_send : ℕ → ℕ → Report → Option ℕ
time_to_send login sent report = if nat_le login report.timestamp then Some (sent - report.timestamp) else None

-- so long it took for each of these reports
abbrev pub times_of : ℕ → ℕ → List Report → AnswerCounts
times_of login sent reports = all_counted (filter_map (time_to_send login sent) reports)

-- these are the counts of the reports, which were sent by a moment that the clock has shown
pub record AreTimes (shown : ℕ → Type 0) (login : ℕ) (reports : List Report) (counts : AnswerCounts) : Type 0 where
  pub sent : ℕ
  pub read : shown sent
  pub times : counts ≡ times_of login sent reports
