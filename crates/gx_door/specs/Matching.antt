-- What matching steps add, and why no more were made.
use Rattle.std.specs.Prelude.{◌≡◌, ◌≤◌, ℕ, List, [], ◌∷◌, ◌++◌, map, length, IsTrue, None, is_some}
use mathlib.Core.List.{IsPrefix}
use Rattle.gx_policy.specs.declared.policy.PolicyData.{PolicyData}
use Rattle.gx_history.specs.declared.record.RecordData.{RecordData}
use Rattle.gx_access_gate.specs.{declared.outcome.Outcome.Outcome, Gates.{GateData, matched_by}, Matches.matching_of}
use Rattle.gx_pass.specs.{declared.view.LineView.LineView, Views.mine}
use Rattle.gx_door.specs.{Acts.IsToldFull, Endings.{ended_by, sums_of}, declared.{ended.EndedTotals.EndedTotals, matched.MatchEnd.MatchEnd}}

-- the records of so many matching steps were added, all handed in at this moment
pub record AddsMatchingSteps (moment made : ℕ) (earlier later : List RecordData) : Type 0 where
  pub outcomes : List Outcome
  pub behind : later ≡ earlier ++ map (matched_by moment) outcomes
  pub count : length outcomes ≡ made

-- they stand behind all that had been met
pub record MatchesBehind (was is : LineView) (moment made : ℕ) : Type 0 where
  pub earlier : List RecordData
  pub begins : IsPrefix was.front earlier
  pub adds : AddsMatchingSteps moment made earlier is.front

-- the record stands behind all that had been met, and these behind it; it is one more of the pass's own, and they are not; and so much it ended itself
pub record Turns (policy : PolicyData) (was is : LineView) (r : RecordData) (ended : EndedTotals) (moment made : ℕ) : Type 0 where
  pub earlier : List RecordData
  pub begins : IsPrefix was.front earlier
  pub adds : AddsMatchingSteps moment made (earlier ++ r ∷ []) is.front
  pub own : mine is ≡ mine was ++ r ∷ []
  pub ends : ended ≡ sums_of (ended_by policy earlier r)

-- of at most so many matching steps so many were made, at a gate that is this behind them, and this is why no more
abbrev pub EndsSo : MatchEnd → GateData → ℕ → ℕ → Type 0
EndsSo MatchEnd.Idle gate made most = (made ≤ most) × (matching_of gate ≡ None)
EndsSo MatchEnd.Enough gate made most = made ≡ most
EndsSo (MatchEnd.Refused fault) gate made most = (made ≤ most) × IsTrue (is_some (matching_of gate)) × IsToldFull gate fault
