-- What a run leaves that a fault stopped, beside what it would have left.
use Rattle.std.specs.Prelude.{◌≡◌, List, [], ◌∷◌, ◌++◌}
use Rattle.gx_history.specs.declared.record.{Asked.Asked, RecordData.RecordData, Request.Request, Step.Step, Verdict.Verdict}

-- the record of a granted Logout
pub record IsLogout (r : RecordData) : Type 0 where
  pub asked : Asked
  pub is_asked : r.step ≡ Step.Asked asked
  pub is_logout : asked.request ≡ Request.Logout
  pub is_granted : r.verdict ≡ Verdict.Granted

-- no record, or that of one granted Logout
abbrev pub IsLogoutAtMost : List RecordData → Type 0
IsLogoutAtMost [] = Unit {0}
IsLogoutAtMost (r ∷ []) = IsLogout r
IsLogoutAtMost (r ∷ others) = ⊥

-- the first of all these records, and behind them at most that of a granted Logout
pub record AreFirstWithLogout (records all : List RecordData) : Type 0 where
  pub first : List RecordData
  pub others : List RecordData
  pub whole : all ≡ first ++ others
  pub last : List RecordData
  pub stand : records ≡ first ++ last
  pub logout : IsLogoutAtMost last
