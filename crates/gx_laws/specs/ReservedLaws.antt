-- What each record changes of the reserved places.
use Rattle.std.specs.Prelude.{◌≡◌, ◌+◌, ◌≤◌, ℕ, IsTrue, IsFalse, length, List, [], ◌∷◌, ◌++◌, Some}
use Rattle.gx_units.specs.{Names.same_user, declared.names.UserName.UserName}
use Rattle.gx_policy.specs.declared.policy.PolicyData.{PolicyData}
use Rattle.gx_history.specs.{declared.«record».{Asked.Asked, RecordData.RecordData, Step.Step}, Streams.reports_of, Verdicts.{IsLegal, next}, Reserved.{may_notify_all_users, enough_reserved, is_never_refused, most_reserved_records, reserved_records, reserved_reports}}

-- what a granted Kill or Logout tells a user, and what is kept for him behind it, is kept for him before it
abbrev pub ReservedReportsAreEnough : Type 0
ReservedReportsAreEnough = (policy : PolicyData) (history : List RecordData) (a : Asked) (r : RecordData) (user : UserName)
    → IsLegal policy history → next policy history (Step.Asked a) ≡ Some r → IsTrue (is_never_refused a.request r.verdict)
    → length (reports_of policy user (history, r)) + reserved_reports policy (history ++ r ∷ []) user ≤ reserved_reports policy history user

-- no request tells a user more, or leaves more to be kept for him, than so many places are enough for
abbrev pub EnoughReservedIsEnough : Type 0
EnoughReservedIsEnough = (policy : PolicyData) (history : List RecordData) (a : Asked) (r : RecordData) (user : UserName)
    → IsLegal policy history → next policy history (Step.Asked a) ≡ Some r
    → length (reports_of policy user (history, r)) + reserved_reports policy (history ++ r ∷ []) user ≤ enough_reserved policy history user

-- nor does it tell another user anything, or leave more to be kept for him, unless it is a granted Lift or Close Day
abbrev pub OthersWantNoMore : Type 0
OthersWantNoMore = (policy : PolicyData) (history : List RecordData) (a : Asked) (r : RecordData) (user : UserName)
    → IsLegal policy history → next policy history (Step.Asked a) ≡ Some r → IsFalse (may_notify_all_users a.request r.verdict) → IsFalse (same_user a.user user)
    → length (reports_of policy user (history, r)) + reserved_reports policy (history ++ r ∷ []) user ≤ reserved_reports policy history user

-- a matching step leaves no more to be kept for anybody
abbrev pub MatchesWantNoMore : Type 0
MatchesWantNoMore = (policy : PolicyData) (history : List RecordData) (handed : ℕ) (r : RecordData) (user : UserName)
    → IsLegal policy history → next policy history (Step.Matching handed) ≡ Some r
    → reserved_reports policy (history ++ r ∷ []) user ≤ reserved_reports policy history user

-- what is kept for a user is no more than is enough, but for two
abbrev pub EnoughIsMore : Type 0
EnoughIsMore = (policy : PolicyData) (history : List RecordData) (user : UserName) → reserved_reports policy history user + 2 ≤ enough_reserved policy history user

-- the record of a granted Kill or Logout takes one of the places that are reserved for records
abbrev pub KillsTakeReservedRecords : Type 0
KillsTakeReservedRecords = (policy : PolicyData) (history : List RecordData) (a : Asked) (r : RecordData)
    → IsLegal policy history → next policy history (Step.Asked a) ≡ Some r → IsTrue (is_never_refused a.request r.verdict)
    → reserved_records policy (history ++ r ∷ []) + 1 ≤ reserved_records policy history

-- so many places for records are always enough
abbrev pub MostReservedRecordsAreEnough : Type 0
MostReservedRecordsAreEnough = (policy : PolicyData) (history : List RecordData) → reserved_records policy history ≤ most_reserved_records policy
