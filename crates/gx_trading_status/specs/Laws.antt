-- What a day begins with, what each record changes, and that what is kept answers as the records do.
use Rattle.std.specs.Prelude.{◌≡◌, List, [], ◌∷◌, ◌++◌}
use Rattle.gx_units.specs.declared.names.{AccountName.AccountName, UserName.UserName}
use Rattle.gx_policy.specs.declared.policy.PolicyData.{PolicyData}
use Rattle.gx_history.specs.{declared.record.RecordData.RecordData, InForce.{is_closed, kill_in_force, line_of}, Verdicts.{IsLegal, last_moment}, World.{move_of, world}}
use Rattle.gx_trading_status.specs.{StatusData.{at_moment, kill_in, line_in}, InForce.{status_in_force, status_moved, fresh_status}}

-- before any record the day is fresh
abbrev pub DaysBegin : Type 0
DaysBegin = (policy : PolicyData) → status_in_force policy [] ≡ fresh_status policy

-- what one more record does is done to the day, which comes to its moment
abbrev pub DaysGoOn : Type 0
DaysGoOn = (policy : PolicyData) (history : List RecordData) (r : RecordData)
    → status_in_force policy (history ++ r ∷ []) ≡ at_moment r.moment (status_moved (move_of policy (world policy history) r) (status_in_force policy history))

-- every user is on the line that is kept of him; one who is not known is on none
abbrev pub LinesAreKept : Type 0
LinesAreKept = (policy : PolicyData) (history : List RecordData) (user : UserName)
    → IsLegal policy history → line_in (status_in_force policy history) user ≡ line_of history user

-- the Kill that is in force of an account is the one kept of it; of one that is not known there is none
abbrev pub KillsAreKept : Type 0
KillsAreKept = (policy : PolicyData) (history : List RecordData) (account : AccountName)
    → IsLegal policy history → kill_in (status_in_force policy history) account ≡ kill_in_force policy history account

-- the day is closed where it is kept so
abbrev pub EndsAreKept : Type 0
EndsAreKept = (policy : PolicyData) (history : List RecordData) → (status_in_force policy history).closed ≡ is_closed history

-- the moment of the last record is the one kept
abbrev pub MomentsAreKept : Type 0
MomentsAreKept = (policy : PolicyData) (history : List RecordData) → (status_in_force policy history).moment ≡ last_moment history
