-- The log that is kept of a day.
use Rattle.std.specs.Prelude.{◌≡◌, List}
use Rattle.gx_policy.specs.declared.policy.PolicyData.{PolicyData}
use Rattle.gx_history.specs.declared.record.RecordData.{RecordData}
use Rattle.gx_events.specs.{Known.known_of, Lines.log_of}
use Rattle.gx_monitor.specs.declared.day_log.DayLog.{DayLog}

-- the log stands behind these records, and its text is theirs
pub record IsLogOf (policy : PolicyData) (records : List RecordData) (day : DayLog) : Type 0 where
  pub known : day.log.known ≡ known_of policy records
  pub text : day.text.items ≡ log_of day.log.form policy records
