-- A journal that is followed, as contracts see it.
use Rattle.std.specs.Prelude.{◌≡◌, ℕ, List, length, Option, None}
use Rattle.gx_policy.specs.declared.policy.PolicyData.{PolicyData}
use Rattle.gx_history.specs.declared.record.RecordData.{RecordData}
use Rattle.gx_text.specs.declared.form.Form.{Form}
use Rattle.gx_events.specs.Lines.{LogState}
use Rattle.gx_audit.specs.declared.fault.AuditFault.{AuditFault}
use Rattle.gx_follower.specs.Followers.{FollowerData}
use Rattle.gx_warnings.specs.{declared.warning.Warning.Warning, Keeping.AreWarningsKept}
use Rattle.gx_monitor.specs.{declared.monitor.Monitor.Monitor, Logs.IsLogOf}

-- the policy, the bytes that were read, the records that were made of them, how many of the bytes are whole, and the fault at
-- which it stopped, if it did; how lines are written, the log and its lines, the shares of which is warned and the warnings so
-- far; and how many bytes of the lines, and how many warnings, were told
pub record WatchData : Type 0 where
  pub policy : PolicyData
  pub read : List ℕ
  pub records : List RecordData
  pub whole : ℕ
  pub fault : Option AuditFault
  pub form : Form
  pub log : LogState
  pub lines : List ℕ
  pub shares : List ℕ
  pub warnings : List Warning
  pub written : ℕ
  pub told : ℕ

-- once all lines and all warnings so far are told
abbrev pub told_all : WatchData → WatchData
told_all w = record {
  policy = w.policy;
  read = w.read;
  records = w.records;
  whole = w.whole;
  fault = w.fault;
  form = w.form;
  log = w.log;
  lines = w.lines;
  shares = w.shares;
  warnings = w.warnings;
  written = length w.lines;
  told = length w.warnings;
}

-- the log and the warnings are those of the gate's records
pub record IsFollowing (follower : FollowerData) (monitor : Monitor) : Type 0 where
  pub goes_on : follower.fault ≡ None
  pub log : IsLogOf follower.policy follower.records monitor.watched.first
  pub warnings : AreWarningsKept follower.policy follower.records monitor.watched.second
