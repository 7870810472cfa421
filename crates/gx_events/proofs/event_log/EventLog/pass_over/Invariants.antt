use Rattle.std.proofs.Common.{◌≡◌, ◌++◌, List, take}
use Rattle.gx_policy.specs.declared.policy.PolicyData.{PolicyData}
use Rattle.gx_history.specs.declared.record.RecordData.{RecordData}
use Rattle.gx_events.specs.Known.{known_of}
use Rattle.gx_events.proofs.event_log.EventLog.pass_over.Given as goal

abbrev pub invariant-loop-record : goal.invariant-loop-record
invariant-loop-record l = record {
  known : (policy : PolicyData) (before : List RecordData) → l.initial.self.known ≡ known_of policy before → l.self.known ≡ known_of policy (before ++ take l.record-index l.records);
  form : l.self.form ≡ l.initial.self.form;
}
