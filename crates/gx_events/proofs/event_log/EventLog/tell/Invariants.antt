use Rattle.std.proofs.Common.{◌≡◌, ◌++◌, List, take}
use Rattle.gx_policy.specs.declared.policy.PolicyData.{PolicyData}
use Rattle.gx_history.specs.declared.record.RecordData.{RecordData}
use Rattle.gx_events.specs.{Known.known_of, Lines.lines_behind}
use Rattle.gx_events.proofs.event_log.EventLog.tell.Given as goal

abbrev pub invariant-loop-record : goal.invariant-loop-record
invariant-loop-record l = record {
  known : (policy : PolicyData) (before : List RecordData) → l.initial.next.known ≡ known_of policy before → l.next.known ≡ known_of policy (before ++ take l.record-index l.records);
  lines : (policy : PolicyData) (before : List RecordData) → l.initial.next.known ≡ known_of policy before → l.text.items ≡ lines_behind l.initial.next.form policy before (take l.record-index l.records);
  form : l.next.form ≡ l.initial.next.form;
}
