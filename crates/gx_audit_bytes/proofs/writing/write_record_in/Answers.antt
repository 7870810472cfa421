use Rattle.std.proofs.Common.{subst}
use Rattle.gx_ouch.specs.Layout.{LiesIn}
use Rattle.gx_history.specs.declared.record.RecordData.{RecordData}
use Rattle.gx_audit_bytes.specs.{Records.{audit_record, record_contents}, Reading.IsRecordShown}
use Rattle.gx_audit_bytes.proofs.writing.write_record_in.Goals as goal

pub returns-clause-fields : goal.returns-clause-fields
returns-clause-fields c =
    subst (λ (r : RecordData). LiesIn audit_record (record_contents c.args.version r) c.write_content.result) c.content.ensures.same c.write_content.ensures.fields

pub returns-clause-shown : goal.returns-clause-shown
returns-clause-shown c = subst (IsRecordShown c.args.version) c.content.ensures.same (c.write_content.ensures.shown c.content.ensures.showable)
