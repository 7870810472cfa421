use Rattle.std.proofs.Common.{List, ap, subst, sym, ◌∙◌}
use Rattle.std.specs.{Prelude.Option, List.AllByRecursion}
use Rattle.gx_units.specs.declared.names.Firm.{Firm}
use Rattle.gx_policy.specs.Lists.{slice}
use Rattle.gx_history.specs.{declared.{«record».RecordData.RecordData, report.Report.Report}, Streams.stream}
use Rattle.gx_access_gate.specs.Gates.{GateData}
use Rattle.gx_streams.specs.Recorded.{IsRecorded, house_of}
use Rattle.gx_streams.proofs.Accepted_recorded.{part_is_recorded}
use Rattle.gx_core.proofs.Facts_call.{copies_are_given, reports_are_known}
use Rattle.gx_core.proofs.gate.GateAccessGate.put_reports.Goals as goal

-- each Accepted of the part is what the records tell
pub put_pull-requires : goal.put_pull-requires
put_pull-requires c =
    let policy = c.self.inside.policy in
    let records = c.self.inside.history.records in
    let kept = c.self.invariant.kept in
    let house = c.house_of.ensures ∙ ap (λ (g : GateData). house_of g.policy c.args.user) (sym c.self.view_is) in
    record {
      recorded =
          subst (λ (l : List Report). AllByRecursion (IsRecorded c.house_of.result c.records.result) (slice l c.args.from c.args.most)) (sym (reports_are_known policy records c.self.inside.state c.args.user kept))
          (subst (λ (rs : List RecordData). AllByRecursion (IsRecorded c.house_of.result rs) (slice (stream policy records c.args.user) c.args.from c.args.most)) (sym c.records.ensures)
          (subst (λ (firm : Option Firm). AllByRecursion (IsRecorded firm records) (slice (stream policy records c.args.user) c.args.from c.args.most)) (sym house)
          (part_is_recorded policy records c.args.user c.args.from c.args.most kept.legal)));
    }

pub returns-clause-copies : goal.returns-clause-copies
returns-clause-copies c =
    rw (← c.self.view_is) (
    copies_are_given c.put_pull.result (λ _. c.put_pull.new.list.items) c.self.inside.state c.args.user c.args.from c.args.most c.self.invariant.kept c.put_pull.ensures.reports
    )
