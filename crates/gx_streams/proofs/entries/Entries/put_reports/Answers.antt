use Rattle.std.proofs.{Common.{List, map, sym, ◌∙◌, ap, subst}, lemmas.{Result.on_ok_weaker, Simd.map-map}}
use Rattle.std.specs.List.{AllByRecursion}
use Rattle.gx_history.specs.declared.report.Report.{Report}
use Rattle.gx_streams.specs.{declared.{stored_report.StoredReport.StoredReport}, Slots.{DetailLists, entry_in, lists_of}, Recorded.IsRecorded, Table.report_stored}
use Rattle.gx_streams.proofs.Slots_table.{of_slots}
use Rattle.gx_streams.proofs.entries.Entries.put_reports.Goals as goal

pub put_each-requires : goal.put_each-requires
put_each-requires c =
    let lists : DetailLists = lists_of c.self.inside.lists in
    let P : Report → Type 0 = IsRecorded c.args.source.now.house c.args.source.now.records.now in
    record {
      recorded = of_slots P (entry_in lists) (report_stored c.args.fills.now) c.self.inside.slots.now
          (subst (λ (l : List StoredReport). AllByRecursion P (map (report_stored c.args.fills.now) l)) (sym c.self.view_is) c.requires.recorded);
    }

pub returns : goal.returns
returns c =
    let lists : DetailLists = lists_of c.self.inside.lists in
    on_ok_weaker c.put_each.result
    (λ put. put ∙ sym (map-map (report_stored c.args.fills.now) (entry_in lists) c.self.inside.slots.now) ∙ ap (λ (l : List StoredReport). map (report_stored c.args.fills.now) l) c.self.view_is)
    c.put_each.ensures
