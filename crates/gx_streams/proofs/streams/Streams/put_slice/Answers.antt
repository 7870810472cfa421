use Rattle.std.proofs.Common.{◌≡◌, List, ◌∙◌, ap, length, map, subst, sym, arith}
use Rattle.gx_policy.specs.Lists.{slice}
use Rattle.gx_history.specs.declared.report.Report.{Report}
use Rattle.std.specs.List.{AllByRecursion}
use Rattle.gx_streams.specs.{declared.{stored_report.StoredReport.StoredReport, fill.ReportedFill.ReportedFill}, Recorded.IsRecorded, Spans.{AreNumbered, copies_in}, Table.report_stored}
use Rattle.gx_streams.proofs.{Streams_read.{count_read, read_copies, sound_reader, told_count, told_slice}, Readers_silent.found_silent}
use Rattle.gx_streams.proofs.streams.Streams.put_slice.Goals as goal

pub reader_of-requires : goal.reader_of-requires
reader_of-requires c = λ some.
    c.find-entries.ensures ∙ found_silent c.self.inside.lists c.args.user c.self.inside.readers (c.self.invariant).silent some

pub copies-requires : goal.copies-requires
copies-requires c =
    let his = c.in-Some.reader.now in
    subst (λ (f : List ReportedFill). AreNumbered f 1 his.earlier his.current) (sym c.as_slice-fills.ensures.value)
    (sound_reader c.self.inside.fills.items c.self.inside.lists c.self.inside.readers c.args.user his c.in-Some.ensures c.self.invariant).numbered

pub returns-in_ok-reports-in-Some-clause-part : goal.returns-in_ok-reports-in-Some-clause-part
returns-in_ok-reports-in-Some-clause-part c =
    let his = c.in-Some.reader.now in
    c.in_ok-reports-in-Some.ensures
    ∙ (ap (λ (f : List ReportedFill). slice (copies_in f his.earlier his.current) c.args.from c.args.most) c.as_slice-fills.ensures.value
    ∙ ap (λ (l : List Report). slice l c.args.from c.args.most) (read_copies c.self.inside.fills.items c.self.inside.lists c.self.inside.readers c.args.self.now c.args.user his c.in-Some.ensures c.self.invariant c.self.view_is))

pub returns-in_ok-reports-in-Some-clause-count : goal.returns-in_ok-reports-in-Some-clause-count
returns-in_ok-reports-in-Some-clause-count c =
    c.count.ensures
    ∙ count_read c.self.inside.fills.items c.self.inside.lists c.self.inside.readers c.args.self.now c.args.user c.in-Some.reader.now c.in-Some.ensures c.self.invariant c.self.view_is

pub returns-in_ok-reports-in-Some-clause-few : goal.returns-in_ok-reports-in-Some-clause-few
returns-in_ok-reports-in-Some-clause-few c =
    let room = c.as_slice-fills.type_inv in
    let same : length c.as_slice-fills.result.now ≡ length c.self.inside.fills.items = ap length c.as_slice-fills.ensures.value in
    let few = (sound_reader c.self.inside.fills.items c.self.inside.lists c.self.inside.readers c.args.user c.in-Some.reader.now c.in-Some.ensures c.self.invariant).few in
    omega (arith, room.0, room.1, same, few, c.count.ensures)

pub put_reports-requires : goal.put_reports-requires
put_reports-requires c =
    record {
      recorded =
          subst (λ (l : List Report). AllByRecursion (IsRecorded c.args.house c.args.records.now) l)
          (sym (ap (λ (f : List ReportedFill). map (report_stored f) c.slice.result) c.as_slice-fills.ensures.value
          ∙ (ap (map (report_stored c.self.inside.fills.items)) (c.slice.ensures ∙ ap (λ (l : List StoredReport). slice l c.args.from c.args.most) c.find-entries.ensures)
          ∙ told_slice c.self.inside.fills.items c.self.inside.lists c.self.inside.readers c.args.self.now c.args.user c.args.from c.args.most c.in-None.ensures c.self.view_is)))
          c.requires.recorded;
    }

pub returns-in_ok-put_reports-in-None-clause-part : goal.returns-in_ok-put_reports-in-None-clause-part
returns-in_ok-put_reports-in-None-clause-part c =
    c.in_ok-put_reports-in-None.ensures
    ∙ (ap (λ (f : List ReportedFill). map (report_stored f) c.slice.result) c.as_slice-fills.ensures.value
    ∙ (ap (map (report_stored c.self.inside.fills.items)) (c.slice.ensures ∙ ap (λ (l : List StoredReport). slice l c.args.from c.args.most) c.find-entries.ensures)
    ∙ told_slice c.self.inside.fills.items c.self.inside.lists c.self.inside.readers c.args.self.now c.args.user c.args.from c.args.most c.in-None.ensures c.self.view_is))

pub returns-in_ok-put_reports-in-None-clause-count : goal.returns-in_ok-put_reports-in-None-clause-count
returns-in_ok-put_reports-in-None-clause-count c =
    c.len-count.ensures ∙ ap length c.find-entries.ensures ∙ told_count c.self.inside.fills.items c.self.inside.lists c.self.inside.readers c.args.self.now c.args.user c.in-None.ensures c.self.view_is
