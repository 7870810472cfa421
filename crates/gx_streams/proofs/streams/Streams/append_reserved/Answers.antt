use Rattle.std.proofs.Common.{length, subst, sym}
use Rattle.gx_streams.specs.{declared.stored_report.StoredReport.StoredReport, Kept.with_reserved_last, Table.IsSoundTable}
use Rattle.gx_streams.proofs.{UserLists_shown.{kept_last_shown, known_changed, there_with_kept_last}, Readers_silent.silent_changed, Streams_changed.{placed_here, told_changed}}
use Rattle.gx_streams.proofs.streams.Streams.append_reserved.Goals as goal

pub append_reserved-requires : goal.append_reserved-requires
append_reserved-requires c = (placed_here c.self.inside.fills.items c.self.inside.lists c.self.inside.readers c.args.self.now c.args.user c.self.view_is c.requires).1

pub invariant_of-self : goal.invariant_of-self
invariant_of-self c =
    let entry = StoredReport.Typed c.args.report in
    let was = c.self.invariant in
    let reads_not = (placed_here c.self.inside.fills.items c.self.inside.lists c.self.inside.readers c.args.self.now c.args.user c.self.view_is c.requires).0 in
    subst (λ t. IsSoundTable c.self.inside.fills.items t c.self.inside.readers) (sym c.append_reserved.ensures)
    (record {
      there = there_with_kept_last (length c.self.inside.fills.items) entry c.args.user c.self.inside.lists tt was.there;
      sound = was.sound;
      known = known_changed c.self.inside.lists c.args.user (with_reserved_last entry) c.self.inside.readers was.known;
      silent = silent_changed c.self.inside.lists c.args.user (with_reserved_last entry) c.self.inside.readers reads_not was.silent;
    })

pub returns : goal.returns
returns c =
    let reads_not = (placed_here c.self.inside.fills.items c.self.inside.lists c.self.inside.readers c.args.self.now c.args.user c.self.view_is c.requires).0 in
    told_changed c.self.inside.fills.items c.self.inside.lists c.append_reserved.new.self c.self.inside.readers c.args.self.now c.args.user (with_reserved_last (StoredReport.Typed c.args.report)) (with_reserved_last c.args.report)
    c.append_reserved.ensures (kept_last_shown c.self.inside.fills.items c.self.inside.readers (StoredReport.Typed c.args.report) c.args.user c.self.inside.lists reads_not) c.self.view_is
