use Rattle.std.proofs.{Common.length, lemmas.Result.on_ok_weaker}
use Rattle.gx_streams.specs.{declared.stored_report.StoredReport.StoredReport, Kept.{on_user, with_last}}
use Rattle.gx_streams.proofs.{UserLists_shown.{known_changed, last_shown, there_with_last}, Readers_silent.silent_changed, Streams_changed.{sound_told, told_changed, told_here}}
use Rattle.gx_streams.proofs.streams.Streams.append.Goals as goal

pub append-requires : goal.append-requires
append-requires c = record { known = (told_here c.self.inside.fills.items c.self.inside.lists c.self.inside.readers c.args.self.now c.args.user c.self.view_is c.requires.told).known }

pub invariant_of-self : goal.invariant_of-self
invariant_of-self c =
    let entry = StoredReport.Typed c.args.report in
    let was = c.self.invariant in
    let his = told_here c.self.inside.fills.items c.self.inside.lists c.self.inside.readers c.args.self.now c.args.user c.self.view_is c.requires.told in
    sound_told c.append.result c.self.inside.fills.items c.self.inside.lists (on_user c.args.user (with_last entry) c.self.inside.lists) c.append.new.self c.self.inside.readers c.append.ensures.ok c.append.ensures.err
    (record {
      there = there_with_last (length c.self.inside.fills.items) entry c.args.user c.self.inside.lists tt was.there;
      sound = was.sound;
      known = known_changed c.self.inside.lists c.args.user (with_last entry) c.self.inside.readers was.known;
      silent = silent_changed c.self.inside.lists c.args.user (with_last entry) c.self.inside.readers his.reads_not was.silent;
    }) was

pub returns-clause-ok : goal.returns-clause-ok
returns-clause-ok c =
    let entry = StoredReport.Typed c.args.report in
    let his = told_here c.self.inside.fills.items c.self.inside.lists c.self.inside.readers c.args.self.now c.args.user c.self.view_is c.requires.told in
    on_ok_weaker c.append.result
    (λ done. told_changed c.self.inside.fills.items c.self.inside.lists c.append.new.self c.self.inside.readers c.args.self.now c.args.user (with_last entry) (with_last c.args.report) done
    (last_shown c.self.inside.fills.items c.self.inside.readers entry c.args.user c.self.inside.lists his.reads_not) c.self.view_is)
    c.append.ensures.ok
