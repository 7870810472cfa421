use Rattle.std.proofs.{Common.{ℕ, ◌≤◌, ◌∙◌, ap, length, subst, sym}, lemmas.Result.on_ok_weaker}
use Rattle.std.specs.{Prelude.Option, Option.option_map_or}
use Rattle.gx_streams.specs.{Kept.{on_user, reserved_in, with_reserved}, Spans.ReaderSpans}
use Rattle.gx_streams.proofs.{Streams_read.read_spare, UserLists_shown.{known_changed, places_made_shown, there_with_places}, Readers_silent.silent_changed, Streams_changed.{sound_told, told_changed, told_here}}
use Rattle.gx_streams.proofs.streams.Streams.reserve.Goals as goal

pub reserve-requires : goal.reserve-requires
reserve-requires c = record { known = (told_here c.self.inside.fills.items c.self.inside.lists c.self.inside.readers c.args.self.now c.args.user c.self.view_is c.requires.told).known }

pub invariant_of-self : goal.invariant_of-self
invariant_of-self c =
    let was = c.self.invariant in
    let his = told_here c.self.inside.fills.items c.self.inside.lists c.self.inside.readers c.args.self.now c.args.user c.self.view_is c.requires.told in
    sound_told c.reserve.result c.self.inside.fills.items c.self.inside.lists (on_user c.args.user (with_reserved c.args.places) c.self.inside.lists) c.reserve.new.self c.self.inside.readers c.reserve.ensures.ok c.reserve.ensures.err
    (record {
      there = there_with_places (length c.self.inside.fills.items) c.args.places c.args.user c.self.inside.lists was.there;
      sound = was.sound;
      known = known_changed c.self.inside.lists c.args.user (with_reserved c.args.places) c.self.inside.readers was.known;
      silent = silent_changed c.self.inside.lists c.args.user (with_reserved c.args.places) c.self.inside.readers his.reads_not was.silent;
    }) was

pub returns-clause-ok : goal.returns-clause-ok
returns-clause-ok c =
    let his = told_here c.self.inside.fills.items c.self.inside.lists c.self.inside.readers c.args.self.now c.args.user c.self.view_is c.requires.told in
    on_ok_weaker c.reserve.result
    (λ done. told_changed c.self.inside.fills.items c.self.inside.lists c.reserve.new.self c.self.inside.readers c.args.self.now c.args.user (with_reserved c.args.places) (with_reserved c.args.places) done
    (places_made_shown c.self.inside.fills.items c.self.inside.readers c.args.places c.args.user c.self.inside.lists his.reads_not) c.self.view_is)
    c.reserve.ensures.ok

pub returns-clause-enough : goal.returns-clause-enough
returns-clause-enough c = λ h.
    let his = told_here c.self.inside.fills.items c.self.inside.lists c.self.inside.readers c.args.self.now c.args.user c.self.view_is c.requires.told in
    c.reserve.ensures.enough
    (subst (λ (n : ℕ). c.args.places ≤ n)
    (sym (read_spare c.self.inside.fills.items c.self.inside.lists c.self.inside.readers c.args.self.now c.args.user c.self.view_is)
    ∙ ap (λ (o : Option ReaderSpans). option_map_or (λ (r : ReaderSpans). 0) o (reserved_in c.self.inside.lists c.args.user)) his.reads_not)
    h)
