use Rattle.gx_units.specs.declared.names.UserName.{UserName}
use Rattle.gx_streams.specs.Streams.{has_own_stream}
use Rattle.std.proofs.Common.{◌≡◌, true, ◌^◌, [], ◌∷◌, ◌++◌, length, ap, ◌∙◌, arith}
use Rattle.gx_streams.proofs.{Spans_next.few_enough, Streams_changed.{IsToldHere, filled, filled_sound, told_here}}
use Rattle.gx_streams.proofs.streams.Streams.put_fill.Goals as goal

pub append_both-requires-clause-first : goal.append_both-requires-clause-first
append_both-requires-clause-first c = (told_here c.self.inside.fills.items c.self.inside.lists c.self.inside.readers c.args.self.now c.args.fill.taker.user c.self.view_is c.requires.taker).known

pub append_both-requires-clause-second : goal.append_both-requires-clause-second
append_both-requires-clause-second c = (told_here c.self.inside.fills.items c.self.inside.lists c.self.inside.readers c.args.self.now c.args.fill.maker.user c.self.view_is c.requires.maker).known

pub note-requires : goal.note-requires
note-requires c =
    let room = c.as_slice-place.type_inv in
    let same : length c.as_slice-place.result.now ≡ length c.self.inside.fills.items = ap length c.as_slice-place.ensures.value in
    few_enough c.self.inside.fills.items c.self.inside.readers (2 ^ 64) (omega (arith, room.0, room.1, same)) (c.self.invariant).sound

pub invariant_of-self-2 : goal.invariant_of-self-2
invariant_of-self-2 c =
    let here : (user : UserName) → has_own_stream c.args.self.now user ≡ true → IsToldHere c.self.inside.lists c.self.inside.readers user =
    λ user is. told_here c.self.inside.fills.items c.self.inside.lists c.self.inside.readers c.args.self.now user c.self.view_is is in
    filled_sound c.self.inside.fills.items c.as_slice-place.result.now c.push.new.self.items c.self.inside.lists c.append_both.new.self c.self.inside.readers c.note.new.self c.args.fill
    (here c.args.fill.taker.user c.requires.taker).reads_not (here c.args.fill.maker.user c.requires.maker).reads_not
    (c.in-Ok.ensures.items ∙ ap (λ l. l ++ c.args.fill ∷ []) c.reserve.ensures.items) c.as_slice-place.ensures.value c.in_ok-append_both.ensures.ok c.note.ensures c.self.invariant

pub returns-clause-ok : goal.returns-clause-ok
returns-clause-ok c =
    filled c.self.inside.fills.items c.as_slice-place.result.now c.push.new.self.items c.self.inside.lists c.append_both.new.self c.self.inside.readers c.note.new.self c.args.fill c.args.self.now
    (c.in-Ok.ensures.items ∙ ap (λ l. l ++ c.args.fill ∷ []) c.reserve.ensures.items) c.as_slice-place.ensures.value c.in_ok-append_both.ensures.ok c.note.ensures c.self.invariant c.self.view_is
