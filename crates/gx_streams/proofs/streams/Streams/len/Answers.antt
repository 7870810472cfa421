use Rattle.std.proofs.Common.{◌≡◌, length, ◌∙◌, ap, arith}
use Rattle.gx_streams.proofs.Streams_read.{count_read, sound_reader, told_count}
use Rattle.gx_streams.proofs.streams.Streams.len.Goals as goal

pub returns-in-Some-clause-count : goal.returns-in-Some-clause-count
returns-in-Some-clause-count c =
    c.count.ensures
    ∙ count_read c.self.inside.fills.items c.self.inside.lists c.self.inside.readers c.args.self.now c.args.user c.in-Some.reader.now c.in-Some.ensures c.self.invariant c.self.view_is

pub returns-in-None-clause-count : goal.returns-in-None-clause-count
returns-in-None-clause-count c =
    c.len.ensures ∙ ap length c.find-in-None.ensures ∙ told_count c.self.inside.fills.items c.self.inside.lists c.self.inside.readers c.args.self.now c.args.user c.in-None.ensures c.self.view_is

pub returns-in-Some-clause-few : goal.returns-in-Some-clause-few
returns-in-Some-clause-few c =
    let room = c.as_slice.type_inv in
    let same : length c.as_slice.result.now ≡ length c.self.inside.fills.items = ap length c.as_slice.ensures.value in
    let few = (sound_reader c.self.inside.fills.items c.self.inside.lists c.self.inside.readers c.args.user c.in-Some.reader.now c.in-Some.ensures c.self.invariant).few in
    omega (arith, room.0, room.1, same, few, c.count.ensures)
