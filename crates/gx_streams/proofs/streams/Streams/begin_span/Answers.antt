use Rattle.std.proofs.lemmas.Result.{on_ok_weaker}
use Rattle.gx_streams.proofs.Masks_same.{either_way, same_again}
use Rattle.gx_streams.proofs.streams.Streams.begin_span.Goals as goal

pub returns-in-Some : goal.returns-in-Some
returns-in-Some c =
    either_way c.entitle.result
    (on_ok_weaker c.entitle.result
    (same_again c.self.inside.fills.items c.self.inside.lists c.self.inside.readers c.args.self.now c.entitle.new.self c.in-Some.user c.in-Some.mask c.in-Some.ensures c.self.view_is)
    c.entitle.ensures.ok)
    c.entitle.ensures.err
