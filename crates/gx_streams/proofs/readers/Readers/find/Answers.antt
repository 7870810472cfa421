use Rattle.std.proofs.Common.{◌∙◌, ap, sym}
use Rattle.std.specs.List.{find}
use Rattle.gx_streams.specs.Spans.{is_named}
use Rattle.gx_streams.proofs.Readers_named.{found}
use Rattle.gx_streams.proofs.readers.Readers.find.Goals as goal

pub returns : goal.returns
returns c = c.get.ensures.value ∙ sym (found c.self.inside.by_name.entries c.args.user c.self.invariant.named) ∙ ap (find (is_named c.args.user)) c.self.view_is
