use Rattle.std.proofs.Common.{◌∙◌, ap, sym}
use Rattle.std.specs.{Prelude.{Some, option_map}, List.find}
use Rattle.gx_streams.specs.{Spans.{ReaderSpans, is_named}, declared.span.Span.Span}
use Rattle.gx_streams.proofs.Readers_named.{found}
use Rattle.gx_streams.proofs.readers.Readers.mask_at.Goals as goal

pub returns : goal.returns
returns c =
    ap (option_map (λ (r : ReaderSpans). r.current.mask))
    (ap (find (is_named c.in_ok-user.user.now)) (sym c.self.view_is) ∙ found c.self.inside.by_name.entries c.in_ok-user.user.now c.self.invariant.named ∙ c.in_ok-user.ensures.value)
    ∙ ap (λ (s : Span). Some s.mask) (sym c.current.ensures)
