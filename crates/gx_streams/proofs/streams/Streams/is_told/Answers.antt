use Rattle.std.proofs.Common.{◌≡◌, Bool, true, false, not, ◌&&◌, refl, ◌∙◌, ap, sym}
use Rattle.std.specs.{Prelude.{Option, Some, None, is_some, option_map}, List.find}
use Rattle.gx_streams.specs.Spans.{is_named}
use Rattle.gx_streams.proofs.Streams_changed.{told_is}
use Rattle.gx_streams.proofs.streams.Streams.is_told.Goals as goal

not_not : (b : Bool) → not (not b) ≡ b
not_not true = refl
not_not false = refl

mapped : {X Y : Type 0} (f : X → Y) (o : Option X) → is_some o ≡ is_some (option_map f o)
mapped f None = refl
mapped f (Some x) = refl

pub returns-then-knows : goal.returns-then-knows
returns-then-knows c =
    sym (not_not c.is_none.result) ∙ sym (ap not c.is_none.ensures) ∙ ap not (mapped (λ r. r.now) c.find.result ∙ ap is_some c.find.ensures)
    ∙ ap (λ b. b && not (is_some (find (is_named c.args.user) c.self.inside.readers))) (sym (sym c.knows.ensures ∙ c.if-knows.true))
    ∙ told_is c.self.inside.fills.items c.self.inside.lists c.self.inside.readers c.args.self.now c.args.user c.self.view_is

pub returns-else-knows : goal.returns-else-knows
returns-else-knows c =
    c.if-knows.false ∙ ap (λ b. b && not (is_some (find (is_named c.args.user) c.self.inside.readers))) (sym (sym c.knows.ensures ∙ c.if-knows.false))
    ∙ told_is c.self.inside.fills.items c.self.inside.lists c.self.inside.readers c.args.self.now c.args.user c.self.view_is
