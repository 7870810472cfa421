use Rattle.std.proofs.Common.{◌≡◌, true, false, ap, sym, ◌∙◌}
use Rattle.std.specs.Prelude.{is_some}
use Rattle.gx_gate_state.proofs.matching.order_numbered.Goals as goal

pub unreachable-requires : goal.unreachable-requires
unreachable-requires c = let none : false ≡ true = sym (ap is_some c.in_default.is) ∙ ap is_some c.numbered.ensures.found ∙ c.requires.lives in cc
