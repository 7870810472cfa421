use Rattle.gx_gate_state.proofs.State_next.{no_other_match}
use Rattle.gx_gate_state.proofs.matching.apply_match.Goals as goal

pub unreachable-requires : goal.unreachable-requires
unreachable-requires c =
    no_other_match c.args.next.moves.now c.args.next.data.now c.requires.takes.does c.requires.matches c.in_default.not-Fills c.in_default.not-Rests c.in_default.not-Expires
