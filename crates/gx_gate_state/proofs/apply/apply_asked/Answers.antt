use Rattle.std.proofs.Common.{refl}
use Rattle.gx_history.specs.declared.moves.Move.{Move}
use Rattle.gx_gate_state.proofs.State_next.{day_so, line_goes_on, no_other_move, takes_so}
use Rattle.gx_gate_state.proofs.apply.apply_asked.Goals as goal

pub unreachable-requires : goal.unreachable-requires
unreachable-requires c =
    no_other_move c.args.a.now c.args.next.moves.now c.args.next.data.now c.requires.takes.does c.requires.asks
    c.in_default.not-Denies c.in_default.not-PutsOn c.in_default.not-Adds c.in_default.not-Sizes c.in_default.not-Replaces c.in_default.not-Commands

pub returns-in-PutsOn-clause-ok : goal.returns-in-PutsOn-clause-ok
returns-in-PutsOn-clause-ok c =
    line_goes_on c.in-PutsOn.field-0 c.in-PutsOn.field-1 c.args.next.data.now c.args.state.now _
    (takes_so c.args.next.moves.now (Move.PutsOn c.in-PutsOn.field-0 c.in-PutsOn.field-1) c.args.next.data.now c.args.state.now c.in-PutsOn.is c.requires.takes)
    refl refl (day_so c.args.next.data.now c.args.next.moves.now (Move.PutsOn c.in-PutsOn.field-0 c.in-PutsOn.field-1) c.args.state.now.status _ c.in-PutsOn.is c.apply.ensures) refl refl refl refl
