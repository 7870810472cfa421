use Rattle.std.proofs.lemmas.Result.{on_ok_weaker}
use Rattle.gx_history.specs.declared.moves.Move.{Move}
use Rattle.gx_gate_state.proofs.{State_next.takes_so, Reserved_next.{few_live, keep_still}, Match_next.{end_fits, end_is_placed}}
use Rattle.gx_gate_state.proofs.reserve.reserve_for_expiry.Goals as goal

pub reserve_enough-requires : goal.reserve_enough-requires
reserve_enough-requires c = record { few = few_live c.args.state.now c.requires.takes.does.legal c.requires.takes.in_force }

pub returns-clause-kept : goal.returns-clause-kept
returns-clause-kept c =
    keep_still {policy = c.args.next.policy.now} {history = c.args.next.history.now.records} c.args.state.now c.reserve_enough.new.streams
    (record { in_force = c.requires.takes.in_force; kept = c.requires.kept; known = c.reserve_enough.ensures.known; more = c.reserve_enough.ensures.more })

pub returns-clause-whole : goal.returns-clause-whole
returns-clause-whole c =
    on_ok_weaker c.reserve_enough.result
    (λ has. end_fits c.args.next.data.now c.args.state.now c.args.order.now c.reserve_enough.new.streams (takes_so c.args.next.moves.now (Move.Expires c.args.order.now.number) c.args.next.data.now c.args.state.now c.requires.expires c.requires.takes) c.requires.lives
    (record { in_force = c.requires.takes.in_force; kept = c.requires.kept; known = c.reserve_enough.ensures.known; more = c.reserve_enough.ensures.more }) has)
    c.reserve_enough.ensures.places

pub returns-clause-places : goal.returns-clause-places
returns-clause-places c =
    on_ok_weaker c.reserve_enough.result
    (end_is_placed c.args.next.data.now c.args.state.now c.args.order.now c.reserve_enough.new.streams (takes_so c.args.next.moves.now (Move.Expires c.args.order.now.number) c.args.next.data.now c.args.state.now c.requires.expires c.requires.takes) c.reserve_enough.ensures.known)
    (returns-clause-whole c)
