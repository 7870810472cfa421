use Rattle.std.proofs.{Common.{◌≡◌, true, false, refl, ◌∙◌, sym}, lemmas.Result.on_ok_weaker}
use Rattle.gx_gate_state.proofs.{Traders_bounds.{trader_has_enough, trader_is_told}, Reserved_next.{asked_are_placed, asker_fits, few_live, keep_still, kept_fit, many_fit}, State_next.asked_takes}
use Rattle.gx_gate_state.proofs.reserve.reserve_reports.Goals as goal

pub reserve_enough_for_all-requires : goal.reserve_enough_for_all-requires
reserve_enough_for_all-requires c = record { few = few_live c.args.state.now c.requires.takes.does.legal c.requires.takes.in_force }

pub reserve_enough-requires : goal.reserve_enough-requires
reserve_enough-requires c = record { few = few_live c.args.state.now c.requires.takes.does.legal c.requires.takes.in_force }

-- a granted Kill or Logout
pub returns-then-is_never_refused-clause-whole : goal.returns-then-is_never_refused-clause-whole
returns-then-is_never_refused-clause-whole c =
    kept_fit c.args.a.now c.args.next.data.now c.args.state.now (asked_takes c.args.a.now c.args.next.moves.now c.args.next.data.now c.args.state.now c.requires.asks c.requires.takes) c.requires.kept (sym c.is_never_refused.ensures ∙ c.if-is_never_refused.true)

pub returns-then-is_never_refused-clause-places : goal.returns-then-is_never_refused-clause-places
returns-then-is_never_refused-clause-places c =
    asked_are_placed c.args.a.now c.args.next.data.now c.args.state.now c.args.state.now.streams (asked_takes c.args.a.now c.args.next.moves.now c.args.next.data.now c.args.state.now c.requires.asks c.requires.takes) (λ user. refl)
    (returns-then-is_never_refused-clause-whole c)

-- a granted Lift or Close Day
pub returns-then-may_notify_all_users-clause-kept : goal.returns-then-may_notify_all_users-clause-kept
returns-then-may_notify_all_users-clause-kept c =
    keep_still {policy = c.args.next.policy.now} {history = c.args.next.history.now.records} c.args.state.now c.reserve_enough_for_all.new.streams
    (record { in_force = c.requires.takes.in_force; kept = c.requires.kept; known = c.reserve_enough_for_all.ensures.known; more = c.reserve_enough_for_all.ensures.more })

pub returns-then-may_notify_all_users-clause-whole : goal.returns-then-may_notify_all_users-clause-whole
returns-then-may_notify_all_users-clause-whole c =
    on_ok_weaker c.reserve_enough_for_all.result
    (λ all. many_fit c.args.a.now c.args.next.data.now c.args.state.now c.reserve_enough_for_all.new.streams (asked_takes c.args.a.now c.args.next.moves.now c.args.next.data.now c.args.state.now c.requires.asks c.requires.takes) c.reserve_enough_for_all.ensures.known all)
    c.reserve_enough_for_all.ensures.places

pub returns-then-may_notify_all_users-clause-places : goal.returns-then-may_notify_all_users-clause-places
returns-then-may_notify_all_users-clause-places c =
    on_ok_weaker c.reserve_enough_for_all.result
    (asked_are_placed c.args.a.now c.args.next.data.now c.args.state.now c.reserve_enough_for_all.new.streams (asked_takes c.args.a.now c.args.next.moves.now c.args.next.data.now c.args.state.now c.requires.asks c.requires.takes) c.reserve_enough_for_all.ensures.known)
    (returns-then-may_notify_all_users-clause-whole c)

pub returns-then-may_notify_all_users-clause-sure : goal.returns-then-may_notify_all_users-clause-sure
returns-then-may_notify_all_users-clause-sure c = λ sure. let clash : false ≡ true = sym c.if-is_never_refused.false ∙ c.is_never_refused.ensures ∙ sure in cc

-- an Enter
pub reserve_enough_for_trader-requires : goal.reserve_enough_for_trader-requires
reserve_enough_for_trader-requires c =
    record {
      few = few_live c.args.state.now c.requires.takes.does.legal c.requires.takes.in_force;
      told = trader_is_told c.args.next.policy.now c.args.next.history.now.records c.args.a.now c.args.next.data.now c.args.next.moves.now c.in-Adds.field-0 c.args.state.now c.requires.asks c.requires.takes c.in-Adds.is;
    }

pub returns-in-Adds-clause-kept : goal.returns-in-Adds-clause-kept
returns-in-Adds-clause-kept c =
    keep_still {policy = c.args.next.policy.now} {history = c.args.next.history.now.records} c.args.state.now c.reserve_enough_for_trader.new.streams
    (record { in_force = c.requires.takes.in_force; kept = c.requires.kept; known = c.reserve_enough_for_trader.ensures.known; more = c.reserve_enough_for_trader.ensures.more })

pub returns-in-Adds-clause-whole : goal.returns-in-Adds-clause-whole
returns-in-Adds-clause-whole c =
    on_ok_weaker c.reserve_enough_for_trader.result
    (λ has. asker_fits c.args.a.now c.args.next.data.now c.args.state.now c.reserve_enough_for_trader.new.streams (asked_takes c.args.a.now c.args.next.moves.now c.args.next.data.now c.args.state.now c.requires.asks c.requires.takes)
    (record { in_force = c.requires.takes.in_force; kept = c.requires.kept; known = c.reserve_enough_for_trader.ensures.known; more = c.reserve_enough_for_trader.ensures.more })
    (sym c.may_notify_all_users.ensures ∙ c.if-may_notify_all_users.false)
    (trader_has_enough c.args.next.policy.now c.args.next.history.now.records c.args.a.now c.args.next.data.now c.args.next.moves.now c.in-Adds.field-0 c.args.state.now c.requires.asks c.requires.takes c.in-Adds.is c.reserve_enough_for_trader.new.streams has))
    c.reserve_enough_for_trader.ensures.places

pub returns-in-Adds-clause-places : goal.returns-in-Adds-clause-places
returns-in-Adds-clause-places c =
    on_ok_weaker c.reserve_enough_for_trader.result
    (asked_are_placed c.args.a.now c.args.next.data.now c.args.state.now c.reserve_enough_for_trader.new.streams (asked_takes c.args.a.now c.args.next.moves.now c.args.next.data.now c.args.state.now c.requires.asks c.requires.takes) c.reserve_enough_for_trader.ensures.known)
    (returns-in-Adds-clause-whole c)

pub returns-in-Adds-clause-sure : goal.returns-in-Adds-clause-sure
returns-in-Adds-clause-sure c = λ sure. let clash : false ≡ true = sym c.if-is_never_refused.false ∙ c.is_never_refused.ensures ∙ sure in cc

-- any other request
pub returns-clause-kept : goal.returns-clause-kept
returns-clause-kept c =
    keep_still {policy = c.args.next.policy.now} {history = c.args.next.history.now.records} c.args.state.now c.reserve_enough.new.streams
    (record { in_force = c.requires.takes.in_force; kept = c.requires.kept; known = c.reserve_enough.ensures.known; more = c.reserve_enough.ensures.more })

pub returns-clause-whole : goal.returns-clause-whole
returns-clause-whole c =
    on_ok_weaker c.reserve_enough.result
    (λ has. asker_fits c.args.a.now c.args.next.data.now c.args.state.now c.reserve_enough.new.streams (asked_takes c.args.a.now c.args.next.moves.now c.args.next.data.now c.args.state.now c.requires.asks c.requires.takes)
    (record { in_force = c.requires.takes.in_force; kept = c.requires.kept; known = c.reserve_enough.ensures.known; more = c.reserve_enough.ensures.more })
    (sym c.may_notify_all_users.ensures ∙ c.if-may_notify_all_users.false) has)
    c.reserve_enough.ensures.places

pub returns-clause-places : goal.returns-clause-places
returns-clause-places c =
    on_ok_weaker c.reserve_enough.result
    (asked_are_placed c.args.a.now c.args.next.data.now c.args.state.now c.reserve_enough.new.streams (asked_takes c.args.a.now c.args.next.moves.now c.args.next.data.now c.args.state.now c.requires.asks c.requires.takes) c.reserve_enough.ensures.known)
    (returns-clause-whole c)

pub returns-clause-sure : goal.returns-clause-sure
returns-clause-sure c = λ sure. let clash : false ≡ true = sym c.if-is_never_refused.false ∙ c.is_never_refused.ensures ∙ sure in cc
