use Rattle.std.proofs.{Common.{◌≤◌, ◌+◌, ◌∙◌, ap, arith, sym}, Math.Path.subst}
use Rattle.gx_units.specs.declared.names.UserName.{UserName}
use Rattle.gx_units.proofs.Lists_found.{few_pass}
use Rattle.gx_history.specs.LiveOrders.{is_of_user}
use Rattle.gx_streams.specs.{Kept.{reserved_in, with_reserved}, Streams.{AllStreams, has_own_stream}, Telling.shown_streams}
use Rattle.gx_streams.proofs.{Places_kept.users_stay, Reports_told.places_not_shown}
use Rattle.gx_gate_state.proofs.Reserved_next.{as_many_places, more_places}
use Rattle.gx_gate_state.proofs.reserve.reserve_enough_for_trader.Goals as goal

pub overflow_add-count_of : goal.overflow_add-count_of
overflow_add-count_of c = omega (arith, c.count_of.ensures, few_pass (is_of_user c.args.user) c.args.orders.now.live, c.requires.few)

pub returns-clause-shown : goal.returns-clause-shown
returns-clause-shown c = ap shown_streams c.in_ok-reserve.ensures.ok ∙ places_not_shown c.args.streams.now c.args.user (c.count_of.result + 2)

pub returns-clause-known : goal.returns-clause-known
returns-clause-known c = λ (other : UserName).
    ap (λ (s : AllStreams). has_own_stream s other) c.in_ok-reserve.ensures.ok ∙ users_stay c.args.streams.now c.args.user (with_reserved (c.count_of.result + 2)) other

pub returns-clause-more : goal.returns-clause-more
returns-clause-more c = λ (other : UserName).
    subst (λ (s : AllStreams). reserved_in c.args.streams.now.lists other ≤ reserved_in s.lists other) (sym c.in_ok-reserve.ensures.ok)
    (more_places c.args.streams.now c.args.user (c.count_of.result + 2) other c.requires.told)

pub returns-clause-places : goal.returns-clause-places
returns-clause-places c = λ known.
    subst (λ n. n + 2 ≤ reserved_in c.reserve.new.self.lists c.args.user) c.count_of.ensures
    (subst (λ (s : AllStreams). c.count_of.result + 2 ≤ reserved_in s.lists c.args.user) (sym c.in_ok-reserve.ensures.ok)
    (as_many_places c.args.streams.now c.args.user (c.count_of.result + 2) c.requires.told))

pub returns-clause-readers : goal.returns-clause-readers
returns-clause-readers c = ap (λ (s : AllStreams). s.readers) c.in_ok-reserve.ensures.ok
