use Rattle.std.proofs.{Common.{◌≤◌, ◌∙◌, ap, sym}, Math.Path.subst}
use Rattle.gx_units.specs.declared.names.UserName.{UserName}
use Rattle.gx_streams.specs.{Kept.{reserved_in, with_reserved}, Streams.{AllStreams, has_own_stream}, Telling.shown_streams}
use Rattle.gx_streams.proofs.{Places_kept.users_stay, Reports_told.places_not_shown}
use Rattle.gx_gate_state.proofs.Reserved_next.{as_many_places, more_places}
use Rattle.gx_gate_state.proofs.reserve.reserve_for_user.Goals as goal

pub returns-clause-shown : goal.returns-clause-shown
returns-clause-shown c = ap shown_streams c.in_ok-reserve.ensures.ok ∙ places_not_shown c.args.streams.now c.args.user c.args.places

pub returns-clause-known : goal.returns-clause-known
returns-clause-known c = λ (other : UserName).
    ap (λ (s : AllStreams). has_own_stream s other) c.in_ok-reserve.ensures.ok ∙ users_stay c.args.streams.now c.args.user (with_reserved c.args.places) other

pub returns-clause-more : goal.returns-clause-more
returns-clause-more c = λ (other : UserName).
    subst (λ (s : AllStreams). reserved_in c.args.streams.now.lists other ≤ reserved_in s.lists other) (sym c.in_ok-reserve.ensures.ok)
    (more_places c.args.streams.now c.args.user c.args.places other (sym c.is_told.ensures ∙ c.if-not-is_told.false))

pub returns-clause-places : goal.returns-clause-places
returns-clause-places c = λ known.
    subst (λ (s : AllStreams). c.args.places ≤ reserved_in s.lists c.args.user) (sym c.in_ok-reserve.ensures.ok)
    (as_many_places c.args.streams.now c.args.user c.args.places (sym c.is_told.ensures ∙ c.if-not-is_told.false))

pub returns-clause-readers : goal.returns-clause-readers
returns-clause-readers c = ap (λ (s : AllStreams). s.readers) c.in_ok-reserve.ensures.ok
