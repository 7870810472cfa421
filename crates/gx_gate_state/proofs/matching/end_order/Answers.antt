use Rattle.std.proofs.{Common.{ℕ, refl, ap, sym, ◌∙◌, ◌∷◌, [], ◌++◌}, Math.Path.subst}
use Rattle.std.specs.Prelude.{Some}
use Rattle.gx_ouch.specs.declared.letters.CancelReason.{CancelReason}
use Rattle.gx_history.specs.{declared.moves.Move.Move, Streams.canceled_of}
use Rattle.gx_streams.specs.Laws.{TellsOne}
use Rattle.gx_gate_state.proofs.{State_next.{day_so, one_goes_on, takes_so}, Ledger_next.{end_figured, legal_after}, Reserved_next.known_told, Match_next.{end_has_place, end_tells}, Room_bounds.{places_behind, telling_keeps_room}}
use Rattle.gx_gate_state.proofs.matching.end_order.Goals as goal

pub tell-requires : goal.tell-requires
tell-requires c = end_has_place c.args.next.data.now c.args.state.now c.args.order.now (takes_so c.args.next.moves.now (Move.Expires c.args.order.now.number) c.args.next.data.now c.args.state.now c.requires.expires c.requires.takes) c.requires.lives c.requires.places

pub returns-clause-after : goal.returns-clause-after
returns-clause-after c =
    let t = takes_so c.args.next.moves.now (Move.Expires c.args.order.now.number) c.args.next.data.now c.args.state.now c.requires.expires c.requires.takes in
    one_goes_on (Move.Expires c.args.order.now.number) c.args.next.data.now c.args.state.now _ c.args.order.now.user (Some c.canceled-message.result) t
    (subst (TellsOne c.args.next.policy.now c.args.next.history.now.records (c.args.next.history.now.records ++ c.args.next.data.now ∷ []) c.args.next.data.now c.args.order.now.user)
    (sym (c.canceled-message.ensures ∙ ap (λ (n : ℕ). canceled_of CancelReason.ImmediateOrCancel n c.args.order.now) c.open.ensures))
    (end_tells c.args.next.data.now c.args.state.now c.args.order.now t c.requires.lives))
    refl refl refl (day_so c.args.next.data.now c.args.next.moves.now (Move.Expires c.args.order.now.number) c.args.state.now.status _ c.requires.expires c.apply.ensures) (λ i. record { live = c.end.ensures.live i; used = c.end.ensures.used i }) refl
    (end_figured c.args.next.data.now c.args.order.now c.args.state.now _ t c.requires.lives c.close.ensures.closed) c.tell.ensures

pub returns-clause-kept_after : goal.returns-clause-kept_after
returns-clause-kept_after c =
    let after = returns-clause-after c in
    places_behind c.args.next.data.now c.args.state.now.streams _ c.requires.takes.does.legal
    (legal_after c.args.next.data.now.step c.args.next.data.now c.requires.takes.does.legal c.requires.takes.fits c.requires.takes.does.is_next)
    (known_told c.args.state.now c.requires.takes.in_force)
    (known_told _ after)
    c.requires.takes.in_force.streams after.streams
    (telling_keeps_room c.args.state.now.streams c.tell.new.streams c.args.order.now.user c.args.next.data.now.moment (Some c.canceled-message.result) c.tell.ensures)
    c.requires.whole
