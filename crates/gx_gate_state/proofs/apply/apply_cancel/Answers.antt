use Rattle.std.proofs.{Common.{ℕ, refl, sym, ap, ◌∙◌, ◌∷◌, [], ◌++◌}, Math.Path.subst}
use Rattle.std.specs.Prelude.{Some}
use Rattle.gx_ouch.specs.declared.letters.CancelReason.{CancelReason}
use Rattle.gx_history.specs.{declared.moves.Move.Move, Streams.canceled_of}
use Rattle.gx_book.specs.Changes.{with_fewer_shares}
use Rattle.gx_streams.specs.Laws.{TellsOne}
use Rattle.gx_gate_state.proofs.{State_next.{cancel_tells, day_so, has_place, one_goes_on, takes_so}, Ledger_next.cancel_figured, Room_bounds.telling_keeps_room}
use Rattle.gx_gate_state.proofs.apply.apply_cancel.Goals as goal

pub tell-requires : goal.tell-requires
tell-requires c =
    has_place c.args.next.policy.now c.args.next.history.now.records c.args.next.data.now c.args.state.now.streams c.args.cut.now.user _ c.requires.places (cancel_tells c.args.next.data.now c.args.cut.now c.args.size (takes_so c.args.next.moves.now (Move.Sizes c.args.cut.now c.args.size) c.args.next.data.now c.args.state.now c.requires.sizes c.requires.takes).does)

pub returns-clause-after : goal.returns-clause-after
returns-clause-after c =
    let t = takes_so c.args.next.moves.now (Move.Sizes c.args.cut.now c.args.size) c.args.next.data.now c.args.state.now c.requires.sizes c.requires.takes in
    one_goes_on (Move.Sizes c.args.cut.now c.args.size) c.args.next.data.now c.args.state.now _ c.args.cut.now.user (Some c.canceled-message.result) t
    (subst (TellsOne c.args.next.policy.now c.args.next.history.now.records (c.args.next.history.now.records ++ c.args.next.data.now ∷ []) c.args.next.data.now c.args.cut.now.user)
    (sym (c.canceled-message.ensures ∙ ap (λ (n : ℕ). canceled_of CancelReason.UserRequested n c.args.cut.now) c.cut_from-fewer.ensures))
    (cancel_tells c.args.next.data.now c.args.cut.now c.args.size t.does))
    refl refl refl (day_so c.args.next.data.now c.args.next.moves.now (Move.Sizes c.args.cut.now c.args.size) c.args.state.now.status _ c.requires.sizes c.apply.ensures) (λ i. record { live = c.cut.ensures.live i; used = c.cut.ensures.used i })
    (c.reduce.ensures ∙ ap (λ (n : ℕ). with_fewer_shares c.args.cut.now n c.args.state.now.book) c.cut_from-fewer.ensures)
    (cancel_figured c.args.next.data.now c.args.cut.now c.args.size c.args.state.now c.cut_from-fewer.result _ t c.cut_from-fewer.ensures c.cut-2.ensures.cut) c.tell.ensures

pub returns-clause-room : goal.returns-clause-room
returns-clause-room c =
    telling_keeps_room c.args.state.now.streams c.tell.new.streams c.args.cut.now.user c.args.next.data.now.moment (Some c.canceled-message.result) c.tell.ensures
