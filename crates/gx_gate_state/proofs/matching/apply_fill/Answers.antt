use Rattle.std.proofs.{Common.{List, refl, ◌∙◌, ap, sym}, Math.Path.subst}
use Rattle.std.specs.Prelude.{IfSome}
use Rattle.gx_history.specs.declared.{live_order.LiveOrder.LiveOrder, moves.Move.Move}
use Rattle.gx_orders.specs.LiveOrders.{HasOpen, filled_at, live_numbered}
use Rattle.gx_streams.specs.declared.fill.ReportedFill.{ReportedFill}
use Rattle.gx_laws.proofs.Moves_known.{may_do}
use Rattle.gx_gate_state.proofs.{State_next.{day_so, takes_so}, Reserved_next.{known_told, match_keeps}, Match_next.{IsMatched, can_fill, fill_goes_on, is_matched, maker_told, taker_told}, Room_bounds.filling_takes_none}
use Rattle.gx_gate_state.proofs.matching.apply_fill.Goals as goal

pub order_numbered-taker-requires : goal.order_numbered-taker-requires
order_numbered-taker-requires c = record { lives = (can_fill c.args.next.data.now c.args.state.now c.args.f (takes_so c.args.next.moves.now (Move.Fills c.args.f) c.args.next.data.now c.args.state.now c.requires.fills c.requires.takes)).taker_lives }

pub order_numbered-maker-requires : goal.order_numbered-maker-requires
order_numbered-maker-requires c = record { lives = (can_fill c.args.next.data.now c.args.state.now c.args.f (takes_so c.args.next.moves.now (Move.Fills c.args.f) c.args.next.data.now c.args.state.now c.requires.fills c.requires.takes)).maker_lives }

pub append_fill-requires : goal.append_fill-requires
append_fill-requires c = record {
  taker = taker_told c.args.next.data.now c.args.state.now c.args.f c.order_numbered-taker.result c.order_numbered-maker.result c.side_of.result (takes_so c.args.next.moves.now (Move.Fills c.args.f) c.args.next.data.now c.args.state.now c.requires.fills c.requires.takes) c.order_numbered-taker.ensures.found c.order_numbered-maker.ensures.found c.side_of.ensures;
  maker = maker_told c.args.next.data.now c.args.state.now c.args.f c.order_numbered-taker.result c.order_numbered-maker.result c.side_of-2.result (takes_so c.args.next.moves.now (Move.Fills c.args.f) c.args.next.data.now c.args.state.now c.requires.fills c.requires.takes) c.order_numbered-taker.ensures.found c.order_numbered-maker.ensures.found c.side_of-2.ensures;
}

pub fill-requires : goal.fill-requires
fill-requires c = (can_fill c.args.next.data.now c.args.state.now c.args.f (takes_so c.args.next.moves.now (Move.Fills c.args.f) c.args.next.data.now c.args.state.now c.requires.fills c.requires.takes)).taker_has_them

pub fill-requires-2 : goal.fill-requires-2
fill-requires-2 c =
    subst (λ (live : List LiveOrder). IfSome (live_numbered live c.args.f.maker) (HasOpen c.args.f.shares)) (sym c.fill.ensures.live)
    (can_fill c.args.next.data.now c.args.state.now c.args.f (takes_so c.args.next.moves.now (Move.Fills c.args.f) c.args.next.data.now c.args.state.now c.requires.fills c.requires.takes)).maker_has_them

pub returns-clause-ok : goal.returns-clause-ok
returns-clause-ok c =
    fill_goes_on c.args.next.data.now c.args.state.now _ c.args.f c.order_numbered-taker.result c.order_numbered-maker.result c.side_of.result c.side_of-2.result _
    (takes_so c.args.next.moves.now (Move.Fills c.args.f) c.args.next.data.now c.args.state.now c.requires.fills c.requires.takes) c.order_numbered-taker.ensures.found c.order_numbered-maker.ensures.found c.rules.ensures.sound
    c.side_of.ensures c.side_of-2.ensures refl refl refl (day_so c.args.next.data.now c.args.next.moves.now (Move.Fills c.args.f) c.args.state.now.status _ c.requires.fills c.apply.ensures)
    (λ i. record {
      live = (c.fill-2.ensures.live ∙ ap (filled_at c.args.f.maker c.args.f.shares) c.fill.ensures.live) i;
      used = (c.fill-2.ensures.used ∙ c.fill.ensures.used) i;
    })
    c.take_from_best.ensures c.fill-3.ensures.filled c.in_ok-append_fill.ensures.ok

abbrev told : goal.After-apply → ReportedFill
told c = record {
  match_number = c.args.next.data.now.number;
  moment = c.args.next.data.now.moment;
  shares = c.args.f.shares;
  price = c.args.f.price;
  taker = c.side_of.result;
  maker = c.side_of-2.result;
}

pub returns-clause-kept_after : goal.returns-clause-kept_after
returns-clause-kept_after c =
    let t = takes_so c.args.next.moves.now (Move.Fills c.args.f) c.args.next.data.now c.args.state.now c.requires.fills c.requires.takes in
    let matches : IsMatched c.args.next.policy.now c.args.next.history.now.records c.args.next.data.now = is_matched c.args.next.data.now (Move.Fills c.args.f) t.does (may_do c.args.next.data.now (Move.Fills c.args.f) t.does).is_match in
    match_keeps matches.handed c.args.next.data.now c.args.state.now.streams _ t.does.legal matches.left
    (known_told c.args.state.now t.in_force)
    (known_told _ (returns-clause-ok c))
    (filling_takes_none c.args.state.now.streams _ (told c) c.in_ok-append_fill.ensures.ok)
    c.requires.kept
