-- The next execution, by what is kept: the first that waits, against the best that rests on the other side of its stock.
use Rattle.std.specs.Prelude.{ℕ, Bool, ◌+◌, length, min, nat_le, not, List, Option, Some, None, option_map, if◌then◌else◌}
use Rattle.gx_history.specs.{declared.{«record».{Fill.Fill, RecordData.RecordData, Step.Step, Verdict.Verdict}, live_order.LiveOrder.LiveOrder}, Book.is_buy, Live.is_buy_order, LiveOrders.shares_open, Verdicts.moment_of, Matching.unmatched_outcome}
use Rattle.gx_book.specs.{Resting.RestingData, Books.{StockOrders, best_in}}
use Rattle.gx_orders.specs.LiveOrders.{OrdersData, first_waiting}

-- the buy is at or above the sell, one of which rests
abbrev pub crosses_resting : LiveOrder → RestingData → Bool
crosses_resting o r = if is_buy_order o then nat_le r.price o.terms.price else nat_le o.terms.price r.price

-- both orders trade the lesser of their open shares, at the price of the one that rests
abbrev pub fill_of : LiveOrder → RestingData → Fill
fill_of o r = record { taker = o.number; maker = r.order; shares = min (shares_open o) r.shares; price = r.price }

-- what becomes of an order, over the best on the other side
abbrev pub outcome_against : LiveOrder → Option RestingData → Verdict
outcome_against o None = unmatched_outcome o
outcome_against o (Some r) = if crosses_resting o r then Verdict.Filled (fill_of o r) else unmatched_outcome o

-- the best that rests on the other side of its stock
abbrev pub best_against : List StockOrders → LiveOrder → Option RestingData
best_against book o = best_in book o.terms.stock (not (is_buy o.terms.side))

-- the next execution, if an order waits for one
abbrev pub next_outcome : OrdersData → List StockOrders → Option Verdict
next_outcome orders book = option_map (λ (o : LiveOrder). outcome_against o (best_against book o)) (first_waiting orders.live)

-- the record that a matching step of this verdict leaves
abbrev pub match_record : List RecordData → ℕ → Verdict → RecordData
match_record history handed v = record {
  number = length history + 1;
  moment = moment_of history (Step.Matching handed);
  step = Step.Matching handed;
  verdict = v;
}
