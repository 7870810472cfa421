-- The orders that a command ends, one by one.
use Rattle.std.proofs.Common.{◌≡◌, ◌∙◌, List, [], ◌∷◌, ◌++◌, map, refl, sym, ap, subst}
use Rattle.std.specs.List.{filter}
use Rattle.gx_units.specs.declared.names.{UserName.UserName, AccountName.AccountName}
use Rattle.gx_desk.specs.declared.Action.{Action}
use Rattle.gx_policy.specs.declared.policy.PolicyData.{PolicyData}
use Rattle.gx_history.specs.declared.{live_order.LiveOrder.LiveOrder, moves.Move.Move, «record».RecordData.RecordData, report.Report.Report}
use Rattle.gx_ledger.specs.{Following.ClosesAll, StandsFor.Closes, Keeping.LedgerData}
use Rattle.gx_ledger.proofs.EndedOrders_followed.{one_more_closes}
use Rattle.gx_streams.specs.{Streams.AllStreams, Telling.{with_all_reports, with_report}}
use Rattle.gx_orders.specs.LiveOrders.{OrdersData, of_account}
use Rattle.gx_book.specs.{Books.StockOrders, Account.AreAllOf}
use Rattle.gx_matching.specs.{BookInForce.book_in_force, Standing.IsLiveBook}
use Rattle.gx_matching.proofs.Book_live.{books_are_live}
use Rattle.gx_gate_state.specs.{declared.state.GateState.GateState, Ends.{HaveReservedFor, is_ended}, State.Takes, Ledgers.ended_orders}
use Rattle.gx_gate_state.proofs.Command_next.{rest_have_places}

-- Close Day ends them all
pub all_end : (live : List LiveOrder) → filter (is_ended Action.CloseDay) live ≡ live
all_end [] = refl
all_end (o ∷ live) = ap (λ (others : List LiveOrder). o ∷ others) (all_end live)

-- those before what is left of them were closed
pub record HaveClosed (all left : List LiveOrder) (old now : LedgerData) : Type 0 where
  pub gone : List LiveOrder
  pub are_all : gone ++ left ≡ all
  pub closes : ClosesAll gone old now

next_left : (gone left rest all : List LiveOrder) (o : LiveOrder) → left ≡ o ∷ rest → gone ++ left ≡ all → (gone ++ o ∷ []) ++ rest ≡ all
next_left [] left rest all o e is = sym e ∙ is
next_left (x ∷ gone) left rest all o e is = ap (λ (xs : List LiveOrder). x ∷ xs) (next_left gone left rest (gone ++ left) o e refl) ∙ is

pub one_more_closed : (all left rest : List LiveOrder) (o : LiveOrder) (old now new : LedgerData) → left ≡ o ∷ rest → HaveClosed all left old now → Closes o now new → HaveClosed all rest old new
one_more_closed all left rest o old now new left_is have closes = record {
  gone = have.gone ++ o ∷ [];
  are_all = next_left have.gone left rest all o left_is have.are_all;
  closes = one_more_closes have.gone o old now new have.closes closes;
}

-- telling the first of those that are left
pub next_told : (owe : LiveOrder → UserName × Report) (o : LiveOrder) (rest left : List LiveOrder) (streams now all : AllStreams)
    → left ≡ o ∷ rest → now ≡ with_report streams (owe o)
    → HaveReservedFor (map owe left) streams → with_all_reports (map owe left) streams ≡ all
    → HaveReservedFor (map owe rest) now × (with_all_reports (map owe rest) now ≡ all)
next_told owe o rest left streams now all left_is now_is enough telling =
    let more : List (UserName × Report) = map owe rest in
    let owed_are : map owe left ≡ owe o ∷ more = ap (map owe) left_is in (
      subst (HaveReservedFor more) (sym now_is) (rest_have_places (owe o ∷ []) more streams (subst (λ (owed : List (UserName × Report)). HaveReservedFor owed streams) owed_are enough)),
      ap (with_all_reports more) now_is ∙ sym (ap (λ (owed : List (UserName × Report)). with_all_reports owed streams) owed_are) ∙ telling,
    )

-- the account's live orders are all that rests of it
pub all_are_his : (account : AccountName) (live ending : List LiveOrder) (book : List StockOrders) → IsLiveBook live book → ending ≡ of_account account live → AreAllOf account ending book
all_are_his account live ending book whole his = subst (λ (os : List LiveOrder). AreAllOf account os book) (sym his) (whole account)

-- and it is before each record
pub book_is_live : {policy : PolicyData} {history : List RecordData} (m : Move) (r : RecordData) (k : GateState) → Takes policy history m r k → IsLiveBook k.orders.live k.book
book_is_live {policy} {history} m r k t =
    subst (IsLiveBook k.orders.live) (sym t.in_force.book)
    (subst (λ (d : OrdersData). IsLiveBook d.live (book_in_force policy history)) (sym t.in_force.orders) (books_are_live policy history t.does.legal))

-- a Kill ends the account's orders, and Close Day all
pub kill_closes : (action : Action) (account : AccountName) (live : List LiveOrder) (old new : LedgerData) → action ≡ Action.Kill account → ClosesAll (of_account account live) old new → ClosesAll (ended_orders action live) old new
kill_closes action account live old new is closes = subst (λ (a : Action). ClosesAll (ended_orders a live) old new) (sym is) closes

pub close_day_closes : (action : Action) (live : List LiveOrder) (old new : LedgerData) → action ≡ Action.CloseDay → ClosesAll live old new → ClosesAll (ended_orders action live) old new
close_day_closes action live old new is closes =
    subst (λ (a : Action). ClosesAll (ended_orders a live) old new) (sym is) (subst (λ (os : List LiveOrder). ClosesAll os old new) (sym (all_end live)) closes)
