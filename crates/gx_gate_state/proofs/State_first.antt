-- What the state is at the beginning of a day.
use Rattle.std.proofs.Common.{◌≡◌, List, [], ◌∙◌, sym}
use Rattle.gx_policy.specs.declared.policy.{FileRule.FileRule, PolicyData.PolicyData, User.User}
use Rattle.gx_history.specs.InForce.{rules_in_force}
use Rattle.gx_trading_status.specs.{StatusData.TradingStatusData, InForce.fresh_status}
use Rattle.gx_trading_status.proofs.Status_next.{day_begins}
use Rattle.gx_orders.specs.LiveOrders.{OrdersData}
use Rattle.gx_orders.proofs.Orders_stay.{none_at_first}
use Rattle.gx_book.specs.Books.{StockOrders, empty_book}
use Rattle.gx_matching.proofs.Book_sides.{book_at_first}
use Rattle.gx_people.proofs.Users_laws.{first_users}
use Rattle.gx_laws.specs.Changing.{no_positions}
use Rattle.gx_ledger.specs.{Keeping.LedgerData, StandsFor.StandsFor}
use Rattle.gx_streams.specs.{Streams.{AllStreams, empty_streams}, Telling.shown_streams}
use Rattle.gx_streams.proofs.Reports_told.{first_told}
use Rattle.gx_gate_state.specs.State.{AreInForce, AreSentTo}
use Rattle.gx_gate_state.proofs.Ledger_next.{begins}

-- at the beginning of a day
pub begin : {policy : PolicyData} (users : List User) (rules : List FileRule) (status : TradingStatusData) (orders : OrdersData) (book : List StockOrders) (ledger : LedgerData) (streams : AllStreams)
    → users ≡ policy.users → rules ≡ policy.rules → status ≡ fresh_status policy → orders.live ≡ [] → orders.used ≡ [] → book ≡ empty_book policy → StandsFor policy ledger no_positions → shown_streams streams ≡ shown_streams (empty_streams policy) → AreSentTo policy users streams.readers
    → AreInForce policy [] (record { people = users; rules = rules; status = status; orders = orders; book = book; ledger = ledger; streams = streams })
unfolding rules_in_force
begin {policy} users rules status orders book ledger streams users_are rules_are day_is none_live none_used book_is figured streams_are sent = record {
  people = users_are ∙ sym (first_users policy);
  rules = rules_are;
  status = day_is ∙ sym (day_begins policy);
  orders = (λ i. record { live = none_live i; used = none_used i }) ∙ sym (none_at_first policy);
  book = book_is ∙ book_at_first policy;
  ledger = begins ledger figured;
  streams = streams_are ∙ first_told policy;
  sent = sent;
}
