-- What the definitions say of every legal history, in the words of the orders and the book that are kept.
use Rattle.std.specs.{Prelude.{◌≡◌, ℕ, ◌<◌, IsTrue, List, [], ◌∷◌, ◌++◌, Some, None, option_map, if◌then◌else◌}, List.AllByRecursion}
use Rattle.gx_policy.specs.declared.policy.PolicyData.{PolicyData}
use Rattle.gx_history.specs.{declared.{live_order.LiveOrder.LiveOrder, moves.Move.Move, «record».{RecordData.RecordData, Step.Step}}, Book.is_buy, Live.live, Matching.matching, Verdicts.{IsLegal, next}, World.Does}
use Rattle.gx_book.specs.{Resting.{RestingData, resting_of}, Books.{StockOrders, all_orders, empty_book, is_sound_book, order_in, resting_in}, Queue.IsLatest}
use Rattle.gx_orders.specs.{InForce.orders_in_force, LiveOrders.{first_waiting, live_numbered}}
use Rattle.gx_matching.specs.{BookInForce.book_in_force, Changes.book_moved, Standing.IsLiveBook, Meeting.{match_record, next_outcome}}

-- before any record nothing rests
abbrev pub NoneRestsAtFirst : Type 0
NoneRestsAtFirst = (policy : PolicyData) → book_in_force policy [] ≡ empty_book policy

-- what one more record does is done to the book
abbrev pub BooksGoOn : Type 0
BooksGoOn = (policy : PolicyData) (history : List RecordData) (r : RecordData) (m : Move)
    → Does policy history r m → book_in_force policy (history ++ r ∷ []) ≡ book_moved m (live policy history) (book_in_force policy history)

-- the number of the first that waits is above those that rest on its side at its price: orders come to rest in the order of their numbers
abbrev pub FirstIsLatest : Type 0
FirstIsLatest = (policy : PolicyData) (history : List RecordData) (o : LiveOrder)
    → IsLegal policy history → first_waiting (live policy history) ≡ Some o
    → IsLatest (resting_of o) (resting_in (book_in_force policy history) o.terms.stock (is_buy o.terms.side))

-- the first that waits against the best on the other side: that is the next execution
abbrev pub NextIsMet : Type 0
NextIsMet = (policy : PolicyData) (history : List RecordData)
    → IsLegal policy history → next_outcome (orders_in_force policy history) (book_in_force policy history) ≡ matching policy history

-- and so the record of the next matching step, if there is one
abbrev pub NextRecordIsMet : Type 0
NextRecordIsMet = (policy : PolicyData) (history : List RecordData) (handed : ℕ)
    → IsLegal policy history
    → next policy history (Step.Matching handed)
    ≡ option_map (match_record history handed) (next_outcome (orders_in_force policy history) (book_in_force policy history))

-- each buy that rests in the stock is for less than each sell
abbrev pub IsUncrossed : StockOrders → Type 0
IsUncrossed s = AllByRecursion (λ (buy : RestingData). AllByRecursion (λ (sell : RestingData). buy.price < sell.price) s.sells) s.buys

-- no book is crossed
abbrev pub BooksAreUncrossed : Type 0
BooksAreUncrossed = (policy : PolicyData) (history : List RecordData) → IsLegal policy history → AllByRecursion IsUncrossed (book_in_force policy history)

-- each side has the better price first
abbrev pub BooksAreSound : Type 0
BooksAreSound = (policy : PolicyData) (history : List RecordData) → IsLegal policy history → IsTrue (is_sound_book (book_in_force policy history))

-- each live order waits, or rests
abbrev pub LiveWaitOrRest : Type 0
LiveWaitOrRest = (policy : PolicyData) (history : List RecordData)
    → IsLegal policy history
    → AllByRecursion (λ (o : LiveOrder). order_in (book_in_force policy history) o.number ≡ (if o.waits then None else Some (resting_of o)))
    (live policy history)

-- and each order that rests is a live one
abbrev pub RestingAreLive : Type 0
RestingAreLive = (policy : PolicyData) (history : List RecordData)
    → IsLegal policy history
    → AllByRecursion (λ (r : RestingData). option_map resting_of (live_numbered (live policy history) r.order) ≡ Some r)
    (all_orders (book_in_force policy history))

-- where it rests, and as one of its own account and of no other
abbrev pub BooksAreLive : Type 0
BooksAreLive = (policy : PolicyData) (history : List RecordData) → IsLegal policy history → IsLiveBook (live policy history) (book_in_force policy history)
