-- The book has the live orders that do not wait, and no other.
use Rattle.std.proofs.{Common.{◌≡◌, Bool, true, false, not, List, [], ◌∷◌, refl, ◌∙◌, ap, sym, map, cond}, Math.Path.subst, lemmas.{Bool.{and_from, and_parts, eq-eqb, eqb-true, both_ways, not-false}, Slice.Eq.bytes_eq-Decides, Option.same_Some}}
use Rattle.std.specs.{Prelude.{Option, Some, None, ◌==◌, ◌&&◌, ◌||◌, option_map}, Option.option_map_or, List.{AllByRecursion, filter, find, list_any}}
use Rattle.gx_units.specs.{Names.{same_account, same_stock}, declared.names.{AccountName.AccountName, Symbol.Symbol}}
use Rattle.gx_policy.specs.declared.policy.{PolicyData.PolicyData, Stock.Stock}
use Rattle.gx_history.specs.{declared.{live_order.LiveOrder.LiveOrder, «record».RecordData.RecordData}, Book.{is_buy, is_on, rest_numbers}, Live.{has_come, is_there, live, live_numbered, side}, Verdicts.IsLegal}
use Rattle.gx_laws.proofs.{Rules_first.{IsFirstSuch, first_such}, LiveOrders_numbered.{IsLiving, all_living, same_order}, LiveOrders_known.{RestsThere, all_resting}, BookSides_only.side_has, Runs_orderly.legal_is_orderly}
use Rattle.gx_book.specs.{Resting.{RestingData, resting_of}, Account.{AreAllOf, IsOneOf, rests_as}, Books.{StockOrders, all_orders, both_sides, order_in, resting_in, orders_on_side, stock_in}, Queue.{is_numbered, is_same}}
use Rattle.gx_orders.specs.LiveOrders.{of_account}
use Rattle.gx_matching.specs.{BookInForce.{book_in_force, rested_in, stock_in_force}, Laws.{BooksAreLive, LiveWaitOrRest, RestingAreLive}}
use Rattle.gx_matching.proofs.Book_sides.{resting_found}
use Rattle.gx_units.proofs.{Test_known.{or_true, and_false, and_true}, Names_equal.same_account_flip, Lists_hold.{all_weaker, all_both, all_mapped, all_parted, found_is, none_pass}, Lists_found.none_such}

-- an order of the book is a live one that waits no more
record IsHome (policy : PolicyData) (history : List RecordData) (r : RestingData) : Type 0 where
  order : LiveOrder
  is : r ≡ resting_of order
  found : live_numbered (live policy history) order.number ≡ Some order
  rests : order.waits ≡ false

all_home : {policy : PolicyData} {history : List RecordData} → IsLegal policy history → AllByRecursion (IsHome policy history) (all_orders (book_in_force policy history))
unfolding book_in_force
all_home {policy} {history} legal = by policy.stocks
  where
    on_side : (stock : Symbol) (buy : Bool) → AllByRecursion (IsHome policy history) (rested_in policy history stock buy)
    on_side stock buy =
        all_mapped (IsHome policy history) resting_of (side policy history stock buy)
        (all_weaker (RestsThere policy history stock buy) (λ (o : LiveOrder). IsHome policy history (resting_of o)) (λ o there. record { order = o; is = refl; found = there.known.is_found; rests = there.rests })
        (side policy history stock buy) (all_resting stock buy (legal_is_orderly legal)))

    by : (ss : List Stock) → AllByRecursion (IsHome policy history) (all_orders (map (stock_in_force policy history) ss))
    by [] = tt
    by (s ∷ ss) =
        all_both (IsHome policy history) (both_sides (stock_in_force policy history s)) (all_orders (map (stock_in_force policy history) ss))
        (all_both (IsHome policy history) (rested_in policy history s.name true) (rested_in policy history s.name false) (on_side s.name true) (on_side s.name false)) (by ss)

-- what holds of all orders of a book holds on each side of each stock
part_of : (P : RestingData → Type 0) (book : List StockOrders) (stock : Symbol) (buy : Bool) → AllByRecursion P (all_orders book) → AllByRecursion P (resting_in book stock buy)
part_of P [] stock buy h = tt
part_of P (s ∷ book) stock buy h = at (same_stock stock s.stock) (part_of P book stock buy halves.1)
  where
    halves : AllByRecursion P (both_sides s) × AllByRecursion P (all_orders book)
    halves = all_parted P (both_sides s) (all_orders book) h

    half : (c : Bool) → AllByRecursion P (orders_on_side c s)
    half true = (all_parted P s.buys s.sells halves.0).0
    half false = (all_parted P s.buys s.sells halves.0).1

    at : (b : Bool) → AllByRecursion P (resting_in book stock buy) → AllByRecursion P (option_map_or (orders_on_side buy) (cond b (Some s) (stock_in book stock)) [])
    at true deeper = half buy
    at false deeper = deeper

unmapped : {X Y : Type 0} (P : Y → Type 0) (f : X → Y) (xs : List X) → AllByRecursion P (map f xs) → AllByRecursion (λ (x : X). P (f x)) xs
unmapped P f [] h = tt
unmapped P f (x ∷ xs) h = (h.0, unmapped P f xs h.1)

waits_or_rests : {policy : PolicyData} {history : List RecordData} (o : LiveOrder) → IsLegal policy history → IsLiving policy history o
    → order_in (book_in_force policy history) o.number ≡ cond o.waits None (Some (resting_of o))
waits_or_rests {policy} {history} o legal is = at (order_in (book_in_force policy history) o.number) refl
  where
    numbered : RestingData → Bool
    numbered = is_numbered o.number

    all : List RestingData
    all = all_orders (book_in_force policy history)

    stock : Symbol
    stock = o.terms.stock

    buy : Bool
    buy = is_buy o.terms.side

    own : (b : Bool) → is_buy o.terms.side ≡ b → is_on b o.terms.side ≡ true
    own true e = e
    own false e = ap not e

    there : is_there stock buy o ≡ true
    there = ap (λ (b : Bool). b && is_on buy o.terms.side) ((bytes_eq-Decides stock.bytes stock.bytes).1 refl) ∙ own buy refl

    -- where the book has none of its number, it waits
    none_there : find numbered all ≡ None → (b : Bool) → o.waits ≡ b → None ≡ cond b None (Some (resting_of o))
    none_there e true waits = refl
    none_there e false rests =
        absurd
        (both_ways (o.number == o.number)
        (side_has policy history (λ (x : LiveOrder). (x.number == o.number) ≡ false) stock buy o
        (unmapped (λ (r : RestingData). numbered r ≡ false) resting_of (side policy history stock buy)
        (subst (AllByRecursion (λ (r : RestingData). numbered r ≡ false)) (resting_found policy history stock buy is.listed)
        (part_of (λ (r : RestingData). numbered r ≡ false) (book_in_force policy history) stock buy (none_pass numbered all (none_such numbered all e)))))
        is.found (not-false (has_come (rest_numbers history) o.number) (sym is.waits ∙ rests)) there)
        (eq-eqb o.number o.number refl))

    at : (found : Option RestingData) → find numbered all ≡ found → found ≡ cond o.waits None (Some (resting_of o))
    at None e = none_there e o.waits refl
    at (Some r) e =
        let home : IsHome policy history r = found_is (IsHome policy history) numbered all r (all_home legal) e in
        let such : IsFirstSuch numbered all r = first_such numbered all r e in
        let it : home.order ≡ o = same_order policy history o home.order is.found home.found (sym (ap (λ (x : RestingData). x.order) home.is) ∙ eqb-true r.order o.number such.3) in
        ap (λ (x : RestingData). Some x) (home.is ∙ ap resting_of it)
        ∙ sym (ap (λ (b : Bool). cond {A = Option RestingData} b None (Some (resting_of o))) (ap (λ (x : LiveOrder). x.waits) (sym it) ∙ home.rests))

pub live_wait_or_rest : LiveWaitOrRest
live_wait_or_rest policy history legal =
    all_weaker (IsLiving policy history) (λ (o : LiveOrder). order_in (book_in_force policy history) o.number ≡ cond o.waits None (Some (resting_of o))) (λ o is. waits_or_rests o legal is)
    (live policy history) (all_living legal)

resting_is_live : {policy : PolicyData} {history : List RecordData} (r : RestingData) → IsHome policy history r → option_map resting_of (live_numbered (live policy history) r.order) ≡ Some r
resting_is_live {policy} {history} r home =
    ap (λ (x : RestingData). option_map resting_of (live_numbered (live policy history) x.order)) home.is ∙ ap (option_map resting_of) home.found ∙ ap (λ (x : RestingData). Some x) (sym home.is)

pub resting_are_live : RestingAreLive
resting_are_live policy history legal =
    all_weaker (IsHome policy history) (λ (r : RestingData). option_map resting_of (live_numbered (live policy history) r.order) ≡ Some r) (resting_is_live)
    (all_orders (book_in_force policy history)) (all_home legal)

-- ---- whose it is

-- what one alone of them passes, and who passes another test
any_of_one : (p q : LiveOrder → Bool) (x : LiveOrder) (os : List LiveOrder) → AllByRecursion (λ (o : LiveOrder). p o ≡ true → o ≡ x) os
    → list_any p (filter q os) ≡ (q x && list_any p os)
any_of_one p q x [] h = sym (and_false (q x))
any_of_one p q x (o ∷ os) h = at (p o) refl (q o) refl (any_of_one p q x os h.1)
  where
    same : p o ≡ true → (b : Bool) → q o ≡ b → q x ≡ b
    same is b own = sym (ap q (h.0 is)) ∙ own

    at : (a : Bool) → p o ≡ a → (b : Bool) → q o ≡ b → list_any p (filter q os) ≡ (q x && list_any p os)
        → list_any p (cond b (o ∷ filter q os) (filter q os)) ≡ (q x && (a || list_any p os))
    at false is true own more = ap (λ (c : Bool). c || list_any p (filter q os)) is ∙ more
    at false is false own more = more
    at true is true own more = ap (λ (c : Bool). c || list_any p (filter q os)) is ∙ sym (ap (λ (c : Bool). c && true) (same is true own))
    at true is false own more = more ∙ ap (λ (c : Bool). c && list_any p os) (same is false own) ∙ sym (ap (λ (c : Bool). c && true) (same is false own))

-- one that is found passes
any_found : (p test : LiveOrder → Bool) (x : LiveOrder) (os : List LiveOrder) → find test os ≡ Some x → p x ≡ true → list_any p os ≡ true
any_found p test x [] found passes = cc
any_found p test x (o ∷ os) found passes = at (test o) found (λ later. any_found p test x os later passes)
  where
    at : (b : Bool) → cond b (Some o) (find test os) ≡ Some x → (find test os ≡ Some x → list_any p os ≡ true) → (p o || list_any p os) ≡ true
    at true e deeper = ap (λ (c : Bool). c || list_any p os) (ap p (same_Some _ _ e) ∙ passes)
    at false e deeper = ap (λ (c : Bool). p o || c) (deeper e) ∙ or_true (p o)

-- an order that rests is one of its account, and of no other
live_there : {policy : PolicyData} {history : List RecordData} (stock : Symbol) (buy : Bool) (x : LiveOrder) → IsLegal policy history → RestsThere policy history stock buy x
    → (account : AccountName) → IsOneOf (of_account account (live policy history)) account stock buy (resting_of x)
live_there {policy} {history} stock buy x legal rests account =
    any_of_one as_it (λ (o : LiveOrder). same_account account o.account) x (live policy history)
    (all_weaker (IsLiving policy history) (λ (o : LiveOrder). as_it o ≡ true → o ≡ x) it_alone (live policy history) (all_living legal))
    ∙ ap (λ (b : Bool). same_account account x.account && b)
    (any_found as_it (λ (o : LiveOrder). o.number == x.number) x (live policy history) rests.known.is_found itself)
    ∙ and_true (same_account account x.account)
    ∙ same_account_flip account x.account
  where
    as_it : LiveOrder → Bool
    as_it = rests_as stock buy (resting_of x)

    itself : as_it x ≡ true
    itself = and_from (is_there stock buy x) (is_same (resting_of x) (resting_of x)) rests.there (and_from (x.number == x.number) (x.terms.price == x.terms.price) (eq-eqb x.number x.number refl) (eq-eqb x.terms.price x.terms.price refl))

    it_alone : (o : LiveOrder) → IsLiving policy history o → as_it o ≡ true → o ≡ x
    it_alone o lives passes =
        same_order policy history x o rests.known.is_found lives.found
        (eqb-true o.number x.number (and_parts (o.number == x.number) (o.terms.price == x.terms.price) (and_parts (is_there stock buy o) (is_same (resting_of o) (resting_of x)) passes).1).0)

pub books_are_live : BooksAreLive
unfolding book_in_force
books_are_live policy history legal account = by policy.stocks
  where
    his : List LiveOrder
    his = of_account account (live policy history)

    on_side : (stock : Symbol) (buy : Bool) → AllByRecursion (IsOneOf his account stock buy) (rested_in policy history stock buy)
    on_side stock buy =
        all_mapped (IsOneOf his account stock buy) resting_of (side policy history stock buy)
        (all_weaker (RestsThere policy history stock buy) (λ (o : LiveOrder). IsOneOf his account stock buy (resting_of o)) (λ o rests. live_there stock buy o legal rests account)
        (side policy history stock buy) (all_resting stock buy (legal_is_orderly legal)))

    by : (ss : List Stock) → AreAllOf account his (map (stock_in_force policy history) ss)
    by [] = tt
    by (s ∷ ss) = (record { buys = on_side s.name true; sells = on_side s.name false }, by ss)
