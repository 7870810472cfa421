-- What each record makes of the book, from the one law of the sides.
use Rattle.std.proofs.{Common.{◌≡◌, ℕ, ◌+◌, ◌-◌, ◌<◌, ◌≤◌, Bool, true, false, List, [], ◌∷◌, ◌++◌, refl, ◌∙◌, ap, sym, map, not, cond, arith}, Math.Path.subst, lemmas.{Bool.{eq-eqb, eqb-true, le-ltb, lt-ltb, ltb-false, ltb-true, ne_eqb, and_parts, not-true}, Option.same_Some}}
use Rattle.std.specs.{Prelude.{Option, Some, None, ◌==◌, ◌||◌, nat_lt, is_some, option_map}, Option.option_map_or, List.{AllByRecursion, filter_map}}
use Rattle.gx_units.specs.{Names.same_stock, declared.names.Symbol.Symbol}
use Rattle.gx_policy.specs.declared.policy.PolicyData.{PolicyData}
use Rattle.gx_history.specs.{declared.{live_order.LiveOrder.LiveOrder, moves.Move.Move, «record».{Fill.Fill, RecordData.RecordData}}, Book.{is_buy, is_on}, Live.{is_buy_order, is_there, live, live_numbered, side}, LiveOrders.shares_open, MayMove.{MayExpire, MayFill, MaySize}, Turns.{Ends, Fills, Keeps, Replaces, Sizes, becomes, side_after, while_open}, World.{Does, turn_in, world}}
use Rattle.gx_laws.proofs.{Moves_known.{may_do, side_does}, LiveOrders_known.{RestsThere, all_resting, number_found}, Runs_orderly.legal_is_orderly, LiveOrders_numbered.does_not_rest}
use Rattle.gx_orders.specs.Laws.{ComesFirst}
use Rattle.gx_orders.proofs.Orders_found.{finds_orders}
use Rattle.gx_book.specs.{Resting.{resting_of}, Changes.{left_with, put_to_rest, with_fewer_shares}, Queue.taken_from_first}
use Rattle.gx_book.specs.Queue as queue
use Rattle.gx_matching.specs.{BookInForce.{book_in_force}, Changes.{book_moved, cut_from, taken_beside}, Laws.BooksGoOn}
use Rattle.gx_matching.proofs.{Book_sides.same_side, Book_turn.{book_ends, book_rests, book_stays, one_goes, order_left}}
use Rattle.gx_units.proofs.{Test_known.or_true, Names_equal.stock_is}

-- what leaves each side as it is
stays : {policy : PolicyData} {history : List RecordData} (r : RecordData) (m : Move) → Does policy history r m
    → ((stock : Symbol) (buy : Bool) → side_after (turn_in m) (live policy history) stock buy (side policy history stock buy) ≡ filter_map (becomes Keeps) (side policy history stock buy))
    → book_in_force policy (history ++ r ∷ []) ≡ book_in_force policy history
stays {history} r m d same = book_stays (history ++ r ∷ []) (becomes Keeps) d.legal (λ stock buy. side_does r m stock buy d ∙ same stock buy) (λ o found rests. refl)

some_left : (gone size : ℕ) → nat_lt gone size ≡ nat_lt 0 (size - gone)
some_left gone size = at (nat_lt gone size) refl
  where
    at : (b : Bool) → nat_lt gone size ≡ b → b ≡ nat_lt 0 (size - gone)
    at true e = let some : gone < size = ltb-true gone size e in sym (lt-ltb 0 (size - gone) (omega arith))
    at false e = let none : size ≤ gone = ltb-false gone size e in sym (le-ltb 0 (size - gone) (omega arith))

-- a Cancel
cuts : {policy : PolicyData} {history : List RecordData} (r : RecordData) (cut : LiveOrder) (size : ℕ) → Does policy history r (Move.Sizes cut size) → MaySize (world policy history) r cut size
    → book_in_force policy (history ++ r ∷ []) ≡ with_fewer_shares cut (cut_from cut size) (book_in_force policy history)
cuts {policy} {history} r cut size d may =
    order_left (history ++ r ∷ []) (becomes (Sizes cut.number size)) cut (record cut { total = size }) (size - cut.done) d.legal
    (λ stock buy. side_does r (Move.Sizes cut size) stock buy d) (finds_orders policy history r (Move.Sizes cut size) d)
    (ap (λ (b : Bool). cond b (while_open (record cut { total = size })) (Some cut)) (eq-eqb cut.number cut.number refl)) refl (some_left cut.done size)
    (λ y found rests differs. ap (λ (b : Bool). cond b (while_open (record y { total = size })) (Some y)) differs)
    ∙ ap (λ (n : ℕ). left_with cut n (book_in_force policy history)) (left_of (shares_open cut) (size - cut.done) may.is_less)
  where
    left_of : (open_shares left : ℕ) → left < open_shares → left ≡ open_shares - (open_shares - left)
    left_of open_shares left less = omega (arith, less)

-- a Replace
makes_place : {policy : PolicyData} {history : List RecordData} (r : RecordData) (old new : LiveOrder) → Does policy history r (Move.Replaces old new)
    → book_in_force policy (history ++ r ∷ []) ≡ book_moved (Move.Replaces old new) (live policy history) (book_in_force policy history)
makes_place {policy} {history} r old new d =
    one_goes (history ++ r ∷ []) (becomes (Replaces old.number new)) old d.legal
    (λ stock buy. side_does r (Move.Replaces old new) stock buy d) (finds_orders policy history r (Move.Replaces old new) d).is_live
    (ap (λ (b : Bool). cond {A = Option LiveOrder} b None (Some old)) (eq-eqb old.number old.number refl))
    (λ y found rests differs. ap (λ (b : Bool). cond {A = Option LiveOrder} b None (Some y)) differs)

-- the one that rests is the best on the other side of the one that came in
best_is_first : {policy : PolicyData} {history : List RecordData} (r : RecordData) (f : Fill) (maker : LiveOrder) → Does policy history r (Move.Fills f) → live_numbered (live policy history) f.maker ≡ Some maker → (is : MayFill (world policy history) r f)
    → side policy history maker.terms.stock (is_buy maker.terms.side) ≡ maker ∷ is.behind
best_is_first {policy} {history} r f maker d found is =
    (λ i. side policy history (stock_is maker.terms.stock is.taker.terms.stock (and_parts (same_stock maker.terms.stock is.taker.terms.stock) _ there).0 i) (its_side buy maker.terms.side (and_parts (same_stock maker.terms.stock is.taker.terms.stock) _ there).1 i))
    ∙ is.is_best ∙ ap (λ (o : LiveOrder). o ∷ is.behind) it
  where
    buy : Bool
    buy = not (is_buy_order is.taker)

    best : RestsThere policy history is.taker.terms.stock buy is.maker
    best = (subst (AllByRecursion (RestsThere policy history is.taker.terms.stock buy)) is.is_best (all_resting is.taker.terms.stock buy (legal_is_orderly d.legal))).0

    it : is.maker ≡ maker
    it = same_Some _ _ (sym best.known.is_found ∙ ap (live_numbered (live policy history)) (sym (ap (λ (x : Fill). x.maker) is.is_theirs)) ∙ found)

    there : is_there is.taker.terms.stock buy maker ≡ true
    there = ap (is_there is.taker.terms.stock buy) (sym it) ∙ best.there

    its_side : (b : Bool) (letter : ℕ) → is_on b letter ≡ true → is_buy letter ≡ b
    its_side true letter h = h
    its_side false letter h = not-true (is_buy letter) h

-- a fill
fills : {policy : PolicyData} {history : List RecordData} (r : RecordData) (f : Fill) (maker : LiveOrder) → Does policy history r (Move.Fills f) → live_numbered (live policy history) f.maker ≡ Some maker
    → book_in_force policy (history ++ r ∷ []) ≡ taken_beside f.shares (book_in_force policy history) maker
fills {policy} {history} r f maker d found = by (may_do r (Move.Fills f) d)
  where
    maker_is : (maker.number == f.maker) ≡ true
    maker_is = number_found (live policy history) f.maker maker found

    number_is : maker.number ≡ f.maker
    number_is = eqb-true maker.number f.maker maker_is

    same_left : (total done shares : ℕ) → total - (done + shares) ≡ (total - done) - shares
    same_left total done shares = omega arith

    filled_so : LiveOrder → Bool → Option LiveOrder
    filled_so y b = cond b (while_open (record y { done = y.done + f.shares })) (Some y)

    left : ℕ
    left = shares_open maker - f.shares

    by : MayFill (world policy history) r f → book_in_force policy (history ++ r ∷ []) ≡ taken_beside f.shares (book_in_force policy history) maker
    by is =
        order_left (history ++ r ∷ []) (becomes (Fills f)) maker (record maker { done = maker.done + f.shares }) left d.legal
        (λ stock buy. side_does r (Move.Fills f) stock buy d)
        (ap (live_numbered (live policy history)) number_is ∙ found) (ap (λ (b : Bool). filled_so maker (maker.number == f.taker || b)) maker_is ∙ ap (filled_so maker) (or_true (maker.number == f.taker)))
        (ap (λ (n : ℕ). record (resting_of maker) { shares = n }) (same_left maker.total maker.done f.shares))
        (some_left (maker.done + f.shares) maker.total ∙ ap (nat_lt 0) (same_left maker.total maker.done f.shares))
        (λ y also rests differs.
        ap (λ (b : Bool). filled_so y (b || y.number == f.maker)) (ne_eqb y.number f.taker (λ same. does_not_rest is.taker is.waiting d.legal is.comes_first y also rests (same ∙ ap (λ (x : Fill). x.taker) is.is_theirs)))
        ∙ ap (λ (n : ℕ). filled_so y (y.number == n)) (sym number_is)
        ∙ ap (filled_so y) differs)
        ∙ same_side policy history maker.terms.stock (is_buy maker.terms.side) (queue.left_with (resting_of maker) left) (taken_from_first f.shares)
        (ap (λ (os : List LiveOrder). queue.left_with (resting_of maker) left (map resting_of os)) (best_is_first r f maker d found is)
        ∙ ap (λ (os : List LiveOrder). taken_from_first f.shares (map resting_of os)) (sym (best_is_first r f maker d found is)))

-- an order that ends has not rested
ends : {policy : PolicyData} {history : List RecordData} (r : RecordData) (number : ℕ) → Does policy history r (Move.Expires number) → MayExpire (world policy history) r number
    → book_in_force policy (history ++ r ∷ []) ≡ book_in_force policy history
ends {history} r number d is =
    book_stays (history ++ r ∷ []) (becomes (Ends number)) d.legal (λ stock buy. side_does r (Move.Expires number) stock buy d)
    (λ o found rests. ap (λ (b : Bool). option_map resting_of (cond b None (Some o)))
    (ne_eqb number o.number (λ same. does_not_rest is.first is.waiting d.legal is.comes_first o found rests (sym same ∙ is.has_number))))

pub books_next : BooksGoOn
books_next policy history r Move.Nothing d = stays r Move.Nothing d (λ stock buy. refl)
books_next policy history r (Move.Denies a rule) d = stays r (Move.Denies a rule) d (λ stock buy. refl)
books_next policy history r (Move.PutsOn user line) d = stays r (Move.PutsOn user line) d (λ stock buy. refl)
books_next policy history r (Move.Adds new) d = stays r (Move.Adds new) d (λ stock buy. refl)
books_next policy history r (Move.Sizes cut size) d = cuts r cut size d (may_do r (Move.Sizes cut size) d)
books_next policy history r (Move.Replaces old new) d = makes_place r old new d
books_next policy history r (Move.Commands officer c) d =
    book_ends (history ++ r ∷ []) c.action d.legal (λ stock buy. side_does r (Move.Commands officer c) stock buy d)
books_next policy history r (Move.Fills f) d = at (live_numbered (live policy history) f.maker) refl
  where
    at : (found : Option LiveOrder) → live_numbered (live policy history) f.maker ≡ found
        → book_in_force policy (history ++ r ∷ []) ≡ option_map_or (taken_beside f.shares (book_in_force policy history)) found (book_in_force policy history)
    at None is = let lives : false ≡ true = sym (ap is_some is) ∙ (finds_orders policy history r (Move.Fills f) d).maker_lives in cc
    at (Some maker) is = fills r f maker d is
books_next policy history r (Move.Rests number) d =
    let first : ComesFirst (live policy history) number = finds_orders policy history r (Move.Rests number) d in
    book_rests policy history (history ++ r ∷ []) number first.order first.is_found (λ stock buy. side_does r (Move.Rests number) stock buy d)
    ∙ ap (λ (found : Option LiveOrder). option_map_or (λ (o : LiveOrder). put_to_rest o (book_in_force policy history)) found (book_in_force policy history)) (sym first.is_found)
books_next policy history r (Move.Expires number) d = ends r number d (may_do r (Move.Expires number) d)
