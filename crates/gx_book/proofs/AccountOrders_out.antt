-- An account's orders taken out one after the other are all that rests of the account.
use Rattle.std.proofs.{Common.{◌≡◌, ℕ, ◌+◌, ◌-◌, ◌≤◌, arith, Bool, true, false, not, List, [], ◌∷◌, ◌++◌, length, refl, ◌∙◌, ap, sym, map, cond}, lemmas.List.{Elements.filter-append, Filters.length-filter_both}}
use Rattle.std.specs.{Prelude.{◌&&◌, ◌||◌, min}, List.{AllByRecursion, filter, fold, list_any}}
use Rattle.gx_units.specs.{declared.names.{AccountName.AccountName, Symbol.Symbol}, Names.same_stock}
use Rattle.gx_history.specs.{declared.live_order.LiveOrder.LiveOrder, Book.is_buy, Live.is_there}
use Rattle.gx_book.specs.{Resting.{RestingData, resting_of}, Account.{AreAllOf, AreInStock, IsOneOf, count_of, rests_as}, Books.{StockOrders, all_orders, both_sides, on_each_side, with_side}, Changes.taken_out, Queue.{is_resting_of, is_same, without_account, without_order}}

-- each of these orders taken out, one after the other
abbrev pub each_taken_out : List LiveOrder → List StockOrders → List StockOrders
each_taken_out orders book = fold (λ (b : List StockOrders) (o : LiveOrder). taken_out o b) book orders

abbrev pub made : Symbol → List RestingData → List RestingData → StockOrders
made stock buys sells = record { stock = stock; buys = buys; sells = sells }

-- a side without the orders that rest as one of these
abbrev side_without : List LiveOrder → Symbol → Bool → List RestingData → List RestingData
side_without os stock buy rs = filter (λ r. not (list_any (rests_as stock buy r) os)) rs

abbrev stock_without : List LiveOrder → StockOrders → StockOrders
stock_without os s = made s.stock (side_without os s.stock true s.buys) (side_without os s.stock false s.sells)

-- without none a side is as it was
pub none_out : (rs : List RestingData) → filter (λ (r : RestingData). true) rs ≡ rs
none_out [] = refl
none_out (r ∷ rs) = ap (λ (more : List RestingData). r ∷ more) (none_out rs)

-- without some, and then without others
two_out : (p q : RestingData → Bool) (rs : List RestingData) → filter (λ r. not (q r)) (filter (λ r. not (p r)) rs) ≡ filter (λ r. not (p r || q r)) rs
two_out p q [] = refl
two_out p q (r ∷ rs) = at (p r) (two_out p q rs)
  where
    at : (b : Bool) → filter (λ x. not (q x)) (filter (λ x. not (p x)) rs) ≡ filter (λ x. not (p x || q x)) rs
        → filter (λ x. not (q x)) (cond (not b) (r ∷ filter (λ x. not (p x)) rs) (filter (λ x. not (p x)) rs))
        ≡ cond (not (b || q r)) (r ∷ filter (λ x. not (p x || q x)) rs) (filter (λ x. not (p x || q x)) rs)
    at true more = more
    at false more = ap (λ (xs : List RestingData). cond (not (q r)) (r ∷ xs) xs) more

-- one more is taken out of its own side alone
one_out : (o : LiveOrder) (os : List LiveOrder) (stock : Symbol) (buy : Bool) (rs : List RestingData)
    → side_without os stock buy (cond (is_there stock buy o) (without_order (resting_of o) rs) rs) ≡ side_without (o ∷ os) stock buy rs
one_out o os stock buy rs = at (is_there stock buy o)
  where
    at : (b : Bool) → side_without os stock buy (cond b (without_order (resting_of o) rs) rs) ≡ filter (λ r. not ((b && is_same (resting_of o) r) || list_any (rests_as stock buy r) os)) rs
    at true = two_out (is_same (resting_of o)) (λ r. list_any (rests_as stock buy r) os) rs
    at false = refl

stock_out : (o : LiveOrder) (os : List LiveOrder) (s : StockOrders)
    → stock_without os (cond (same_stock o.terms.stock s.stock) (with_side (is_buy o.terms.side) (without_order (resting_of o)) s) s) ≡ stock_without (o ∷ os) s
stock_out o os s =
    at (same_stock o.terms.stock s.stock) (is_buy o.terms.side)
    ∙ (λ i. made s.stock (one_out o os s.stock true s.buys i) (one_out o os s.stock false s.sells i))
  where
    out : List RestingData → List RestingData
    out = without_order (resting_of o)

    at : (a b : Bool) → stock_without os (cond a (with_side b out s) s)
        ≡ made s.stock (side_without os s.stock true (cond (a && b) (out s.buys) s.buys)) (side_without os s.stock false (cond (a && not b) (out s.sells) s.sells))
    at true true = refl
    at true false = refl
    at false b = refl

-- each is taken out of its own side
all_out : (os : List LiveOrder) (book : List StockOrders) → each_taken_out os book ≡ map (stock_without os) book
all_out [] book = sym (as_it_was book)
  where
    as_it_was : (ss : List StockOrders) → map (stock_without []) ss ≡ ss
    as_it_was [] = refl
    as_it_was (s ∷ ss) = λ i. made s.stock (none_out s.buys i) (none_out s.sells i) ∷ as_it_was ss i
all_out (o ∷ os) book = all_out os (taken_out o book) ∙ by book
  where
    by : (ss : List StockOrders) → map (stock_without os) (taken_out o ss) ≡ map (stock_without (o ∷ os)) ss
    by [] = refl
    by (s ∷ ss) = λ i. stock_out o os s i ∷ by ss i

-- all that are named taken out are all that rests of the account
pub all_his_are_out : (account : AccountName) (his : List LiveOrder) (book : List StockOrders) → AreAllOf account his book → each_taken_out his book ≡ on_each_side (without_account account) book
all_his_are_out account his book whole = all_out his book ∙ by book whole
  where
    of_side : (stock : Symbol) (buy : Bool) (rs : List RestingData) → AllByRecursion (IsOneOf his account stock buy) rs
        → side_without his stock buy rs ≡ without_account account rs
    of_side stock buy [] h = refl
    of_side stock buy (r ∷ rs) h =
        ap (λ b. cond (not b) (r ∷ side_without his stock buy rs) (side_without his stock buy rs)) h.0
        ∙ ap (λ more. cond (not (is_resting_of account r)) (r ∷ more) more) (of_side stock buy rs h.1)

    by : (ss : List StockOrders) → AllByRecursion (AreInStock his account) ss → map (stock_without his) ss ≡ on_each_side (without_account account) ss
    by [] h = refl
    by (s ∷ ss) h = λ i. made s.stock (of_side s.stock true s.buys h.0.buys i) (of_side s.stock false s.sells h.0.sells i) ∷ by ss h.1 i

-- ---- how many they are

without_all : (account : AccountName) (book : List StockOrders) → all_orders (on_each_side (without_account account) book) ≡ without_account account (all_orders book)
without_all account [] = refl
without_all account (s ∷ ss) =
    ap (λ rest. (without_account account s.buys ++ without_account account s.sells) ++ rest) (without_all account ss)
    ∙ ap (λ front. front ++ without_account account (all_orders ss)) (sym (filter-append (λ r. not (is_resting_of account r)) s.buys s.sells))
    ∙ sym (filter-append (λ r. not (is_resting_of account r)) (both_sides s) (all_orders ss))

-- so many fewer orders, counted as far as the count goes
pub record HaveGone (count most : ℕ) (before now : List StockOrders) : Type 0 where
  pub fewer : length (all_orders now) ≤ length (all_orders before)
  pub counted : count ≡ min (length (all_orders before) - length (all_orders now)) most

pub none_gone : (most : ℕ) (book : List StockOrders) → HaveGone 0 most book book
none_gone most book = record { fewer = omega arith; counted = grind arith }

pub one_gone : (count next most : ℕ) (before now after : List StockOrders) → HaveGone count most before now → length (all_orders after) + 1 ≡ length (all_orders now) → next ≡ min (count + 1) most → HaveGone next most before after
one_gone count next most before now after h one is = record { fewer = omega (arith, h.fewer, one); counted = is ∙ ap (λ n. min (n + 1) most) h.counted ∙ by (length (all_orders before)) (length (all_orders now)) (length (all_orders after)) h.fewer one }
  where
    by : (a b c : ℕ) → b ≤ a → c + 1 ≡ b → min (min (a - b) most + 1) most ≡ min (a - c) most
    by a b c fewer one = grind arith

pub none_more : (count most : ℕ) (before now after : List StockOrders) → HaveGone count most before now → length (all_orders after) + 0 ≡ length (all_orders now) → HaveGone count most before after
none_more count most before now after h same = record { fewer = omega (arith, h.fewer, same); counted = h.counted ∙ ap (λ n. min (length (all_orders before) - n) most) (omega (arith, same)) }

-- all that rested of the account
pub all_counted : (account : AccountName) (count most : ℕ) (before now : List StockOrders) → HaveGone count most before now → now ≡ on_each_side (without_account account) before → count ≡ min (count_of account before) most
all_counted account count most before now h is =
    h.counted
    ∙ ap (λ (n : ℕ). min n most)
    (ap (λ (book : List StockOrders). length (all_orders before) - length (all_orders book)) is
    ∙ ap (λ (rs : List RestingData). length (all_orders before) - length rs) (without_all account before)
    ∙ by (length (without_account account (all_orders before))) (count_of account before) (length (all_orders before)) (length-filter_both (is_resting_of account) (λ r. not (is_resting_of account r)) (λ r. refl) (all_orders before)))
  where
    by : (others his all : ℕ) → his + others ≡ all → all - others ≡ his
    by others his all h = omega (arith, h)
