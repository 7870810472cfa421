-- The book after the records, one side of one stock at a time.
use Rattle.std.proofs.Common.{◌≡◌, ℕ, Bool, true, false, not, List, [], ◌∷◌, refl, ◌∙◌, ap, sym, map, cond}
use Rattle.std.specs.{Prelude.{Some, ◌&&◌, is_some}, Option.option_map_or, Cmp.Lexicographic.nat_list_eq_equiv, List.find}
use Rattle.gx_units.specs.{Names.same_stock, declared.names.Symbol.Symbol}
use Rattle.gx_units.proofs.Names_equal.{stock_is}
use Rattle.gx_policy.specs.{declared.policy.{PolicyData.PolicyData, Stock.Stock}, People.stock_named}
use Rattle.gx_history.specs.{declared.record.RecordData.RecordData, Book.{is_buy, is_on}, Live.side}
use Rattle.gx_book.specs.{Resting.RestingData, Books.{StockOrders, empty_book, on_each_side, with_one_side, resting_in, orders_on_side, with_side}}
use Rattle.gx_book.proofs.AccountOrders_out.{made}
use Rattle.gx_matching.specs.BookInForce.{book_in_force, rested_in, stock_in_force}

all_stocks : (f g : Stock → StockOrders) (on : StockOrders → StockOrders) → ((s : Stock) → f s ≡ on (g s)) → (ss : List Stock) → map f ss ≡ map on (map g ss)
all_stocks f g on same [] = refl
all_stocks f g on same (s ∷ ss) = ap (λ x. x ∷ map f ss) (same s) ∙ ap (λ xs. on (g s) ∷ xs) (all_stocks f g on same ss)

-- no side has changed
pub no_side : (policy : PolicyData) (before after : List RecordData) → ((stock : Symbol) (buy : Bool) → rested_in policy after stock buy ≡ rested_in policy before stock buy)
    → book_in_force policy after ≡ book_in_force policy before
unfolding book_in_force
no_side policy before after same = λ i. map (λ (s : Stock). made s.name (same s.name true i) (same s.name false i)) policy.stocks

-- each side has changed so
pub each_side : (policy : PolicyData) (before after : List RecordData) (change : List RestingData → List RestingData)
    → ((stock : Symbol) (buy : Bool) → rested_in policy after stock buy ≡ change (rested_in policy before stock buy)) → book_in_force policy after ≡ on_each_side change (book_in_force policy before)
unfolding book_in_force
each_side policy before after change same =
    all_stocks (stock_in_force policy after) (stock_in_force policy before) (λ s. record { stock = s.stock; buys = change s.buys; sells = change s.sells })
    (λ s i. made s.name (same s.name true i) (same s.name false i)) policy.stocks

-- one side of one stock has
pub one_side : (policy : PolicyData) (before after : List RecordData) (stock : Symbol) (letter : ℕ) (change : Bool → List RestingData → List RestingData)
    → ((other : Symbol) (buy : Bool) → rested_in policy after other buy ≡ cond (same_stock stock other && is_on buy letter) (change buy (rested_in policy before other buy)) (rested_in policy before other buy))
    → book_in_force policy after ≡ with_one_side stock (is_buy letter) (change (is_buy letter)) (book_in_force policy before)
unfolding book_in_force
one_side policy before after stock letter change same =
    all_stocks (stock_in_force policy after) (stock_in_force policy before) (λ s. cond (same_stock stock s.stock) (with_side (is_buy letter) (change (is_buy letter)) s) s)
    (λ s. (λ i. made s.name (same s.name true i) (same s.name false i)) ∙ at s.name (rested_in policy before s.name true) (rested_in policy before s.name false) (same_stock stock s.name) (is_buy letter)) policy.stocks
  where
    at : (name : Symbol) (buys sells : List RestingData) (a b : Bool)
        → made name (cond (a && b) (change true buys) buys) (cond (a && not b) (change false sells) sells) ≡ cond a (with_side b (change b) (made name buys sells)) (made name buys sells)
    at name buys sells true true = refl
    at name buys sells true false = refl
    at name buys sells false b = refl

-- at the beginning of a day nothing rests
pub book_at_first : (policy : PolicyData) → empty_book policy ≡ book_in_force policy []
unfolding book_in_force side
book_at_first policy = refl

-- what the book holds of a listed stock is what rests there
pub resting_found : (policy : PolicyData) (history : List RecordData) (stock : Symbol) (buy : Bool) → is_some (stock_named policy stock) ≡ true
    → resting_in (book_in_force policy history) stock buy ≡ rested_in policy history stock buy
unfolding book_in_force
resting_found policy history stock buy listed = by policy.stocks listed
  where
    on_it : (s : Stock) (buy : Bool) → orders_on_side buy (stock_in_force policy history s) ≡ rested_in policy history s.name buy
    on_it s true = refl
    on_it s false = refl

    by : (ss : List Stock) → is_some (find (λ (s : Stock). same_stock s.name stock) ss) ≡ true
        → option_map_or (orders_on_side buy) (find (λ (s : StockOrders). same_stock stock s.stock) (map (stock_in_force policy history) ss)) [] ≡ rested_in policy history stock buy
    by [] h = cc
    by (s ∷ ss) h =
        at (same_stock stock s.name) refl (ap (λ (b : Bool). is_some (cond b (Some s) (find (λ (x : Stock). same_stock x.name stock) ss))) (nat_list_eq_equiv.symm stock.bytes s.name.bytes) ∙ h) (by ss)
      where
        at : (b : Bool) → same_stock stock s.name ≡ b → is_some (cond b (Some s) (find (λ (x : Stock). same_stock x.name stock) ss)) ≡ true
            → (is_some (find (λ (x : Stock). same_stock x.name stock) ss) ≡ true → option_map_or (orders_on_side buy) (find (λ (x : StockOrders). same_stock stock x.stock) (map (stock_in_force policy history) ss)) [] ≡ rested_in policy history stock buy)
            → option_map_or (orders_on_side buy) (cond b (Some (stock_in_force policy history s)) (find (λ (x : StockOrders). same_stock stock x.stock) (map (stock_in_force policy history) ss))) [] ≡ rested_in policy history stock buy
        at true e k deeper = on_it s buy ∙ ap (λ (x : Symbol). rested_in policy history x buy) (sym (stock_is stock s.name e))
        at false e k deeper = deeper k

-- what becomes of a side is what becomes of the orders that rest there
pub same_side : (policy : PolicyData) (history : List RecordData) (stock : Symbol) (buy : Bool) (f g : List RestingData → List RestingData)
    → f (rested_in policy history stock buy) ≡ g (rested_in policy history stock buy) → with_one_side stock buy f (book_in_force policy history) ≡ with_one_side stock buy g (book_in_force policy history)
unfolding book_in_force
same_side policy history stock buy f g same = by policy.stocks
  where
    so : (s : Stock) (buy : Bool) → f (rested_in policy history s.name buy) ≡ g (rested_in policy history s.name buy) → with_side buy f (stock_in_force policy history s) ≡ with_side buy g (stock_in_force policy history s)
    so s true h = λ i. made s.name (h i) (rested_in policy history s.name false)
    so s false h = λ i. made s.name (rested_in policy history s.name true) (h i)

    at : (s : Stock) (b : Bool) → same_stock stock s.name ≡ b → cond b (with_side buy f (stock_in_force policy history s)) (stock_in_force policy history s) ≡ cond b (with_side buy g (stock_in_force policy history s)) (stock_in_force policy history s)
    at s true e = so s buy (ap (λ (x : Symbol). f (rested_in policy history x buy)) (sym (stock_is stock s.name e)) ∙ same ∙ ap (λ (x : Symbol). g (rested_in policy history x buy)) (stock_is stock s.name e))
    at s false e = refl

    by : (ss : List Stock) → with_one_side stock buy f (map (stock_in_force policy history) ss) ≡ with_one_side stock buy g (map (stock_in_force policy history) ss)
    by [] = refl
    by (s ∷ ss) = λ i. at s (same_stock stock s.name) refl i ∷ by ss i
