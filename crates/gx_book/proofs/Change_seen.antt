-- Where a change of the book is seen.
use Rattle.std.proofs.Common.{◌≡◌, Bool, true, false, cond, not, List, [], ◌∷◌, map, refl, ◌∙◌, sym, ap, true≢false, if◌then◌else◌}
use Rattle.std.specs.{Prelude.{Option, Some, None, is_some}, Option.option_map_or}
use Rattle.gx_units.specs.{Names.same_stock, declared.names.Symbol.Symbol}
use Rattle.gx_units.proofs.Names_equal.{stock_is}
use Rattle.gx_book.specs.{Resting.RestingData, Books.{StockOrders, resting_in, orders_on_side, stock_in, with_side}, Laws.{EachSideShows, OtherSideStays, OtherStocksStay, OwnSideShows}}

-- what a change of every row makes of one side of a stock
shows : (g : StockOrders → StockOrders) (stock : Symbol) (way : Bool) (h : List RestingData → List RestingData) → ((s : StockOrders) → (g s).stock ≡ s.stock)
    → ((s : StockOrders) → same_stock stock s.stock ≡ true → orders_on_side way (g s) ≡ h (orders_on_side way s))
    → (book : List StockOrders) → (stock_in book stock ≡ None → [] ≡ h []) → resting_in (map g book) stock way ≡ h (resting_in book stock way)
shows g stock way h named side [] none = none refl
shows g stock way h named side (s ∷ ss) none = by (same_stock stock s.stock) refl (λ rest. shows g stock way h named side ss rest)
  where
    seen : StockOrders → Option StockOrders → Bool → List RestingData
    seen t rest b = option_map_or (orders_on_side way) (cond b (Some t) rest) []

    by : (b : Bool) → same_stock stock s.stock ≡ b → ((stock_in ss stock ≡ None → [] ≡ h []) → resting_in (map g ss) stock way ≡ h (resting_in ss stock way))
        → resting_in (map g (s ∷ ss)) stock way ≡ h (resting_in (s ∷ ss) stock way)
    by true is later =
        ap (seen (g s) (stock_in (map g ss) stock)) (ap (same_stock stock) (named s) ∙ is) ∙ side s is ∙ sym (ap (λ b. h (seen s (stock_in ss stock) b)) is)
    by false is later =
        ap (seen (g s) (stock_in (map g ss) stock)) (ap (same_stock stock) (named s) ∙ is)
        ∙ later (λ missing. none (ap (λ b. cond b (Some s) (stock_in ss stock)) is ∙ missing))
        ∙ sym (ap (λ b. h (seen s (stock_in ss stock) b)) is)

abbrev row : Symbol → Bool → (List RestingData → List RestingData) → StockOrders → StockOrders
row stock buy f s = if same_stock stock s.stock then with_side buy f s else s

row_named : (stock : Symbol) (buy : Bool) (f : List RestingData → List RestingData) (s : StockOrders) → (row stock buy f s).stock ≡ s.stock
row_named stock buy f s = elim (same_stock stock s.stock) as (λ b. (if b then with_side buy f s else s).stock ≡ s.stock) [ true ↦ refl | false ↦ refl ]

pub each_side_shows : EachSideShows
each_side_shows book stock buy f none =
    shows (λ (s : StockOrders). record { stock = s.stock; buys = f s.buys; sells = f s.sells }) stock buy f (λ s. refl)
    (λ s is. elim buy as (λ w. (if w then f s.buys else f s.sells) ≡ f (orders_on_side w s)) [ true ↦ refl | false ↦ refl ]) book (λ missing. sym none)

pub own_side_shows : OwnSideShows
own_side_shows book stock buy f listed =
    shows (row stock buy f) stock buy f (row_named stock buy f)
    (λ s is. ap (λ (b : Bool). orders_on_side buy (if b then with_side buy f s else s)) is ∙ elim buy as (λ w. orders_on_side w (with_side w f s) ≡ f (orders_on_side w s)) [ true ↦ refl | false ↦ refl ])
    book (λ missing. absurd (true≢false (sym listed ∙ ap is_some missing)))

pub other_side_stays : OtherSideStays
other_side_stays book stock buy f =
    shows (row stock buy f) stock (not buy) (λ xs. xs) (row_named stock buy f)
    (λ s is. ap (λ (b : Bool). orders_on_side (not buy) (if b then with_side buy f s else s)) is ∙ elim buy as (λ w. orders_on_side (not w) (with_side w f s) ≡ orders_on_side (not w) s) [ true ↦ refl | false ↦ refl ])
    book (λ missing. refl)

pub other_stocks_stay : OtherStocksStay
other_stocks_stay book stock other buy way f apart =
    shows (row stock buy f) other way (λ xs. xs) (row_named stock buy f)
    (λ s is. ap (λ (b : Bool). orders_on_side way (if b then with_side buy f s else s)) (ap (same_stock stock) (sym (stock_is other s.stock is)) ∙ apart)) book (λ missing. refl)
