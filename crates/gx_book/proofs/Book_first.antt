-- A book that opens on the policy's stocks.
use Rattle.std.proofs.{Common.{◌≡◌, ℕ, ◌+◌, ◌<◌, Bool, true, not, ◌||◌, List, [], ◌∷◌, ◌++◌, map, refl, ◌∙◌, sym, ap, subst, length, take, drop, zero, suc, get_or, append_assoc, if◌then◌else◌}, lemmas.{Bool.{and_from, and_parts, or_parts, not-true}, List.{Folds.list_any-append, get_or-map, length-map, take_more, take-append-drop}}}
use Rattle.std.specs.List.{list_any}
use Rattle.indexmap.specs.IndexMap.{insert_entry}
use Rattle.gx_units.specs.{Names.same_stock, declared.names.Symbol.Symbol}
use Rattle.gx_policy.specs.{declared.policy.{Stock.Stock, PolicyData.PolicyData}, Lists.are_distinct, Soundness.{is_sound, names_differ}}
use Rattle.gx_book.specs.{declared.sides.BothSides.BothSides, Resting.RestingData, Books.{StockOrders, is_same_stock, is_sound_book, without_orders}, Table.{book_of, stock_of}}
use Rattle.gx_book.proofs.Stocks_table.{stocks_equiv}

-- a stock of a new name goes last
added : (es : List (Symbol × BothSides)) (name : Symbol) (sides : BothSides) (rest : List StockOrders) → are_distinct is_same_stock (book_of es ++ stock_of (name, sides) ∷ rest) ≡ true
    → book_of (insert_entry same_stock es name sides) ≡ book_of es ++ stock_of (name, sides) ∷ []
added [] name sides rest differ = refl
added (e ∷ es) name sides rest differ =
    let named : StockOrders → Bool = λ (b : StockOrders). same_stock e.0 b.stock in
    let parts = and_parts (not (list_any named (book_of es ++ stock_of (name, sides) ∷ rest))) _ differ in
    let apart = (or_parts (list_any named (book_of es)) _ (sym (list_any-append named (book_of es) (stock_of (name, sides) ∷ rest)) ∙ not-true _ parts.0)).1 in
    ap (λ b. book_of (if b then (e.0, sides) ∷ es else e ∷ insert_entry same_stock es name sides)) (stocks_equiv.symm name e.0 ∙ (or_parts (same_stock e.0 name) _ apart).0)
    ∙ ap (λ ss. stock_of e ∷ ss) (added es name sides rest parts.1)

-- one more of the stocks
added_next : (es : List (Symbol × BothSides)) (name : Symbol) (sides : BothSides) (rows : List StockOrders) (i : ℕ)
    → are_distinct is_same_stock rows ≡ true → book_of es ≡ take i rows → i < length rows → stock_of (name, sides) ≡ get_or rows i (stock_of (name, sides))
    → book_of (insert_entry same_stock es name sides) ≡ take (i + 1) rows
added_next es name sides rows i differ are within at =
    let row : StockOrders = stock_of (name, sides) in
    let front : book_of es ++ row ∷ [] ≡ take (i + 1) rows =
    ap (λ us. us ++ row ∷ []) are ∙ ap (λ v. take i rows ++ v ∷ []) at ∙ sym (take_more rows i row within)
    in
    let whole : book_of es ++ row ∷ drop (i + 1) rows ≡ rows =
    sym (append_assoc (book_of es) (row ∷ []) (drop (i + 1) rows)) ∙ ap (λ us. us ++ drop (i + 1) rows) front ∙ take-append-drop (i + 1) rows
    in
    added es name sides (drop (i + 1) rows) (ap (are_distinct is_same_stock) whole ∙ differ) ∙ front

any_of_rows : (name : Symbol) (stocks : List Stock) → list_any (λ (b : StockOrders). same_stock name b.stock) (map without_orders stocks) ≡ list_any (λ (b : Stock). same_stock name b.name) stocks
any_of_rows name [] = refl
any_of_rows name (s ∷ ss) = ap (λ b. same_stock name s.name || b) (any_of_rows name ss)

rows_differ : (stocks : List Stock) → are_distinct (λ (a b : Stock). same_stock a.name b.name) stocks ≡ true → are_distinct is_same_stock (map without_orders stocks) ≡ true
rows_differ [] differ = refl
rows_differ (s ∷ ss) differ =
    let parts = and_parts (not (list_any (λ (b : Stock). same_stock s.name b.name) ss)) _ differ in
    and_from _ _ (ap not (any_of_rows s.name ss) ∙ parts.0) (rows_differ ss parts.1)

-- no two stocks of a sound policy have one name
pub stocks_differ : (policy : PolicyData) → is_sound policy ≡ true → are_distinct (λ (a b : Stock). same_stock a.name b.name) policy.stocks ≡ true
unfolding is_sound
stocks_differ policy h =
    let names : names_differ policy ≡ true = (and_parts _ _ (and_parts _ _ (and_parts _ _ (and_parts _ _ (and_parts _ _ (and_parts _ _ h).0).0).0).0).0).1 in
    (and_parts _ _ (and_parts _ _ (and_parts _ _ names).0).0).1

-- one more of the policy's stocks
pub listed_next : (es : List (Symbol × BothSides)) (sides : BothSides) (stocks : List Stock) (i : ℕ) (d : Stock)
    → are_distinct (λ (a b : Stock). same_stock a.name b.name) stocks ≡ true → book_of es ≡ take i (map without_orders stocks) → i < length stocks
    → sides.buys ≡ [] → sides.sells ≡ []
    → book_of (insert_entry same_stock es (get_or stocks i d).name sides) ≡ take (i + 1) (map without_orders stocks)
listed_next es sides stocks i d differ are within buys sells =
    let s : Stock = get_or stocks i d in
    let row : List RestingData → List RestingData → StockOrders = λ (b c : List RestingData). record { stock = s.name; buys = b; sells = c } in
    added_next es s.name sides (map without_orders stocks) i (rows_differ stocks differ) are (subst (λ n. i < n) (sym (length-map stocks without_orders)) within)
    (ap (λ b. row b sides.sells) buys ∙ ap (λ c. row [] c) sells ∙ sym (get_or-map without_orders stocks i d (stock_of (s.name, sides)) within))

-- stocks without orders are sound
pub opening_is_sound : (i : ℕ) (stocks : List Stock) → is_sound_book (take i (map without_orders stocks)) ≡ true
opening_is_sound zero stocks = refl
opening_is_sound (suc i) [] = refl
opening_is_sound (suc i) (s ∷ ss) = opening_is_sound i ss
