-- What the table of stocks says of the book that it stands for.
use Rattle.std.proofs.{Common.{◌≡◌, ℕ, ◌+◌, arith, length, length-append, Bool, true, false, cond, not, ◌||◌, List, [], ◌∷◌, map, refl, ◌∙◌, sym, ap, subst, if◌then◌else◌}, lemmas.{Bool.{and_from, and_parts}, List.Folds.list_all-map, Map.{Entries.none_past_head, Steps.set_value_same, NonePasses, none_passes_from_lookup}, Option.same_Some}}
use Rattle.std.specs.{Prelude.{Option, Some, None, is_some}, Cmp.{IsEquivalence, on_equiv, Lexicographic.nat_list_eq_equiv}, Option.option_map_or, List.{list_any, AllByRecursion, IsDistinct}, Map.{keys_of, lookup, set_value}}
use Rattle.gx_units.specs.{Names.same_stock, declared.names.Symbol.Symbol}
use Rattle.gx_units.proofs.Lists_hold.{all_imply}
use Rattle.gx_policy.specs.Lists.{are_distinct}
use Rattle.gx_book.specs.{declared.sides.BothSides.BothSides, Resting.RestingData, Books.{IsSound, StockOrders, all_orders, both_sides, is_same_stock, is_sound_book, is_sound_stock, on_each_side, with_one_side, resting_in, orders_on_side, stock_in, with_side}, Queue.is_in_order, Table.{book_of, both_changed, with_side_changed, side_in, stock_of}}

pub stocks_equiv : IsEquivalence same_stock
stocks_equiv = on_equiv (λ (s : Symbol). s.bytes) nat_list_eq_equiv

-- ---- one side of one stock

-- the stock found in the table
pub stock_found : (es : List (Symbol × BothSides)) (stock : Symbol) (buy : Bool)
    → resting_in (book_of es) stock buy ≡ option_map_or (side_in buy) (lookup (same_stock stock) es) []
stock_found [] stock buy = refl
stock_found (e ∷ es) stock buy =
    elim (same_stock stock e.0) as (λ b. option_map_or (orders_on_side buy) (cond b (Some (stock_of e)) (stock_in (book_of es) stock)) [] ≡ option_map_or (side_in buy) (cond b (Some e.1) (lookup (same_stock stock) es)) [])
    [ true ↦ refl | false ↦ stock_found es stock buy ]

-- whether the table has the stock
pub listed_found : (es : List (Symbol × BothSides)) (stock : Symbol) → is_some (lookup (same_stock stock) es) ≡ is_some (stock_in (book_of es) stock)
listed_found [] stock = refl
listed_found (e ∷ es) stock =
    elim (same_stock stock e.0) as (λ b. is_some (cond b (Some e.1) (lookup (same_stock stock) es)) ≡ is_some (cond b (Some (stock_of e)) (stock_in (book_of es) stock)))
    [ true ↦ refl | false ↦ listed_found es stock ]

-- the side of a stock that is listed, and of one that is not
pub side_found : (es : List (Symbol × BothSides)) (book : List StockOrders) (stock : Symbol) (sides : BothSides) → book_of es ≡ book → Some sides ≡ lookup (same_stock stock) es → (buy : Bool) → resting_in book stock buy ≡ side_in buy sides
side_found es book stock sides view found buy =
    ap (λ b. resting_in b stock buy) (sym view) ∙ stock_found es stock buy ∙ ap (λ (o : Option BothSides). option_map_or (side_in buy) o []) (sym found)

pub none_found : (es : List (Symbol × BothSides)) (book : List StockOrders) (stock : Symbol) (buy : Bool) → book_of es ≡ book → None ≡ lookup (same_stock stock) es → resting_in book stock buy ≡ []
none_found es book stock buy view missing =
    ap (λ b. resting_in b stock buy) (sym view) ∙ stock_found es stock buy ∙ ap (λ (o : Option BothSides). option_map_or (side_in buy) o []) (sym missing)

abbrev row : Symbol × BothSides → Bool → (List RestingData → List RestingData) → Bool → StockOrders
row e buy f b = if b then with_side buy f (stock_of e) else stock_of e

-- where no entry has the name, nothing changes
none_changed : (stock : Symbol) (buy : Bool) (f : List RestingData → List RestingData) (es : List (Symbol × BothSides)) → NonePasses (same_stock stock) es → with_one_side stock buy f (book_of es) ≡ book_of es
none_changed stock buy f [] apart = refl
none_changed stock buy f (e ∷ es) apart =
    ap (λ b. row e buy f b ∷ with_one_side stock buy f (book_of es)) apart.0 ∙ ap (λ rest. stock_of e ∷ rest) (none_changed stock buy f es apart.1)

pub unlisted_stays : (es : List (Symbol × BothSides)) (book : List StockOrders) (stock : Symbol) (buy : Bool) (f : List RestingData → List RestingData) → book_of es ≡ book → None ≡ lookup (same_stock stock) es → with_one_side stock buy f book ≡ book
unlisted_stays es book stock buy f view missing =
    ap (with_one_side stock buy f) (sym view) ∙ none_changed stock buy f es (none_passes_from_lookup (same_stock stock) es (sym missing)) ∙ view

changed_in_place : (stock : Symbol) (buy : Bool) (f : List RestingData → List RestingData) (es : List (Symbol × BothSides)) (before : BothSides)
    → IsDistinct same_stock (keys_of es) → lookup (same_stock stock) es ≡ Some before
    → book_of (set_value (same_stock stock) es (with_side_changed buy f before)) ≡ with_one_side stock buy f (book_of es)
unfolding IsDistinct
changed_in_place stock buy f [] before distinct found = refl
changed_in_place stock buy f (e ∷ es) before distinct found = by (same_stock stock e.0) refl (λ later. changed_in_place stock buy f es before distinct.1 later)
  where
    written : Bool → BothSides → List StockOrders
    written b s = book_of (cond b ((e.0, with_side_changed buy f s) ∷ es) (e ∷ set_value (same_stock stock) es (with_side_changed buy f s)))

    by : (b : Bool) → same_stock stock e.0 ≡ b
        → (lookup (same_stock stock) es ≡ Some before → book_of (set_value (same_stock stock) es (with_side_changed buy f before)) ≡ with_one_side stock buy f (book_of es))
        → written (same_stock stock e.0) before ≡ with_one_side stock buy f (book_of (e ∷ es))
    by true is later =
        ap (λ b. written b before) is
        ∙ ap (written true) (same_Some _ _ (sym found ∙ ap (λ b. cond b (Some e.1) (lookup (same_stock stock) es)) is))
        ∙ ap (λ rest. row e buy f true ∷ rest) (sym (none_changed stock buy f es (none_past_head stocks_equiv stock e es distinct is)))
        ∙ ap (λ b. row e buy f b ∷ with_one_side stock buy f (book_of es)) (sym is)
    by false is later =
        ap (λ b. written b before) is
        ∙ ap (λ rest. stock_of e ∷ rest) (later (sym (ap (λ b. cond b (Some e.1) (lookup (same_stock stock) es)) is) ∙ found))
        ∙ ap (λ b. row e buy f b ∷ with_one_side stock buy f (book_of es)) (sym is)

-- a stock's sides written back into the table, one of them changed
pub written_back : (es after : List (Symbol × BothSides)) (stock : Symbol) (buy : Bool) (f : List RestingData → List RestingData) (before now : BothSides)
    → after ≡ set_value (same_stock stock) es now → now ≡ with_side_changed buy f before → IsDistinct same_stock (keys_of es) → Some before ≡ lookup (same_stock stock) es
    → book_of after ≡ with_one_side stock buy f (book_of es)
written_back es after stock buy f before now written done distinct found =
    ap book_of written ∙ ap (λ s. book_of (set_value (same_stock stock) es s)) done ∙ changed_in_place stock buy f es before distinct (sym found)

-- and as they were
pub written_same : (es after : List (Symbol × BothSides)) (stock : Symbol) (before now : BothSides)
    → after ≡ set_value (same_stock stock) es now → now ≡ before → Some before ≡ lookup (same_stock stock) es → book_of after ≡ book_of es
written_same es after stock before now written same found =
    ap book_of written ∙ ap (λ s. book_of (set_value (same_stock stock) es s)) same ∙ ap book_of (set_value_same (same_stock stock) es before (sym found))

-- both sides of each entry changed
pub each_changed : (f : List RestingData → List RestingData) (es : List (Symbol × BothSides)) → book_of (map (λ (e : Symbol × BothSides). (e.0, both_changed f e.1)) es) ≡ on_each_side f (book_of es)
each_changed f [] = refl
each_changed f (e ∷ es) = ap (λ rest. stock_of (e.0, both_changed f e.1) ∷ rest) (each_changed f es)

-- ---- what is always so

-- the change leaves a side in order
abbrev pub KeepsOrder : Bool → (List RestingData → List RestingData) → Type 0
KeepsOrder buy f = (xs : List RestingData) → is_in_order buy xs ≡ true → is_in_order buy (f xs) ≡ true

sound_map : (g : StockOrders → StockOrders) (book : List StockOrders) → is_sound_book book ≡ true → ((s : StockOrders) → is_sound_stock s ≡ true → is_sound_stock (g s) ≡ true) → is_sound_book (map g book) ≡ true
sound_map g book sound keeps = list_all-map is_sound_stock g book ∙ all_imply is_sound_stock (λ s. is_sound_stock (g s)) book keeps sound

pub sound_on_side : (stock : Symbol) (buy : Bool) (f : List RestingData → List RestingData) (book : List StockOrders) → is_sound_book book ≡ true → KeepsOrder buy f → is_sound_book (with_one_side stock buy f book) ≡ true
sound_on_side stock buy f book sound keeps =
    sound_map (λ (s : StockOrders). if same_stock stock s.stock then with_side buy f s else s) book sound (λ s here. elim (same_stock stock s.stock) as (λ b. is_sound_stock (if b then with_side buy f s else s) ≡ true) [ true ↦ by s buy keeps here | false ↦ here ])
  where
    by : (s : StockOrders) (buy : Bool) → KeepsOrder buy f → is_sound_stock s ≡ true → is_sound_stock (with_side buy f s) ≡ true
    by s true keeps here = let parts = and_parts (is_in_order true s.buys) (is_in_order false s.sells) here in and_from _ _ (keeps s.buys parts.0) parts.1
    by s false keeps here = let parts = and_parts (is_in_order true s.buys) (is_in_order false s.sells) here in and_from _ _ parts.0 (keeps s.sells parts.1)

pub sound_on_each : (f : List RestingData → List RestingData) (book : List StockOrders) → is_sound_book book ≡ true → ((buy : Bool) → KeepsOrder buy f) → is_sound_book (on_each_side f book) ≡ true
sound_on_each f book sound keeps = sound_map (λ (s : StockOrders). record { stock = s.stock; buys = f s.buys; sells = f s.sells }) book sound (λ s here.
    let parts = and_parts (is_in_order true s.buys) (is_in_order false s.sells) here in and_from _ _ (keeps true s.buys parts.0) (keeps false s.sells parts.1))

no_such_stock : (stock : Symbol) (es : List (Symbol × BothSides)) → AllByRecursion (λ other. same_stock stock other ≡ false) (keys_of es)
    → list_any (λ (s : StockOrders). same_stock stock s.stock) (book_of es) ≡ false
no_such_stock stock [] apart = refl
no_such_stock stock (e ∷ es) apart = ap (λ b. b || list_any (λ (s : StockOrders). same_stock stock s.stock) (book_of es)) apart.0 ∙ no_such_stock stock es apart.1

stocks_differ : (es : List (Symbol × BothSides)) → IsDistinct same_stock (keys_of es) → are_distinct is_same_stock (book_of es) ≡ true
unfolding IsDistinct
stocks_differ [] distinct = refl
stocks_differ (e ∷ es) distinct = and_from _ _ (ap not (no_such_stock e.0 es distinct.0)) (stocks_differ es distinct.1)

pub always_sound : (es : List (Symbol × BothSides)) (book : List StockOrders) → book_of es ≡ book → IsDistinct same_stock (keys_of es) → is_sound_book (book_of es) ≡ true → IsSound book
always_sound es book view distinct sound = subst IsSound view (record { sides_are_sound = sound; stocks_differ = stocks_differ es distinct })

-- ---- how many orders rest

one_side_fewer : (buy : Bool) (before after : BothSides) (f : List RestingData → List RestingData) (n : ℕ) (key : Symbol) → after ≡ with_side_changed buy f before → length (side_in buy after) + n ≡ length (side_in buy before)
    → length (both_sides (stock_of (key, after))) + n ≡ length (both_sides (stock_of (key, before)))
one_side_fewer true before after f n key is fewer =
    ap (λ l. l + n) (length-append after.buys after.sells) ∙ ap (λ (s : List RestingData). (length after.buys + length s) + n) (ap (λ (s : BothSides). s.sells) is) ∙ omega (arith, fewer) ∙ sym (length-append before.buys before.sells)
one_side_fewer false before after f n key is fewer =
    ap (λ l. l + n) (length-append after.buys after.sells) ∙ ap (λ (s : List RestingData). (length s + length after.sells) + n) (ap (λ (s : BothSides). s.buys) is) ∙ omega (arith, fewer) ∙ sym (length-append before.buys before.sells)

-- as many fewer as on the side of the stock
pub fewer_back : (es entries : List (Symbol × BothSides)) (stock : Symbol) (buy : Bool) (f : List RestingData → List RestingData) (before after : BothSides) (n : ℕ)
    → entries ≡ set_value (same_stock stock) es after → after ≡ with_side_changed buy f before → Some before ≡ lookup (same_stock stock) es → length (side_in buy after) + n ≡ length (side_in buy before)
    → length (all_orders (book_of entries)) + n ≡ length (all_orders (book_of es))
fewer_back es entries stock buy f before after n written is found fewer = ap (λ (xs : List (Symbol × BothSides)). length (all_orders (book_of xs)) + n) written ∙ by es found
  where
    by : (xs : List (Symbol × BothSides)) → Some before ≡ lookup (same_stock stock) xs → length (all_orders (book_of (set_value (same_stock stock) xs after))) + n ≡ length (all_orders (book_of xs))
    by [] found = cc
    by (x ∷ xs) found = at (same_stock stock x.0) found (λ deeper. by xs deeper)
      where
        at : (b : Bool) → Some before ≡ cond b (Some x.1) (lookup (same_stock stock) xs)
            → (Some before ≡ lookup (same_stock stock) xs → length (all_orders (book_of (set_value (same_stock stock) xs after))) + n ≡ length (all_orders (book_of xs)))
            → length (all_orders (book_of (cond b ((x.0, after) ∷ xs) (x ∷ set_value (same_stock stock) xs after)))) + n ≡ length (all_orders (book_of (x ∷ xs)))
        at true found deeper =
            let one = one_side_fewer buy before after f n x.0 is fewer in
            let its : before ≡ x.1 = same_Some _ _ found in
            ap (λ l. l + n) (length-append (both_sides (stock_of (x.0, after))) (all_orders (book_of xs)))
            ∙ omega (arith, one)
            ∙ ap (λ (s : BothSides). length (both_sides (stock_of (x.0, s))) + length (all_orders (book_of xs))) its
            ∙ sym (length-append (both_sides (stock_of x)) (all_orders (book_of xs)))
        at false found deeper =
            let more = deeper found in
            ap (λ l. l + n) (length-append (both_sides (stock_of x)) (all_orders (book_of (set_value (same_stock stock) xs after))))
            ∙ omega (arith, more)
            ∙ sym (length-append (both_sides (stock_of x)) (all_orders (book_of xs)))
