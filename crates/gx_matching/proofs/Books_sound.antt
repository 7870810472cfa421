-- Each side of a book in force has the better price first, and no book is crossed.
use Rattle.std.proofs.{Common.{◌≡◌, ◌<◌, Bool, true, false, not, List, [], ◌∷◌, refl, ◌∙◌, ap, sym, map}, lemmas.Bool.{leb-false, and_parts, and_from}}
use Rattle.std.specs.{Prelude.nat_le, List.{AllByRecursion, list_all}}
use Rattle.gx_units.specs.{Names.same_stock, declared.names.Symbol.Symbol}
use Rattle.gx_units.proofs.Lists_hold.{all_weaker, all_mapped, all_and}
use Rattle.gx_policy.specs.{declared.policy.{PolicyData.PolicyData, Stock.Stock}, Lists.IsInOrder}
use Rattle.gx_history.specs.{declared.{live_order.LiveOrder.LiveOrder, «record».RecordData.RecordData}, Matching.crosses, Live.{ahead, is_buy_order, side}, Verdicts.IsLegal}
use Rattle.gx_laws.proofs.{LiveOrders_known.{RestsThere, all_resting}, Books_uncrossed.never_crossed, PriceOrder_best.resting_ordered, Runs_orderly.legal_is_orderly}
use Rattle.gx_book.specs.{Resting.{RestingData, resting_of}, Books.is_sound_stock, Queue.{is_better, is_in_order}}
use Rattle.gx_matching.specs.{BookInForce.{book_in_force, rested_in, stock_in_force}, Laws.{BooksAreSound, BooksAreUncrossed, IsUncrossed}}

none_better : (buy : Bool) (o : LiveOrder) (os : List LiveOrder) → AllByRecursion (λ (x : LiveOrder). ahead buy x o ≡ false) os → list_all (λ (later : RestingData). not (is_better buy later (resting_of o))) (map resting_of os) ≡ true
none_better buy o [] h = refl
none_better buy o (x ∷ os) h = and_from (not (ahead buy x o)) (list_all (λ (later : RestingData). not (is_better buy later (resting_of o))) (map resting_of os)) (ap not h.0) (none_better buy o os h.1)

in_order : (buy : Bool) (os : List LiveOrder) → IsInOrder (ahead buy) os → is_in_order buy (map resting_of os) ≡ true
in_order buy [] h = refl
in_order buy (o ∷ os) h =
    and_from (list_all (λ (later : RestingData). not (is_better buy later (resting_of o))) (map resting_of os)) (is_in_order buy (map resting_of os)) (none_better buy o os h.0) (in_order buy os h.1)

pub books_sound : BooksAreSound
unfolding book_in_force
books_sound policy history legal = by policy.stocks
  where
    by : (ss : List Stock) → list_all is_sound_stock (map (stock_in_force policy history) ss) ≡ true
    by [] = refl
    by (s ∷ ss) =
        and_from (is_sound_stock (stock_in_force policy history s)) (list_all is_sound_stock (map (stock_in_force policy history) ss))
        (and_from (is_in_order true (rested_in policy history s.name true)) (is_in_order false (rested_in policy history s.name false))
        (in_order true (side policy history s.name true) (resting_ordered policy history s.name true)) (in_order false (side policy history s.name false) (resting_ordered policy history s.name false)))
        (by ss)

-- ---- no buy crosses a sell

below : (b s : LiveOrder) → is_buy_order b ≡ true → crosses b s ≡ false → b.terms.price < s.terms.price
below b s buys apart =
    leb-false s.terms.price b.terms.price
    (sym (ap (λ (x : Bool). elim x [ true ↦ nat_le s.terms.price b.terms.price | false ↦ nat_le b.terms.price s.terms.price ]) buys) ∙ apart)

-- an order that rests is below all that rest for sale
abbrev IsBelowAll : List LiveOrder → LiveOrder → Type 0
IsBelowAll sells b = AllByRecursion (λ (s : LiveOrder). b.terms.price < s.terms.price) sells

sides_apart : {policy : PolicyData} {history : List RecordData} (stock : Symbol) → IsLegal policy history → AllByRecursion (IsBelowAll (side policy history stock false)) (side policy history stock true)
sides_apart {policy} {history} stock legal =
    let buys : List LiveOrder = side policy history stock true in
    let sells : List LiveOrder = side policy history stock false in
    all_weaker (λ (b : LiveOrder). RestsThere policy history stock true b × AllByRecursion (λ (s : LiveOrder). crosses b s ≡ false) sells) (IsBelowAll sells)
    (λ b h. all_weaker (λ (s : LiveOrder). crosses b s ≡ false) (λ (s : LiveOrder). b.terms.price < s.terms.price)
    (λ s k. below b s (and_parts (same_stock b.terms.stock stock) (is_buy_order b) h.0.there).1 k) sells h.1) buys
    (all_and (RestsThere policy history stock true) (λ (b : LiveOrder). AllByRecursion (λ (s : LiveOrder). crosses b s ≡ false) sells) buys
    (all_resting stock true (legal_is_orderly legal)) (never_crossed policy history legal stock))

pub books_uncrossed : BooksAreUncrossed
unfolding book_in_force
books_uncrossed policy history legal = all_mapped IsUncrossed (stock_in_force policy history) policy.stocks (by policy.stocks)
  where
    by : (ss : List Stock) → AllByRecursion (λ (s : Stock). IsUncrossed (stock_in_force policy history s)) ss
    by [] = tt
    by (s ∷ ss) = (
      all_mapped (λ (buy : RestingData). AllByRecursion (λ (sell : RestingData). buy.price < sell.price) (rested_in policy history s.name false)) resting_of (side policy history s.name true)
          (all_weaker (IsBelowAll (side policy history s.name false)) (λ (b : LiveOrder). AllByRecursion (λ (sell : RestingData). b.terms.price < sell.price) (rested_in policy history s.name false))
          (λ b h. all_mapped (λ (sell : RestingData). b.terms.price < sell.price) resting_of (side policy history s.name false) h) (side policy history s.name true) (sides_apart s.name legal)),
      by ss,
    )
