use Rattle.std.proofs.{Common.{◌∙◌, ap, refl, rules}, lemmas.Map.Made.map_same_pairs}
use Rattle.gx_book.specs.{Books.{is_sound_book, on_each_side}, Queue.no_orders, Table.{book_of, both_changed}}
use Rattle.gx_book.proofs.Stocks_table.{each_changed, sound_on_each}
use Rattle.gx_book.proofs.book.Book.remove_all.Goals as goal

pub invariant_of-self : goal.invariant_of-self
invariant_of-self c =
    ap is_sound_book (ap book_of (map_same_pairs _ (both_changed no_orders) _ (λ k v b w f' t. search rules) _ _ c.retain.ensures.filtered) ∙ each_changed no_orders c.self.inside.by_stock.entries)
    ∙ sound_on_each no_orders (book_of c.self.inside.by_stock.entries) c.self.invariant (λ buy xs sorted. refl)

pub returns : goal.returns
returns c =
    ap book_of (map_same_pairs _ (both_changed no_orders) _ (λ k v b w f' t. search rules) _ _ c.retain.ensures.filtered)
    ∙ each_changed no_orders c.self.inside.by_stock.entries
    ∙ ap (on_each_side no_orders) c.self.view_is
