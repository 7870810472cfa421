use Rattle.gx_laws.proofs.{BookSides_only.{all_of_these, none_but_these}, PriceOrder_best.resting_ordered, PriceOrder_time.rests_by_time}
use Rattle.gx_laws.proofs.effects.books_are_in_price_time_order.Goals as goal

pub returns : goal.returns
returns c = record { price = resting_ordered; time = rests_by_time; alone = none_but_these; whole = all_of_these }
