-- Running figures, and what each change makes of them.
use Rattle.gx_units.specs.{Money.{capped_at_128_bits, value}, Names.same_stock, declared.names.Symbol.Symbol}
use Rattle.std.specs.{Option.option_map_or, Prelude.{ℕ, ◌+◌, ◌-◌, ◌^◌, ℤ, pos, ◌-ℤ◌, Bool, true, false, ◌&&◌, ◌==◌, min, nat_lt, nat_le, List, [], ◌∷◌, ◌++◌, map, unwrap_or, count_by, slice_get, Option, Some, None, if◌then◌else◌}, List.suffix_len, Map.lookup}
use Rattle.circular_buffer.specs.Buffer.{Buffer, buffer, keep_last, last_item}
use Rattle.gx_history.specs.{declared.{live_order.LiveOrder.LiveOrder, «record».Request.Request}, Book.is_buy, LiveOrders.shares_open}
use Rattle.gx_policy.specs.declared.policy.Stock.{Stock}
use Rattle.gx_ledger.specs.{Changes.Change, declared.{group.{RepeatKey.RepeatKey, Group.Group}, change.ChangeKind.ChangeKind, sides.StockSums.StockSums, sums.Sums.Sums}}

-- with so much more open
abbrev pub with_live : ℕ → Sums → Sums
with_live more s = record { live = capped_at_128_bits (s.live + more); done = s.done }

-- with so much less open
abbrev pub without_live : ℕ → Sums → Sums
without_live less s = record { live = s.live - less; done = s.done }

-- with so much more executed
abbrev pub with_done : ℕ → Sums → Sums
with_done more s = record { live = s.live; done = capped_at_128_bits (s.done + more) }

-- shares are counted singly, whatever their price
abbrev pub counted_singly : ℕ → ℕ → ℕ
counted_singly shares price = shares

-- the sums, once an order of the accounts has changed so; shares at a price count by the measure
abbrev pub changed_sums : (ℕ → ℕ → ℕ) → LiveOrder → ChangeKind → Sums → Sums
changed_sums measure o (ChangeKind.Accepted moment replacement) s = with_live (measure (shares_open o) o.terms.price) s
changed_sums measure o (ChangeKind.Left shares) s = without_live (measure shares o.terms.price) s
changed_sums measure o (ChangeKind.Filled shares price) s = with_done (measure shares price) (without_live (measure shares o.terms.price) s)

-- what the order has in common with like ones
abbrev pub entered_as : LiveOrder → RepeatKey
entered_as o = record { side = o.terms.side; shares = o.terms.shares; stock = o.terms.stock; price = o.terms.price }

-- the ring with one more item, and without its oldest where it was full
abbrev pub with_latest : {X : Type 0} → X → Buffer X → Buffer X
with_latest x ring = buffer (keep_last ring.capacity (ring.items ++ x ∷ [])) ring.capacity

-- the moments, with that of an order that comes
abbrev pub noted_moments : ChangeKind → Buffer ℕ → Buffer ℕ
noted_moments (ChangeKind.Accepted moment replacement) moments = with_latest moment moments
noted_moments (ChangeKind.Left shares) moments = moments
noted_moments (ChangeKind.Filled shares price) moments = moments

-- the Enters, with one that comes
abbrev pub noted_enters : LiveOrder → ChangeKind → Buffer RepeatKey → Buffer RepeatKey
noted_enters o (ChangeKind.Accepted moment replacement) enters = if replacement then enters else with_latest (entered_as o) enters
noted_enters o (ChangeKind.Left shares) enters = enters
noted_enters o (ChangeKind.Filled shares price) enters = enters

-- the sums of a stock, once an order in it has changed: those of its side count shares singly
abbrev pub changed_sides : Change → StockSums → StockSums
changed_sides change s =
    if is_buy change.order.terms.side
    then record { buys = changed_sums counted_singly change.order change.kind s.buys; sells = s.sells }
    else record { buys = s.buys; sells = changed_sums counted_singly change.order change.kind s.sells }

-- the sums of each stock then
abbrev pub noted_sides : Change → List (Symbol × StockSums) → List (Symbol × StockSums)
noted_sides change sides =
    map (λ (e : Symbol × StockSums). (e.0, if same_stock change.order.terms.stock e.0 then changed_sides change e.1 else e.1)) sides

-- of no order and no fill
abbrev pub no_sides : StockSums
no_sides = record { buys = record { live = 0; done = 0 }; sells = record { live = 0; done = 0 } }

-- the sums of each stock before any order
abbrev pub first_sides : List Stock → List (Symbol × StockSums)
first_sides stocks = map (λ (s : Stock). (s.name, no_sides)) stocks

-- the sums of the stock
abbrev pub sides_at : List (Symbol × StockSums) → Symbol → StockSums
sides_at sides stock = unwrap_or (lookup (same_stock stock) sides) no_sides

-- those of buys, or of all others
abbrev pub on_its_side : Bool → StockSums → Sums
on_its_side buys s = if buys then s.buys else s.sells

-- the number, or the greatest of 127 bits where it is past that
abbrev pub capped_signed : ℕ → ℕ
capped_signed n = min n (2 ^ 127 - 1)

-- what was executed on a side, less what was on the other
abbrev pub net_of : ℕ → ℕ → ℤ
net_of done other = pos (capped_signed done) -ℤ pos (capped_signed other)

-- the group, once an order of its accounts changed
abbrev pub changed_group : Change → Group → Group
changed_group change (Group.Shares sums) = Group.Shares (changed_sums counted_singly change.order change.kind sums)
changed_group change (Group.Value sums) = Group.Value (changed_sums value change.order change.kind sums)
changed_group change (Group.Sides sides) = Group.Sides (noted_sides change sides)
changed_group change (Group.Recent window moments) = Group.Recent window (noted_moments change.kind moments)
changed_group change (Group.Enters enters) = Group.Enters (noted_enters change.order change.kind enters)
changed_group change Group.Nothing = Group.Nothing

-- the moment lies less than the window back
abbrev pub is_recent : ℕ → ℕ → ℕ → Bool
is_recent window moment m = nat_lt (moment - m) window

-- there is a moment at this index, and it lies less than the window back
abbrev pub is_recent_at : List ℕ → ℕ → ℕ → ℕ → Bool
is_recent_at moments index window moment = option_map_or (is_recent window moment) (slice_get moments index) false

-- the last of the moments is no later
abbrev pub comes_last : List ℕ → ℕ → Bool
comes_last moments moment = option_map_or (λ last. nat_le last moment) (last_item moments) true

-- how many of the last moments, from the newest on, lie less than the window back
abbrev pub recent_in : List ℕ → ℕ → ℕ → ℕ
recent_in moments window moment = suffix_len (is_recent window moment) moments

-- the Enters are alike
abbrev pub are_alike : RepeatKey → RepeatKey → Bool
are_alike asked e = e.side == asked.side && e.shares == asked.shares && same_stock e.stock asked.stock && e.price == asked.price

-- the Enters have one price and one size
abbrev pub are_sized_alike : RepeatKey → RepeatKey → Bool
are_sized_alike asked e = e.price == asked.price && e.shares == asked.shares

-- what an Enter would have in common with like ones
abbrev pub asked_as : Request → Option RepeatKey
asked_as (Request.Enter m) = Some (record { side = m.side; shares = m.shares; stock = m.stock; price = m.price })
asked_as other = None

-- how many of the Enters are such as this one
abbrev pub count_alike : List RepeatKey → RepeatKey → ℕ
count_alike enters asked = count_by (are_alike asked) enters
