-- What one more fill makes of the positions.
use Rattle.std.proofs.{Common.{◌≡◌, ℕ, ◌+◌, ◌<◌, Bool, true, false, not, cond, ◌&&◌, List, [], ◌∷◌, ◌++◌, map, length, take, get_or, arith, refl, ap, sym, subst, ◌∙◌}, lemmas.{Slice.Eq.bytes_eq-Decides, List.take_more, Simd.map-map, Bool.and_parts}}
use Rattle.std.specs.Prelude.{fold}
use Rattle.gx_units.specs.{Money.{value, capped_at_128_bits}, Names.{same_account, same_stock}}
use Rattle.gx_units.proofs.Names_equal.{account_is, stock_is, account_is_itself}
use Rattle.gx_policy.specs.{declared.policy.PolicyData.PolicyData, Lists.once}
use Rattle.gx_history.specs.{declared.record.RecordData.RecordData, Book.is_buy, Executions.{Execution, executions, sides_in}, Figures.done_of_chosen, Orders.orders}
use Rattle.gx_laws.proofs.Orders_next.{executions_next, executions_none, orders_next}
use Rattle.gx_overview.specs.{declared.{executed.ExecutedTotals.ExecutedTotals, owners.Owners.Owners}, Executed.{KnowOrders, value_of_chosen}}
use Rattle.gx_overview.proofs.{LiveOrders_call.sum_capped, Fills_call.{the_sums, shares_next, value_next}}
use Rattle.gx_activity.specs.{declared.positions.{Position.Position, PositionRow.PositionRow}, Positions.{is_in, no_position, position_of, position_row, position_rows, position_with, position_row_of, same_position}, Positioning.{NotePositions, entries_after, position_table, table_of}}
use Rattle.gx_activity.proofs.Table_next.{listed_value_of, table_from}

-- ---- positions are the same where they are equal

same_itself : (p : Position) → same_position p p ≡ true
same_itself p =
    ap (λ (b : Bool). b && same_stock p.stock p.stock) (account_is_itself p.account) ∙ (bytes_eq-Decides p.stock.bytes p.stock.bytes).1 refl

same_are_equal : (p q : Position) → same_position p q ≡ true → p ≡ q
same_are_equal p q same =
    let parts : (same_account p.account q.account ≡ true) × (same_stock p.stock q.stock ≡ true) = and_parts (same_account p.account q.account) (same_stock p.stock q.stock) same in
    λ i. record { account = account_is p.account q.account parts.0 i; stock = stock_is p.stock q.stock parts.1 i }

-- ---- the row of a position, with one more side of a fill

abbrev the_row : Position → ExecutedTotals → ExecutedTotals → PositionRow
the_row p bought sold = record { position = p; bought = bought; sold = sold }

abbrev with_side : Execution → PositionRow → PositionRow
with_side e row = position_with (is_buy e.order.terms.side) e.fill row

row_next : (made : List Execution) (e : Execution) (p : Position)
    → position_row (made ++ e ∷ []) p ≡ cond (same_position (position_of e) p) (with_side e (position_row made p)) (position_row made p)
row_next made e p =
    (λ i. the_row p (the_sums (capped_at_128_bits (shares_next made e (is_in p true) i)) (capped_at_128_bits (value_next made e (is_in p true) i)))
    (the_sums (capped_at_128_bits (shares_next made e (is_in p false) i)) (capped_at_128_bits (value_next made e (is_in p false) i))))
    ∙ by (same_position (position_of e) p) (is_buy e.order.terms.side)
  where
    shares : Bool → ℕ
    shares buys = done_of_chosen made (is_in p buys)

    worth : Bool → ℕ
    worth buys = value_of_chosen made (is_in p buys)

    price : ℕ
    price = value e.fill.shares e.fill.price

    none : (n : ℕ) → capped_at_128_bits (n + 0) ≡ capped_at_128_bits n
    none n = ap capped_at_128_bits (omega arith)

    same : (buys : Bool) → the_sums (capped_at_128_bits (shares buys + 0)) (capped_at_128_bits (worth buys + 0)) ≡ the_sums (capped_at_128_bits (shares buys)) (capped_at_128_bits (worth buys))
    same buys = λ i. the_sums (none (shares buys) i) (none (worth buys) i)

    more : (buys : Bool) → the_sums (capped_at_128_bits (shares buys + e.fill.shares)) (capped_at_128_bits (worth buys + price)) ≡ the_sums (capped_at_128_bits (capped_at_128_bits (shares buys) + e.fill.shares)) (capped_at_128_bits (capped_at_128_bits (worth buys) + price))
    more buys = sym (λ i. the_sums (sum_capped (shares buys) e.fill.shares i) (sum_capped (worth buys) price i))

    by : (his buys : Bool)
        → the_row p (the_sums (capped_at_128_bits (shares true + cond (his && buys) e.fill.shares 0)) (capped_at_128_bits (worth true + cond (his && buys) price 0)))
        (the_sums (capped_at_128_bits (shares false + cond (his && not buys) e.fill.shares 0)) (capped_at_128_bits (worth false + cond (his && not buys) price 0)))
        ≡ cond his (position_with buys e.fill (position_row made p)) (position_row made p)
    by true true = λ i. the_row p (more true i) (same false i)
    by true false = λ i. the_row p (same true i) (more false i)
    by false true = λ i. the_row p (same true i) (same false i)
    by false false = λ i. the_row p (same true i) (same false i)

no_row : (p : Position) → position_row [] p ≡ no_position p
unfolding done_of_chosen
no_row p = refl

-- the table, with more sides of fills
table_grows : (made more : List Execution) → fold entries_after (table_of made) more ≡ table_of (made ++ more)
table_grows made more = table_from same_position same_itself same_are_equal position_of position_row no_position with_side no_row row_next made more

-- before any record
pub positions_none : (policy : PolicyData) → [] ≡ position_table policy []
positions_none policy = ap table_of (sym (executions_none policy))

module _ (policy : PolicyData) (records : List RecordData) (i : ℕ) (r d : RecordData) (old new : Owners) (before after : List (Position × PositionRow)) (within : i < length records) (is : r ≡ get_or records i d)
    (knows : KnowOrders old (orders policy (take i records))) (noted : NotePositions policy r old new before after) where
  abbrev one_more : take i records ++ r ∷ [] ≡ take (i + 1) records
  one_more = ap (λ (x : RecordData). take i records ++ x ∷ []) is ∙ sym (take_more records i d within)

  -- one more record
  pub positions_known : KnowOrders new (orders policy (take (i + 1) records))
  positions_known = subst (KnowOrders new) (sym (orders_next policy (take i records) r) ∙ ap (orders policy) one_more) (noted (orders policy (take i records)) knows).knows

  pub positions_further : before ≡ position_table policy (take i records) → after ≡ position_table policy (take (i + 1) records)
  positions_further so_far =
      (noted (orders policy (take i records)) knows).rows
      ∙ ap (λ (entries : List (Position × PositionRow)). fold entries_after entries (sides_in (orders policy (take i records)) r.verdict)) so_far
      ∙ table_grows (executions policy (take i records)) (sides_in (orders policy (take i records)) r.verdict)
      ∙ ap table_of (sym (executions_next policy (take i records) r) ∙ ap (executions policy) one_more)

-- the rows alone
pub rows_are : (policy held : PolicyData) (records shown : List RecordData) (entries : List (Position × PositionRow)) → entries ≡ position_table held shown → held ≡ policy → shown ≡ records
    → map (λ (e : Position × PositionRow). e.1) entries ≡ position_rows policy records
rows_are policy held records shown entries is under of =
    ap (map (λ (e : Position × PositionRow). e.1)) (is ∙ (λ i. position_table (under i) (of i)))
    ∙ map-map {B = Position × PositionRow} (λ (e : Position × PositionRow). e.1) (λ (p : Position). (p, position_row (executions policy records) p)) (once same_position (map position_of (executions policy records)))

-- and each of them
pub each_is : (policy : PolicyData) (records : List RecordData) (rows : List PositionRow) → rows ≡ position_rows policy records → (p : Position) → position_row_of rows p ≡ position_row (executions policy records) p
each_is policy records rows is p =
    ap (λ (rs : List PositionRow). position_row_of rs p) is
    ∙ listed_value_of same_position same_itself same_are_equal position_of position_row no_position with_side no_row row_next (λ (row : PositionRow). row.position) (λ xs k. refl) (executions policy records) p
