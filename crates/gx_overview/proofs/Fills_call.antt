-- What a pass over the records notes of fills.
use Rattle.std.proofs.{Common.{◌≡◌, ℕ, ◌+◌, ◌<◌, Bool, true, false, not, cond, ◌&&◌, List, [], ◌∷◌, ◌++◌, map, length, take, drop, get_or, arith, refl, ap, sym, subst, ◌∙◌, append_assoc, sum_by}, lemmas.{List.{Elements.filter-append, Sums.{fold-append, sum_by-append}, append-nil, length-map, take_more}, Simd.map-map}}
use Rattle.std.specs.{Prelude.fold, List.filter}
use Rattle.gx_units.specs.{Money.{value, capped_at_128_bits}, Names.same_account, declared.names.AccountName.AccountName}
use Rattle.gx_units.proofs.Lists_found.{map_same}
use Rattle.gx_ouch.specs.declared.outbound.OrderTerms.{OrderTerms}
use Rattle.gx_policy.specs.declared.policy.{Account.Account, PolicyData.PolicyData}
use Rattle.gx_history.specs.{declared.«record».RecordData.RecordData, Book.is_buy, Executions.{Execution, executions, sides_in}, Figures.done_of_chosen, Orders.orders}
use Rattle.gx_laws.proofs.Orders_next.{executions_next, executions_none, orders_next, orders_none}
use Rattle.gx_overview.specs.{declared.{executed.{ExecutedTotals.ExecutedTotals, ExecutedRow.ExecutedRow}, owners.Owners.Owners}, Accounts.is_account_side, Executed.{KnowOrders, NoteRecord, executed_of_account, executed_row, no_executions, owner_of, row_filled, rows_after, side_filled, value_of_chosen}}
use Rattle.gx_overview.proofs.{LiveOrders_call.sum_capped, Pass_next.{each_folded, written_back}}

-- before any record
pub nothing_noted : (policy : PolicyData) (rows : List ExecutedRow) → rows ≡ fold rows_after rows (executions policy [])
nothing_noted policy rows = ap (fold rows_after rows) (sym (executions_none policy))

pub nothing_known : (policy : PolicyData) (owners : Owners) → KnowOrders owners [] → KnowOrders owners (orders policy [])
nothing_known policy owners knows = subst (KnowOrders owners) (sym (orders_none policy)) knows

module _ (policy : PolicyData) (records : List RecordData) (i : ℕ) (r d : RecordData) (old new : Owners) (first before after : List ExecutedRow) (within : i < length records) (is : r ≡ get_or records i d)
    (knows : KnowOrders old (orders policy (take i records))) (noted : NoteRecord policy r old new before after) where
  abbrev one_more : take i records ++ r ∷ [] ≡ take (i + 1) records
  one_more = ap (λ (x : RecordData). take i records ++ x ∷ []) is ∙ sym (take_more records i d within)

  -- one more record
  pub known_further : KnowOrders new (orders policy (take (i + 1) records))
  known_further = subst (KnowOrders new) (sym (orders_next policy (take i records) r) ∙ ap (orders policy) one_more) (noted (orders policy (take i records)) knows).knows

  pub noted_further : before ≡ fold rows_after first (executions policy (take i records)) → after ≡ fold rows_after first (executions policy (take (i + 1) records))
  noted_further so_far =
      (noted (orders policy (take i records)) knows).rows
      ∙ ap (λ (rows : List ExecutedRow). fold rows_after rows (sides_in (orders policy (take i records)) r.verdict)) so_far
      ∙ sym (fold-append rows_after first (executions policy (take i records)) (sides_in (orders policy (take i records)) r.verdict))
      ∙ ap (fold rows_after first) (sym (executions_next policy (take i records) r) ∙ ap (executions policy) one_more)

-- ---- the sums of each row

-- one more execution, counted where it is chosen
pub shares_next : (made : List Execution) (e : Execution) (chosen : AccountName → OrderTerms → Bool)
    → done_of_chosen (made ++ e ∷ []) chosen ≡ done_of_chosen made chosen + cond (chosen e.order.account e.order.terms) e.fill.shares 0
unfolding done_of_chosen
shares_next made e chosen =
    ap (sum_by (λ (x : Execution). x.fill.shares)) (filter-append p made (e ∷ []))
    ∙ sum_by-append (λ (x : Execution). x.fill.shares) (filter p made) (filter p (e ∷ []))
    ∙ ap (λ n. sum_by (λ (x : Execution). x.fill.shares) (filter p made) + n) (by (chosen e.order.account e.order.terms))
  where
    p : Execution → Bool
    p x = chosen x.order.account x.order.terms

    by : (b : Bool) → sum_by (λ (x : Execution). x.fill.shares) (cond b (e ∷ []) []) ≡ cond b e.fill.shares 0
    by true = omega arith
    by false = refl

pub value_next : (made : List Execution) (e : Execution) (chosen : AccountName → OrderTerms → Bool)
    → value_of_chosen (made ++ e ∷ []) chosen ≡ value_of_chosen made chosen + cond (chosen e.order.account e.order.terms) (value e.fill.shares e.fill.price) 0
value_next made e chosen =
    ap (sum_by worth) (filter-append p made (e ∷ []))
    ∙ sum_by-append worth (filter p made) (filter p (e ∷ []))
    ∙ ap (λ n. sum_by worth (filter p made) + n) (by (chosen e.order.account e.order.terms))
  where
    p : Execution → Bool
    p x = chosen x.order.account x.order.terms

    worth : Execution → ℕ
    worth x = value x.fill.shares x.fill.price

    by : (b : Bool) → sum_by worth (cond b (e ∷ []) []) ≡ cond b (worth e) 0
    by true = omega arith
    by false = refl

abbrev pub the_sums : ℕ → ℕ → ExecutedTotals
the_sums shares worth = record { shares = shares; value = worth }

abbrev the_row : AccountName → ExecutedTotals → ExecutedTotals → ExecutedRow
the_row account bought sold = record { account = account; bought = bought; sold = sold }

module _ (account : AccountName) (before : List Execution) (e : Execution) where
  -- the sums with those of one more execution
  row_next : row_filled (owner_of e.order) e.fill (executed_of_account before account) ≡ executed_of_account (before ++ e ∷ []) account
  row_next =
      by (same_account account e.order.account) (is_buy e.order.terms.side)
      ∙ sym (λ i. the_row account (the_sums (capped_at_128_bits (shares_next before e (is_account_side account true) i)) (capped_at_128_bits (value_next before e (is_account_side account true) i)))
      (the_sums (capped_at_128_bits (shares_next before e (is_account_side account false) i)) (capped_at_128_bits (value_next before e (is_account_side account false) i))))
    where
      shares : Bool → ℕ
      shares buys = done_of_chosen before (is_account_side account buys)

      worth : Bool → ℕ
      worth buys = value_of_chosen before (is_account_side account buys)

      price : ℕ
      price = value e.fill.shares e.fill.price

      none : (n : ℕ) → capped_at_128_bits n ≡ capped_at_128_bits (n + 0)
      none n = ap capped_at_128_bits (omega arith)

      same : (buys : Bool) → the_sums (capped_at_128_bits (shares buys)) (capped_at_128_bits (worth buys)) ≡ the_sums (capped_at_128_bits (shares buys + 0)) (capped_at_128_bits (worth buys + 0))
      same buys = λ i. the_sums (none (shares buys) i) (none (worth buys) i)

      more : (buys : Bool) → the_sums (capped_at_128_bits (capped_at_128_bits (shares buys) + e.fill.shares)) (capped_at_128_bits (capped_at_128_bits (worth buys) + price)) ≡ the_sums (capped_at_128_bits (shares buys + e.fill.shares)) (capped_at_128_bits (worth buys + price))
      more buys = λ i. the_sums (sum_capped (shares buys) e.fill.shares i) (sum_capped (worth buys) price i)

      by : (his buys : Bool)
          → cond his (side_filled buys e.fill (executed_of_account before account)) (executed_of_account before account)
          ≡ the_row account (the_sums (capped_at_128_bits (shares true + cond (his && buys) e.fill.shares 0)) (capped_at_128_bits (worth true + cond (his && buys) price 0)))
          (the_sums (capped_at_128_bits (shares false + cond (his && not buys) e.fill.shares 0)) (capped_at_128_bits (worth false + cond (his && not buys) price 0)))
      by true true = λ i. the_row account (more true i) (same false i)
      by true false = λ i. the_row account (same true i) (more false i)
      by false true = λ i. the_row account (same true i) (same false i)
      by false false = λ i. the_row account (same true i) (same false i)

executed_from : (account : AccountName) (before after : List Execution)
    → fold (λ (row : ExecutedRow) (e : Execution). row_filled (owner_of e.order) e.fill row) (executed_of_account before account) after ≡ executed_of_account (before ++ after) account
executed_from account before [] = ap (λ (made : List Execution). executed_of_account made account) (sym (append-nil before))
executed_from account before (e ∷ after) =
    ap (λ (row : ExecutedRow). fold (λ (row : ExecutedRow) (e : Execution). row_filled (owner_of e.order) e.fill row) row after) (row_next account before e)
    ∙ executed_from account (before ++ e ∷ []) after
    ∙ ap (λ (made : List Execution). executed_of_account made account) (append_assoc before (e ∷ []) after)

none_executed : (account : AccountName) → executed_of_account [] account ≡ record { account = account; bought = record { shares = 0; value = 0 }; sold = record { shares = 0; value = 0 } }
unfolding done_of_chosen
none_executed account = refl

all_rows : (policy : PolicyData) (records : List RecordData) → fold rows_after (map no_executions policy.accounts) (executions policy records) ≡ map (executed_row policy records) policy.accounts
all_rows policy records =
    each_folded (λ (e : Execution). row_filled (owner_of e.order) e.fill) (executions policy records) (map no_executions policy.accounts)
    ∙ map-map (λ (row : ExecutedRow). fold (λ (row : ExecutedRow) (e : Execution). row_filled (owner_of e.order) e.fill row) row (executions policy records)) no_executions policy.accounts
    ∙ map_same (λ (a : Account). fold (λ (row : ExecutedRow) (e : Execution). row_filled (owner_of e.order) e.fill row) (no_executions a) (executions policy records)) (executed_row policy records) each policy.accounts
  where
    each : (a : Account) → fold (λ (row : ExecutedRow) (e : Execution). row_filled (owner_of e.order) e.fill row) (no_executions a) (executions policy records) ≡ executed_row policy records a
    each a =
        ap (λ (row : ExecutedRow). fold (λ (row : ExecutedRow) (e : Execution). row_filled (owner_of e.order) e.fill row) row (executions policy records)) (sym (none_executed a.name))
        ∙ executed_from a.name [] (executions policy records)

-- as they are written over those before any fill
pub rows_stand : (policy : PolicyData) (records : List RecordData) (items lent new : List ExecutedRow) (n : ℕ) → items ≡ map no_executions policy.accounts → lent ≡ items
    → new ≡ fold rows_after lent (executions policy records) → n ≡ length items → take n (new ++ drop (length new) items) ≡ map (executed_row policy records) policy.accounts
rows_stand policy records items lent new n first is noted whole =
    let done : new ≡ map (executed_row policy records) policy.accounts = noted ∙ ap (λ (rows : List ExecutedRow). fold rows_after rows (executions policy records)) (is ∙ first) ∙ all_rows policy records in
    let many : length new ≡ length items =
    ap length done ∙ length-map policy.accounts (executed_row policy records) ∙ sym (length-map policy.accounts no_executions) ∙ ap length (sym first) in
    written_back new items n many whole ∙ done
