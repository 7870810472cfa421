-- What a pass over the live orders counts.
use Rattle.std.proofs.{Common.{◌≡◌, ℕ, ◌+◌, arith, Bool, true, false, not, cond, ◌&&◌, List, [], ◌∷◌, ◌++◌, map, length, refl, ap, sym, ◌∙◌, append_assoc, sum_by}, lemmas.List.{append-nil, length-append, Elements.filter-append, Sums.sum_by-append}}
use Rattle.std.specs.{Prelude.{Option, Some, fold, unwrap_or}, Map.lookup, List.filter}
use Rattle.gx_units.specs.{Names.same_account, declared.names.AccountName.AccountName, Money.capped_at_128_bits}
use Rattle.gx_units.proofs.{Names_equal.account_is, Lists_found.map_same}
use Rattle.gx_ouch.specs.declared.outbound.OrderTerms.{OrderTerms}
use Rattle.gx_policy.specs.declared.policy.{Account.Account, PolicyData.PolicyData}
use Rattle.gx_history.specs.{declared.{live_order.LiveOrder.LiveOrder, «record».RecordData.RecordData}, Book.is_buy, Figures.open_of_chosen, Live.live, LiveOrders.shares_open}
use Rattle.gx_overview.specs.{declared.accounts.LiveSums.LiveSums, Accounts.{account_row, capped_count, entries_with, is_account_side, live_sums, no_orders, row_of, sums_in, with_order}}
use Rattle.gx_overview.proofs.Accounts_next.{inserted}

-- one more that passes, or does not
filtered_next : {X : Type 0} (p : X → Bool) (xs : List X) (x : X) → length (filter p (xs ++ x ∷ [])) ≡ length (filter p xs) + cond (p x) 1 0
filtered_next {X} p xs x = ap length (filter-append p xs (x ∷ [])) ∙ length-append (filter p xs) (filter p (x ∷ [])) ∙ ap (λ n. length (filter p xs) + n) (by (p x))
  where
    by : (b : Bool) → length (cond b (x ∷ []) []) ≡ cond b 1 0
    by true = refl
    by false = refl

-- the open shares with those of one more
open_next : (os : List LiveOrder) (o : LiveOrder) (chosen : AccountName → OrderTerms → Bool)
    → open_of_chosen (os ++ o ∷ []) chosen ≡ open_of_chosen os chosen + cond (chosen o.account o.terms) (shares_open o) 0
unfolding open_of_chosen
open_next os o chosen =
    ap (sum_by shares_open) (filter-append p os (o ∷ []))
    ∙ sum_by-append shares_open (filter p os) (filter p (o ∷ []))
    ∙ ap (λ n. sum_by shares_open (filter p os) + n) (by (chosen o.account o.terms))
  where
    p : LiveOrder → Bool
    p order = chosen order.account order.terms

    by : (b : Bool) → sum_by shares_open (cond b (o ∷ []) []) ≡ cond b (shares_open o) 0
    by true = omega arith
    by false = refl

pub count_capped : (n : ℕ) → capped_count (capped_count n + 1) ≡ capped_count (n + 1)
count_capped n = omega arith

pub sum_capped : (n m : ℕ) → capped_at_128_bits (capped_at_128_bits n + m) ≡ capped_at_128_bits (n + m)
sum_capped n m = omega arith

abbrev the_sums : ℕ → ℕ → ℕ → LiveSums
the_sums orders buys sells = record { orders = orders; buys = buys; sells = sells }

module _ (account : AccountName) (before : List LiveOrder) (o : LiveOrder) where
  -- the sums with those of one more order
  sums_next : live_sums (before ++ o ∷ []) account ≡ cond (same_account account o.account) (with_order o (live_sums before account)) (live_sums before account)
  sums_next =
      (λ i. record {
        orders = capped_count (filtered_next (λ (order : LiveOrder). same_account account order.account) before o i);
        buys = capped_at_128_bits (open_next before o (is_account_side account true) i);
        sells = capped_at_128_bits (open_next before o (is_account_side account false) i);
      })
      ∙ by (same_account account o.account) (is_buy o.terms.side)
    where
      n : ℕ
      n = length (filter (λ (order : LiveOrder). same_account account order.account) before)

      bought : ℕ
      bought = open_of_chosen before (is_account_side account true)

      sold : ℕ
      sold = open_of_chosen before (is_account_side account false)

      none : (m : ℕ) → capped_at_128_bits (m + 0) ≡ capped_at_128_bits m
      none m = ap capped_at_128_bits (omega arith)

      no_order : (m : ℕ) → capped_count (m + 0) ≡ capped_count m
      no_order m = ap capped_count (omega arith)

      by : (his buys : Bool)
          → the_sums (capped_count (n + cond his 1 0)) (capped_at_128_bits (bought + cond (his && buys) (shares_open o) 0)) (capped_at_128_bits (sold + cond (his && not buys) (shares_open o) 0))
          ≡ cond his
          (the_sums (capped_count (capped_count n + 1)) (cond buys (capped_at_128_bits (capped_at_128_bits bought + shares_open o)) (capped_at_128_bits bought)) (cond buys (capped_at_128_bits sold) (capped_at_128_bits (capped_at_128_bits sold + shares_open o))))
          (the_sums (capped_count n) (capped_at_128_bits bought) (capped_at_128_bits sold))
      by true true = λ i. the_sums (sym (count_capped n) i) (sym (sum_capped bought (shares_open o)) i) (none sold i)
      by true false = λ i. the_sums (sym (count_capped n) i) (none bought i) (sym (sum_capped sold (shares_open o)) i)
      by false true = λ i. the_sums (no_order n i) (none bought i) (none sold i)
      by false false = λ i. the_sums (no_order n i) (none bought i) (none sold i)

-- one order more
sums_then : (name : AccountName) (entries : List (AccountName × LiveSums)) (o : LiveOrder)
    → sums_in (entries_with entries o) name ≡ cond (same_account name o.account) (with_order o (sums_in entries name)) (sums_in entries name)
sums_then name entries o =
    ap (λ (found : Option LiveSums). unwrap_or found no_orders) (inserted name o.account (with_order o (sums_in entries o.account)) entries)
    ∙ by (same_account name o.account) refl
  where
    by : (b : Bool) → same_account name o.account ≡ b
        → unwrap_or (cond b (Some (with_order o (sums_in entries o.account))) (lookup (same_account name) entries)) no_orders
        ≡ cond b (with_order o (sums_in entries name)) (sums_in entries name)
    by true at = ap (λ (a : AccountName). with_order o (sums_in entries a)) (sym (account_is name o.account at))
    by false at = refl

-- and all that follow
counted_from : (name : AccountName) (entries : List (AccountName × LiveSums)) (before after : List LiveOrder) → sums_in entries name ≡ live_sums before name
    → sums_in (fold entries_with entries after) name ≡ live_sums (before ++ after) name
counted_from name entries before [] is = is ∙ ap (λ (os : List LiveOrder). live_sums os name) (sym (append-nil before))
counted_from name entries before (o ∷ after) is =
    counted_from name (entries_with entries o) (before ++ o ∷ []) after
    (sums_then name entries o
    ∙ ap (λ (sums : LiveSums). cond (same_account name o.account) (with_order o sums) sums) is
    ∙ sym (sums_next name before o))
    ∙ ap (λ (os : List LiveOrder). live_sums os name) (append_assoc before (o ∷ []) after)

none_live : (account : AccountName) → no_orders ≡ live_sums [] account
unfolding open_of_chosen
none_live account = refl

-- all rows
pub rows_stand : (policy : PolicyData) (records : List RecordData)
    → map (row_of policy records (fold entries_with [] (live policy records))) policy.accounts ≡ map (account_row policy records) policy.accounts
rows_stand policy records = map_same (row_of policy records (fold entries_with [] (live policy records))) (account_row policy records) each policy.accounts
  where
    each : (a : Account) → row_of policy records (fold entries_with [] (live policy records)) a ≡ account_row policy records a
    each a = λ i. record (row_of policy records (fold entries_with [] (live policy records)) a) { live = counted_from a.name [] [] (live policy records) (none_live a.name) i }
