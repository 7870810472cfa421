-- What one more record adds to the counts of an account.
use Rattle.std.proofs.{Common.{◌≡◌, ℕ, ◌+◌, Bool, true, false, cond, ◌&&◌, List, [], ◌∷◌, ◌++◌, arith, map, refl, ap, sym, ◌∙◌}, lemmas.List.{Elements.filter_map-append, Sums.{fold-append, sum_by-append, sum_by_push}}}
use Rattle.std.specs.{Prelude.{Option, Some, None, count_by, filter_map, fold, option_and_then, option_to_list}, Option.option_map_or}
use Rattle.gx_units.specs.{Names.same_account, declared.names.AccountName.AccountName}
use Rattle.gx_units.proofs.Lists_found.{one_found}
use Rattle.gx_ouch.specs.declared.letters.Liquidity.{Liquidity}
use Rattle.gx_policy.specs.{declared.policy.{Account.Account, PolicyData.PolicyData}, Lists.each_with_earlier, People.{account_of, trades_for}}
use Rattle.gx_history.specs.{declared.«record».{Asked.Asked, Fill.Fill, RecordData.RecordData, Request.Request, Step.Step, Verdict.Verdict}, Book.rested_of, Executions.{Execution, executions, side_of, sides_in}, Orders.{Order, order_numbered, orders}, Requests.{asked_of, is_granted, is_denied}}
use Rattle.gx_laws.proofs.{Orders_next.executions_next, Lists_next.each_after_next}
use Rattle.gx_overview.specs.Accounts.{capped_count, one_more}
use Rattle.gx_activity.specs.{declared.{activity.{ActivityRow.ActivityRow, OrderRequests.OrderRequests}, deeds.Deed.Deed}, Activity.{order_expired, is_asked, is_cancel, is_enter, is_replace, orders_of, orders_said}, Noting.{deed_of, deeds_in, row_done, so_far}}
use Rattle.gx_overview.proofs.LiveOrders_call.{count_capped}

pub no_more : (n : ℕ) → capped_count (n + 0) ≡ capped_count n
no_more n = ap capped_count (omega arith)

pub one_more_is : (b : Bool) (n : ℕ) → capped_count (n + cond b 1 0) ≡ one_more b (capped_count n)
one_more_is true n = sym (count_capped n)
one_more_is false n = no_more n

abbrev pub the_requests : ℕ → ℕ → ℕ → OrderRequests
the_requests enters replaces cancels = record { enters = enters; replaces = replaces; cancels = cancels }

abbrev pub the_row : AccountName → OrderRequests → OrderRequests → ℕ → ℕ → ℕ → ActivityRow
the_row account granted denied fills rested expired = record { account = account; granted = granted; denied = denied; fills = fills; rested = rested; expired = expired }

abbrev stopped : ℕ → ℕ → ℕ → OrderRequests
stopped enters replaces cancels = the_requests (capped_count enters) (capped_count replaces) (capped_count cancels)

none_asked : (enters replaces cancels : ℕ) → stopped (enters + 0) (replaces + 0) (cancels + 0) ≡ stopped enters replaces cancels
none_asked enters replaces cancels = λ i. the_requests (no_more enters i) (no_more replaces i) (no_more cancels i)

-- one after the other, in one row
abbrev pub done_in : ActivityRow → List (AccountName × Deed) → ActivityRow
done_in row done = fold (λ (x : ActivityRow) (d : AccountName × Deed). row_done d.0 d.1 x) row done

-- of an account, where so many of each were counted and these orders are known
module _ (policy : PolicyData) (known : List Order) (account : AccountName) (ge gr gc de dr dc fills rested expired : ℕ) where
  abbrev base : ActivityRow
  base = the_row account (stopped ge gr gc) (stopped de dr dc) (capped_count fills) (capped_count rested) (capped_count expired)

  abbrev asks : (Request → Bool) → Step → Bool
  asks kind step = option_map_or (λ (a : Asked). trades_for policy account a.user && kind a.request) (asked_of step) false

  abbrev is_his : Execution → Bool
  is_his e = same_account account e.order.account

  abbrev named : Option ℕ → List Order
  named number = option_to_list (option_and_then (order_numbered known) number)

  -- with the record of this step and verdict
  abbrev grown : Step → Verdict → ActivityRow
  grown step v = the_row account
      (stopped (ge + cond (is_granted v && asks is_enter step) 1 0) (gr + cond (is_granted v && asks is_replace step) 1 0) (gc + cond (is_granted v && asks is_cancel step) 1 0))
      (stopped (de + cond (is_denied v && asks is_enter step) 1 0) (dr + cond (is_denied v && asks is_replace step) 1 0) (dc + cond (is_denied v && asks is_cancel step) 1 0))
      (capped_count (fills + count_by is_his (sides_in known v)))
      (capped_count (rested + orders_of account (named (rested_of v))))
      (capped_count (expired + orders_of account (named (order_expired v))))

  still : the_row account (stopped (ge + 0) (gr + 0) (gc + 0)) (stopped (de + 0) (dr + 0) (dc + 0)) (capped_count (fills + 0)) (capped_count (rested + 0)) (capped_count (expired + 0)) ≡ base
  still = λ i. the_row account (none_asked ge gr gc i) (none_asked de dr dc i) (no_more fills i) (no_more rested i) (no_more expired i)

  granted_grows : (user : Asked) (found : Option AccountName) → account_of policy user.user ≡ found
      → grown (Step.Asked user) Verdict.Granted ≡ done_in base (map (λ (name : AccountName). (name, Deed.Granted user.request)) (option_to_list found))
  granted_grows a found is =
      (λ i. the_row account
      (stopped (ge + cond (option_map_or (same_account account) (is i) false && is_enter a.request) 1 0) (gr + cond (option_map_or (same_account account) (is i) false && is_replace a.request) 1 0)
      (gc + cond (option_map_or (same_account account) (is i) false && is_cancel a.request) 1 0))
      (none_asked de dr dc i) (no_more fills i) (no_more rested i) (no_more expired i))
      ∙ by found
    where
      q : Request
      q = a.request

      by_same : (name : AccountName) (same : Bool)
          → the_row account (stopped (ge + cond (same && is_enter q) 1 0) (gr + cond (same && is_replace q) 1 0) (gc + cond (same && is_cancel q) 1 0)) (stopped de dr dc) (capped_count fills) (capped_count rested) (capped_count expired)
          ≡ cond same (the_row account (the_requests (one_more (is_enter q) (capped_count ge)) (one_more (is_replace q) (capped_count gr)) (one_more (is_cancel q) (capped_count gc))) (stopped de dr dc) (capped_count fills) (capped_count rested) (capped_count expired)) base
      by_same name true = λ i. the_row account (the_requests (one_more_is (is_enter q) ge i) (one_more_is (is_replace q) gr i) (one_more_is (is_cancel q) gc i)) (stopped de dr dc) (capped_count fills) (capped_count rested) (capped_count expired)
      by_same name false = λ i. the_row account (none_asked ge gr gc i) (stopped de dr dc) (capped_count fills) (capped_count rested) (capped_count expired)

      by : (x : Option AccountName)
          → the_row account
          (stopped (ge + cond (option_map_or (same_account account) x false && is_enter q) 1 0) (gr + cond (option_map_or (same_account account) x false && is_replace q) 1 0)
          (gc + cond (option_map_or (same_account account) x false && is_cancel q) 1 0))
          (stopped de dr dc) (capped_count fills) (capped_count rested) (capped_count expired)
          ≡ done_in base (map (λ (name : AccountName). (name, Deed.Granted q)) (option_to_list x))
      by None = λ i. the_row account (none_asked ge gr gc i) (stopped de dr dc) (capped_count fills) (capped_count rested) (capped_count expired)
      by (Some name) = by_same name (same_account account name)

  denied_grows : (user : Asked) (rule : _) (found : Option AccountName) → account_of policy user.user ≡ found
      → grown (Step.Asked user) (Verdict.Denied rule) ≡ done_in base (map (λ (name : AccountName). (name, Deed.Denied user.request)) (option_to_list found))
  denied_grows a rule found is =
      (λ i. the_row account (none_asked ge gr gc i)
      (stopped (de + cond (option_map_or (same_account account) (is i) false && is_enter a.request) 1 0) (dr + cond (option_map_or (same_account account) (is i) false && is_replace a.request) 1 0)
      (dc + cond (option_map_or (same_account account) (is i) false && is_cancel a.request) 1 0))
      (no_more fills i) (no_more rested i) (no_more expired i))
      ∙ by found
    where
      q : Request
      q = a.request

      by_same : (name : AccountName) (same : Bool)
          → the_row account (stopped ge gr gc) (stopped (de + cond (same && is_enter q) 1 0) (dr + cond (same && is_replace q) 1 0) (dc + cond (same && is_cancel q) 1 0)) (capped_count fills) (capped_count rested) (capped_count expired)
          ≡ cond same (the_row account (stopped ge gr gc) (the_requests (one_more (is_enter q) (capped_count de)) (one_more (is_replace q) (capped_count dr)) (one_more (is_cancel q) (capped_count dc))) (capped_count fills) (capped_count rested) (capped_count expired)) base
      by_same name true = λ i. the_row account (stopped ge gr gc) (the_requests (one_more_is (is_enter q) de i) (one_more_is (is_replace q) dr i) (one_more_is (is_cancel q) dc i)) (capped_count fills) (capped_count rested) (capped_count expired)
      by_same name false = λ i. the_row account (stopped ge gr gc) (none_asked de dr dc i) (capped_count fills) (capped_count rested) (capped_count expired)

      by : (x : Option AccountName)
          → the_row account (stopped ge gr gc)
          (stopped (de + cond (option_map_or (same_account account) x false && is_enter q) 1 0) (dr + cond (option_map_or (same_account account) x false && is_replace q) 1 0)
          (dc + cond (option_map_or (same_account account) x false && is_cancel q) 1 0))
          (capped_count fills) (capped_count rested) (capped_count expired)
          ≡ done_in base (map (λ (name : AccountName). (name, Deed.Denied q)) (option_to_list x))
      by None = λ i. the_row account (stopped ge gr gc) (none_asked de dr dc i) (capped_count fills) (capped_count rested) (capped_count expired)
      by (Some name) = by_same name (same_account account name)

  -- with another count of fills, of orders at rest, or of orders that ended
  abbrev with_fills : ℕ → ActivityRow
  with_fills n = the_row account (stopped ge gr gc) (stopped de dr dc) (capped_count n) (capped_count rested) (capped_count expired)

  abbrev with_rested : ℕ → ActivityRow
  with_rested n = the_row account (stopped ge gr gc) (stopped de dr dc) (capped_count fills) (capped_count n) (capped_count expired)

  abbrev with_expired : ℕ → ActivityRow
  with_expired n = the_row account (stopped ge gr gc) (stopped de dr dc) (capped_count fills) (capped_count rested) (capped_count n)

  -- one side of a fill
  side_grows : (f : Fill) (l : Liquidity) (n : ℕ) (found : Option Order)
      → with_fills (n + count_by is_his (map (λ (o : Order). record { fill = f; liquidity = l; order = o }) (option_to_list found)))
      ≡ done_in (with_fills n) (map (λ (o : Order). (o.account, Deed.Filled)) (option_to_list found))
  side_grows f l n None = λ i. with_fills (add_none i)
    where
      add_none : n + 0 ≡ n
      add_none = omega arith
  side_grows f l n (Some o) = by (same_account account o.account)
    where
      row : ℕ → ActivityRow
      row m = the_row account (stopped ge gr gc) (stopped de dr dc) m (capped_count rested) (capped_count expired)

      by : (same : Bool) → row (capped_count (n + (0 + cond same 1 0))) ≡ cond same (row (capped_count (capped_count n + 1))) (row (capped_count n))
      by true = ap row (sym (count_capped n))
      by false = ap row (no_more n)

  filled_grows : (step : Step) (f : Fill) → grown step (Verdict.Filled f) ≡ done_in base (deeds_in policy known step (Verdict.Filled f))
  filled_grows step f =
      (λ i. the_row account (none_asked ge gr gc i) (none_asked de dr dc i) (capped_count (fills + both i)) (no_more rested i) (no_more expired i))
      ∙ ap with_fills (omega arith)
      ∙ side_grows f Liquidity.Added (fills + takers) (order_numbered known f.maker)
      ∙ ap (λ (row : ActivityRow). done_in row (deed_of known Deed.Filled f.maker)) (side_grows f Liquidity.Removed fills (order_numbered known f.taker))
      ∙ sym (fold-append (λ (x : ActivityRow) (d : AccountName × Deed). row_done d.0 d.1 x) base (deed_of known Deed.Filled f.taker) (deed_of known Deed.Filled f.maker))
    where
      takers : ℕ
      takers = count_by is_his (side_of known f Liquidity.Removed f.taker)

      makers : ℕ
      makers = count_by is_his (side_of known f Liquidity.Added f.maker)

      both : count_by is_his (sides_in known (Verdict.Filled f)) ≡ takers + makers
      both = sum_by-append (λ (e : Execution). cond (is_his e) 1 0) (side_of known f Liquidity.Removed f.taker) (side_of known f Liquidity.Added f.maker)

  rested_grows : (n : ℕ) (found : Option Order) → with_rested (n + orders_of account (option_to_list found)) ≡ done_in (with_rested n) (map (λ (o : Order). (o.account, Deed.Rested)) (option_to_list found))
  rested_grows n None = ap with_rested (omega arith)
  rested_grows n (Some o) = by (same_account account o.account)
    where
      row : ℕ → ActivityRow
      row m = the_row account (stopped ge gr gc) (stopped de dr dc) (capped_count fills) m (capped_count expired)

      by : (same : Bool) → row (capped_count (n + (0 + cond same 1 0))) ≡ cond same (row (capped_count (capped_count n + 1))) (row (capped_count n))
      by true = ap row (sym (count_capped n))
      by false = ap row (no_more n)

  expired_grows : (n : ℕ) (found : Option Order) → with_expired (n + orders_of account (option_to_list found)) ≡ done_in (with_expired n) (map (λ (o : Order). (o.account, Deed.Expired)) (option_to_list found))
  expired_grows n None = ap with_expired (omega arith)
  expired_grows n (Some o) = by (same_account account o.account)
    where
      row : ℕ → ActivityRow
      row m = the_row account (stopped ge gr gc) (stopped de dr dc) (capped_count fills) (capped_count rested) m

      by : (same : Bool) → row (capped_count (n + (0 + cond same 1 0))) ≡ cond same (row (capped_count (capped_count n + 1))) (row (capped_count n))
      by true = ap row (sym (count_capped n))
      by false = ap row (no_more n)

  -- whatever the record tells
  all_grows : (step : Step) (v : Verdict) → grown step v ≡ done_in base (deeds_in policy known step v)
  all_grows (Step.Asked a) Verdict.Granted = granted_grows a (account_of policy a.user) refl
  all_grows (Step.Matching handed) Verdict.Granted = still
  all_grows (Step.Asked a) (Verdict.Denied rule) = denied_grows a rule (account_of policy a.user) refl
  all_grows (Step.Matching handed) (Verdict.Denied rule) = still
  all_grows step (Verdict.Filled f) = filled_grows step f
  all_grows step (Verdict.Rested number) =
      (λ i. the_row account (none_asked ge gr gc i) (none_asked de dr dc i) (no_more fills i) (capped_count (rested + orders_of account (named (Some number)))) (no_more expired i))
      ∙ rested_grows rested (order_numbered known number)
  all_grows step (Verdict.Expired number) =
      (λ i. the_row account (none_asked ge gr gc i) (none_asked de dr dc i) (no_more fills i) (no_more rested i) (capped_count (expired + orders_of account (named (Some number)))))
      ∙ expired_grows expired (order_numbered known number)

-- ---- the definitions, of one more record

module _ (policy : PolicyData) (records : List RecordData) (r : RecordData) (account : AccountName) where
  asked_next : (became : Verdict → Bool) (kind : Request → Bool)
      → count_by (is_asked policy account became kind) (records ++ r ∷ []) ≡ count_by (is_asked policy account became kind) records + cond (is_asked policy account became kind r) 1 0
  asked_next became kind = sum_by_push (λ (x : RecordData). cond (is_asked policy account became kind x) 1 0) records r

  fills_next : count_by (λ (e : Execution). same_account account e.order.account) (executions policy (records ++ r ∷ []))
      ≡ count_by (λ (e : Execution). same_account account e.order.account) (executions policy records) + count_by (λ (e : Execution). same_account account e.order.account) (sides_in (orders policy records) r.verdict)
  fills_next =
      ap (count_by (λ (e : Execution). same_account account e.order.account)) (executions_next policy records r)
      ∙ sum_by-append (λ (e : Execution). cond (same_account account e.order.account) 1 0) (executions policy records) (sides_in (orders policy records) r.verdict)

  said_next : (says : Verdict → Option ℕ)
      → orders_of account (orders_said says policy (records ++ r ∷ [])) ≡ orders_of account (orders_said says policy records) + orders_of account (option_to_list (option_and_then (order_numbered (orders policy records)) (says r.verdict)))
  said_next says =
      ap (orders_of account)
      (ap (filter_map said) (each_after_next [] records r)
      ∙ filter_map-append said (each_with_earlier records) ((records, r) ∷ [])
      ∙ ap (λ (os : List Order). orders_said says policy records ++ os) (one_found (said (records, r))))
      ∙ sum_by-append (λ (o : Order). cond (same_account account o.account) 1 0) (orders_said says policy records) (option_to_list (said (records, r)))
    where
      said : (List RecordData × RecordData) → Option Order
      said entry = option_and_then (order_numbered (orders policy entry.0)) (says entry.1.verdict)

-- the row of an account, once one more record is noted
pub row_next : (policy : PolicyData) (records : List RecordData) (r : RecordData) (a : Account) → so_far policy (records ++ r ∷ []) a ≡ done_in (so_far policy records a) (deeds_in policy (orders policy records) r.step r.verdict)
row_next policy records r a =
    (λ i. the_row a.name
    (stopped (asks is_granted is_enter i) (asks is_granted is_replace i) (asks is_granted is_cancel i))
    (stopped (asks is_denied is_enter i) (asks is_denied is_replace i) (asks is_denied is_cancel i))
    (capped_count (fills_next policy records r a.name i)) (capped_count (said_next policy records r a.name rested_of i)) (capped_count (said_next policy records r a.name order_expired i)))
    ∙ all_grows policy (orders policy records) a.name (so_many is_granted is_enter) (so_many is_granted is_replace) (so_many is_granted is_cancel) (so_many is_denied is_enter) (so_many is_denied is_replace) (so_many is_denied is_cancel)
    (count_by (λ (e : Execution). same_account a.name e.order.account) (executions policy records)) (orders_of a.name (orders_said rested_of policy records)) (orders_of a.name (orders_said order_expired policy records)) r.step r.verdict
  where
    so_many : (Verdict → Bool) → (Request → Bool) → ℕ
    so_many became kind = count_by (is_asked policy a.name became kind) records

    asks : (became : Verdict → Bool) (kind : Request → Bool) → count_by (is_asked policy a.name became kind) (records ++ r ∷ []) ≡ so_many became kind + cond (is_asked policy a.name became kind r) 1 0
    asks became kind = asked_next policy records r a.name became kind
