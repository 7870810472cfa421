-- No count comes near 64 bits, and the rows stand as they were noted.
use Rattle.std.proofs.{Common.{◌≡◌, ℕ, ◌+◌, ◌<◌, ◌≤◌, ◌*◌, ◌^◌, arith, Bool, List, [], ◌∷◌, ◌++◌, map, length, refl, ◌∙◌, length-append}, lemmas.List.Sums.count_by-le-length}
use Rattle.std.specs.Prelude.{Option, Some, None, count_by, flat_map, option_and_then, option_to_list}
use Rattle.gx_units.specs.{Names.same_account, declared.names.AccountName.AccountName}
use Rattle.gx_units.proofs.Lists_found.{few_found, map_same}
use Rattle.gx_ouch.specs.declared.letters.Liquidity.{Liquidity}
use Rattle.gx_policy.specs.{declared.policy.{Account.Account, PolicyData.PolicyData}, Lists.{each_after, each_with_earlier}}
use Rattle.gx_history.specs.{declared.«record».{Fill.Fill, RecordData.RecordData, Request.Request, Verdict.Verdict}, Book.rested_of, Executions.{Execution, executions, executions_of, side_of, sides_in}, Orders.{Order, order_numbered, orders}, Requests.{is_granted, is_denied}}
use Rattle.gx_overview.specs.Accounts.{capped_count}
use Rattle.gx_activity.specs.{declared.activity.ActivityRow.ActivityRow, Activity.{activity_row, order_expired, is_asked, is_cancel, is_enter, is_replace, orders_of, orders_said, requests_of}, Noting.{capped_requests, row_in, so_far}}
use Rattle.gx_activity.proofs.Counts_next.{the_requests, the_row}

pub fits : (n : ℕ) → n < 2 ^ 64 → capped_count n ≡ n
fits n few = omega arith

entries_are : (earlier records : List RecordData) → length (each_after earlier records) ≡ length records
entries_are earlier [] = refl
entries_are earlier (r ∷ records) = let rest : length (each_after (earlier ++ r ∷ []) records) ≡ length records = entries_are (earlier ++ r ∷ []) records in omega arith

-- a record has no more than two sides of fills
two_are_few : {X Y : Type 0} (f : X → List Y) → ((x : X) → length (f x) ≤ 2) → (xs : List X) → length (flat_map f xs) ≤ 2 * length xs
two_are_few f few [] = omega arith
two_are_few f few (x ∷ xs) =
    let rest : length (flat_map f xs) ≤ 2 * length xs = two_are_few f few xs in
    let one : length (f x) ≤ 2 = few x in
    let parts : length (f x ++ flat_map f xs) ≡ length (f x) + length (flat_map f xs) = length-append (f x) (flat_map f xs) in
    omega arith

one_side : (known : List Order) (f : Fill) (l : Liquidity) (number : ℕ) → length (side_of known f l number) ≤ 1
one_side known f l number = by (order_numbered known number)
  where
    by : (found : Option Order) → length (map {B = Execution} (λ (o : Order). record { fill = f; liquidity = l; order = o }) (option_to_list found)) ≤ 1
    by None = omega arith
    by (Some o) = omega arith

two_sides : (known : List Order) (v : Verdict) → length (sides_in known v) ≤ 2
two_sides known (Verdict.Filled f) =
    let takers : length (side_of known f Liquidity.Removed f.taker) ≤ 1 = one_side known f Liquidity.Removed f.taker in
    let makers : length (side_of known f Liquidity.Added f.maker) ≤ 1 = one_side known f Liquidity.Added f.maker in
    let parts : length (sides_in known (Verdict.Filled f)) ≡ length (side_of known f Liquidity.Removed f.taker) + length (side_of known f Liquidity.Added f.maker) =
    length-append (side_of known f Liquidity.Removed f.taker) (side_of known f Liquidity.Added f.maker) in
    omega arith
two_sides known Verdict.Granted = omega arith
two_sides known (Verdict.Denied rule) = omega arith
two_sides known (Verdict.Rested number) = omega arith
two_sides known (Verdict.Expired number) = omega arith

sides_are_few : (policy : PolicyData) (records : List RecordData) → length (executions policy records) ≤ 2 * length records
unfolding executions
sides_are_few policy records =
    let few : length (flat_map (executions_of policy) (each_with_earlier records)) ≤ 2 * length (each_with_earlier records) =
    two_are_few (executions_of policy) (λ entry. two_sides (orders policy entry.0) entry.1.verdict) (each_with_earlier records) in
    let many : length (each_with_earlier records) ≡ length records = entries_are [] records in
    omega arith

module _ (policy : PolicyData) (records : List RecordData) (n : ℕ) (is : n ≡ length records) (few : n < 2 ^ 63) where
  asked_fit : (account : AccountName) (became : Verdict → Bool) → capped_requests (requests_of policy records account became) ≡ requests_of policy records account became
  asked_fit account became = λ i. the_requests (one is_enter i) (one is_replace i) (one is_cancel i)
    where
      one : (kind : Request → Bool) → capped_count (count_by (is_asked policy account became kind) records) ≡ count_by (is_asked policy account became kind) records
      one kind = fits (count_by (is_asked policy account became kind) records) (omega (arith, count_by-le-length (is_asked policy account became kind) records))

  fills_fit : (account : AccountName)
      → capped_count (count_by (λ (e : Execution). same_account account e.order.account) (executions policy records)) ≡ count_by (λ (e : Execution). same_account account e.order.account) (executions policy records)
  fills_fit account =
      fits (count_by (λ (e : Execution). same_account account e.order.account) (executions policy records))
      (omega (arith, count_by-le-length (λ (e : Execution). same_account account e.order.account) (executions policy records), sides_are_few policy records))

  said_fit : (account : AccountName) (says : Verdict → Option ℕ) → capped_count (orders_of account (orders_said says policy records)) ≡ orders_of account (orders_said says policy records)
  said_fit account says =
      let said : (List RecordData × RecordData) → Option Order = λ (entry : List RecordData × RecordData). option_and_then (order_numbered (orders policy entry.0)) (says entry.1.verdict) in
      let found : length (orders_said says policy records) ≤ length (each_with_earlier records) = few_found said (each_with_earlier records) in
      let many : length (each_with_earlier records) ≡ length records = entries_are [] records in
      let his : orders_of account (orders_said says policy records) ≤ length (orders_said says policy records) = count_by-le-length (λ (o : Order). same_account account o.account) (orders_said says policy records) in
      fits (orders_of account (orders_said says policy records)) (omega arith)

  all_fit : (a : Account) → so_far policy records a ≡ activity_row policy records a
  all_fit a = λ i. the_row a.name (asked_fit a.name is_granted i) (asked_fit a.name is_denied i) (fills_fit a.name i) (said_fit a.name rested_of i) (said_fit a.name order_expired i)

  -- each row is that of its account
  pub rows_stand : (entries : List (AccountName × ActivityRow)) → ((a : Account) → row_in entries a.name ≡ so_far policy records a)
      → map (λ (a : Account). row_in entries a.name) policy.accounts ≡ map (activity_row policy records) policy.accounts
  rows_stand entries noted = map_same (λ (a : Account). row_in entries a.name) (activity_row policy records) (λ a. noted a ∙ all_fit a) policy.accounts
