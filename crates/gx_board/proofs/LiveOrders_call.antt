-- An account's live orders are those of its traders, each of whom is counted by himself.
use Rattle.std.proofs.{Common.{◌≡◌, ℕ, ◌+◌, arith, Bool, true, false, cond, not, List, [], ◌∷◌, length, refl, ap, sym, ◌∙◌, sum_by}, lemmas.{List.Sums.sum_by-cons, Bool.{or_parts, and_parts, not-true}}}
use Rattle.std.specs.{Prelude.{Option, Some, option_and_then, option_map}, Option.option_map_or, List.{AllByRecursion, list_any}}
use Rattle.gx_units.specs.{declared.names.{AccountName.AccountName, UserName.UserName}, Names.{same_account, same_user}}
use Rattle.gx_units.proofs.{Names_equal.{same_user_flip, user_is}, Test_known.nothing_either_way}
use Rattle.gx_policy.specs.{declared.policy.{PolicyData.PolicyData, User.User}, Lists.are_distinct, People.{account_of_role, role_in, user_in}, Soundness.is_sound}
use Rattle.gx_history.specs.{declared.{live_order.LiveOrder.LiveOrder, record.RecordData.RecordData}, Live.live, Verdicts.IsLegal}
use Rattle.gx_laws.proofs.{Names_differ.users_differ, LiveOrders_owned.live_orders_are_of_their_traders}
use Rattle.gx_laws.specs.EffectLaws.{IsOfItsTrader}
use Rattle.gx_slab.specs.Slabs.{of_account}
use Rattle.gx_records.specs.State.{of_user}
use Rattle.gx_board.specs.Accounts.{orders_of_trader, is_trader_of}

-- what the order adds to a user's, who trades for the account
one_of : AccountName → LiveOrder → User → ℕ
one_of account o u = cond (is_trader_of account u) (cond (same_user o.user u.name) 1 0) 0

abbrev same_name : User → User → Bool
same_name a b = same_user a.name b.name

-- whoever has another name adds nothing
other_adds_none : (account : AccountName) (o : LiveOrder) (v : User) → same_user o.user v.name ≡ false → one_of account o v ≡ 0
unfolding one_of
other_adds_none account o v other = ap (λ (b : Bool). cond {A = ℕ} (is_trader_of account v) (cond b 1 0) 0) other ∙ nothing_either_way (is_trader_of account v)

-- whose name none has adds to none
none_adds : (account : AccountName) (o : LiveOrder) (u : User) (users : List User) → same_user u.name o.user ≡ true → list_any (same_name u) users ≡ false → sum_by (one_of account o) users ≡ 0
none_adds account o u [] his none = refl
none_adds account o u (v ∷ users) his none =
    let apart = or_parts (same_name u v) (list_any (same_name u) users) none in
    let other : same_user o.user v.name ≡ false = ap (λ (name : UserName). same_user name v.name) (sym (user_is u.name o.user his)) ∙ apart.0 in
    let first = sum_by-cons (one_of account o) v users in
    omega (arith, first, other_adds_none account o v other, none_adds account o u users his apart.1)

-- an order adds to one trader of its account, and to none of another
adds_to_one : (account : AccountName) (o : LiveOrder) (users : List User) → are_distinct same_name users ≡ true → option_and_then account_of_role (role_in users o.user) ≡ Some o.account
    → sum_by (one_of account o) users ≡ cond (same_account account o.account) 1 0
unfolding one_of
adds_to_one account o [] apart h = cc
adds_to_one account o (u ∷ users) apart h = at (same_user u.name o.user) refl h (λ found. adds_to_one account o users (and_parts (not (list_any (same_name u) users)) (are_distinct same_name users) apart).1 found)
  where
    none_other : list_any (same_name u) users ≡ false
    none_other = not-true (list_any (same_name u) users) (and_parts (not (list_any (same_name u) users)) (are_distinct same_name users) apart).0

    his : (role : Option AccountName) (b : Bool) → role ≡ Some o.account → b ≡ true → cond {A = ℕ} (option_map_or (same_account account) role false) (cond b 1 0) 0 ≡ cond (same_account account o.account) 1 0
    his role true is k = ap (λ (found : Option AccountName). cond {A = ℕ} (option_map_or (same_account account) found false) 1 0) is
    his role false is k = cc

    it_adds : option_and_then account_of_role (Some u.role) ≡ Some o.account → same_user u.name o.user ≡ true → one_of account o u ≡ cond (same_account account o.account) 1 0
    it_adds found k = his (account_of_role u.role) (same_user o.user u.name) found (same_user_flip o.user u.name ∙ k)

    at : (b : Bool) → same_user u.name o.user ≡ b → option_and_then account_of_role (option_map (λ (x : User). x.role) (cond b (Some u) (user_in users o.user))) ≡ Some o.account
        → (option_and_then account_of_role (role_in users o.user) ≡ Some o.account → sum_by (one_of account o) users ≡ cond (same_account account o.account) 1 0)
        → sum_by (one_of account o) (u ∷ users) ≡ cond (same_account account o.account) 1 0
    at true k found deeper =
        let first = sum_by-cons (one_of account o) u users in
        omega (arith, first, it_adds found k, none_adds account o u users k none_other)
    at false k found deeper =
        let first = sum_by-cons (one_of account o) u users in
        omega (arith, first, other_adds_none account o u (same_user_flip o.user u.name ∙ k), deeper found)

-- one more order, and what it adds to each
one_more : (account : AccountName) (o : LiveOrder) (os : List LiveOrder) (users : List User)
    → sum_by (orders_of_trader (o ∷ os) account) users ≡ sum_by (one_of account o) users + sum_by (orders_of_trader os account) users
unfolding one_of
one_more account o os [] = refl
one_more account o os (u ∷ users) =
    let first = sum_by-cons (orders_of_trader (o ∷ os) account) u users in
    let second = sum_by-cons (one_of account o) u users in
    let third = sum_by-cons (orders_of_trader os account) u users in
    let one = by (is_trader_of account u) (same_user o.user u.name) in
    omega (arith, first, second, third, one, one_more account o os users)
  where
    by : (b his : Bool) → cond b (length (cond his (o ∷ of_user u.name os) (of_user u.name os))) 0 ≡ cond b (cond his 1 0) 0 + cond b (length (of_user u.name os)) 0
    by true true = omega arith
    by true false = omega arith
    by false his = refl

none_there : (account : AccountName) (users : List User) → sum_by (orders_of_trader [] account) users ≡ 0
none_there account [] = refl
none_there account (u ∷ users) =
    let first = sum_by-cons (orders_of_trader [] account) u users in
    omega (arith, first, nothing_either_way (is_trader_of account u), none_there account users)

-- the traders' orders are the account's
traders_have_all : (policy : PolicyData) (account : AccountName) → are_distinct same_name policy.users ≡ true → (os : List LiveOrder) → AllByRecursion (IsOfItsTrader policy) os
    → sum_by (orders_of_trader os account) policy.users ≡ length (of_account account os)
traders_have_all policy account apart [] h = none_there account policy.users
traders_have_all policy account apart (o ∷ os) h =
    let first = one_more account o os policy.users in
    omega (arith, first, adds_to_one account o policy.users apart h.0, traders_have_all policy account apart os h.1, by (same_account account o.account))
  where
    by : (b : Bool) → cond b 1 0 + length (of_account account os) ≡ length (cond b (o ∷ of_account account os) (of_account account os))
    by true = omega arith
    by false = omega arith

-- in a legal day of a sound policy
pub traders_orders : {policy : PolicyData} {records : List RecordData} (account : AccountName) → is_sound policy ≡ true → IsLegal policy records
    → sum_by (orders_of_trader (live policy records) account) policy.users ≡ length (of_account account (live policy records))
traders_orders {policy} {records} account sound legal =
    traders_have_all policy account (users_differ policy sound) (live policy records) (live_orders_are_of_their_traders policy records legal)
