-- Each record may move the world as it does.
use Rattle.std.proofs.{Common.{◌≡◌, ℕ, ◌-◌, ◌<◌, Bool, true, false, List, refl, ◌∙◌, ap, sym, arith}, Math.Path.subst, lemmas.Bool.{leb-false, lt-ltb, ltb-true, and_parts}}
use Rattle.std.specs.{Prelude.{Option, Some, ◌==◌, ◌&&◌}, Option.option_map_or, List.AllByRecursion}
use Rattle.gx_units.specs.{declared.names.{AccountName.AccountName, Token.Token, UserName.UserName}, Names.{same_token, same_user}}
use Rattle.gx_units.proofs.{Names_equal.{user_is, token_is}, Lists_hold.{all_weaker, all_and}}
use Rattle.gx_ouch.specs.declared.inbound.{CancelOrder.CancelOrder, ReplaceOrder.ReplaceOrder}
use Rattle.gx_policy.specs.{declared.{policy.PolicyData.PolicyData, rule_name.RuleName.TheVariants.{G3, I1, I3}}, Lists.where_true}
use Rattle.gx_history.specs.{declared.{live_order.LiveOrder.LiveOrder, «record».{Asked.Asked, RecordData.RecordData, Request.Request, Step.Step, Verdict.Verdict}, moves.Move.TheVariants.{Nothing, Adds, Sizes, Replaces}}, Asking.facts, Live.{live, live_under}, LiveOrders.{is_under, replacement_order}, MayMove.{MayMove, MayReplace, MaySize, MovesAreAllowed}, Orders.{Order, ends, is_token_used, orders, size_set, total}, Requests.{is_judged, is_order, is_unreadable, new_token}, Rules.{forbids, takes_nothing}, Turns.new_order, Verdicts.{IsLegal, facts_now, next}, World.{world, move_asked, move_by}}
use Rattle.gx_laws.proofs.{Orders_added.found_passes, Enters_granted.{HasAccount, entered_has_account, entered_has_shares}, Requests_judged.{asked_is_judged, is_no_bar}, Orders_numbered.number_left, Runs_legal.step_left, Commands_allowed.names_are_known, Commands_granted.grants_the_command, KilledAccounts_denied.granted_is_not_killed, Matches_allowed.may_match, NamedOrders_live.{IsEarlier, Names, all_earlier, named_is, names_live}, NamedOrders_only.{FindsOne, IsToldApart, finds_one, is_under_swapped}, Requests_granted.{Grants, ends_by, it_grants}, Replaces_granted.{more_than_done, size_of}}

orders_have_tokens : (q : Request) (token : Token) → new_token q ≡ Some token → is_order q ≡ true
orders_have_tokens (Request.Login m) token h = cc
orders_have_tokens Request.Logout token h = cc
orders_have_tokens (Request.Unreadable m) token h = cc
orders_have_tokens (Request.Enter m) token h = refl
orders_have_tokens (Request.Replace m) token h = refl
orders_have_tokens (Request.Cancel m) token h = cc
orders_have_tokens (Request.Command c) token h = cc

-- what the rule on used tokens says
pub token_fact : (policy : PolicyData) (history : List RecordData) (a : Asked) (token : Token) → new_token a.request ≡ Some token
    → forbids I1 (facts_now policy history a) a.request ≡ is_token_used history a.user token
unfolding facts
token_fact policy history a token under =
    ap (λ (b : Bool). b && option_map_or (is_token_used history a.user) (new_token a.request) false) (orders_have_tokens a.request token under)
    ∙ ap (λ (t : Option Token). option_map_or (is_token_used history a.user) t false) under

-- the token of a granted request is not used before
token_unused : (policy : PolicyData) (history : List RecordData) (a : Asked) (r : RecordData) (token : Token) → next policy history (Step.Asked a) ≡ Some r → r.verdict ≡ Verdict.Granted
    → new_token a.request ≡ Some token → is_token_used history a.user token ≡ false
token_unused policy history a r token left granted under = sym (token_fact policy history a token under) ∙ is_no_bar policy history a r left granted I1

-- an order that is found under a user's token is his
pub his_own : (user : UserName) (token : Token) (os : List LiveOrder) (o : LiveOrder) → live_under os user token ≡ Some o → o.user ≡ user
his_own user token os o found = user_is o.user user (and_parts (same_user o.user user) (same_token o.token token) (found_passes (is_under user token) os o found)).0

-- an order that is found under a user's token is under its own user's own token
is_named : (policy : PolicyData) (history : List RecordData) (user : UserName) (token : Token) (o : LiveOrder) → live_under (live policy history) user token ≡ Some o
    → live_under (live policy history) o.user o.token ≡ Some o
is_named policy history user token o found =
    let is : (same_user o.user user ≡ true) × (same_token o.token token ≡ true) = and_parts (same_user o.user user) (same_token o.token token) (found_passes (is_under user token) (live policy history) o found) in
    ap (λ (u : UserName). live_under (live policy history) u o.token) (user_is o.user user is.0) ∙ ap (λ (t : Token). live_under (live policy history) user t) (token_is o.token token is.1) ∙ found

-- the day's orders, each earlier than the record, and told apart from this one
abbrev IsOther : RecordData → UserName → Token → Order → Order → Type 0
IsOther r user token o x = IsEarlier r x × IsToldApart user token o x

others : {policy : PolicyData} {history : List RecordData} (a : Asked) (r : RecordData) (token : Token) (o : LiveOrder) → IsLegal policy history → next policy history (Step.Asked a) ≡ Some r → (one : FindsOne policy history a.user token o)
    → AllByRecursion (IsOther r a.user token one.known.order) (orders policy history)
others {policy} {history} a r token o legal left one =
    all_and (IsEarlier r) (IsToldApart a.user token one.known.order) (orders policy history) (all_earlier r legal (number_left policy history (Step.Asked a) r left)) one.alone

asks_for_less : (policy : PolicyData) (history : List RecordData) (a : Asked) (r : RecordData) (m : CancelOrder) (o : LiveOrder)
    → next policy history (Step.Asked a) ≡ Some r → r.verdict ≡ Verdict.Granted → a.request ≡ Request.Cancel m
    → live_under (live policy history) a.user m.token ≡ Some o → m.shares < o.total
asks_for_less policy history a r m o left granted asks found =
    leb-false o.total m.shares
    (sym
    (ap (forbids I3 (facts_now policy history a)) asks
    ∙ ap (λ (x : Option LiveOrder). takes_nothing x (Request.Cancel m)) (named_is policy history a (Request.Cancel m) m.token asks refl ∙ found))
    ∙ is_no_bar policy history a r left granted I3)

less_open : (size gone total : ℕ) → size < total → gone < total → size - gone < total - gone
less_open size gone total h k = omega arith

pub may_size : {policy : PolicyData} {history : List RecordData} (a : Asked) (r : RecordData) (m : CancelOrder) (cut : LiveOrder) → IsLegal policy history → next policy history (Step.Asked a) ≡ Some r
    → a.request ≡ Request.Cancel m → r.verdict ≡ Verdict.Granted → live_under (live policy history) a.user m.token ≡ Some cut → MaySize (world policy history) r cut m.shares
may_size {policy} {history} a r m cut legal left asks granted found =
    let g : Grants r a (Request.Cancel m) = it_grants policy history a r (Request.Cancel m) left asks granted in
    let one : FindsOne policy history a.user m.token cut = finds_one a.user m.token cut legal found in
    record {
      is_named = is_named policy history a.user m.token cut found;
      is_less = less_open m.shares cut.done cut.total (asks_for_less policy history a r m cut left granted asks found) (subst (λ (o : LiveOrder). o.done < o.total) one.known.is_it (ltb-true _ _ one.known.has_some));
      alone = all_weaker (IsOther r a.user m.token one.known.order) (λ (x : Order). size_set x r ≡ where_true (x.number == cut.number) m.shares)
          (λ (x : Order) h. size_of r a m one.known.order x g (lt-ltb x.number r.number h.0) h.1 ∙ ap (λ (o : LiveOrder). where_true (x.number == o.number) m.shares) one.known.is_it)
          (orders policy history) (others a r m.token cut legal left one);
    }

-- a granted Replace
may_replace : {policy : PolicyData} {history : List RecordData} (a : Asked) (r : RecordData) (m : ReplaceOrder) (old : LiveOrder) → IsLegal policy history → next policy history (Step.Asked a) ≡ Some r
    → a.request ≡ Request.Replace m → r.verdict ≡ Verdict.Granted → live_under (live policy history) a.user m.existing_token ≡ Some old → MayReplace (world policy history) r old (replacement_order r m old)
may_replace {policy} {history} a r m old legal left asks granted found =
    let g : Grants r a (Request.Replace m) = it_grants policy history a r (Request.Replace m) left asks granted in
    let one : FindsOne policy history a.user m.existing_token old = finds_one a.user m.existing_token old legal found in
    record {
      is_named = is_named policy history a.user m.existing_token old found;
      is_new = record {
        has_number = refl;
        is_open = more_than_done policy history a r m old left granted asks found;
        waits = refl;
        is_unused = ap (λ (user : UserName). is_token_used history user m.replacement_token) (his_own a.user m.existing_token (live policy history) old found)
            ∙ token_unused policy history a r m.replacement_token left granted (ap new_token asks);
      };
      same_user = refl;
      same_account = refl;
      some_open = more_than_done policy history a r m old left granted asks found;
      alone = all_weaker (IsOther r a.user m.existing_token one.known.order) (λ (x : Order). ends x r ≡ (x.number == old.number))
          (λ (x : Order) h. ends_by r a (Request.Replace m) x g (lt-ltb x.number r.number h.0) ∙ is_under_swapped a.user m.existing_token x ∙ h.1.by_number ∙ ap (λ (o : LiveOrder). x.number == o.number) one.known.is_it)
          (orders policy history) (others a r m.existing_token old legal left one);
    }

by_grant : {policy : PolicyData} {history : List RecordData} (a : Asked) (r : RecordData) → IsLegal policy history → next policy history (Step.Asked a) ≡ Some r → r.verdict ≡ Verdict.Granted
    → (q : Request) → a.request ≡ q → MayMove policy (world policy history) r (move_asked policy (world policy history) r a q)
by_grant a r legal left granted (Request.Login m) asks = tt
by_grant a r legal left granted Request.Logout asks = tt
by_grant {policy} {history} a r legal left granted (Request.Unreadable m) asks =
    let denied : true ≡ false = sym (ap is_unreadable asks) ∙ is_no_bar policy history a r left granted G3 in cc
by_grant {policy} {history} a r legal left granted (Request.Enter m) asks =
    let his : HasAccount _ = entered_has_account policy history a r m left granted asks in
    subst (λ (found : Option AccountName). MayMove policy (world policy history) r (option_map_or (λ (account : AccountName). Adds (new_order policy r a.user account m)) found Nothing)) (sym his.1)
    (record {
      is_new = record {
        has_number = refl;
        is_open = ltb-true 0 m.shares (entered_has_shares policy history a r m left granted asks);
        waits = refl;
        is_unused = token_unused policy history a r m.token left granted (ap new_token asks);
      };
      is_his = his.1;
      not_killed = granted_is_not_killed policy history a r his.0 left granted (ap is_order asks) his.1;
    })
by_grant {policy} {history} a r legal left granted (Request.Replace m) asks =
    let named : Names policy history a.user m.existing_token = names_live policy history a r (Request.Replace m) m.existing_token left granted asks refl refl in
    subst (λ (found : Option LiveOrder). MayMove policy (world policy history) r (option_map_or (λ (old : LiveOrder). Replaces old (replacement_order r m old)) found Nothing)) (sym named.1)
    (may_replace a r m named.0 legal left asks granted named.1)
by_grant {policy} {history} a r legal left granted (Request.Cancel m) asks =
    let named : Names policy history a.user m.token = names_live policy history a r (Request.Cancel m) m.token left granted asks refl refl in
    subst (λ (found : Option LiveOrder). MayMove policy (world policy history) r (option_map_or (λ (cut : LiveOrder). Sizes cut m.shares) found Nothing)) (sym named.1)
    (may_size a r m named.0 legal left asks granted named.1)
by_grant {policy} {history} a r legal left granted (Request.Command c) asks =
    names_are_known policy history a r c.action (grants_the_command policy history a r c c.action left asks refl granted) left

by_asked : {policy : PolicyData} {history : List RecordData} (a : Asked) (r : RecordData) → IsLegal policy history → next policy history (Step.Asked a) ≡ Some r
    → (v : Verdict) → r.verdict ≡ v → MayMove policy (world policy history) r (move_by policy (world policy history) r v (Step.Asked a))
by_asked a r legal left Verdict.Granted e = by_grant a r legal left e a.request refl
by_asked a r legal left (Verdict.Denied rule) e = tt
by_asked {policy} {history} a r legal left (Verdict.Filled f) e = let judged : false ≡ true = ap is_judged (sym e) ∙ asked_is_judged policy history a r left in cc
by_asked {policy} {history} a r legal left (Verdict.Rested number) e = let judged : false ≡ true = ap is_judged (sym e) ∙ asked_is_judged policy history a r left in cc
by_asked {policy} {history} a r legal left (Verdict.Expired number) e = let judged : false ≡ true = ap is_judged (sym e) ∙ asked_is_judged policy history a r left in cc

pub may_move : MovesAreAllowed
may_move policy history (Step.Asked a) r legal left =
    subst (λ (s : Step). MayMove policy (world policy history) r (move_by policy (world policy history) r r.verdict s)) (sym (step_left policy history (Step.Asked a) r left)) (by_asked a r legal left r.verdict refl)
may_move policy history (Step.Matching handed) r legal left =
    subst (λ (s : Step). MayMove policy (world policy history) r (move_by policy (world policy history) r r.verdict s)) (sym (step_left policy history (Step.Matching handed) r left)) (may_match policy history handed r r.verdict left refl)

-- by its verdict
pub may_by : {policy : PolicyData} {history : List RecordData} (step : Step) (r : RecordData) (v : Verdict) → IsLegal policy history → next policy history step ≡ Some r → r.verdict ≡ v
    → MayMove policy (world policy history) r (move_by policy (world policy history) r v r.step)
may_by {policy} {history} step r v legal left e = subst (λ (x : Verdict). MayMove policy (world policy history) r (move_by policy (world policy history) r x r.step)) e (may_move policy history step r legal left)
