-- What each record makes of the orders that are kept, from the one law of the live orders.
use Rattle.std.proofs.{Common.{◌≡◌, ℕ, Bool, true, false, not, List, [], ◌∷◌, ◌++◌, refl, ◌∙◌, ap, sym, cond, map, arith, if◌then◌else◌}, lemmas.{Bool.{ne_eqb, lt-ltb, eqb-false}, List.{Elements.filter-append, append-nil}}}
use Rattle.std.specs.{Prelude.{Option, Some, None, ◌||◌, ◌==◌, option_map, option_to_list}, Option.option_map_or, List.{AllByRecursion, cons_option, filter, filter_map}, Cmp.nat_eq_equiv}
use Rattle.gx_units.specs.declared.names.{AccountName.AccountName, Token.Token, UserName.UserName}
use Rattle.gx_desk.specs.declared.Action.{Action}
use Rattle.gx_policy.specs.{People.account_of, RuleNames.is_answered_rule, declared.policy.PolicyData.PolicyData}
use Rattle.gx_history.specs.{declared.{live_order.{LiveOrder.LiveOrder, UserToken.UserToken}, moves.Move.Move, «record».{Asked.Asked, RecordData.RecordData, Request.Request, Step.Step, Verdict.Verdict}}, Live.{live, live_under}, LiveOrders.{key, replacement_order, token_of}, MayMove.MayMove, Orders.{ends_account, uses_token}, Requests.{asked_of, new_token}, Turns.{new_order, live_after, while_open}, World.{Does, World, move_asked, move_by, turn_in, world}}
use Rattle.gx_laws.proofs.{Orders_ended.live_have_open, Moves_known.live_does, Moves_allowed.{his_own, may_move}, World_next.{all_stay, those_go, stay}}
use Rattle.gx_orders.specs.{Changes.{denied_token, is_lasting, live_left, orders_moved}, InForce.{orders_in_force, token_asked, token_used_by}, Laws.{FindsOrders, OrdersGoOn}, LiveOrders.{at_rest, with_done, has_number, is_open, open_ones, with_total, without_number, IsOpen, OrdersData}}
use Rattle.gx_orders.proofs.{Orders_found.finds_orders, Match_next.in_turn, Orders_stay.{data_is, used_then}}

-- one lemma a word: what becomes of each, as a list
those_change : (changes : LiveOrder → Bool) (change : LiveOrder → LiveOrder) (os : List LiveOrder) → AllByRecursion IsOpen os
    → filter_map (λ (o : LiveOrder). cond (changes o) (while_open (change o)) (Some o)) os ≡ open_ones (map (λ (o : LiveOrder). cond (changes o) (change o) o) os)
those_change changes change [] h = refl
those_change changes change (o ∷ os) h = ap (cons_option (cond (changes o) (while_open (change o)) (Some o))) (those_change changes change os h.1) ∙ at (changes o)
  where
    rest : List LiveOrder
    rest = open_ones (map (λ (o : LiveOrder). cond (changes o) (change o) o) os)

    shown : (x : LiveOrder) (b : Bool) → cons_option (cond b (Some x) None) rest ≡ cond b (x ∷ rest) rest
    shown x true = refl
    shown x false = refl

    at : (b : Bool) → cons_option (cond b (while_open (change o)) (Some o)) rest ≡ cond (is_open (cond b (change o) o)) (cond b (change o) o ∷ rest) rest
    at true = shown (change o) (is_open (change o))
    at false = ap (λ (b : Bool). cond b (o ∷ rest) rest) (sym (lt-ltb o.done o.total h.0))

all_change : (f : LiveOrder → LiveOrder) (os : List LiveOrder) → filter_map (λ (o : LiveOrder). Some (f o)) os ≡ map f os
all_change f [] = refl
all_change f (o ∷ os) = ap (λ (more : List LiveOrder). f o ∷ more) (all_change f os)

-- ---- the live orders

none_left : (live : List LiveOrder) → filter (λ (o : LiveOrder). not (ends_account o.account Action.CloseDay)) live ≡ []
none_left [] = refl
none_left (o ∷ os) = none_left os

-- an order of another number that is entered first stays
entered_first : (n : ℕ) (live : List LiveOrder) (o : LiveOrder) → has_number n o ≡ false → without_number n live ++ o ∷ [] ≡ without_number n (live ++ o ∷ [])
entered_first n live o other =
    ap (λ (b : Bool). without_number n live ++ cond (not b) (o ∷ []) []) (sym other) ∙ sym (filter-append (λ (p : LiveOrder). not (has_number n p)) live (o ∷ []))

lasts : (account : AccountName) (action : Action) → is_lasting action ≡ true → ends_account account action ≡ false
lasts account (Action.Kill killed) h = cc
lasts account (Action.Lift other) h = refl
lasts account (Action.SetLimit rule limit) h = refl
lasts account (Action.Restrict rule stock) h = refl
lasts account (Action.Unrestrict rule stock) h = refl
lasts account (Action.Grant reader other) h = refl
lasts account (Action.Revoke reader other) h = refl
lasts account Action.CloseDay h = cc

all_left : (action : Action) → is_lasting action ≡ true → (live : List LiveOrder) → filter (λ (o : LiveOrder). not (ends_account o.account action)) live ≡ live
all_left action h [] = refl
all_left action h (o ∷ os) =
    ap (λ (b : Bool). cond (not b) (o ∷ filter (λ (p : LiveOrder). not (ends_account p.account action)) os) (filter (λ (p : LiveOrder). not (ends_account p.account action)) os)) (lasts o.account action h)
    ∙ ap (λ (rest : List LiveOrder). o ∷ rest) (all_left action h os)

-- what an action leaves
left_are : (action : Action) (live : List LiveOrder) → filter (λ (o : LiveOrder). not (ends_account o.account action)) live ≡ live_left action live
left_are (Action.Kill account) live = refl
left_are Action.CloseDay live = none_left live
left_are (Action.Lift account) live = all_left (Action.Lift account) refl live
left_are (Action.SetLimit rule limit) live = all_left (Action.SetLimit rule limit) refl live
left_are (Action.Restrict rule stock) live = all_left (Action.Restrict rule stock) refl live
left_are (Action.Unrestrict rule stock) live = all_left (Action.Unrestrict rule stock) refl live
left_are (Action.Grant reader account) live = all_left (Action.Grant reader account) refl live
left_are (Action.Revoke reader account) live = all_left (Action.Revoke reader account) refl live

live_moved : (m : Move) (d : OrdersData) → AllByRecursion IsOpen d.live → FindsOrders m d → live_after (turn_in m) d.live ≡ (orders_moved m d).live
live_moved Move.Nothing d opens finds = stay d.live
live_moved (Move.Denies a rule) d opens finds = stay d.live
live_moved (Move.PutsOn user line) d opens finds = stay d.live
live_moved (Move.Adds new) d opens finds = ap (λ (os : List LiveOrder). os ++ new ∷ []) (all_stay d.live)
live_moved (Move.Sizes cut size) d opens finds = append-nil _ ∙ those_change (has_number cut.number) (with_total size) d.live opens
live_moved (Move.Replaces old new) d opens finds =
    ap (λ (os : List LiveOrder). os ++ new ∷ []) (those_go (has_number old.number) d.live)
    ∙ entered_first old.number d.live new (ne_eqb new.number old.number (λ same. absurd (omega (arith, same, finds.is_older))))
live_moved (Move.Commands officer c) d opens finds = append-nil _ ∙ those_go (λ (o : LiveOrder). ends_account o.account c.action) d.live ∙ left_are c.action d.live
live_moved (Move.Fills f) d opens finds =
    append-nil _
    ∙ those_change (λ (o : LiveOrder). o.number == f.taker || o.number == f.maker) (with_done f.shares) d.live opens
    ∙ in_turn f (eqb-false f.taker f.maker finds.sides_differ) d.live
live_moved (Move.Rests number) d opens finds =
    append-nil _
    ∙ (λ i. filter_map (λ (o : LiveOrder). Some (cond (nat_eq_equiv.symm number o.number i) (at_rest o) o)) d.live)
    ∙ all_change (λ (o : LiveOrder). cond (has_number number o) (at_rest o) o) d.live
live_moved (Move.Expires number) d opens finds =
    append-nil _
    ∙ (λ i. filter_map (λ (o : LiveOrder). cond (nat_eq_equiv.symm number o.number i) None (Some o)) d.live)
    ∙ those_go (has_number number) d.live

-- ---- the used tokens

-- the token that is used by what is done, if one is
abbrev token_in : Move → Option UserToken
token_in (Move.Denies a rule) = option_map (key a.user) (denied_token rule a.request)
token_in (Move.Adds new) = Some (token_of new)
token_in (Move.Replaces old new) = Some (token_of new)
token_in other = None

used_moved : (m : Move) (d : OrdersData) → d.used ++ option_to_list (token_in m) ≡ (orders_moved m d).used
used_moved Move.Nothing d = append-nil d.used
used_moved (Move.Denies a rule) d = refl
used_moved (Move.PutsOn user line) d = append-nil d.used
used_moved (Move.Adds new) d = refl
used_moved (Move.Sizes cut size) d = append-nil d.used
used_moved (Move.Replaces old new) d = refl
used_moved (Move.Commands officer c) d = append-nil d.used
used_moved (Move.Fills f) d = append-nil d.used
used_moved (Move.Rests number) d = append-nil d.used
used_moved (Move.Expires number) d = append-nil d.used

by_request : (policy : PolicyData) (w : World) (r : RecordData) (a : Asked) (q : Request) → MayMove policy w r (move_asked policy w r a q) → option_map (key a.user) (new_token q) ≡ token_in (move_asked policy w r a q)
by_request policy w r a (Request.Login m) may = refl
by_request policy w r a Request.Logout may = refl
by_request policy w r a (Request.Unreadable m) may = refl
by_request policy w r a (Request.Enter m) may = at (account_of policy a.user) may
  where
    adds : Option AccountName → Move
    adds found = option_map_or (λ (account : AccountName). Move.Adds (new_order policy r a.user account m)) found Move.Nothing

    at : (found : Option AccountName) → MayMove policy w r (adds found) → Some (key a.user m.token) ≡ token_in (adds found)
    at None never = absurd never
    at (Some account) may = refl
by_request policy w r a (Request.Replace m) may = at (live_under w.live a.user m.existing_token) refl may
  where
    replaces : Option LiveOrder → Move
    replaces found = option_map_or (λ (old : LiveOrder). Move.Replaces old (replacement_order r m old)) found Move.Nothing

    at : (found : Option LiveOrder) → live_under w.live a.user m.existing_token ≡ found → MayMove policy w r (replaces found) → Some (key a.user m.replacement_token) ≡ token_in (replaces found)
    at None is never = absurd never
    at (Some old) is may = ap (λ (user : UserName). Some (key user m.replacement_token)) (sym (his_own a.user m.existing_token w.live old is))
by_request policy w r a (Request.Cancel m) may = at (live_under w.live a.user m.token)
  where
    at : (found : Option LiveOrder) → None ≡ token_in (option_map_or (λ (cut : LiveOrder). Move.Sizes cut m.shares) found Move.Nothing)
    at None = refl
    at (Some cut) = refl
by_request policy w r a (Request.Command c) may = refl

denied_uses : (b : Bool) (user : UserName) (found : Option Token) → (if b then option_map (key user) found else None) ≡ option_map (key user) (if b then found else None)
denied_uses true user found = refl
denied_uses false user found = refl

by_verdict : (policy : PolicyData) (w : World) (r : RecordData) (v : Verdict) (s : Step) → MayMove policy w r (move_by policy w r v s)
    → (if uses_token v then token_asked (asked_of s) else None) ≡ token_in (move_by policy w r v s)
by_verdict policy w r Verdict.Granted (Step.Asked a) may = by_request policy w r a a.request may
by_verdict policy w r Verdict.Granted (Step.Matching handed) never = absurd never
by_verdict policy w r (Verdict.Denied rule) (Step.Asked a) may = denied_uses (is_answered_rule rule) a.user (new_token a.request)
by_verdict policy w r (Verdict.Denied rule) (Step.Matching handed) never = absurd never
by_verdict policy w r (Verdict.Filled f) s may = refl
by_verdict policy w r (Verdict.Rested number) s may = refl
by_verdict policy w r (Verdict.Expired number) s may = refl

token_does : {policy : PolicyData} {history : List RecordData} (r : RecordData) (m : Move) → Does policy history r m → token_used_by r ≡ token_in m
token_does {policy} {history} r m d = by_verdict policy (world policy history) r r.verdict r.step (may_move policy history r.step r d.legal d.is_next) ∙ ap token_in d.moves

-- ---- both

pub orders_next : OrdersGoOn
orders_next policy history r m d =
    let before : OrdersData = orders_in_force policy history in
    data_is _ _
    (live_does r m d ∙ live_moved m before (live_have_open policy history) (finds_orders policy history r m d))
    (used_then history r (token_in m) (token_does r m d) ∙ used_moved m before)
