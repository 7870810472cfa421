-- The order that a record adds is the live one of its number, and the account of each live order is one of the policy.
use Rattle.std.proofs.{Common.{◌≡◌, ℕ, Bool, true, false, cond, ◌⊎◌, inl, inr, List, [], ◌∷◌, ◌++◌, refl, sym, ap, subst, ◌∙◌}, lemmas.Bool.eq-eqb}
use Rattle.std.specs.{Prelude.{Option, Some, None, ◌==◌, is_some}, Option.option_map_or, List.{AllByRecursion, cons_option, filter_map}}
use Rattle.gx_units.specs.declared.names.AccountName.{AccountName}
use Rattle.gx_units.proofs.Lists_hold.{found_is}
use Rattle.gx_policy.specs.{declared.policy.PolicyData.PolicyData, People.{account_named, account_of}, Soundness.is_sound}
use Rattle.gx_history.specs.{declared.{live_order.LiveOrder.LiveOrder, «record».{Asked.Asked, RecordData.RecordData, Request.Request, Step.Step, Verdict.Verdict}, moves.Move.TheVariants.{Adds, Nothing, Replaces, Sizes}}, Figures.{Positions, positions}, Live.{live, live_numbered, live_under}, LiveOrders.replacement_order, Orders.Order, Turns.{Turn, becomes, new_in, new_order, live_after}, Verdicts.{Follows, IsLegal}, World.{World, move_asked, turn_by, turn_in, world}}
use Rattle.gx_history.specs.Turns as turns
use Rattle.gx_laws.proofs.{Orders_owned.{IsHisAccounts, orders_are_their_users}, Accounts_known.accounts_are_known, Turns_allowed.{of_live, records_may_come}, Positions_next.positions_go_on}
use Rattle.gx_laws.specs.{PositionLaws.{granted_after, turn_after}, Sound.MayChange}

-- an order that is new has the number of the record
abbrev HasNumber : ℕ → LiveOrder → Type 0
HasNumber number o = o.number ≡ number

asked_number : (policy : PolicyData) (w : World) (r : RecordData) (a : Asked) (q : Request) → AllByRecursion (HasNumber r.number) (new_in (turn_in (move_asked policy w r a q)))
asked_number policy w r a (Request.Login m) = tt
asked_number policy w r a Request.Logout = tt
asked_number policy w r a (Request.Unreadable m) = tt
asked_number policy w r a (Request.Command c) = tt
asked_number policy w r a (Request.Enter m) =
    elim (account_of policy a.user) as (λ (x : Option AccountName). AllByRecursion (HasNumber r.number) (new_in (turn_in (option_map_or (λ (account : AccountName). Adds (new_order policy r a.user account m)) x Nothing))))
    [ None ↦ tt | Some account ↦ (refl, tt) ]
asked_number policy w r a (Request.Replace m) =
    elim (live_under w.live a.user m.existing_token) as (λ (x : Option LiveOrder). AllByRecursion (HasNumber r.number) (new_in (turn_in (option_map_or (λ (old : LiveOrder). Replaces old (replacement_order r m old)) x Nothing))))
    [ None ↦ tt | Some old ↦ (refl, tt) ]
asked_number policy w r a (Request.Cancel m) =
    elim (live_under w.live a.user m.token) as (λ (x : Option LiveOrder). AllByRecursion (HasNumber r.number) (new_in (turn_in (option_map_or (λ (cut : LiveOrder). Sizes cut m.shares) x Nothing))))
    [ None ↦ tt | Some cut ↦ tt ]

new_number : (policy : PolicyData) (w : World) (r : RecordData) (v : Verdict) (s : Step) → AllByRecursion (HasNumber r.number) (new_in (turn_by policy w r v s))
new_number policy w r Verdict.Granted (Step.Asked a) = asked_number policy w r a a.request
new_number policy w r Verdict.Granted (Step.Matching handed) = tt
new_number policy w r (Verdict.Denied rule) (Step.Asked a) = tt
new_number policy w r (Verdict.Denied rule) (Step.Matching handed) = tt
new_number policy w r (Verdict.Filled f) s = tt
new_number policy w r (Verdict.Rested number) s = tt
new_number policy w r (Verdict.Expired number) s = tt

-- a live order goes on as it is, or ends
abbrev StaysOrEnds : (LiveOrder → Option LiveOrder) → LiveOrder → Type 0
StaysOrEnds f o = (f o ≡ Some o) ⊎ (f o ≡ None)

not_it : (b : Bool) (o : LiveOrder) (rest : Option LiveOrder) → cond b (Some o) rest ≡ None → (b ≡ false) × (rest ≡ None)
not_it true o rest h = cc
not_it false o rest h = (refl, h)

-- the one behind them all is found, where none of them has its number
last_found : (f : LiveOrder → Option LiveOrder) → ((o : LiveOrder) → StaysOrEnds f o) → (os : List LiveOrder) (new : LiveOrder) → live_numbered os new.number ≡ None
    → live_numbered (filter_map f os ++ new ∷ []) new.number ≡ Some new
last_found f each [] new none = ap (λ (b : Bool). cond b (Some new) None) (eq-eqb new.number new.number refl)
last_found f each (o ∷ os) new none = by (each o) (last_found f each os new (not_it (o.number == new.number) o (live_numbered os new.number) none).1)
  where
    parts : ((o.number == new.number) ≡ false) × (live_numbered os new.number ≡ None)
    parts = not_it (o.number == new.number) o (live_numbered os new.number) none

    by : StaysOrEnds f o → live_numbered (filter_map f os ++ new ∷ []) new.number ≡ Some new → live_numbered (cons_option (f o) (filter_map f os) ++ new ∷ []) new.number ≡ Some new
    by (inl stays) later =
        ap (λ (x : Option LiveOrder). live_numbered (cons_option x (filter_map f os) ++ new ∷ []) new.number) stays
        ∙ ap (λ (b : Bool). cond b (Some o) (live_numbered (filter_map f os ++ new ∷ []) new.number)) parts.0
        ∙ later
    by (inr ends) later = ap (λ (x : Option LiveOrder). live_numbered (cons_option x (filter_map f os) ++ new ∷ []) new.number) ends ∙ later

replaced_or_not : (number : ℕ) (new o : LiveOrder) → StaysOrEnds (becomes (turns.Replaces number new)) o
replaced_or_not number new o = by (o.number == number)
  where
    by : (b : Bool) → (cond b None (Some o) ≡ Some o) ⊎ (cond b None (Some o) ≡ None)
    by true = inr refl
    by false = inl refl

-- each new order is found among those that are live then
new_found : (policy : PolicyData) (held : Positions) (granted : List Order) (turn : Turn) → MayChange policy held turn granted
    → AllByRecursion (λ (o : LiveOrder). live_numbered (live_after turn held.live) o.number ≡ Some o) (new_in turn)
new_found policy held granted turns.Keeps may = tt
new_found policy held granted (turns.Adds new) may = (last_found (becomes (turns.Adds new)) (λ o. inl refl) held.live new may.is_new, tt)
new_found policy held granted (turns.Sizes number size) may = tt
new_found policy held granted (turns.Replaces number new) may = (last_found (becomes (turns.Replaces number new)) (replaced_or_not number new) held.live new may.may_come.is_new, tt)
new_found policy held granted (turns.EndsAll action) may = tt
new_found policy held granted (turns.Fills f) may = tt
new_found policy held granted (turns.Rests number) may = tt
new_found policy held granted (turns.Ends number) may = tt

both_found : (number : ℕ) (found : ℕ → Option LiveOrder) (new : List LiveOrder) → AllByRecursion (λ (o : LiveOrder). found o.number ≡ Some o) new → AllByRecursion (HasNumber number) new
    → AllByRecursion (λ (o : LiveOrder). found number ≡ Some o) new
both_found number found [] h k = tt
both_found number found (o ∷ os) h k = (ap found (sym k.0) ∙ h.0, both_found number found os h.1 k.1)

-- the new order is the live one of the record's number
pub new_is_newest : {policy : PolicyData} {records : List RecordData} (r : RecordData) → IsLegal policy records → Follows policy (records, r)
    → AllByRecursion (λ (o : LiveOrder). live_numbered (live policy (records ++ r ∷ [])) r.number ≡ Some o) (new_in (turn_after policy records r))
new_is_newest {policy} {records} r legal follows =
    let turn : Turn = turn_after policy records r in
    let goes : positions policy (records ++ r ∷ []) ≡ _ = positions_go_on policy records r.step r legal follows.is_next in
    let now : live policy (records ++ r ∷ []) ≡ live_after turn (live policy records) = ap (λ (p : Positions). p.live) goes in
    both_found r.number (live_numbered (live policy (records ++ r ∷ []))) (new_in turn)
    (subst (λ (os : List LiveOrder). AllByRecursion (λ (o : LiveOrder). live_numbered os o.number ≡ Some o) (new_in turn)) (sym now)
    (new_found policy (positions policy records) (granted_after policy records r) turn (records_may_come policy records r.step r legal follows.is_next)))
    (new_number policy (world policy records) r r.verdict r.step)

-- the account of a live order is one of the policy
pub account_is_known : {policy : PolicyData} {records : List RecordData} (number : ℕ) (o : LiveOrder) → is_sound policy ≡ true → IsLegal policy records → live_numbered (live policy records) number ≡ Some o
    → is_some (account_named policy o.account) ≡ true
account_is_known {policy} {records} number o sound legal found =
    found_is (λ (x : LiveOrder). is_some (account_named policy x.account) ≡ true) (λ (x : LiveOrder). x.number == number) (live policy records) o
    (of_live (IsHisAccounts policy) (λ (x : LiveOrder). is_some (account_named policy x.account) ≡ true)
    (λ grant x of his. ap (λ (a : AccountName). is_some (account_named policy a)) (sym of.account) ∙ accounts_are_known policy grant.user grant.account sound his)
    legal (orders_are_their_users policy records))
    found
