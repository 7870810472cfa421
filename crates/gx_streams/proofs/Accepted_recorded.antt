-- Each Accepted of a legal day is what the record of its order tells.
use Rattle.std.proofs.{Common.{◌≡◌, ℕ, zero, suc, ◌+◌, ◌-◌, Bool, true, false, cond, List, [], ◌∷◌, ◌++◌, length, map, take, drop, refl, ◌∙◌, ap, sym, subst, arith}, lemmas.Option.same_Some}
use Rattle.std.specs.{Prelude.{Option, Some, None, flat_map, filter, option_and_then, option_map, option_to_list, slice_get, unwrap_or, ◌&&◌}, Option.option_map_or, List.AllByRecursion}
use Rattle.gx_units.specs.{Names.same_user, declared.names.{AccountName.AccountName, Firm.Firm, UserName.UserName}}
use Rattle.gx_units.proofs.{Names_equal.user_is, Lists_found.get_last, Lists_hold.{all_weaker, all_both, all_mapped}}
use Rattle.gx_ouch.specs.declared.{inbound.EnterOrder.EnterOrder, letters.{CancelReason.CancelReason, EventCode.EventCode, RejectReason.RejectReason}, outbound.Outbound.Outbound}
use Rattle.gx_desk.specs.declared.{Action.Action}
use Rattle.gx_policy.specs.{declared.{policy.{Account.Account, PolicyData.PolicyData}, rule_name.RuleName.RuleName}, People.{account_named, account_of, is_trader, role_in}, Lists.slice}
use Rattle.gx_history.specs.{declared.{live_order.LiveOrder.LiveOrder, «record».{Asked.Asked, RecordData.RecordData, Request.Request, Step.Step, Verdict.Verdict}, report.{Message.Message, Report.Report}}, Executions.{sides}, InForce.is_entitled, Live.{live, live_numbered, live_under}, LiveOrders.{replacement_order, shares_open}, Orders.{Order, ends_account, order_entered, firm_of, orders, orders_made}, Reasons.{denial_code, reject_reason}, Requests.{asked_of, new_token}, Streams.{accepted_of_order, command_answer, canceled_of, copies_of, copy_of, day_end, ended_of, executed_message, granted_code, rejected_of, replaced_of, report_of, reports_of, reports_of_denial, reports_of_execution, reports_of_grant, reports_of_verdict, stream, to_user}, Verdicts.{IsLegal, next}}
use Rattle.gx_history.proofs.Lists_slice.{slice_is}
use Rattle.gx_laws.proofs.{Requests_judged.legal_keeps, Streams_next.{stream_next, stream_none}, Orders_numbered.number_left}
use Rattle.gx_streams.specs.Recorded.{IsRecorded, accepted_at, accepted_from, enter_in, enter_asked, house_of, reference_of}

-- ---- all items of lists

all_flat : {X Y : Type 0} (P : Y → Type 0) (f : X → List Y) → ((x : X) → AllByRecursion P (f x)) → (xs : List X) → AllByRecursion P (flat_map f xs)
all_flat P f each [] = tt
all_flat P f each (x ∷ xs) = all_both P (f x) (flat_map f xs) (each x) (all_flat P f each xs)

all_if : {X : Type 0} (P : X → Type 0) (b : Bool) (xs : List X) → (b ≡ true → AllByRecursion P xs) → AllByRecursion P (cond b xs [])
all_if P true xs h = h refl
all_if P false xs h = tt

-- ---- what the records tell goes on

found_still : {X : Type 0} (xs more : List X) (i : ℕ) (x : X) → slice_get xs i ≡ Some x → slice_get (xs ++ more) i ≡ Some x
found_still [] more i x is = cc
found_still (y ∷ xs) more zero x is = is
found_still (y ∷ xs) more (suc i) x is = found_still xs more i x is

told_still : (house : Option Firm) (history : List RecordData) (r : RecordData) (report : Report) → IsRecorded house history report → IsRecorded house (history ++ r ∷ []) report
told_still house history r report is number refers = by (slice_get history (number - 1)) refl (is number refers)
  where
    tells : Option RecordData → Option Report
    tells found = option_and_then (λ (x : RecordData). option_map (accepted_from house number x.moment) (enter_asked x)) found

    by : (found : Option RecordData) → slice_get history (number - 1) ≡ found → accepted_at house history number ≡ Some report → accepted_at house (history ++ r ∷ []) number ≡ Some report
    by None at told = let no : None ≡ Some report = sym (ap tells at) ∙ told in cc
    by (Some x) at told = ap tells (found_still history (r ∷ []) (number - 1) x at) ∙ sym (ap tells at) ∙ told

-- ---- what one more record tells

-- the message is no Accepted
abbrev IsOther : Message → Type 0
IsOther m = reference_of m ≡ None

others_recorded : (house : Option Firm) (records : List RecordData) (r : RecordData) (ms : List Message) → AllByRecursion IsOther ms → AllByRecursion (λ (m : Message). IsRecorded house records (report_of r m)) ms
others_recorded house records r ms h =
    all_weaker IsOther (λ (m : Message). IsRecorded house records (report_of r m)) (λ m other number refers. let no : None ≡ Some number = sym other ∙ refers in cc) ms h

module _ (policy : PolicyData) (history : List RecordData) (r : RecordData) (user : UserName) where
  -- the records tell it of their last
  abbrev IsTold : Message → Type 0
  IsTold m = IsRecorded (house_of policy user) (history ++ r ∷ []) (report_of r m)

  told_others : (ms : List Message) → AllByRecursion IsOther ms → AllByRecursion IsTold ms
  told_others ms h = others_recorded (house_of policy user) (history ++ r ∷ []) r ms h

  to_others : (receiver : UserName) (ms : List Message) → AllByRecursion IsOther ms → AllByRecursion IsTold (to_user receiver user ms)
  to_others receiver ms h = all_if IsTold (same_user receiver user) ms (λ is. told_others ms h)

  firm_is : (account : AccountName) (asked_for : Firm) → account_of policy user ≡ Some account → unwrap_or (house_of policy user) asked_for ≡ firm_of policy account asked_for
  firm_is account asked_for is =
      ap (λ (o : Option AccountName). unwrap_or (option_and_then (λ (name : AccountName). option_map (λ (x : Account). x.firm) (account_named policy name)) o) asked_for) is
      ∙ by (account_named policy account)
    where
      by : (o : Option Account) → unwrap_or (option_map (λ (x : Account). x.firm) o) asked_for ≡ option_map_or (λ (x : Account). x.firm) o asked_for
      by None = refl
      by (Some x) = refl

  -- an Enter that is granted is the last record
  accepted_told : (a : Asked) (m : EnterOrder) (account : AccountName) → r.number ≡ length history + 1 → r.step ≡ Step.Asked a → a.request ≡ Request.Enter m → account_of policy user ≡ Some account
      → AllByRecursion IsTold (accepted_of_order (order_entered policy r a.user account m))
  accepted_told a m account counts asks enters trades = (told, tt)
    where
      message : Message
      message = Message.Order (Outbound.Accepted (record { token = m.token; terms = (order_entered policy r a.user account m).terms; order_reference = r.number }))

      there : slice_get (history ++ r ∷ []) (r.number - 1) ≡ Some r
      there = ap (λ n. slice_get (history ++ r ∷ []) n) (let e : r.number - 1 ≡ length history = omega (arith, counts) in e) ∙ get_last history r

      entry : enter_asked r ≡ Some m
      entry = ap (λ s. option_and_then (λ (x : Asked). enter_in x.request) (asked_of s)) asks ∙ ap enter_in enters

      is : accepted_from (house_of policy user) r.number r.moment m ≡ report_of r message
      is = ap (λ (firm : Firm). accepted_from (Some firm) r.number r.moment m) (firm_is account m.firm trades)

      told : IsTold message
      told number refers =
          let same : number ≡ r.number = sym (same_Some _ _ refers) in
          ap (accepted_at (house_of policy user) (history ++ r ∷ [])) same
          ∙ ap (option_and_then (λ (x : RecordData). option_map (accepted_from (house_of policy user) r.number x.moment) (enter_asked x))) there
          ∙ ap (option_map (accepted_from (house_of policy user) r.number r.moment)) entry
          ∙ ap (λ (x : Report). Some x) is

  enter_told : (a : Asked) (m : EnterOrder) → r.number ≡ length history + 1 → r.step ≡ Step.Asked a → a.request ≡ Request.Enter m → (known : List Order)
      → AllByRecursion IsTold (to_user a.user user (flat_map accepted_of_order (orders_made policy known r a.user (Request.Enter m))))
  enter_told a m counts asks enters known = all_if IsTold (same_user a.user user) (flat_map accepted_of_order (orders_made policy known r a.user (Request.Enter m))) (λ is. by (account_of policy a.user) (ap (account_of policy) (sym (user_is a.user user is))))
    where
      made : Option AccountName → List Order
      made found = option_map_or (λ (account : AccountName). order_entered policy r a.user account m ∷ []) found []

      by : (found : Option AccountName) → account_of policy user ≡ found → AllByRecursion IsTold (flat_map accepted_of_order (made found))
      by None is = tt
      by (Some account) is = all_both IsTold (accepted_of_order (order_entered policy r a.user account m)) [] (accepted_told a m account counts asks enters is) tt

  ends_others : (action : Action) → AllByRecursion IsOther (ended_of (live policy history) action user)
  ends_others action =
      all_flat IsOther (λ (o : LiveOrder). canceled_of CancelReason.Supervisory (shares_open o) o) (λ o. (refl, tt))
      (filter (λ (o : LiveOrder). same_user o.user user && ends_account o.account action) (live policy history))

  day_others : (action : Action) → AllByRecursion IsOther (day_end policy action user)
  day_others (Action.Kill account) = tt
  day_others (Action.Lift account) = tt
  day_others (Action.SetLimit rule limit) = tt
  day_others (Action.Restrict rule stock) = tt
  day_others (Action.Unrestrict rule stock) = tt
  day_others (Action.Grant reader account) = tt
  day_others (Action.Revoke reader account) = tt
  day_others Action.CloseDay = all_if IsOther (is_trader (role_in policy.users user)) (Message.Order (Outbound.SystemEvent EventCode.EndOfDay) ∷ []) (λ is. (refl, tt))

  grant_told : (a : Asked) (q : Request) → r.number ≡ length history + 1 → r.step ≡ Step.Asked a → a.request ≡ q → AllByRecursion IsTold (reports_of_grant policy history r a.user q user)
  grant_told a (Request.Login m) counts asks is = tt
  grant_told a Request.Logout counts asks is = tt
  grant_told a (Request.Unreadable m) counts asks is = tt
  grant_told a (Request.Enter m) counts asks is = enter_told a m counts asks is (orders policy history)
  grant_told a (Request.Replace m) counts asks is =
      to_others a.user (flat_map (λ (old : LiveOrder). replaced_of old (replacement_order r m old)) (option_to_list (live_under (live policy history) a.user m.existing_token)))
      (all_flat IsOther (λ (old : LiveOrder). replaced_of old (replacement_order r m old)) (λ o. (refl, tt)) (option_to_list (live_under (live policy history) a.user m.existing_token)))
  grant_told a (Request.Cancel m) counts asks is =
      let told : LiveOrder → List Message = λ (cut : LiveOrder). canceled_of CancelReason.UserRequested (shares_open cut - (m.shares - cut.done)) cut in
      to_others a.user (flat_map told (option_to_list (live_under (live policy history) a.user m.token)))
      (all_flat IsOther told (λ o. (refl, tt)) (option_to_list (live_under (live policy history) a.user m.token)))
  grant_told a (Request.Command c) counts asks is =
      let answered : List Message = command_answer r c (granted_code policy (history ++ r ∷ []) c.action) in
      all_both IsTold (ended_of (live policy history) c.action user ++ day_end policy c.action user) (to_user a.user user answered)
      (all_both IsTold (ended_of (live policy history) c.action user) (day_end policy c.action user) (told_others _ (ends_others c.action)) (told_others _ (day_others c.action)))
      (to_others a.user answered (refl, tt))

  rejected_others : (rule : RuleName) (q : Request) → AllByRecursion IsOther (rejected_of policy q rule)
  rejected_others rule q = by (new_token q) (reject_reason policy rule)
    where
      by : (token : Option _) (reason : Option RejectReason)
          → AllByRecursion IsOther (option_to_list (option_and_then (λ t. option_map (λ why. Message.Order (Outbound.Rejected (record { token = t; reason = why }))) reason) token))
      by None reason = tt
      by (Some t) None = tt
      by (Some t) (Some why) = (refl, tt)

  denial_others : (rule : RuleName) (q : Request) → AllByRecursion IsOther (reports_of_denial policy r rule q)
  denial_others rule (Request.Login m) = rejected_others rule (Request.Login m)
  denial_others rule Request.Logout = rejected_others rule Request.Logout
  denial_others rule (Request.Unreadable m) = rejected_others rule (Request.Unreadable m)
  denial_others rule (Request.Enter m) = rejected_others rule (Request.Enter m)
  denial_others rule (Request.Replace m) = rejected_others rule (Request.Replace m)
  denial_others rule (Request.Cancel m) = rejected_others rule (Request.Cancel m)
  denial_others rule (Request.Command c) = all_flat IsOther (command_answer r c) (λ code. (refl, tt)) (option_to_list (denial_code rule))

  verdict_told : (v : Verdict) (step : Step) → r.number ≡ length history + 1 → r.step ≡ step → AllByRecursion IsTold (reports_of_verdict policy history r v step user)
  verdict_told Verdict.Granted (Step.Asked a) counts asks = grant_told a a.request counts asks refl
  verdict_told Verdict.Granted (Step.Matching handed) counts asks = tt
  verdict_told (Verdict.Denied rule) (Step.Asked a) counts asks = to_others a.user (reports_of_denial policy r rule a.request) (denial_others rule a.request)
  verdict_told (Verdict.Denied rule) (Step.Matching handed) counts asks = tt
  verdict_told (Verdict.Filled f) step counts asks =
      all_flat IsTold (reports_of_execution r user) (λ e. to_others e.order.user (Message.Order (Outbound.Executed (executed_message r e)) ∷ []) (refl, tt)) (sides policy history (Verdict.Filled f))
  verdict_told (Verdict.Rested number) step counts asks = tt
  verdict_told (Verdict.Expired number) step counts asks =
      all_flat IsTold (λ (o : LiveOrder). to_user o.user user (canceled_of CancelReason.ImmediateOrCancel (shares_open o) o))
      (λ o. to_others o.user (canceled_of CancelReason.ImmediateOrCancel (shares_open o) o) (refl, tt)) (option_to_list (live_numbered (live policy history) number))

  copies_told : AllByRecursion IsTold (flat_map (copy_of (is_entitled policy history) r user) (sides policy history r.verdict))
  copies_told =
      all_flat IsTold (copy_of (is_entitled policy history) r user)
      (λ e. all_if IsTold (is_entitled policy history user e.order.account) (Message.DropCopy (record { executed = executed_message r e; account = e.order.account; side = e.order.terms.side }) ∷ []) (λ is. told_others (Message.DropCopy (record { executed = executed_message r e; account = e.order.account; side = e.order.terms.side }) ∷ []) (refl, tt)))
      (sides policy history r.verdict)

  next_told : next policy history r.step ≡ Some r → AllByRecursion (IsRecorded (house_of policy user) (history ++ r ∷ [])) (reports_of policy user (history, r))
  next_told left =
      let all : Report → Type 0 = IsRecorded (house_of policy user) (history ++ r ∷ []) in
      all_both all (map (report_of r) (reports_of_verdict policy history r r.verdict r.step user)) (copies_of policy user (history, r))
      (all_mapped all (report_of r) (reports_of_verdict policy history r r.verdict r.step user) (verdict_told r.verdict r.step (number_left policy history r.step r left) refl))
      (all_mapped all (report_of r) (flat_map (copy_of (is_entitled policy history) r user) (sides policy history r.verdict)) copies_told)

-- each that a user is told
pub accepted_are_recorded : (policy : PolicyData) (history : List RecordData) (user : UserName) → IsLegal policy history → AllByRecursion (IsRecorded (house_of policy user) history) (stream policy history user)
accepted_are_recorded policy history user legal =
    legal_keeps (λ (records : List RecordData). AllByRecursion (IsRecorded (house_of policy user) records) (stream policy records user))
    (subst (λ (rs : List Report). AllByRecursion (IsRecorded (house_of policy user) []) rs) (sym (stream_none policy user)) tt)
    (λ earlier r kept follows.
    subst (λ (rs : List Report). AllByRecursion (IsRecorded (house_of policy user) (earlier ++ r ∷ [])) rs) (sym (stream_next policy earlier r user))
    (all_both (IsRecorded (house_of policy user) (earlier ++ r ∷ [])) (stream policy earlier user) (reports_of policy user (earlier, r))
    (all_weaker (IsRecorded (house_of policy user) earlier) (IsRecorded (house_of policy user) (earlier ++ r ∷ [])) (λ report h. told_still (house_of policy user) earlier r report h) (stream policy earlier user) kept)
    (next_told policy earlier r user follows.is_next))) legal

all_dropped : {X : Type 0} (P : X → Type 0) (n : ℕ) (xs : List X) → AllByRecursion P xs → AllByRecursion P (drop n xs)
all_dropped P zero xs h = h
all_dropped P (suc n) [] h = tt
all_dropped P (suc n) (x ∷ xs) h = all_dropped P n xs h.1

all_taken : {X : Type 0} (P : X → Type 0) (n : ℕ) (xs : List X) → AllByRecursion P xs → AllByRecursion P (take n xs)
all_taken P zero xs h = tt
all_taken P (suc n) [] h = tt
all_taken P (suc n) (x ∷ xs) h = (h.0, all_taken P n xs h.1)

-- and so each of a part of what he is told
pub part_is_recorded : (policy : PolicyData) (history : List RecordData) (user : UserName) (from most : ℕ) → IsLegal policy history
    → AllByRecursion (IsRecorded (house_of policy user) history) (slice (stream policy history user) from most)
part_is_recorded policy history user from most legal =
    let told : List Report = stream policy history user in
    let P : Report → Type 0 = IsRecorded (house_of policy user) history in
    subst (AllByRecursion P) (slice_is told from most) (all_taken P most (drop (from - 1) told) (all_dropped P (from - 1) told (accepted_are_recorded policy history user legal)))
