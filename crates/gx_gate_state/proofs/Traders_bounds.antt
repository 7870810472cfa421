-- Whoever enters an order trades: there is no account for him to kill.
use Rattle.std.proofs.{Common.{◌≡◌, ◌+◌, arith, true, false, Bool, List, length, refl, ◌∙◌, ap, sym, if◌then◌else◌}, Math.Path.subst}
use Rattle.std.specs.{Prelude.{Option, Some, None, option_and_then}, Option.option_map_or}
use Rattle.gx_units.specs.declared.names.{AccountName.AccountName}
use Rattle.gx_policy.specs.{declared.policy.{PolicyData.PolicyData, Role.Role, User.User}, People.{account_of, account_of_role, is_officer, role_in, user_in}}
use Rattle.gx_history.specs.{declared.{live_order.LiveOrder.LiveOrder, moves.Move.Move, «record».{Asked.Asked, RecordData.RecordData, Request.Request, Step.Step, Verdict.Verdict}}, Live.live_under, Turns.new_order, World.{Does, World, move_asked, move_by, world}}
use Rattle.gx_laws.proofs.Moves_known.{may_do}
use Rattle.gx_people.proofs.Users_laws.{officers_stay}
use Rattle.gx_streams.specs.Streams.{AllStreams, has_own_stream}
use Rattle.gx_gate_state.specs.{declared.state.GateState.GateState, State.{HasEnough, HasReserved, Takes, count_of_user, kills_at_most}}
use Rattle.gx_gate_state.proofs.{Reserved_next.known_told, Match_next.trader_told}

no_officer : (role : Option Role) (account : AccountName) → option_and_then account_of_role role ≡ Some account → is_officer role ≡ false
no_officer None account h = refl
no_officer (Some (Role.Trader his)) account h = refl
no_officer (Some (Role.Officer powers scope)) account h = cc
no_officer (Some (Role.Reader names)) account h = refl

-- the order that a request adds is that of who asks
module _ (policy : PolicyData) (w : World) (r : RecordData) (a : Asked) (new : LiveOrder) where
  by_account : (m : Move) → (found : Option AccountName) → (order : AccountName → LiveOrder) → ((account : AccountName) → (order account).user ≡ a.user)
      → option_map_or (λ (account : AccountName). Move.Adds (order account)) found Move.Nothing ≡ Move.Adds new → a.user ≡ new.user
  by_account m None order his h = cc
  by_account m (Some account) order his h =
      let same : order account ≡ new = ap (λ (x : Move). elim x [ Move.Adds o ↦ o | _ ↦ new ]) h in
      sym (his account) ∙ ap (λ (o : LiveOrder). o.user) same

  by_order : (found : Option LiveOrder) (move : LiveOrder → Move) → ((o : LiveOrder) → move o ≡ Move.Adds new → a.user ≡ new.user)
      → option_map_or move found Move.Nothing ≡ Move.Adds new → a.user ≡ new.user
  by_order None move none h = cc
  by_order (Some o) move none h = none o h

  by_request : (q : Request) → move_asked policy w r a q ≡ Move.Adds new → a.user ≡ new.user
  by_request (Request.Login m) h = cc
  by_request Request.Logout h = cc
  by_request (Request.Unreadable m) h = cc
  by_request (Request.Enter m) h = by_account Move.Nothing (account_of policy a.user) (λ account. new_order policy r a.user account m) (λ account. refl) h
  by_request (Request.Replace m) h = by_order (live_under w.live a.user m.existing_token) _ (λ old e. cc) h
  by_request (Request.Cancel m) h = by_order (live_under w.live a.user m.token) _ (λ old e. cc) h
  by_request (Request.Command c) h = cc

  by_verdict : (v : Verdict) → move_by policy w r v (Step.Asked a) ≡ Move.Adds new → a.user ≡ new.user
  by_verdict Verdict.Granted h = by_request a.request h
  by_verdict (Verdict.Denied rule) h = cc
  by_verdict (Verdict.Filled f) h = cc
  by_verdict (Verdict.Rested number) h = cc
  by_verdict (Verdict.Expired number) h = cc

module _ (policy : PolicyData) (history : List RecordData) (a : Asked) (r : RecordData) (m : Move) (new : LiveOrder) (k : GateState) (asks : r.step ≡ Step.Asked a) (t : Takes policy history m r k) (adds : m ≡ Move.Adds new) where
  his_order : a.user ≡ new.user
  his_order = by_verdict policy (world policy history) r a new r.verdict (ap (λ (s : Step). move_by policy (world policy history) r r.verdict s) (sym asks) ∙ t.does.moves ∙ adds)

  his_account : account_of policy a.user ≡ Some new.account
  his_account =
      let does = subst (Does policy history r) adds t.does in
      ap (account_of policy) his_order ∙ (may_do r (Move.Adds new) does).is_his

  trades : is_officer (role_in policy.users a.user) ≡ false
  trades = no_officer (role_in policy.users a.user) new.account his_account

  -- he is told report by report
  pub trader_is_told : has_own_stream k.streams a.user ≡ true
  trader_is_told = known_told k t.in_force a.user ∙ trader_told new.account (user_in policy.users a.user) his_account

  kills_none : kills_at_most k.people policy a.user ≡ 0
  kills_none = ap (λ (b : Bool). if b then length policy.accounts else 0)
      (ap (λ (users : List User). is_officer (role_in users a.user)) t.in_force.people ∙ officers_stay policy history a.user ∙ trades)

  -- so two more than one for each of his orders are enough
  pub trader_has_enough : (streams : AllStreams) → HasReserved a.user (count_of_user k.orders.live a.user + 2) streams → HasEnough k.orders.live k.people policy streams a.user
  trader_has_enough streams has = λ known. omega (arith, has known, kills_none)
