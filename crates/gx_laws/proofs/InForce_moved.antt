-- What one more record makes of all that is in force, by what it does.
use Rattle.std.proofs.Common.{◌≡◌, ℕ, Bool, true, false, List, [], ◌∷◌, ◌++◌, refl, ◌∙◌, ap, sym, cond}
use Rattle.std.specs.{Prelude.{Option, Some, None, ◌||◌, ◌&&◌, option_and_then, unwrap_or}, Option.option_map_or}
use Rattle.gx_units.specs.{declared.names.{AccountName.AccountName, UserName.UserName}, Names.{same_account, same_user}}
use Rattle.gx_desk.specs.{declared.{Action.Action, Command.Command}, Names.is_written}
use Rattle.gx_policy.specs.{declared.policy.PolicyData.PolicyData, Lists.where_true, People.{account_of, is_reader, role_in}}
use Rattle.gx_history.specs.{declared.{live_order.LiveOrder.LiveOrder, «record».{Asked.Asked, RecordData.RecordData, Request.Request, Step.Step, Verdict.Verdict}, moves.Move.{Move, TheVariants.{Nothing, PutsOn, Adds, Sizes, Replaces, Commands}}}, InForce.{rules_after, grant_or_revoke_of, is_close, is_closed, is_entitled, kill_after, kill_in_force, kill_or_lift_of, line_by, line_of, rules_in_force}, Live.live_under, LiveOrders.replacement_order, Requests.{action_of, asked_of, is_granted, granted_of, granted_mark}, Turns.new_order, World.{World, world, world_after_command, move_asked, move_by, move_of, world_after_move}}
use Rattle.gx_laws.proofs.{Records_idle.others_not, Kills_next.kill_in_force_next, InForce_next.{is_closed_next, is_entitled_next, line_of_next, rules_in_force_next, rules_with}}
use Rattle.gx_units.proofs.Test_known.{or_false, or_true}

-- of what a move does, what concerns lines and settings
data Force : Type 0 where
  Keeps : Force
  Puts : UserName → Option ℕ → Force
  Orders : UserName → Action → Force

abbrev force_in : Move → Force
force_in (PutsOn user line) = Puts user line
force_in (Commands officer c) = Orders officer c.action
force_in other = Keeps

abbrev force_asked : Asked → Request → Force
force_asked a (Request.Login m) = Puts a.user (Some a.line)
force_asked a Request.Logout = Puts a.user None
force_asked a (Request.Command c) = Orders a.user c.action
force_asked a other = Keeps

abbrev force_granted : Option Asked → Force
force_granted found = option_map_or (λ (a : Asked). force_asked a a.request) found Keeps

-- what such a force marks
abbrev mark_in : {X : Type 0} → (UserName → Action → Option X) → Force → Option X
mark_in mark (Orders officer action) = mark officer action
mark_in mark other = None

abbrev line_in : UserName → Force → Option (Option ℕ)
line_in user (Puts named line) = where_true (same_user named user) line
line_in user other = None

abbrev as_it_is : UserName → Action → Option Action
as_it_is officer action = Some action

-- a record's move has the force of what it grants
found_keeps : {U : Type 0} (make : U → Move) → ((u : U) → force_in (make u) ≡ Keeps) → (found : Option U) → force_in (option_map_or make found Nothing) ≡ Keeps
found_keeps make same None = refl
found_keeps make same (Some u) = same u

force_of_asked : (policy : PolicyData) (w : World) (r : RecordData) (a : Asked) (q : Request) → force_in (move_asked policy w r a q) ≡ force_asked a q
force_of_asked policy w r a (Request.Enter m) = found_keeps (λ (account : AccountName). Adds (new_order policy r a.user account m)) (λ account. refl) (account_of policy a.user)
force_of_asked policy w r a (Request.Replace m) = found_keeps (λ (old : LiveOrder). Replaces old (replacement_order r m old)) (λ old. refl) (live_under w.live a.user m.existing_token)
force_of_asked policy w r a (Request.Cancel m) = found_keeps (λ (cut : LiveOrder). Sizes cut m.shares) (λ cut. refl) (live_under w.live a.user m.token)
force_of_asked policy w r a other = refl

force_of : (policy : PolicyData) (w : World) (r : RecordData) (v : Verdict) (s : Step) → force_in (move_by policy w r v s) ≡ force_granted (cond (is_granted v) (asked_of s) None)
force_of policy w r Verdict.Granted (Step.Asked a) = force_of_asked policy w r a a.request
force_of policy w r Verdict.Granted (Step.Matching handed) = refl
force_of policy w r (Verdict.Denied rule) (Step.Asked a) = refl
force_of policy w r (Verdict.Denied rule) (Step.Matching handed) = refl
force_of policy w r (Verdict.Filled f) s = refl
force_of policy w r (Verdict.Rested number) s = refl
force_of policy w r (Verdict.Expired number) s = refl

-- what is marked is marked by that force
marked : {X : Type 0} (mark : UserName → Action → Option X) (found : Option Asked) → option_and_then (λ (a : Asked). option_and_then (mark a.user) (action_of a.request)) found ≡ mark_in mark (force_granted found)
marked mark None = refl
marked mark (Some a) = elim a.request as (λ (q : Request). option_and_then (mark a.user) (action_of q) ≡ mark_in mark (force_asked a q)) [
  | Request.Login m ↦ refl
  | Request.Logout ↦ refl
  | Request.Unreadable m ↦ refl
  | Request.Enter m ↦ refl
  | Request.Replace m ↦ refl
  | Request.Cancel m ↦ refl
  | Request.Command c ↦ refl
]

acted : (found : Option Asked) → option_and_then (λ (a : Asked). action_of a.request) found ≡ mark_in as_it_is (force_granted found)
acted None = refl
acted (Some a) = elim a.request as (λ (q : Request). action_of q ≡ mark_in as_it_is (force_asked a q)) [
  | Request.Login m ↦ refl
  | Request.Logout ↦ refl
  | Request.Unreadable m ↦ refl
  | Request.Enter m ↦ refl
  | Request.Replace m ↦ refl
  | Request.Cancel m ↦ refl
  | Request.Command c ↦ refl
]

lined : (user : UserName) (found : Option Asked) → option_and_then (λ (a : Asked). line_by user a a.request) found ≡ line_in user (force_granted found)
lined user None = refl
lined user (Some a) = elim a.request as (λ (q : Request). line_by user a q ≡ line_in user (force_asked a q)) [
  | Request.Login m ↦ refl
  | Request.Logout ↦ refl
  | Request.Unreadable m ↦ refl
  | Request.Enter m ↦ refl
  | Request.Replace m ↦ refl
  | Request.Cancel m ↦ refl
  | Request.Command c ↦ refl
]

-- each word in force, moved
kill_commanded : (policy : PolicyData) (r : RecordData) (officer : UserName) (c : Command) (account : AccountName) (w : World) (action : Action)
    → kill_after policy.lifters (kill_or_lift_of account officer action) (w.kills account) ≡ (world_after_command policy r officer c action w).kills account
kill_commanded policy r officer c account w (Action.Kill named) =
    elim (same_account named account) as (λ b. kill_after policy.lifters (where_true b None) (w.kills account) ≡ cond b (Some []) (w.kills account)) [ true ↦ refl | false ↦ refl ]
kill_commanded policy r officer c account w (Action.Lift named) =
    elim (same_account named account) as (λ b. kill_after policy.lifters (where_true b (Some officer)) (w.kills account) ≡ cond b (kill_after policy.lifters (Some (Some officer)) (w.kills account)) (w.kills account))
    [ true ↦ refl | false ↦ refl ]
kill_commanded policy r officer c account w other = refl

kill_moved : (policy : PolicyData) (r : RecordData) (account : AccountName) (w : World) (m : Move)
    → kill_after policy.lifters (mark_in (kill_or_lift_of account) (force_in m)) (w.kills account) ≡ (world_after_move policy r m w).kills account
kill_moved policy r account w (Commands officer c) = kill_commanded policy r officer c account w c.action
kill_moved policy r account w other = refl

line_moved : (policy : PolicyData) (r : RecordData) (user : UserName) (w : World) (m : Move) → unwrap_or (line_in user (force_in m)) (w.lines user) ≡ (world_after_move policy r m w).lines user
line_moved policy r user w (PutsOn named line) =
    elim (same_user named user) as (λ b. unwrap_or (where_true b line) (w.lines user) ≡ cond b line (w.lines user)) [ true ↦ refl | false ↦ refl ]
line_moved policy r user w (Commands officer c) = elim c.action as (λ (x : Action). w.lines user ≡ (world_after_command policy r officer c x w).lines user) [
  | Action.Kill account ↦ refl
  | Action.Lift account ↦ refl
  | Action.SetLimit rule limit ↦ refl
  | Action.Restrict rule stock ↦ refl
  | Action.Unrestrict rule stock ↦ refl
  | Action.Grant reader account ↦ refl
  | Action.Revoke reader account ↦ refl
  | Action.CloseDay ↦ refl
]
line_moved policy r user w other = refl

closed_moved : (policy : PolicyData) (r : RecordData) (w : World) (m : Move) → (w.closed || option_map_or is_close (mark_in as_it_is (force_in m)) false) ≡ (world_after_move policy r m w).closed
closed_moved policy r w (Commands officer c) = elim c.action as (λ (x : Action). (w.closed || is_close x) ≡ (world_after_command policy r officer c x w).closed) [
  | Action.Kill account ↦ or_false w.closed
  | Action.Lift account ↦ or_false w.closed
  | Action.SetLimit rule limit ↦ or_false w.closed
  | Action.Restrict rule stock ↦ or_false w.closed
  | Action.Unrestrict rule stock ↦ or_false w.closed
  | Action.Grant reader account ↦ or_false w.closed
  | Action.Revoke reader account ↦ or_false w.closed
  | Action.CloseDay ↦ or_true w.closed
]
closed_moved policy r w other = or_false w.closed

rules_moved : (policy : PolicyData) (r : RecordData) (w : World) (m : Move) → rules_with w.rules (mark_in as_it_is (force_in m)) ≡ (world_after_move policy r m w).rules
rules_moved policy r w (Commands officer c) = elim c.action as (λ (x : Action). rules_after w.rules x ≡ (world_after_command policy r officer c x w).rules) [
  | Action.Kill account ↦ refl
  | Action.Lift account ↦ refl
  | Action.SetLimit rule limit ↦ refl
  | Action.Restrict rule stock ↦ refl
  | Action.Unrestrict rule stock ↦ refl
  | Action.Grant reader account ↦ refl
  | Action.Revoke reader account ↦ refl
  | Action.CloseDay ↦ refl
]
rules_moved policy r w other = refl

-- sight is a reader's
sees : (reads : Bool) → Option Bool → Bool → Bool
sees reads mark before = cond reads (unwrap_or mark before) before

sight_by : (reads marks now before : Bool) → cond reads (unwrap_or (where_true marks now) before) before ≡ cond (reads && marks) now before
sight_by true true now before = refl
sight_by true false now before = refl
sight_by false marks now before = refl

same_either : (b x : _) → cond {A = Bool} b x x ≡ x
same_either true x = refl
same_either false x = refl

sight_commanded : (policy : PolicyData) (r : RecordData) (officer : UserName) (c : Command) (reader : UserName) (account : AccountName) (w : World) (action : Action)
    → cond (is_reader (role_in policy.users reader)) (unwrap_or (grant_or_revoke_of reader account officer action) (w.sight reader account)) (w.sight reader account) ≡ (world_after_command policy r officer c action w).sight reader account
sight_commanded policy r officer c reader account w (Action.Grant written named) = sight_by (is_reader (role_in policy.users reader)) (is_written written reader && same_account named account) true (w.sight reader account)
sight_commanded policy r officer c reader account w (Action.Revoke written named) = sight_by (is_reader (role_in policy.users reader)) (is_written written reader && same_account named account) false (w.sight reader account)
sight_commanded policy r officer c reader account w other = same_either (is_reader (role_in policy.users reader)) (w.sight reader account)

sight_moved : (policy : PolicyData) (r : RecordData) (reader : UserName) (account : AccountName) (w : World) (m : Move)
    → cond (is_reader (role_in policy.users reader)) (unwrap_or (mark_in (grant_or_revoke_of reader account) (force_in m)) (w.sight reader account)) (w.sight reader account) ≡ (world_after_move policy r m w).sight reader account
sight_moved policy r reader account w (Commands officer c) = sight_commanded policy r officer c reader account w c.action
sight_moved policy r reader account w other = same_either (is_reader (role_in policy.users reader)) (w.sight reader account)

sight_next : (policy : PolicyData) (history : List RecordData) (r : RecordData) (reader : UserName) (account : AccountName)
    → is_entitled policy (history ++ r ∷ []) reader account
    ≡ cond (is_reader (role_in policy.users reader)) (unwrap_or (granted_mark (grant_or_revoke_of reader account) r) (is_entitled policy history reader account)) (is_entitled policy history reader account)
sight_next policy history r reader account = by_role (is_reader (role_in policy.users reader)) refl
  where
    before : Bool
    before = is_entitled policy history reader account

    mark : Option Bool
    mark = granted_mark (grant_or_revoke_of reader account) r

    by_role : (b : Bool) → is_reader (role_in policy.users reader) ≡ b → is_entitled policy (history ++ r ∷ []) reader account ≡ cond (is_reader (role_in policy.users reader)) (unwrap_or mark before) before
    by_role true e = is_entitled_next policy history r reader account e ∙ sym (ap (λ (b : Bool). cond b (unwrap_or mark before) before) e)
    by_role false e = others_not policy (history ++ r ∷ []) reader account e ∙ sym (others_not policy history reader account e) ∙ sym (ap (λ (b : Bool). cond b (unwrap_or mark before) before) e)

-- all that is in force, after one more record
pub record InForce (policy : PolicyData) (after : List RecordData) (then : World) : Type 0 where
  pub rules : rules_in_force policy after ≡ then.rules
  pub kills : (account : AccountName) → kill_in_force policy after account ≡ then.kills account
  pub closed : is_closed after ≡ then.closed
  pub lines : (user : UserName) → line_of after user ≡ then.lines user
  pub sight : (reader : UserName) (account : AccountName) → is_entitled policy after reader account ≡ then.sight reader account

pub in_force_next : (policy : PolicyData) (history : List RecordData) (r : RecordData) → InForce policy (history ++ r ∷ []) (world_after_move policy r (move_of policy (world policy history) r) (world policy history))
in_force_next policy history r =
    let w : World = world policy history in
    let m : Move = move_of policy w r in
    let force : force_granted (granted_of r) ≡ force_in m = sym (force_of policy w r r.verdict r.step) in
    record {
      rules =
          rules_in_force_next policy history r
          ∙ ap (rules_with w.rules) (acted (granted_of r) ∙ ap (mark_in as_it_is) force) ∙ rules_moved policy r w m;
      kills = λ account.
          kill_in_force_next policy history r account
          ∙ ap (λ (x : Option (Option UserName)). kill_after policy.lifters x (w.kills account)) (marked (kill_or_lift_of account) (granted_of r) ∙ ap (mark_in (kill_or_lift_of account)) force)
          ∙ kill_moved policy r account w m;
      closed =
          is_closed_next history r
          ∙ ap (λ (x : Option Action). w.closed || option_map_or is_close x false) (acted (granted_of r) ∙ ap (mark_in as_it_is) force) ∙ closed_moved policy r w m;
      lines = λ user.
          line_of_next history r user ∙ ap (λ (x : Option (Option ℕ)). unwrap_or x (w.lines user)) (lined user (granted_of r) ∙ ap (line_in user) force) ∙ line_moved policy r user w m;
      sight = λ reader account.
          sight_next policy history r reader account
          ∙ ap (λ (x : Option Bool). cond (is_reader (role_in policy.users reader)) (unwrap_or x (w.sight reader account)) (w.sight reader account))
          (marked (grant_or_revoke_of reader account) (granted_of r) ∙ ap (mark_in (grant_or_revoke_of reader account)) force)
          ∙ sight_moved policy r reader account w m;
    }
