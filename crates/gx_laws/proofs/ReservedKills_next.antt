-- Which accounts may still be killed, and who is logged in, after one more record.
use Rattle.std.proofs.{Common.{◌≡◌, ℕ, ◌+◌, ◌≤◌, arith, true, false, not, Bool, List, [], ◌∷◌, ◌++◌, length, refl, ◌∙◌, ap, sym, cond, subst, if◌then◌else◌}, lemmas.Bool.{not-false, not-true}}
use Rattle.std.specs.{Prelude.{Option, Some, None, is_some, ◌&&◌}, List.filter}
use Rattle.gx_units.specs.{Names.same_account, declared.names.{AccountName.AccountName, UserName.UserName}}
use Rattle.gx_units.proofs.{Names_equal.{account_is, account_is_itself}, Lists_found.few_pass}
use Rattle.gx_desk.specs.declared.{Action.Action, Command.Command}
use Rattle.gx_policy.specs.{declared.{policy.{Account.Account, PolicyData.PolicyData, Role.Role}, rule_name.RuleName.TheVariants.G1}, People.{account_named, covers, is_officer, role_in}}
use Rattle.gx_history.specs.{declared.«record».{Asked.Asked, RecordData.RecordData, Request.Request, Step.Step, Verdict.Verdict}, Asking.{are_his, facts, has_power, is_on_line}, InForce.{is_untouched, line_of}, Rules.forbids, Verdicts.{IsLegal, facts_now, next}, World.{World, world_after_command, world}, Reserved.{can_be_killed, is_fully_killed, can_kill, kills_left, may_kill, most_kills}}
use Rattle.gx_laws.proofs.{Requests_judged.is_no_bar, Commands_allowed.{changes_something, has_the_accounts, has_the_power, names_are_known}, World_kinds.kills_leave_the_others, Commands_granted.{GrantsCommand, grants_the_command}, Lists_counted.{fewer_pass, one_less_passes}}

-- each account that was killed with nobody having lifted it is so still
abbrev pub StayKilled : World → World → Type 0
StayKilled before after = (account : AccountName) → is_untouched (before.kills account) ≡ true → is_untouched (after.kills account) ≡ true

-- a Lift
abbrev pub lifts : Action → Bool
lifts (Action.Lift account) = true
lifts other = false

-- any other command lifts none
pub commands_lift_none : (policy : PolicyData) (r : RecordData) (officer : UserName) (c : Command) (w : World) (action : Action) → lifts action ≡ false → StayKilled w (world_after_command policy r officer c action w)
commands_lift_none policy r officer c w (Action.Kill named) none account h = at (same_account named account)
  where
    at : (b : Bool) → is_untouched (if b then Some [] else w.kills account) ≡ true
    at true = refl
    at false = h
commands_lift_none policy r officer c w (Action.Lift named) none account h = cc
commands_lift_none policy r officer c w (Action.SetLimit rule limit) none account h = h
commands_lift_none policy r officer c w (Action.Restrict rule stock) none account h = h
commands_lift_none policy r officer c w (Action.Unrestrict rule stock) none account h = h
commands_lift_none policy r officer c w (Action.Grant reader named) none account h = h
commands_lift_none policy r officer c w (Action.Revoke reader named) none account h = h
commands_lift_none policy r officer c w Action.CloseDay none account h = h

-- what was not passed before is not passed after
left_before : (m k l : Bool) → (k ≡ true → l ≡ true) → (m && not l) ≡ true → (m && not k) ≡ true
left_before false k l h e = e
left_before true false l h e = refl
left_before true true l h e = let clash : false ≡ true = sym (ap not (h refl)) ∙ e in clash

pub fewer_kills_left : (policy : PolicyData) (before after : List RecordData) (user : UserName) → StayKilled (world policy before) (world policy after) → kills_left policy after user ≤ kills_left policy before user
fewer_kills_left policy before after user stay =
    fewer_pass (can_kill policy before user) (can_kill policy after user)
    (λ (a : Account) h. left_before (may_kill (role_in policy.users user) a.name) (is_fully_killed policy before a.name) (is_fully_killed policy after a.name) (stay a.name) h)
    policy.accounts

pub fewer_alive : (policy : PolicyData) (before after : List RecordData) → StayKilled (world policy before) (world policy after)
    → length (filter (can_be_killed policy after) policy.accounts) ≤ length (filter (can_be_killed policy before) policy.accounts)
fewer_alive policy before after stay =
    fewer_pass (can_be_killed policy before) (can_be_killed policy after)
    (λ (a : Account) h. left_before true (is_fully_killed policy before a.name) (is_fully_killed policy after a.name) (stay a.name) h)
    policy.accounts

-- an officer who has the power and the account may kill it
may : (policy : PolicyData) (history : List RecordData) (role : Option Role) (account : AccountName)
    → has_power role (Action.Kill account) ≡ true → are_his policy history role (Action.Kill account) ≡ true → may_kill role account ≡ true
may policy history (Some (Role.Officer powers scope)) account power his = ap (λ b. b && covers scope account) power ∙ his
may policy history (Some (Role.Trader other)) account power his = cc
may policy history (Some (Role.Reader names)) account power his = cc
may policy history None account power his = cc

-- what a granted Kill finds
pub record Kills (policy : PolicyData) (history : List RecordData) (r : RecordData) (a : Asked) (account : AccountName) : Type 0 where
  pub is_known : is_some (account_named policy account) ≡ true
  pub may : may_kill (role_in policy.users a.user) account ≡ true
  pub was_alive : is_fully_killed policy history account ≡ false
  pub is_whole_now : is_fully_killed policy (history ++ r ∷ []) account ≡ true
  pub stay : StayKilled (world policy history) (world policy (history ++ r ∷ []))

pub kill_finds : {policy : PolicyData} {history : List RecordData} (a : Asked) (r : RecordData) (c : Command) (account : AccountName) → IsLegal policy history → next policy history (Step.Asked a) ≡ Some r
    → r.verdict ≡ Verdict.Granted → a.request ≡ Request.Command c → c.action ≡ Action.Kill account → Kills policy history r a account
kill_finds {policy} {history} a r c account legal left granted asks is =
    let g : GrantsCommand r a (Action.Kill account) = grants_the_command policy history a r c (Action.Kill account) left asks is granted in
    let w : World = world policy history in
    let now : world policy (history ++ r ∷ []) ≡ _ = kills_leave_the_others c account is policy history a r legal left asks granted in
    record {
      is_known = names_are_known policy history a r (Action.Kill account) g left;
      may = may policy history (role_in policy.users a.user) account (has_the_power policy history a r (Action.Kill account) g left) (has_the_accounts policy history a r (Action.Kill account) g left);
      was_alive = not-true (is_fully_killed policy history account) (changes_something policy history a r (Action.Kill account) g left);
      is_whole_now = ap (λ (after : World). is_untouched (after.kills account)) now ∙ ap (λ b. is_untouched (if b then Some [] else w.kills account)) (account_is_itself account);
      stay = subst (StayKilled w) (sym now) (commands_lift_none policy r a.user c w (Action.Kill account) refl);
    }

pub there : {X : Type 0} (found : Option X) → is_some found ≡ true → (x : X) × (found ≡ Some x)
there None h = cc
there (Some x) h = (x, refl)

-- one account less is left to the officer
pub one_kill_less : {policy : PolicyData} {history : List RecordData} (r : RecordData) (a : Asked) (account : AccountName) → Kills policy history r a account
    → kills_left policy (history ++ r ∷ []) a.user + 1 ≤ kills_left policy history a.user
one_kill_less {policy} {history} r a account k =
    let it = there (account_named policy account) k.is_known in
    one_less_passes (can_kill policy history a.user) (can_kill policy (history ++ r ∷ []) a.user) (λ (x : Account). same_account x.name account)
    (λ (x : Account) h. left_before (may_kill (role_in policy.users a.user) x.name) (is_fully_killed policy history x.name) (is_fully_killed policy (history ++ r ∷ []) x.name) (k.stay x.name) h)
    (λ (x : Account) h. this x (account_is x.name account h)) policy.accounts it.0 it.1
  where
    passes : Bool → Bool → Bool
    passes m killed = m && not killed

    this : (x : Account) → x.name ≡ account → (can_kill policy history a.user x ≡ true) × (can_kill policy (history ++ r ∷ []) a.user x ≡ false)
    this x is = (
      ap (λ (n : AccountName). may_kill (role_in policy.users a.user) n && not (is_fully_killed policy history n)) is
          ∙ ap (λ b. b && not (is_fully_killed policy history account)) k.may ∙ ap not k.was_alive,
      ap (λ (n : AccountName). may_kill (role_in policy.users a.user) n && not (is_fully_killed policy (history ++ r ∷ []) n)) is
          ∙ ap (λ b. b && not (is_fully_killed policy (history ++ r ∷ []) account)) k.may ∙ ap not k.is_whole_now,
    )

-- and one less is alive
pub one_less_alive : {policy : PolicyData} {history : List RecordData} (r : RecordData) (a : Asked) (account : AccountName) → Kills policy history r a account
    → length (filter (can_be_killed policy (history ++ r ∷ [])) policy.accounts) + 1 ≤ length (filter (can_be_killed policy history) policy.accounts)
one_less_alive {policy} {history} r a account k =
    let it = there (account_named policy account) k.is_known in
    one_less_passes (can_be_killed policy history) (can_be_killed policy (history ++ r ∷ [])) (λ (x : Account). same_account x.name account)
    (λ (x : Account) h. left_before true (is_fully_killed policy history x.name) (is_fully_killed policy (history ++ r ∷ []) x.name) (k.stay x.name) h)
    (λ (x : Account) h. let is : x.name ≡ account = account_is x.name account h in (
      ap (λ (n : AccountName). not (is_fully_killed policy history n)) is ∙ ap not k.was_alive,
      ap (λ (n : AccountName). not (is_fully_killed policy (history ++ r ∷ []) n)) is ∙ ap not k.is_whole_now,
    )) policy.accounts it.0 it.1

-- there are never more for him than all, and none for who is no officer
pub no_more_kills : (policy : PolicyData) (history : List RecordData) (user : UserName) → kills_left policy history user ≤ most_kills policy user
no_more_kills policy history user = by (is_officer (role_in policy.users user)) refl
  where
    none : (role : Option Role) → is_officer role ≡ false → (accounts : List Account) → length (filter (λ (a : Account). may_kill role a.name && not (is_fully_killed policy history a.name)) accounts) ≤ 0
    none (Some (Role.Officer powers scope)) h accounts = cc
    none (Some (Role.Trader other)) h [] = omega arith
    none (Some (Role.Trader other)) h (a ∷ accounts) = none (Some (Role.Trader other)) h accounts
    none (Some (Role.Reader names)) h [] = omega arith
    none (Some (Role.Reader names)) h (a ∷ accounts) = none (Some (Role.Reader names)) h accounts
    none None h [] = omega arith
    none None h (a ∷ accounts) = none None h accounts

    by : (b : Bool) → is_officer (role_in policy.users user) ≡ b → kills_left policy history user ≤ cond b (length policy.accounts) 0
    by true is = few_pass (can_kill policy history user) policy.accounts
    by false is = none (role_in policy.users user) is policy.accounts

-- ---- who is logged in

on_this_line : (policy : PolicyData) (history : List RecordData) (a : Asked) → (facts_now policy history a).is_on_this_line ≡ is_on_line (line_of history a.user) a.line
unfolding facts
on_this_line policy history a = refl

-- who is granted a Logout is on a line
pub was_on : (policy : PolicyData) (history : List RecordData) (a : Asked) (r : RecordData)
    → next policy history (Step.Asked a) ≡ Some r → r.verdict ≡ Verdict.Granted → a.request ≡ Request.Logout → is_some (line_of history a.user) ≡ true
was_on policy history a r left granted asks =
    on (line_of history a.user)
    (sym (on_this_line policy history a)
    ∙ not-false (facts_now policy history a).is_on_this_line (sym (ap (forbids G1 (facts_now policy history a)) asks) ∙ is_no_bar policy history a r left granted G1))
  where
    on : (line : Option ℕ) → is_on_line line a.line ≡ true → is_some line ≡ true
    on None h = h
    on (Some n) h = refl
