-- A kill ends by the granted Lift of the last officer, and by nothing else.
use Rattle.std.proofs.{Common.{◌≡◌, ◌+◌, Bool, true, false, List, [], ◌∷◌, ◌++◌, refl, ◌∙◌, ap, sym, cond, length}, Math.Path.subst, lemmas.Option.same_Some}
use Rattle.std.specs.{Prelude.{Option, Some, None, is_some, option_and_then, ◌&&◌, ◌||◌}, List.AllByRecursion}
use Rattle.gx_units.specs.{declared.names.{AccountName.AccountName, UserName.UserName}, Names.{same_account, same_user}}
use Rattle.gx_units.proofs.Names_equal.{account_is}
use Rattle.gx_desk.specs.declared.Action.{Action}
use Rattle.gx_policy.specs.{declared.policy.{Lifters.Lifters, PolicyData.PolicyData, Role.Role}, Lists.{is_shorter, where_true}, People.{covers, role_in}}
use Rattle.gx_history.specs.{declared.record.{Asked.Asked, RecordData.RecordData, Step.Step, Verdict.Verdict}, Asking.{has_power, are_his}, InForce.{fewer_than, has_lifted, is_killed, kill_after, kill_in_force, kill_or_lift_of, lifted_since_kill, lifters_asked, with_officer}, Requests.{asked_of, granted_of, granted_mark, is_granted, action_of}, Verdicts.{next, Follows, IsLegal}}
use Rattle.gx_laws.proofs.{Requests_judged.legal_keeps, Kills_next.{is_killed_next, kill_in_force_next, kill_in_force_none}, Commands_allowed.{has_the_power, has_the_accounts}, Commands_granted.{GrantsCommand, grants_command, asks_action}}
use Rattle.gx_laws.specs.Lifts.{EndsKill, IsEntitled, IsGrantedLift, may_lift}

-- what a granted record has
granted_parts : (r : RecordData) (a : Asked) → granted_of r ≡ Some a → (r.verdict ≡ Verdict.Granted) × (r.step ≡ Step.Asked a)
granted_parts r a h = by_verdict r.verdict refl
  where
    by_step : (s : Step) → r.step ≡ s → r.verdict ≡ Verdict.Granted → asked_of s ≡ Some a → (r.verdict ≡ Verdict.Granted) × (r.step ≡ Step.Asked a)
    by_step (Step.Asked b) e g k = (g, e ∙ ap (λ (x : Asked). Step.Asked x) (same_Some _ _ k))
    by_step (Step.Matching handed) e g k = cc

    asked_in : (v : Verdict) → r.verdict ≡ v → cond (is_granted v) (asked_of r.step) None ≡ Some a
    asked_in v e = sym (ap (λ (w : Verdict). cond (is_granted w) (asked_of r.step) None) e) ∙ h

    by_verdict : (v : Verdict) → r.verdict ≡ v → (r.verdict ≡ Verdict.Granted) × (r.step ≡ Step.Asked a)
    by_verdict Verdict.Granted e = by_step r.step refl e (asked_in Verdict.Granted e)
    by_verdict (Verdict.Denied rule) e = let no : None ≡ Some a = asked_in (Verdict.Denied rule) e in cc
    by_verdict (Verdict.Filled f) e = let no : None ≡ Some a = asked_in (Verdict.Filled f) e in cc
    by_verdict (Verdict.Rested n) e = let no : None ≡ Some a = asked_in (Verdict.Rested n) e in cc
    by_verdict (Verdict.Expired n) e = let no : None ≡ Some a = asked_in (Verdict.Expired n) e in cc

-- the record is a granted Lift of the account by this officer
record LiftBy (policy : PolicyData) (account : AccountName) (r : RecordData) (officer : UserName) : Type 0 where
  lift : IsGrantedLift policy account r
  is_his : lift.asked.user ≡ officer

-- the officer who gives a command, with his power for it and its accounts in his scope
granted_to_officer : (policy : PolicyData) (history : List RecordData) (a : Asked) (r : RecordData) (account : AccountName) → GrantsCommand r a (Action.Lift account)
    → (role : Option Role) → role_in policy.users a.user ≡ role → has_power role (Action.Lift account) ≡ true → are_his policy history role (Action.Lift account) ≡ true
    → (by : UserName) → a.user ≡ by → LiftBy policy account r by
granted_to_officer policy history a r account g None is power his by name = cc
granted_to_officer policy history a r account g (Some (Role.Trader own)) is power his by name = cc
granted_to_officer policy history a r account g (Some (Role.Reader names)) is power his by name = cc
granted_to_officer policy history a r account g (Some (Role.Officer powers scope)) is power his by name = record {
  lift = record {
    asked = a;
    is_its_step = g.asks;
    is_granted = g.grants;
    is_lift = asks_action r a (Action.Lift account) g;
    powers = powers;
    scope = scope;
    is_officer = is;
    has_power = power;
    has_account = his;
  };
  is_his = name;
}

lifts : (policy : PolicyData) (history : List RecordData) (a : Asked) (r : RecordData) (account : AccountName) → GrantsCommand r a (Action.Lift account)
    → next policy history (Step.Asked a) ≡ Some r → (by : UserName) → a.user ≡ by → LiftBy policy account r by
lifts policy history a r account g left by his =
    granted_to_officer policy history a r account g (role_in policy.users a.user) refl (has_the_power policy history a r (Action.Lift account) g left) (has_the_accounts policy history a r (Action.Lift account) g left) by his

-- what marks the account as lifted is a Lift of it
lift_of : (account : AccountName) (officer by : UserName) (action : Action) → kill_or_lift_of account officer action ≡ Some (Some by) → (action ≡ Action.Lift account) × (officer ≡ by)
lift_of account officer by (Action.Kill named) h = at (same_account named account) h
  where
    at : (b : Bool) → where_true b None ≡ Some (Some by) → (Action.Kill named ≡ Action.Lift account) × (officer ≡ by)
    at true k = cc
    at false k = cc
lift_of account officer by (Action.Lift named) h = at (same_account named account) refl h
  where
    at : (b : Bool) → same_account named account ≡ b → where_true b (Some officer) ≡ Some (Some by) → (Action.Lift named ≡ Action.Lift account) × (officer ≡ by)
    at true e k = (ap (λ (x : AccountName). Action.Lift x) (account_is named account e), same_Some _ _ (same_Some _ _ k))
    at false e k = cc
lift_of account officer by (Action.SetLimit rule limit) h = cc
lift_of account officer by (Action.Restrict rule stock) h = cc
lift_of account officer by (Action.Unrestrict rule stock) h = cc
lift_of account officer by (Action.Grant reader named) h = cc
lift_of account officer by (Action.Revoke reader named) h = cc
lift_of account officer by Action.CloseDay h = cc

lifted_by : {policy : PolicyData} {history : List RecordData} (r : RecordData) (account : AccountName) (by : UserName) → Follows policy (history, r) → granted_mark (kill_or_lift_of account) r ≡ Some (Some by)
    → LiftBy policy account r by
lifted_by {policy} {history} r account by follows h = of_asked (granted_of r) refl h
  where
    of_action : (a : Asked) → granted_of r ≡ Some a → (found : Option Action) → action_of a.request ≡ found → option_and_then (kill_or_lift_of account a.user) found ≡ Some (Some by) → LiftBy policy account r by
    of_action a is None asks k = cc
    of_action a is (Some action) asks k =
        let parts : (r.verdict ≡ Verdict.Granted) × (r.step ≡ Step.Asked a) = granted_parts r a is in
        let left : next policy history (Step.Asked a) ≡ Some r = ap (next policy history) (sym parts.1) ∙ follows.is_next in
        let his : (action ≡ Action.Lift account) × (a.user ≡ by) = lift_of account a.user by action k in
        let lift : action_of a.request ≡ Some (Action.Lift account) = asks ∙ ap (λ (x : Action). Some x) his.0 in
        lifts policy history a r account (grants_command policy history a r (Action.Lift account) left lift parts.0) left by his.1

    of_asked : (found : Option Asked) → granted_of r ≡ found → option_and_then (λ (a : Asked). option_and_then (kill_or_lift_of account a.user) (action_of a.request)) found ≡ Some (Some by)
        → LiftBy policy account r by
    of_asked None is k = cc
    of_asked (Some a) is k = of_action a is (action_of a.request) refl k

-- who lifts an account is entitled to
entitled : {policy : PolicyData} (account : AccountName) (r : RecordData) (officer : UserName) → LiftBy policy account r officer → may_lift (role_in policy.users officer) account ≡ true
entitled {policy} account r officer l =
    ap (λ (name : UserName). may_lift (role_in policy.users name) account) (sym l.is_his)
    ∙ ap (λ (role : Option Role). may_lift role account) l.lift.is_officer
    ∙ ap (λ (b : Bool). b && covers l.lift.scope account) l.lift.has_power
    ∙ l.lift.has_account

-- each of these officers is entitled to lift the account
abbrev AllEntitled : PolicyData → AccountName → List RecordData → Type 0
AllEntitled policy account history = (officers : List UserName) → kill_in_force policy history account ≡ Some officers → AllByRecursion (IsEntitled policy account) officers

one_more : (policy : PolicyData) (account : AccountName) (officers : List UserName) (officer : UserName) → AllByRecursion (IsEntitled policy account) officers → IsEntitled policy account officer
    → AllByRecursion (IsEntitled policy account) (officers ++ officer ∷ [])
one_more policy account [] officer all his = (his, tt)
one_more policy account (first ∷ officers) officer all his = (all.0, one_more policy account officers officer all.1 his)

entitled_next : (policy : PolicyData) (account : AccountName) (history : List RecordData) (r : RecordData) → AllEntitled policy account history → Follows policy (history, r) → AllEntitled policy account (history ++ r ∷ [])
entitled_next policy account history r before follows officers is = at (granted_mark (kill_or_lift_of account) r) refl
  where
    All : List UserName → Type 0
    All found = AllByRecursion (IsEntitled policy account) found

    now : (mark : Option (Option UserName)) → granted_mark (kill_or_lift_of account) r ≡ mark → kill_after policy.lifters mark (kill_in_force policy history account) ≡ Some officers
    now mark e = sym (kill_in_force_next policy history r account ∙ ap (λ (m : Option (Option UserName)). kill_after policy.lifters m (kill_in_force policy history account)) e) ∙ is

    counted : (officer : UserName) (found : List UserName) (b : Bool) → All found → IsEntitled policy account officer → All (cond b found (found ++ officer ∷ []))
    counted officer found true all his = all
    counted officer found false all his = one_more policy account found officer all his

    are_the : (b : Bool) (found : List UserName) → where_true b found ≡ Some officers → found ≡ officers
    are_the true found h = same_Some _ _ h
    are_the false found h = cc

    lifted : (officer : UserName) → IsEntitled policy account officer → (kill : Option (List UserName)) → kill_in_force policy history account ≡ kill
        → kill_after policy.lifters (Some (Some officer)) kill ≡ Some officers → All officers
    lifted officer his None was h = cc
    lifted officer his (Some found) was h =
        subst All (are_the (is_shorter (lifters_asked policy.lifters) (with_officer officer found)) (with_officer officer found) h)
        (counted officer found (has_lifted officer found) (before found was) his)

    at : (mark : Option (Option UserName)) → granted_mark (kill_or_lift_of account) r ≡ mark → All officers
    at None e = before officers (now None e)
    at (Some None) e = subst All (same_Some _ _ (now (Some None) e)) tt
    at (Some (Some officer)) e = lifted officer (entitled account r officer (lifted_by r account officer follows e)) (kill_in_force policy history account) refl (now (Some (Some officer)) e)

-- who have lifted a killed account are fewer than the policy asks for
are_fewer : (policy : PolicyData) (history : List RecordData) (account : AccountName) (officers : List UserName) → kill_in_force policy history account ≡ Some officers
    → is_shorter (lifters_asked policy.lifters) officers ≡ true
unfolding kill_in_force
are_fewer policy history account officers is = of_lifted (lifted_since_kill history account) is
  where
    at : (found : List UserName) (b : Bool) → is_shorter (lifters_asked policy.lifters) found ≡ b → where_true b found ≡ Some officers → is_shorter (lifters_asked policy.lifters) officers ≡ true
    at found true e h = sym (ap (is_shorter (lifters_asked policy.lifters)) (same_Some _ _ h)) ∙ e
    at found false e h = cc

    of_lifted : (lifted : Option (List UserName)) → option_and_then (fewer_than (lifters_asked policy.lifters)) lifted ≡ Some officers → is_shorter (lifters_asked policy.lifters) officers ≡ true
    of_lifted None h = cc
    of_lifted (Some found) h = at found (is_shorter (lifters_asked policy.lifters) found) refl h

-- the Lift that ends a kill is one officer's more, and the last that is asked for
ends_it : (asked : Lifters) (officer : UserName) (others : List UserName) → is_shorter (lifters_asked asked) others ≡ true → is_some (kill_after asked (Some (Some officer)) (Some others)) ≡ false
    → (has_lifted officer others ≡ false) × (length others + 1 ≡ lifters_asked asked)
ends_it Lifters.One officer [] few ended = (refl, refl)
ends_it Lifters.One officer (first ∷ more) few ended = cc
ends_it Lifters.Two officer [] few ended = cc
ends_it Lifters.Two officer (first ∷ []) few ended = by (same_user first officer) ended
  where
    by : (b : Bool) → is_some (fewer_than 2 (cond (b || false) (first ∷ []) (first ∷ officer ∷ []))) ≡ false → ((b || false) ≡ false) × (1 + 1 ≡ 2)
    by true h = cc
    by false h = (refl, refl)
ends_it Lifters.Two officer (first ∷ second ∷ more) few ended = cc

-- a kill ends by the granted Lift of the last officer alone
pub kill_ends_by_lift : (policy : PolicyData) (history : List RecordData) (r : RecordData) (account : AccountName)
    → IsLegal policy history → Follows policy (history, r) → is_killed policy history account ≡ true → is_killed policy (history ++ r ∷ []) account ≡ false → EndsKill policy history account r
kill_ends_by_lift policy history r account legal follows killed ended = at (granted_mark (kill_or_lift_of account) r) refl
  where
    now : (mark : Option (Option UserName)) → granted_mark (kill_or_lift_of account) r ≡ mark → is_some (kill_after policy.lifters mark (kill_in_force policy history account)) ≡ false
    now mark e = sym (is_killed_next policy history r account ∙ ap (λ (m : Option (Option UserName)). is_some (kill_after policy.lifters m (kill_in_force policy history account))) e) ∙ ended

    all : AllEntitled policy account history
    all = legal_keeps (AllEntitled policy account) (λ officers none. never officers (sym (kill_in_force_none policy account) ∙ none)) (entitled_next policy account) legal
      where
        never : (officers : List UserName) → None ≡ Some officers → AllByRecursion (IsEntitled policy account) officers
        never officers h = cc

    last : (officer : UserName) → LiftBy policy account r officer → (kill : Option (List UserName)) → kill_in_force policy history account ≡ kill → is_some kill ≡ true
        → is_some (kill_after policy.lifters (Some (Some officer)) kill) ≡ false → EndsKill policy history account r
    last officer l None was there h = cc
    last officer l (Some others) was there h =
        let ends : (has_lifted officer others ≡ false) × (length others + 1 ≡ lifters_asked policy.lifters) = ends_it policy.lifters officer others (are_fewer policy history account others was) h in
        record {
          lift = l.lift;
          others = others;
          have_lifted = was;
          is_another = ap (λ (name : UserName). has_lifted name others) l.is_his ∙ ends.0;
          are_enough = ends.1;
          are_entitled = all others was;
        }

    at : (mark : Option (Option UserName)) → granted_mark (kill_or_lift_of account) r ≡ mark → EndsKill policy history account r
    at None e = let not_killed : is_killed policy history account ≡ false = now None e in cc
    at (Some None) e = let no : true ≡ false = now (Some None) e in cc
    at (Some (Some officer)) e =
        last officer (lifted_by r account officer follows e) (kill_in_force policy history account) refl killed (now (Some (Some officer)) e)
