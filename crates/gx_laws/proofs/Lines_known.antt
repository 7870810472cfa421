-- Who is granted a Login is known, and who is not known is on no line.
use Rattle.std.proofs.{Common.{◌≡◌, Bool, true, false, List, [], ◌∷◌, ◌++◌, refl, ◌∙◌, sym, ap, ℕ}, lemmas.Bool.{not-false, and_parts}}
use Rattle.std.specs.Prelude.{Option, Some, None, option_and_then, unwrap_or, is_some}
use Rattle.gx_units.specs.{Names.{same_user}, declared.names.{UserName.UserName}}
use Rattle.gx_units.proofs.Names_equal.{user_is}
use Rattle.gx_desk.specs.declared.{Command.Command}
use Rattle.gx_policy.specs.{declared.{policy.{PolicyData.PolicyData}, rule_name.RuleName.TheVariants.{L1, Q1}}, Lists.where_true, People.{user_in}}
use Rattle.gx_history.specs.{declared.«record».{Asked.Asked, Login.Login, RecordData.RecordData, Request.Request, Step.Step, Verdict.Verdict}, Asking.{facts, knows_names, knows_user, of_command}, InForce.{line_by, line_of}, Requests.{granted_of}, Rules.forbids, Verdicts.{Follows, IsLegal, facts_now, next}}
use Rattle.gx_laws.proofs.{Requests_judged.{legal_keeps, is_no_bar}, InForce_next.{line_of_next, line_of_none}, Orders_listed.was_granted}

may_log_in_is : (policy : PolicyData) (history : List RecordData) (a : Asked) → (facts_now policy history a).may_log_in ≡ knows_user policy a.user a.request
unfolding facts
may_log_in_is policy history a = refl

names_are_known_is : (policy : PolicyData) (history : List RecordData) (a : Asked) → (facts_now policy history a).names_are_known ≡ of_command (knows_names policy history) a.request
unfolding facts
names_are_known_is policy history a = refl

-- who is granted a Login is known
login_is_known : (policy : PolicyData) (history : List RecordData) (a : Asked) (r : RecordData) (m : Login)
    → next policy history (Step.Asked a) ≡ Some r → r.verdict ≡ Verdict.Granted → a.request ≡ Request.Login m → is_some (user_in policy.users a.user) ≡ true
login_is_known policy history a r m e granted_of asks =
    (and_parts m.password_is_right (is_some (user_in policy.users a.user))
    (sym (ap (knows_user policy a.user) asks)
    ∙ sym (may_log_in_is policy history a)
    ∙ not-false (facts_now policy history a).may_log_in (sym (ap (forbids L1 (facts_now policy history a)) asks) ∙ is_no_bar policy history a r e granted_of L1))).1

-- the names of a granted command are known
pub command_is_known : (policy : PolicyData) (history : List RecordData) (a : Asked) (r : RecordData) (c : Command)
    → next policy history (Step.Asked a) ≡ Some r → r.verdict ≡ Verdict.Granted → a.request ≡ Request.Command c → knows_names policy history c.action ≡ true
command_is_known policy history a r c e granted_of asks =
    sym (ap (of_command (knows_names policy history)) asks)
    ∙ sym (names_are_known_is policy history a)
    ∙ not-false (facts_now policy history a).names_are_known (sym (ap (forbids Q1 (facts_now policy history a)) asks) ∙ is_no_bar policy history a r e granted_of Q1)

-- a user who is not known is on no line
abbrev pub OnNoLine : PolicyData → List RecordData → Type 0
OnNoLine policy history = (user : UserName) → is_some (user_in policy.users user) ≡ false → line_of history user ≡ None

off_line_next : (policy : PolicyData) (history : List RecordData) (r : RecordData) → OnNoLine policy history → Follows policy (history, r) → OnNoLine policy (history ++ r ∷ [])
off_line_next policy history r before follows user unknown = line_of_next history r user ∙ by_grant (granted_of r) refl
  where
    was_off : line_of history user ≡ None
    was_off = before user unknown

    by_login : (a : Asked) → is_some (user_in policy.users a.user) ≡ true → (b : Bool) → same_user a.user user ≡ b → unwrap_or (where_true b (Some a.line)) (line_of history user) ≡ None
    by_login a known true is =
        let clash : true ≡ false = sym known ∙ ap (λ (name : UserName). is_some (user_in policy.users name)) (user_is a.user user is) ∙ unknown in
        cc
    by_login a known false is = was_off

    by_logout : (b : Bool) → let off : Option ℕ = None in unwrap_or (where_true b off) (line_of history user) ≡ off
    by_logout true = refl
    by_logout false = was_off

    by_request : (a : Asked) → next policy history (Step.Asked a) ≡ Some r → r.verdict ≡ Verdict.Granted → (q : Request) → a.request ≡ q
        → unwrap_or (line_by user a q) (line_of history user) ≡ None
    by_request a left v (Request.Login m) asks = by_login a (login_is_known policy history a r m left v asks) (same_user a.user user) refl
    by_request a left v Request.Logout asks = by_logout (same_user a.user user)
    by_request a left v (Request.Unreadable m) asks = was_off
    by_request a left v (Request.Enter m) asks = was_off
    by_request a left v (Request.Replace m) asks = was_off
    by_request a left v (Request.Cancel m) asks = was_off
    by_request a left v (Request.Command c) asks = was_off

    by_grant : (found : Option Asked) → granted_of r ≡ found → unwrap_or (option_and_then (λ (a : Asked). line_by user a a.request) (granted_of r)) (line_of history user) ≡ None
    by_grant None g = ap (λ (x : Option Asked). unwrap_or (option_and_then (λ (a : Asked). line_by user a a.request) x) (line_of history user)) g ∙ was_off
    by_grant (Some a) g =
        let was : (r.step ≡ Step.Asked a) × (r.verdict ≡ Verdict.Granted) = was_granted r.verdict r.step a g in
        ap (λ (x : Option Asked). unwrap_or (option_and_then (λ (y : Asked). line_by user y y.request) x) (line_of history user)) g
        ∙ by_request a (sym (ap (next policy history) was.0) ∙ follows.is_next) was.1 a.request refl

pub unknown_on_no_line : {policy : PolicyData} {history : List RecordData} → IsLegal policy history → OnNoLine policy history
unknown_on_no_line {policy} legal = legal_keeps (OnNoLine policy) (λ user unknown. line_of_none user) (off_line_next policy) legal
