-- The login of somebody who has no user's password.
use Rattle.std.proofs.{Common.{◌≡◌, ℕ, ◌+◌, Bool, true, false, List, [], ◌∷◌, ◌++◌, length, length-append, Option, Some, None, if◌then◌else◌, refl, sym, ap, subst, ◌∙◌}, lemmas.Bool.and_parts}
use Rattle.std.specs.{Prelude.◌&&◌}
use Rattle.gx_units.specs.{declared.names.{LoginRejection.LoginRejection, Password.Password, SessionName.SessionName, UserName.UserName}, Spelling.{folded_password, folded_session, folded_user}}
use Rattle.gx_policy.specs.{declared.{policy.PolicyData.PolicyData, rule_name.RuleName.RuleName}, RuleNames.rules_before}
use Rattle.gx_history.specs.{declared.record.{Asked.Asked, Login.Login, RecordData.RecordData, Request.Request, Verdict.Verdict}, Asking.facts, Logins.{password_is, session_is}, Rules.{first_forbidding, written_order}, Verdicts.{IsLegal, next, step_verdict, verdict}}
use Rattle.gx_laws.proofs.Streams_next.{legal_before}
use Rattle.gx_access_gate.specs.{declared.outcome.{LoginAnswer.LoginAnswer, Outcome.Outcome}, Gates.left_by, Logins.login_answered}
use Rattle.gx_pass.specs.{declared.view.LineView.LineView, Views.mine}
use Rattle.gx_door.specs.{Acts.{IsLater, login_on, LogsIn}, Callers.caller_of, declared.caller.Caller.Caller}
use Rattle.gx_reception.specs.Denials.{are_denied, is_denied_login, is_denied_by_password}

IsStranger : Caller → Type 0
IsStranger Caller.Trader = ⊥
IsStranger Caller.Staff = ⊥
IsStranger Caller.Stranger = Unit {0}

has_none : (right trader : Bool) → (if right then (if trader then Caller.Trader else Caller.Staff) else Caller.Stranger) ≡ Caller.Stranger → right ≡ false
unfolding IsStranger
has_none false trader is = refl
has_none true true is = absurd (subst IsStranger (sym is) tt)
has_none true false is = absurd (subst IsStranger (sym is) tt)

-- the first rule asks for the password
denied_first : (policy : PolicyData) (history : List RecordData) (line : ℕ) (user : UserName) (session : Bool) (wanted moment : ℕ)
    → verdict policy history (record { line = line; user = user; request = Request.Login (record { password_is_right = false; session_is_right = session; wanted = wanted }); handed = moment }) ≡ Verdict.Denied RuleName.L1
unfolding verdict first_forbidding written_order rules_before facts
denied_first policy history line user session wanted moment = refl

verdict_in : Option RecordData → Verdict
verdict_in None = Verdict.Granted
verdict_in (Some r) = r.verdict

-- what a legal history ends with was judged on what stands before
judged : {policy : PolicyData} (earlier : List RecordData) (a : Asked) (o : Outcome) → IsLegal policy (earlier ++ left_by a o ∷ []) → verdict policy earlier a ≡ o.verdict
unfolding next step_verdict verdict_in
judged earlier a o legal = ap verdict_in (legal_before earlier (left_by a o) legal).1.is_next

-- the login of a stranger
asked : UserName → Bool → Bool → ℕ → ℕ → ℕ → Asked
asked user right session wanted line moment =
    record { line = line; user = folded_user user; request = Request.Login (record { password_is_right = right; session_is_right = session; wanted = wanted }); handed = moment }

-- it is denied by the rule that asks for the password
pub stranger_is_denied : {policy : PolicyData} (was is : LineView) (user : UserName) (given : Password) (session : SessionName) (wanted moment : ℕ) (answer : LoginAnswer) (l : LogsIn policy was is (login_on policy was.line user given session wanted moment) wanted answer)
    → IsLater policy was is → caller_of policy user given ≡ Caller.Stranger → l.outcome.verdict ≡ Verdict.Denied RuleName.L1
unfolding asked
stranger_is_denied {policy} was is user given session wanted moment answer l later stranger =
    let right : Bool = password_is policy.users (folded_user user) (folded_password given) in
    let named : Bool = session_is policy (folded_session session) in
    let wrong : right ≡ false = has_none right _ stranger in
    let last = l.adds.last in
    sym (judged last.earlier (asked user right named wanted was.line moment) l.outcome (subst (IsLegal policy) last.front later.legal))
    ∙ ap (λ b. verdict policy last.earlier (asked user b named wanted was.line moment)) wrong
    ∙ denied_first policy last.earlier was.line (folded_user user) named wanted moment

all_denied : (records : List RecordData) (r : RecordData) → are_denied records ≡ true → is_denied_login r ≡ true → are_denied (records ++ r ∷ []) ≡ true
all_denied [] r before last = ap (λ b. b && true) last
all_denied (x ∷ records) r before last = let each = and_parts (is_denied_login x) (are_denied records) before in
    ap (λ b. b && are_denied (records ++ r ∷ [])) each.0 ∙ all_denied records r each.1 last

-- one more login of a stranger on the line
pub more_denied : (policy : PolicyData) (was is : LineView) (user : UserName) (given : Password) (session : SessionName) (wanted moment : ℕ) (answer : LoginAnswer) → LogsIn policy was is (login_on policy was.line user given session wanted moment) wanted answer
    → IsLater policy was is → caller_of policy user given ≡ Caller.Stranger → are_denied (mine was) ≡ true → are_denied (mine is) ≡ true
more_denied policy was is user given session wanted moment answer l later stranger before =
    let a : Asked = login_on policy was.line user given session wanted moment in
    ap are_denied l.adds.own
    ∙ all_denied (mine was) (left_by a l.outcome) before (ap is_denied_by_password (stranger_is_denied was is user given session wanted moment answer l later stranger))

-- and what he is told
pub stranger_is_told : (policy : PolicyData) (was is : LineView) (user : UserName) (given : Password) (session : SessionName) (wanted moment : ℕ) (answer : LoginAnswer) → LogsIn policy was is (login_on policy was.line user given session wanted moment) wanted answer
    → IsLater policy was is → caller_of policy user given ≡ Caller.Stranger → answer ≡ LoginAnswer.Rejected LoginRejection.NotAuthorized
stranger_is_told policy was is user given session wanted moment answer l later stranger =
    l.told ∙ ap (login_answered policy is.front (folded_user user) wanted) (stranger_is_denied was is user given session wanted moment answer l later stranger)

-- and it is one more
pub one_more : (policy : PolicyData) (was is : LineView) (user : UserName) (given : Password) (session : SessionName) (wanted moment : ℕ) (answer : LoginAnswer) → LogsIn policy was is (login_on policy was.line user given session wanted moment) wanted answer
    → length (mine is) ≡ length (mine was) + 1
one_more policy was is user given session wanted moment answer l = ap length l.adds.own ∙ length-append (mine was) (left_by (login_on policy was.line user given session wanted moment) l.outcome ∷ [])
