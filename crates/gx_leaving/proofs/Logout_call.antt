-- A user who is logged in on a line is logged out there.
use Rattle.std.proofs.{Common.{◌≡◌, ℕ, ◌+◌, ◌<◌, ◌≤◌, Bool, cond, true, false, List, [], ◌∷◌, ◌++◌, length, take, get_or, Some, None, Result, Ok, Err, IfOk, is_ok, refl, sym, ap, ◌∙◌, subst, append_assoc, arith, length-append}, lemmas.List.take_more}
use Rattle.std.specs.{Prelude.◌&&◌, Option.option_map_or, List.AllByRecursion}
use Rattle.gx_units.specs.{Spelling.folded_user, Names.{same_token, same_user}, declared.names.{Token.Token, UserName.UserName}}
use Rattle.gx_units.proofs.{Names_equal.user_is_itself, Lists_hold.{all_both, all_next}, Test_known.or_not}
use Rattle.gx_policy.specs.declared.policy.{PolicyData.PolicyData, User.User}
use Rattle.gx_history.specs.{declared.«record».{Asked.Asked, RecordData.RecordData, Request.Request, Step.Step, Verdict.Verdict}, InForce.line_of, Orders.{asks_under, record_uses, uses_token}, Requests.{asked_of, new_token}, Verdicts.{IsLegal, last_moment, next, verdict}, World.{World, world}, Reserved.is_never_refused}
use Rattle.gx_laws.proofs.{Logouts_granted.logouts_are_granted, Runs_legal.step_left, World_kinds.logouts_put_off}
use Rattle.gx_access_gate.specs.{declared.outcome.{Outcome.Outcome, StepFault.StepFault}, Gates.{GateData, left_by}, Steps.{never_refuses, next_of, verdict_of, with_record}}
use Rattle.gx_door.specs.Acts.{asked_on}
use Rattle.gx_leaving.specs.Logouts.{AddsLogouts, IsGrantedLogout, IsOff, LeavesLine}

-- No rule forbids the Logout of a user who is on his line.
logout_is_granted : (policy : PolicyData) (history : List RecordData) (line : ℕ) (user : UserName) (moment : ℕ) → line_of history (folded_user user) ≡ Some line
    → verdict policy history (asked_on line user Request.Logout moment) ≡ Verdict.Granted
logout_is_granted policy history line user moment on = logouts_are_granted policy history line (folded_user user) moment on

-- It uses no token.
no_token : (b c : Bool) → (b && (c && false)) ≡ false
no_token true true = refl
no_token true false = refl
no_token false c = refl

uses_none : (a : Asked) (r : RecordData) (user : UserName) (token : Token) → r.step ≡ Step.Asked a → a.request ≡ Request.Logout → record_uses user token r ≡ false
uses_none a r user token step_is asks =
    ap (λ (s : Step). uses_token r.verdict && option_map_or (asks_under user token) (asked_of s) false) step_is
    ∙ ap (λ (q : Request). uses_token r.verdict && (same_user a.user user && option_map_or (λ (t : Token). same_token t token) (new_token q) false)) asks
    ∙ no_token (uses_token r.verdict) (same_user a.user user)

put_off : {policy : PolicyData} {history : List RecordData} (a : Asked) (r : RecordData) → IsLegal policy history → next policy history (Step.Asked a) ≡ Some r → a.request ≡ Request.Logout → r.verdict ≡ Verdict.Granted
    → LeavesLine policy history (history ++ r ∷ []) a.user
put_off {policy} {history} a r legal left asks granted =
    let w : World = world policy history in
    let put : world policy (history ++ r ∷ []) ≡ _ = logouts_put_off policy history a r left asks granted in
    record {
      line_now = ap (λ (x : World). x.lines a.user) put ∙ ap (λ (b : Bool). cond b None (line_of history a.user)) (user_is_itself a.user);
      lines_kept = λ other differs. ap (λ (x : World). x.lines other) put ∙ ap (λ (b : Bool). cond b None (line_of history other)) differs;
      rest_kept = λ i. record (put i) {
        count = length (history ++ r ∷ []);
        moment = last_moment (history ++ r ∷ []);
        lines = line_of (history ++ r ∷ []);
        tokens = λ user token. (ap (λ (x : World). x.tokens user token) put ∙ or_not (w.tokens user token) (record_uses user token r) (uses_none a r user token (step_left policy history (Step.Asked a) r left) asks)) i;
      };
    }

-- its step
record LogsOut (handed : ℕ) (old new : GateData) (user : UserName) : Type 0 where
  added : AddsLogouts handed old.records new.records
  left : LeavesLine old.policy old.records new.records user

by_step : (old new : GateData) (a : Asked) (r : Result Outcome StepFault) → IsLegal old.policy old.records → a.request ≡ Request.Logout → verdict_of old a ≡ Verdict.Granted
    → (never_refuses old a ≡ true → is_ok r ≡ true) → IfOk r (λ o. next_of old a ≡ Some (left_by a o)) → IfOk r (λ o. o.verdict ≡ verdict_of old a)
    → IfOk r (λ o. new.records ≡ with_record old a o) → LogsOut a.handed old new a.user
by_step old new a (Ok o) legal asks grants sure next given grown = record {
  added = record {
    added = left_by a o ∷ [];
    logouts = (record { asked = a; step_is = refl; request_is = asks; handed_is = refl; granted = given ∙ grants }, tt);
    grown = grown;
  };
  left = subst (λ (records : List RecordData). LeavesLine old.policy old.records records a.user) (sym grown)
      (put_off a (left_by a o) legal next asks (given ∙ grants));
}
by_step old new a (Err e) legal asks grants sure next given grown =
    let places : never_refuses old a ≡ true = λ i. is_never_refused (asks i) (grants i) in
    let clash : false ≡ true = sure places in cc

logs_out : (old new : GateData) (line : ℕ) (user : UserName) (moment : ℕ) (asked : Asked) (r : Result Outcome StepFault) → IsLegal old.policy old.records → line_of old.records (folded_user user) ≡ Some line
    → asked ≡ asked_on line user Request.Logout moment → (never_refuses old asked ≡ true → is_ok r ≡ true) → IfOk r (λ o. next_of old asked ≡ Some (left_by asked o))
    → IfOk r (λ o. o.verdict ≡ verdict_of old asked) → IfOk r (λ o. new.records ≡ with_record old asked o) → LogsOut moment old new (folded_user user)
logs_out old new line user moment asked r legal on is sure next given grown =
    let request_is : asked.request ≡ Request.Logout = ap (λ (a : Asked). a.request) is in
    let grants : verdict_of old asked ≡ Verdict.Granted = ap (verdict_of old) is ∙ logout_is_granted old.policy old.records line user moment on in
    subst (λ (a : Asked). LogsOut a.handed old new a.user) is (by_step old new asked r legal request_is grants sure next given grown)

pub adds_logout : (old new : GateData) (line : ℕ) (user : UserName) (moment : ℕ) (asked : Asked) (r : Result Outcome StepFault) → IsLegal old.policy old.records → line_of old.records (folded_user user) ≡ Some line
    → asked ≡ asked_on line user Request.Logout moment → (never_refuses old asked ≡ true → is_ok r ≡ true) → IfOk r (λ o. next_of old asked ≡ Some (left_by asked o))
    → IfOk r (λ o. o.verdict ≡ verdict_of old asked) → IfOk r (λ o. new.records ≡ with_record old asked o) → AddsLogouts moment old.records new.records
adds_logout old new line user moment asked r legal on is sure next given grown = (logs_out old new line user moment asked r legal on is sure next given grown).added

pub leaves_line : (old new : GateData) (line : ℕ) (user : UserName) (moment : ℕ) (asked : Asked) (r : Result Outcome StepFault) → IsLegal old.policy old.records → line_of old.records (folded_user user) ≡ Some line
    → asked ≡ asked_on line user Request.Logout moment → (never_refuses old asked ≡ true → is_ok r ≡ true) → IfOk r (λ o. next_of old asked ≡ Some (left_by asked o))
    → IfOk r (λ o. o.verdict ≡ verdict_of old asked) → IfOk r (λ o. new.records ≡ with_record old asked o) → LeavesLine old.policy old.records new.records (folded_user user)
leaves_line old new line user moment asked r legal on is sure next given grown = (logs_out old new line user moment asked r legal on is sure next given grown).left

-- What was added.

pub adds_more : (handed : ℕ) (a b c : List RecordData) → AddsLogouts handed a b → AddsLogouts handed b c → AddsLogouts handed a c
adds_more handed a b c first then = record {
  added = first.added ++ then.added;
  logouts = all_both (IsGrantedLogout handed) first.added then.added first.logouts then.logouts;
  grown = then.grown ∙ ap (λ (records : List RecordData). records ++ then.added) first.grown ∙ append_assoc a first.added then.added;
}

pub longer : (handed : ℕ) (before after : List RecordData) → AddsLogouts handed before after → length before ≤ length after
longer handed before after logouts = omega (arith, ap length logouts.grown, length-append before logouts.added)

-- Each of the users so far is off.

abbrev Off : List RecordData → User → Type 0
Off records u = IsOff records (folded_user u.name)

still : {X : Type 0} (P Q : X → Type 0) (xs : List X) → ((x : X) → P x → Q x) → AllByRecursion P xs → AllByRecursion Q xs
still P Q [] keep h = tt
still P Q (x ∷ xs) keep h = (keep x h.0, still P Q xs keep h.1)

pub one_more_off : (before after : List RecordData) (users : List User) (i : ℕ) (u d : User) → i < length users → u ≡ get_or users i d → AllByRecursion (Off before) (take i users)
    → ((other : UserName) → IsOff before other → IsOff after other) → IsOff after (folded_user u.name) → AllByRecursion (Off after) (take (i + 1) users)
one_more_off before after users i u d within is so_far keep off =
    subst (AllByRecursion (Off after)) (sym (take_more users i d within ∙ ap (λ (x : User). take i users ++ x ∷ []) (sym is)))
    (all_next (Off after) (take i users) u (still (Off before) (Off after) (take i users) (λ x h. keep (folded_user x.name) h) so_far) off)
