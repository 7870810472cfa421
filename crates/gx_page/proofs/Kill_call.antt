-- What becomes of a kill.
use Rattle.std.specs.Prelude.{◌≡◌, ℕ, List, [], Option, Result, Ok, Err, IfErr, IfOk, IfSome, IsSome, OnErr, OnOk}
use Rattle.std.proofs.{Common.{ap, subst, sym, ◌∙◌}, lemmas.List.append-nil}
use mathlib.Core.List.{IsPrefix}
use Rattle.gx_policy.specs.declared.policy.PolicyData.{PolicyData}
use Rattle.gx_desk.specs.declared.Tag.{Tag}
use Rattle.gx_pass.specs.declared.view.LineView.{LineView}
use Rattle.gx_door.specs.Acts.{IsLater}
use Rattle.gx_http.specs.declared.{credentials.Credentials.Credentials, forms.KillForm.KillForm}
use Rattle.gx_button.specs.{declared.steps.{Deed.Deed, Refusal.Refusal}, Steps.{kill_command, IsPermitted, IsRefusal, MakesDeed}}
use Rattle.gx_serve.specs.declared.announcing.EndedOrders.{EndedOrders}
use Rattle.gx_page.specs.Replies.{kill_announced, IsKill, IsKillTold}

pub done_so : {P : Type 0} (held : P → LineView) (policy : PolicyData) (secret : List ℕ) (pass back : P) (caller : Option Credentials) (form : KillForm) (tag : Tag) (done : Result Deed Refusal)
    → IfErr done (IsRefusal policy secret caller form) → OnErr done (back ≡ pass) → OnOk done (IfSome caller (λ who. IsPermitted policy secret who form)) → OnOk done (IsSome caller)
    → IfOk done (λ deed. IfSome caller (λ who. MakesDeed policy (held pass) (held back) who (kill_command tag form.account) deed))
    → IsKill policy secret (held pass) (held back) caller form done
done_so held policy secret pass back caller form tag (Ok deed) refused same permitted named steps = record { tag = tag; named = named; permitted = permitted; steps = steps }
done_so held policy secret pass back caller form tag (Err why) refused same permitted named steps = (refused, ap held same)

-- the pass that comes back from a kill has met all that it had
pub goes_on : {P : Type 0} (held : P → LineView) (policy : PolicyData) (pass back : P) (done : Result Deed Refusal) → OnOk done (IsLater policy (held pass) (held back)) → OnErr done (back ≡ pass)
    → IsPrefix (held pass).front (held back).front
goes_on held policy pass back (Ok deed) later same = later.front
goes_on held policy pass back (Err why) later same = ([], append-nil (held pass).front ∙ ap (λ p. (held p).front) (sym same))

-- the same of a board that had this pass
pub board_goes_on : {P : Type 0} (held : P → LineView) (policy : PolicyData) (board : LineView) (pass back : P) (done : Result Deed Refusal) → held pass ≡ board → OnOk done (IsLater policy (held pass) (held back)) → OnErr done (back ≡ pass)
    → IsPrefix board.front (held back).front
board_goes_on held policy board pass back done is later kept = subst (λ (h : LineView). IsPrefix h.front (held back).front) is (goes_on held policy pass back done later kept)

-- and what was done for a kill
pub told_so : {P : Type 0} (held : P → LineView) (policy : PolicyData) (secret : List ℕ) (board after : LineView) (pass back : P) (caller : Option Credentials) (form : KillForm) (done : Result Deed Refusal)
    (announced : Option EndedOrders) → held pass ≡ board → after ≡ held back → IsKill policy secret (held pass) (held back) caller form done → announced ≡ kill_announced caller form done
    → IsKillTold policy secret board after caller form done announced
told_so held policy secret board after pass back caller form done announced is then kill tells = record {
  kill =
      subst (λ (h : LineView). IsKill policy secret h after caller form done) is
      (subst (λ (h : LineView). IsKill policy secret (held pass) h caller form done) (sym then) kill);
  tells = tells;
}
