-- No Enter or Replace of a killed account is granted.
use Rattle.std.proofs.Common.{◌≡◌, true, false, List, ◌∙◌, ap, sym}
use Rattle.std.specs.{Prelude.{Option, Some, ◌&&◌}, Option.option_map_or}
use Rattle.gx_units.specs.declared.names.AccountName.{AccountName}
use Rattle.gx_policy.specs.{declared.{policy.PolicyData.PolicyData, rule_name.RuleName.TheVariants.P2}, People.account_of}
use Rattle.gx_history.specs.{declared.record.{Asked.Asked, RecordData.RecordData, Step.Step, Verdict.Verdict}, Asking.facts, InForce.is_killed, Requests.is_order, Verdicts.{next, facts_now}}
use Rattle.gx_laws.proofs.Requests_judged.{is_no_bar}

killed_fact : (policy : PolicyData) (history : List RecordData) (a : Asked) (account : AccountName) → account_of policy a.user ≡ Some account
    → (facts_now policy history a).account_is_killed ≡ is_killed policy history account
unfolding facts
killed_fact policy history a account his = ap (λ (o : Option AccountName). option_map_or (is_killed policy history) o false) his

pub granted_is_not_killed : (policy : PolicyData) (history : List RecordData) (a : Asked) (r : RecordData) (account : AccountName)
    → next policy history (Step.Asked a) ≡ Some r → r.verdict ≡ Verdict.Granted → is_order a.request ≡ true → account_of policy a.user ≡ Some account
    → is_killed policy history account ≡ false
granted_is_not_killed policy history a r account e granted order his =
    sym (killed_fact policy history a account his)
    ∙ sym (ap (λ b. b && (facts_now policy history a).account_is_killed) order)
    ∙ is_no_bar policy history a r e granted P2
