-- A command that was granted names what is known, and is its officer's to give.
use Rattle.std.proofs.{Common.{◌≡◌, Bool, true, false, List, ◌∙◌, ap, sym}, lemmas.Bool.not-false}
use Rattle.std.specs.Prelude.{Some, ◌&&◌, not}
use Rattle.gx_desk.specs.declared.Action.{Action}
use Rattle.gx_policy.specs.{declared.{policy.PolicyData.PolicyData, rule_name.RuleName.TheVariants.{Q1, Q2, Q3, Q4}}, People.role_in}
use Rattle.gx_history.specs.{declared.record.{Asked.Asked, RecordData.RecordData, Request.Request, Step.Step}, Asking.{facts, of_command, has_power, are_his, changes, knows_names}, Requests.is_command, Verdicts.next}
use Rattle.gx_laws.proofs.{Requests_judged.is_no_bar, Commands_granted.GrantsCommand}

-- the action passes the test of a rule that does not forbid its command
passes : (test : Action → Bool) (r : RecordData) (a : Asked) (action : Action) → GrantsCommand r a action → (is_command a.request && not (of_command test a.request)) ≡ false → test action ≡ true
passes test r a action g no_bar =
    ap test (sym g.is_for)
    ∙ not-false (test g.command.action) (sym (ap (λ (q : Request). is_command q && not (of_command test q)) g.is_command) ∙ no_bar)

pub names_are_known : (policy : PolicyData) (history : List RecordData) (a : Asked) (r : RecordData) (action : Action) → GrantsCommand r a action
    → next policy history (Step.Asked a) ≡ Some r → knows_names policy history action ≡ true
unfolding facts
names_are_known policy history a r action g left = passes (knows_names policy history) r a action g (is_no_bar policy history a r left g.grants Q1)

pub has_the_power : (policy : PolicyData) (history : List RecordData) (a : Asked) (r : RecordData) (action : Action) → GrantsCommand r a action
    → next policy history (Step.Asked a) ≡ Some r → has_power (role_in policy.users a.user) action ≡ true
unfolding facts
has_the_power policy history a r action g left = passes (has_power (role_in policy.users a.user)) r a action g (is_no_bar policy history a r left g.grants Q2)

pub has_the_accounts : (policy : PolicyData) (history : List RecordData) (a : Asked) (r : RecordData) (action : Action) → GrantsCommand r a action
    → next policy history (Step.Asked a) ≡ Some r → are_his policy history (role_in policy.users a.user) action ≡ true
unfolding facts
has_the_accounts policy history a r action g left = passes (are_his policy history (role_in policy.users a.user)) r a action g (is_no_bar policy history a r left g.grants Q3)

pub changes_something : (policy : PolicyData) (history : List RecordData) (a : Asked) (r : RecordData) (action : Action) → GrantsCommand r a action
    → next policy history (Step.Asked a) ≡ Some r → changes policy history a.user action ≡ true
unfolding facts
changes_something policy history a r action g left = passes (changes policy history a.user) r a action g (is_no_bar policy history a r left g.grants Q4)
