-- The verdict that was decided is that of the day.
use Rattle.std.proofs.Common.{◌≡◌, ℕ, true, List, refl, ◌∙◌, ap, map}
use Rattle.std.specs.{Prelude.{Option, Some, None, is_some}, Option.option_map_or}
use Rattle.gx_units.specs.declared.names.AccountName.{AccountName}
use Rattle.gx_desk.specs.declared.Action.{Action}
use Rattle.gx_history.specs.{declared.{facts.Facts.Facts, live_order.LiveOrder.LiveOrder, «record».{Asked.Asked, RecordData.RecordData, Request.Request}}, Asking.{facts, of_command}, Figures.{Positions, figures, positions}, InForce.rules_in_force, Rules.first_forbidding, Verdicts.{facts_now, figures_asked, verdict, verdict_by, with_figures}}
use Rattle.gx_policy.specs.{declared.policy.{FileRule.FileRule, PolicyData.PolicyData, User.User}, People.{account_named, account_of}, Soundness.is_sound}
use Rattle.gx_laws.proofs.{Figures_kept.figures_kept, Positions_sound.positions_are_sound, Accounts_known.accounts_are_known}
use Rattle.gx_people.specs.Entitled.{people_in_force}
use Rattle.gx_people.proofs.Users_laws.{powers_stay}
use Rattle.gx_decide.specs.{Deciding.{AskForTheSame, knows_asker, with_powers}, Verdicts.DecidesTheVerdict}

account_fact : (policy : PolicyData) (history : List RecordData) (a : Asked) → (facts_now policy history a).account ≡ account_of policy a.user
unfolding facts
account_fact policy history a = refl

-- the asker is known
asker_is_known : (policy : PolicyData) (history : List RecordData) (a : Asked) → is_sound policy ≡ true → knows_asker policy (facts_now policy history a) ≡ true
asker_is_known policy history a sound =
    ap (λ (found : Option AccountName). option_map_or (λ (account : AccountName). is_some (account_named policy account)) found true) (account_fact policy history a)
    ∙ at (account_of policy a.user) refl
  where
    at : (found : Option AccountName) → account_of policy a.user ≡ found → option_map_or (λ (account : AccountName). is_some (account_named policy account)) found true ≡ true
    at None e = refl
    at (Some account) e = accounts_are_known policy a.user account sound e

-- the powers are those of the facts
powers_are : (policy : PolicyData) (history : List RecordData) (a : Asked) → with_powers (people_in_force policy history) a (facts_now policy history a) ≡ facts_now policy history a
unfolding facts
powers_are policy history a =
    λ i. record (facts_now policy history a) { has_power = of_command (λ (action : Action). powers_stay policy history a.user action i) a.request }

pub decided_is_the_verdict : DecidesTheVerdict
unfolding verdict
decided_is_the_verdict policy history people rules ledger given a result sound legal people_are rules_are given_is stands decides =
    let held : Positions = positions policy history in
    let now : Facts = facts_now policy history a in
    let known : knows_asker policy given ≡ true = ap (knows_asker policy) given_is ∙ asker_is_known policy history a sound in
    let alike : AskForTheSame policy held rules =
    λ (asker : AccountName) (q : Request) (replaced : Option LiveOrder) (moment : ℕ). ap (map (figures policy held asker q replaced moment)) rules_are ∙ figures_kept policy history held asker q replaced moment in
    let same : with_powers people a given ≡ now =
    ap (λ (us : List User). with_powers us a given) people_are ∙ ap (with_powers (people_in_force policy history) a) given_is ∙ powers_are policy history a in
    decides policy held stands (positions_are_sound policy history legal) alike known
    ∙ ap (λ (rs : List FileRule). verdict_by (first_forbidding (with_figures (figures_asked policy held a.request (with_powers people a given)) rs) (with_powers people a given) a.request)) rules_are
    ∙ ap (λ (f : Facts). verdict_by (first_forbidding (with_figures (figures_asked policy held a.request f) (rules_in_force policy history)) f a.request)) same
