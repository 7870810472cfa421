-- What one more record changes in what is in force.
use Rattle.std.proofs.{Common.{◌≡◌, Bool, true, false, List, [], ◌∷◌, ◌++◌, refl, ◌∙◌, ap, sym, fold}, lemmas.List.{Elements.filter_map-append, Sums.fold-append}}
use Rattle.std.specs.{Prelude.{Option, Some, None, unwrap_or, ◌||◌, ◌&&◌}, Option.option_map_or, List.{filter_map, cons_option}}
use Rattle.gx_units.specs.declared.names.{UserName.UserName, AccountName.AccountName}
use Rattle.gx_desk.specs.declared.Action.{Action}
use Rattle.gx_history.specs.{declared.record.RecordData.RecordData, Requests.{granted_action, granted_actions, granted_mark}, InForce.{is_closed, record_closes, rules_in_force, rules_after, is_entitled, grant_or_revoke_of, in_role, line_of, login_or_logout_of, last_mark}, Verdicts.last_moment}
use Rattle.gx_policy.specs.{declared.policy.{PolicyData.PolicyData, FileRule.FileRule, Role.Role}, People.{role_in, is_reader}}
use Rattle.gx_laws.proofs.Lists_next.{last_value_next, list_any_next, last_or-append}

pub is_closed_none : is_closed [] ≡ false
unfolding is_closed
is_closed_none = refl

pub is_closed_next : (history : List RecordData) (r : RecordData) → is_closed (history ++ r ∷ []) ≡ (is_closed history || record_closes r)
unfolding is_closed
is_closed_next history r = list_any_next record_closes history r

-- the last record tells the moment
pub last_moment_next : (history : List RecordData) (r : RecordData) → last_moment (history ++ r ∷ []) ≡ r.moment
last_moment_next history r = ap (λ (last : Option RecordData). option_map_or (λ (x : RecordData). x.moment) last 0) (last_or-append None history (r ∷ []))

pub line_of_none : (user : UserName) → line_of [] user ≡ None
unfolding line_of
line_of_none user = refl

pub line_of_next : (history : List RecordData) (r : RecordData) (user : UserName)
    → line_of (history ++ r ∷ []) user ≡ unwrap_or (login_or_logout_of user r) (line_of history user)
unfolding line_of
line_of_next history r user = last_value_next (login_or_logout_of user) None history r

pub rules_in_force_none : (policy : PolicyData) → rules_in_force policy [] ≡ policy.rules
unfolding rules_in_force
rules_in_force_none policy = refl

by_one : {X : Type 0} (change : X → Action → X) (x : X) (action : Option Action) → fold change x (cons_option action []) ≡ option_map_or (change x) action x
by_one change x None = refl
by_one change x (Some action) = refl

-- what the granted commands make of something, after one more record
pub granted_next : {X : Type 0} (change : X → Action → X) (first : X) (history : List RecordData) (r : RecordData)
    → fold change first (granted_actions (history ++ r ∷ []))
    ≡ option_map_or (change (fold change first (granted_actions history))) (granted_action r) (fold change first (granted_actions history))
granted_next change first history r =
    ap (fold change first) (filter_map-append granted_action history (r ∷ []))
    ∙ fold-append change first (granted_actions history) (filter_map granted_action (r ∷ []))
    ∙ by_one change (fold change first (granted_actions history)) (granted_action r)

-- the rules after one more command, if the record grants one
abbrev pub rules_with : List FileRule → Option Action → List FileRule
rules_with rules action = option_map_or (rules_after rules) action rules

pub rules_in_force_next : (policy : PolicyData) (history : List RecordData) (r : RecordData)
    → rules_in_force policy (history ++ r ∷ []) ≡ rules_with (rules_in_force policy history) (granted_action r)
unfolding rules_in_force
rules_in_force_next policy history r = granted_next rules_after policy.rules history r

pub is_entitled_next : (policy : PolicyData) (history : List RecordData) (r : RecordData) (reader : UserName) (account : AccountName)
    → is_reader (role_in policy.users reader) ≡ true
    → is_entitled policy (history ++ r ∷ []) reader account ≡ unwrap_or (granted_mark (grant_or_revoke_of reader account) r) (is_entitled policy history reader account)
unfolding is_entitled
is_entitled_next policy history r reader account reads =
    let start : Bool = option_map_or (λ (role : Role). in_role role account) (role_in policy.users reader) false in
    let now : Bool = last_mark (grant_or_revoke_of reader account) history start in
    ap (λ b. b && last_mark (grant_or_revoke_of reader account) (history ++ r ∷ []) start) reads
    ∙ last_value_next (granted_mark (grant_or_revoke_of reader account)) start history r
    ∙ ap (λ b. unwrap_or (granted_mark (grant_or_revoke_of reader account) r) (b && now)) (sym reads)
