-- What people and rules answer is what the rules ask about an officer's command.
use Rattle.gx_policy.specs.{Kinds.limit_of, declared.policy.{Account.Account, FileRule.FileRule, PolicyData.PolicyData, Role.Role, Scope.Scope, User.User}, People.{covers, is_officer, is_within, role_in, rule_in}, Soundness.is_sound}
use Rattle.std.proofs.Common.{◌≡◌, ℕ, ◌==◌, Bool, true, false, not, ◌||◌, ◌&&◌, List, [], ◌∷◌, refl, ap, ◌∙◌}
use Rattle.std.specs.{List.list_all, Option.option_map_or, Prelude.{Option, Some, None, is_some, option_map, option_and_then}}
use Rattle.gx_units.specs.declared.names.{AccountName.AccountName, RuleId.RuleId, Symbol.Symbol, UserName.UserName}
use Rattle.gx_desk.specs.declared.{Action.Action, WrittenName.WrittenName}
use Rattle.gx_history.specs.{declared.record.RecordData.RecordData, Asking.{are_his, holds_accounts, has_limit, has_stock, knows_limit, knows_stocks, rule_in_force, sees_now}, Readers.reader_in}
use Rattle.gx_people.specs.Entitled.{holds_account, sees}
use Rattle.gx_people.proofs.{Users_stay.reader_in_force, Users_laws.named_see}
use Rattle.gx_rules.specs.Settings.{covers_in, limit_in, lists_in}
use Rattle.gx_gate_state.specs.declared.state.GateState.{GateState}
use Rattle.gx_core.specs.{Kept.IsKept, Known.{has_concerned, is_his_or_not_its}}
use Rattle.gx_core.proofs.Facts_call.{scopes_are_known}

-- settings
pub limits_are_known : (policy : PolicyData) (history : List RecordData) (k : GateState) (name : RuleId) → IsKept policy history k
    → is_some (limit_in k.rules name) ≡ knows_limit (rule_in_force policy history name)
limits_are_known policy history k name kept = ap (λ (rules : List FileRule). is_some (limit_in rules name)) kept.in_force.rules ∙ by (rule_in_force policy history name)
  where
    by : (found : Option FileRule) → is_some (option_and_then (λ (r : FileRule). limit_of r.kind) found) ≡ knows_limit found
    by None = refl
    by (Some rule) = refl

pub lists_are_known : (policy : PolicyData) (history : List RecordData) (k : GateState) (name : RuleId) → IsKept policy history k
    → knows_stocks (rule_in k.rules name) ≡ knows_stocks (rule_in_force policy history name)
lists_are_known policy history k name kept = ap (λ (rules : List FileRule). knows_stocks (rule_in rules name)) kept.in_force.rules

pub stock_is_listed : (policy : PolicyData) (history : List RecordData) (k : GateState) (name : RuleId) (stock : Symbol) → IsKept policy history k
    → lists_in k.rules name stock ≡ has_stock (rule_in_force policy history name) stock
stock_is_listed policy history k name stock kept = ap (λ (rules : List FileRule). lists_in rules name stock) kept.in_force.rules

-- a rule's limit is this one
abbrev is_limit : ℕ → Option ℕ → Bool
is_limit limit found = option_map_or (λ (l : ℕ). l == limit) found false

pub limit_is_known : (policy : PolicyData) (history : List RecordData) (k : GateState) (name : RuleId) (limit : ℕ) → IsKept policy history k
    → is_limit limit (limit_in k.rules name) ≡ has_limit (rule_in_force policy history name) limit
limit_is_known policy history k name limit kept =
    ap (λ (rules : List FileRule). is_limit limit (limit_in rules name)) kept.in_force.rules ∙ by (rule_in_force policy history name)
  where
    by : (found : Option FileRule) → is_limit limit (option_and_then (λ (r : FileRule). limit_of r.kind) found) ≡ has_limit found limit
    by None = refl
    by (Some rule) = refl

-- readers
pub readers_are_known : (policy : PolicyData) (history : List RecordData) (k : GateState) (written : WrittenName) → IsKept policy history k
    → is_some (option_map (λ (u : User). u.name) (reader_in k.people written)) ≡ is_some (reader_in policy.users written)
readers_are_known policy history k written kept =
    ap (λ (users : List User). is_some (option_map (λ (u : User). u.name) (reader_in users written))) kept.in_force.people
    ∙ ap (λ (name : Option UserName). is_some name) (reader_in_force policy history written)
    ∙ by (reader_in policy.users written)
  where
    by : (found : Option User) → is_some (option_map (λ (u : User). u.name) found) ≡ is_some found
    by None = refl
    by (Some u) = refl

pub sights_are_known : {policy : PolicyData} {history : List RecordData} (k : GateState) (written : WrittenName) (account : AccountName) → IsKept policy history k
    → is_sound policy ≡ true
    → option_map_or (λ name. sees k.people name account) (option_map (λ (u : User). u.name) (reader_in k.people written)) false ≡ sees_now policy history written account
sights_are_known {policy} {history} k written account kept sound =
    ap (λ (users : List User). option_map_or (λ name. sees users name account) (option_map (λ (u : User). u.name) (reader_in users written)) false) kept.in_force.people
    ∙ named_see policy history written account sound

all_so : (accounts : List Account) → list_all (λ (a : Account). true) accounts ≡ true
all_so [] = refl
all_so (a ∷ accounts) = all_so accounts

same_test : (policy : PolicyData) (inner outer : Scope) (accounts : List Account)
    → list_all (λ (a : Account). not (covers inner a.name) || covers outer a.name) accounts ≡ is_within (record policy { accounts = accounts }) inner outer
same_test policy inner outer [] = refl
same_test policy inner outer (a ∷ accounts) = by (covers inner a.name) (same_test policy inner outer accounts)
  where
    by : (b : Bool) → list_all (λ (a : Account). not (covers inner a.name) || covers outer a.name) accounts ≡ is_within (record policy { accounts = accounts }) inner outer
        → ((not b || covers outer a.name) && list_all (λ (a : Account). not (covers inner a.name) || covers outer a.name) accounts)
        ≡ ((elim b as (λ x. Bool → Bool) [ true ↦ λ covered. covered | false ↦ λ covered. true ]) (covers outer a.name) && is_within (record policy { accounts = accounts }) inner outer)
    by true others = ap (λ c. covers outer a.name && c) others
    by false others = others

-- the accounts that a rule is for, as the state know them
abbrev pub its_accounts_are_his : GateState → UserName → RuleId → List Account → Bool
its_accounts_are_his k officer name accounts = list_all (λ (a : Account). not (covers_in k.rules name a.name) || holds_account k.people officer a.name) accounts

pub its_accounts_are_known : {policy : PolicyData} {history : List RecordData} (k : GateState) (officer : UserName) (name : RuleId) → IsKept policy history k
    → its_accounts_are_his k officer name policy.accounts
    ≡ list_all (is_his_or_not_its (record { policy = policy; records = history }) (role_in policy.users officer) name) policy.accounts
its_accounts_are_known {policy} {history} k officer name kept =
    λ i. list_all (λ (a : Account). not (covers_in (kept.in_force.rules i) name a.name) || scopes_are_known policy history k officer a.name kept i) policy.accounts

-- an officer has what the command concerns, and nobody else has
pub concerned_are_his : (policy : PolicyData) (history : List RecordData) (role : Option Role) (action : Action)
    → (is_officer role && has_concerned (record { policy = policy; records = history }) role action) ≡ are_his policy history role action
concerned_are_his policy history None action = refl
concerned_are_his policy history (Some (Role.Trader account)) action = refl
concerned_are_his policy history (Some (Role.Reader names)) action = refl
concerned_are_his policy history (Some (Role.Officer powers scope)) action = by action
  where
    its : (found : Option FileRule)
        → list_all (λ (a : Account). not (option_map_or (λ (r : FileRule). covers r.scope a.name) found false) || covers scope a.name) policy.accounts
        ≡ option_map_or (λ (r : FileRule). is_within policy r.scope scope) found true
    its None = all_so policy.accounts
    its (Some rule) = same_test policy rule.scope scope policy.accounts

    by : (action : Action) → has_concerned (record { policy = policy; records = history }) (Some (Role.Officer powers scope)) action ≡ holds_accounts policy history scope action
    by (Action.Kill account) = refl
    by (Action.Lift account) = refl
    by (Action.SetLimit rule limit) = its (rule_in_force policy history rule)
    by (Action.Restrict rule stock) = its (rule_in_force policy history rule)
    by (Action.Unrestrict rule stock) = its (rule_in_force policy history rule)
    by (Action.Grant reader account) = refl
    by (Action.Revoke reader account) = refl
    by Action.CloseDay = refl
