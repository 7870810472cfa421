-- What a command ends; and none is granted but to an officer.
use Rattle.std.proofs.{Common.{◌≡◌, ◌≤◌, Bool, true, false, List, [], ◌∷◌, length, ◌⊎◌, inl, inr, ℕ, refl, ap, arith, ◌∙◌}, lemmas.Bool.not-false}
use Rattle.std.specs.{Prelude.{Option, Some, None, option_and_then, if◌then◌else◌}, List.filter, Option.option_map_or}
use Rattle.gx_units.specs.declared.names.{AccountName.AccountName, RuleId.RuleId, Symbol.Symbol}
use Rattle.gx_units.proofs.Lists_found.{few_pass}
use Rattle.gx_desk.specs.declared.{Action.Action, WrittenName.WrittenName}
use Rattle.gx_policy.specs.{declared.{policy.{PolicyData.PolicyData, Role.Role}, rule_name.RuleName.TheVariants.G2}, People.{is_officer, role_in}}
use Rattle.gx_history.specs.{declared.{live_order.LiveOrder.LiveOrder, «record».{Asked.Asked, RecordData.RecordData, Request.Request, Step.Step, Verdict.Verdict}}, Asking.{facts, fits_role}, Live.live, Requests.{action_of, is_granted}, Verdicts.{IsLegal, day_limit, next}}
use Rattle.gx_laws.proofs.{Requests_judged.is_no_bar, Positions_sound.live_are_few}
use Rattle.gx_slab.specs.Slabs.{of_account}
use Rattle.gx_access_gate.specs.{declared.outcome.Outcome.Outcome, Gates.left_by}
use Rattle.gx_door.specs.{declared.ended.EndedTotals.EndedTotals, Endings.{ended_among, ended_by, sums_of}}
use Rattle.gx_shared.specs.Endings.{ends_of}

all_pass : {X : Type 0} (xs : List X) → filter (λ (x : X). true) xs ≡ xs
all_pass [] = refl
all_pass (x ∷ xs) = ap (λ rest. x ∷ rest) (all_pass xs)

none_pass : {X : Type 0} (xs : List X) → filter (λ (x : X). false) xs ≡ []
none_pass [] = refl
none_pass (x ∷ xs) = none_pass xs

-- no more are live than a day has records
pub few_live : (policy : PolicyData) (records : List RecordData) → IsLegal policy records → length (live policy records) ≤ day_limit
few_live policy records legal = live_are_few policy records legal

pub few_of_account : (policy : PolicyData) (records : List RecordData) (account : AccountName) → IsLegal policy records → length (of_account account (live policy records)) ≤ day_limit
few_of_account policy records account legal =
    let some : length (of_account account (live policy records)) ≤ length (live policy records) = few_pass _ (live policy records) in
    omega (arith, some, few_live policy records legal)

-- a Close Day ends all
pub close_ends_all : (found : List LiveOrder) → ended_among found Action.CloseDay ≡ found
close_ends_all found = all_pass found

-- neither a Kill nor a Close Day
abbrev IsOther : Action → Type 0
IsOther action =
    ((account : AccountName) × action ≡ Action.Lift account)
    ⊎ (((rule : RuleId) × (limit : ℕ) × action ≡ Action.SetLimit rule limit)
    ⊎ (((rule : RuleId) × (stock : Symbol) × action ≡ Action.Restrict rule stock)
    ⊎ (((rule : RuleId) × (stock : Symbol) × action ≡ Action.Unrestrict rule stock)
    ⊎ (((reader : WrittenName) × (account : AccountName) × action ≡ Action.Grant reader account)
    ⊎ ((reader : WrittenName) × (account : AccountName) × action ≡ Action.Revoke reader account)))))

-- any other command none
pub others_end_none : (found : List LiveOrder) (action : Action) → IsOther action → ended_among found action ≡ []
others_end_none found action (inl (account, is)) = ap (ended_among found) is ∙ none_pass found
others_end_none found action (inr (inl (rule, limit, is))) = ap (ended_among found) is ∙ none_pass found
others_end_none found action (inr (inr (inl (rule, stock, is)))) = ap (ended_among found) is ∙ none_pass found
others_end_none found action (inr (inr (inr (inl (rule, stock, is))))) = ap (ended_among found) is ∙ none_pass found
others_end_none found action (inr (inr (inr (inr (inl (reader, account, is)))))) = ap (ended_among found) is ∙ none_pass found
others_end_none found action (inr (inr (inr (inr (inr (reader, account, is)))))) = ap (ended_among found) is ∙ none_pass found

-- the role is one that the request may be granted to
fits : (policy : PolicyData) (earlier : List RecordData) (a : Asked) (r : RecordData) → next policy earlier (Step.Asked a) ≡ Some r → r.verdict ≡ Verdict.Granted
    → fits_role (role_in policy.users a.user) a.request ≡ true
unfolding facts
fits policy earlier a r e granted = not-false (fits_role (role_in policy.users a.user) a.request) (is_no_bar policy earlier a r e granted G2)

-- what a command ends among these orders, if the request is one
abbrev ends_among : List LiveOrder → Option Action → List LiveOrder
ends_among found action = option_map_or (ended_among found) action []

abbrev nothing : List LiveOrder
nothing = []

either : (b : Bool) → (if b then nothing else nothing) ≡ nothing
either true = refl
either false = refl

-- that an officer asks says nothing of what is no command
officers_alone : (role : Option Role) (q : Request) (found : List LiveOrder) → fits_role role q ≡ true
    → (if is_officer role then ends_among found (action_of q) else []) ≡ ends_among found (action_of q)
officers_alone role (Request.Login m) found fit = either (is_officer role)
officers_alone role Request.Logout found fit = either (is_officer role)
officers_alone role (Request.Unreadable m) found fit = either (is_officer role)
officers_alone role (Request.Enter m) found fit = either (is_officer role)
officers_alone role (Request.Replace m) found fit = either (is_officer role)
officers_alone role (Request.Cancel m) found fit = either (is_officer role)
officers_alone role (Request.Command c) found fit = ap (λ (b : Bool). if b then ended_among found c.action else []) fit

is_granted_by : (v : Verdict) → is_granted v ≡ true → v ≡ Verdict.Granted
is_granted_by Verdict.Granted h = refl
is_granted_by (Verdict.Denied rule) h = cc
is_granted_by (Verdict.Filled f) h = cc
is_granted_by (Verdict.Rested number) h = cc
is_granted_by (Verdict.Expired number) h = cc

-- what was counted in front of the step is what its record ended, where that grants the request, and else it ended nothing
pub told_so : (policy : PolicyData) (earlier : List RecordData) (a : Asked) (o : Outcome) (ends told : EndedTotals)
    → ends ≡ sums_of (ends_of policy earlier a) → told ≡ (if is_granted o.verdict then ends else sums_of [])
    → next policy earlier (Step.Asked a) ≡ Some (left_by a o) → told ≡ sums_of (ended_by policy earlier (left_by a o))
told_so policy earlier a o ends told counted once e = once ∙ by (is_granted o.verdict) refl
  where
    ended_where : Bool → List LiveOrder
    ended_where granted =
        ends_among (live policy earlier) (option_and_then (λ (x : Asked). action_of x.request) (if granted then Some a else None))

    by : (b : Bool) → is_granted o.verdict ≡ b → (if b then ends else sums_of []) ≡ sums_of (ended_where b)
    by true granted =
        counted
        ∙ ap sums_of (officers_alone (role_in policy.users a.user) a.request (live policy earlier) (fits policy earlier a (left_by a o) e (is_granted_by o.verdict granted)))
    by false granted = refl
