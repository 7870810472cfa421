-- A record that grants nothing makes and sizes no order, and ends one at most by its verdict.
use Rattle.std.proofs.Common.{◌≡◌, ℕ, Bool, true, false, List, [], refl, ◌∙◌, ap, cond}
use Rattle.std.specs.{Prelude.{Option, None, ◌||◌, ◌&&◌, option_and_then, nat_lt}, Option.option_map_or}
use Rattle.gx_units.proofs.Test_known.{or_not}
use Rattle.gx_policy.specs.declared.policy.PolicyData.{PolicyData}
use Rattle.gx_history.specs.{declared.record.{Asked.Asked, RecordData.RecordData, Step.Step, Verdict.Verdict}, Orders.{Order, orders, orders_added, orders_made, size_asked, size_set, ends, ends_by_request, expires}, Requests.{granted_of, is_granted, asked_of}}

-- a matching step asks for nothing
pub match_grants_nothing : (r : RecordData) (handed : ℕ) → r.step ≡ Step.Matching handed → granted_of r ≡ None
match_grants_nothing r handed e =
    ap (λ (found : Option Asked). cond (is_granted r.verdict) found None) (ap asked_of e)
    ∙ elim (is_granted r.verdict) as (λ b. cond {A = Option Asked} b None None ≡ None) [ true ↦ refl | false ↦ refl ]

pub none_added : (policy : PolicyData) (history : List RecordData) (r : RecordData) → granted_of r ≡ None → orders_added policy (orders policy history) r ≡ []
none_added policy history r h = ap (λ (g : Option Asked). option_map_or (λ (a : Asked). orders_made policy (orders policy history) r a.user a.request) g []) h

pub no_size : (o : Order) (r : RecordData) → granted_of r ≡ None → size_set o r ≡ None
no_size o r h =
    ap (λ (g : Option Asked). cond (nat_lt o.number r.number) (option_and_then (λ (a : Asked). size_asked o a.user a.request) g) None) h
    ∙ elim (nat_lt o.number r.number) as (λ b. cond {A = Option ℕ} b None None ≡ None) [ true ↦ refl | false ↦ refl ]

-- it ends an order at most by its verdict
pub ends_by_verdict : (o : Order) (r : RecordData) (v : Verdict) → granted_of r ≡ None → r.verdict ≡ v → ends o r ≡ (nat_lt o.number r.number && expires o.number v)
ends_by_verdict o r v h e =
    ap (λ (g : Option Asked). nat_lt o.number r.number && (expires o.number r.verdict || option_map_or (λ (a : Asked). ends_by_request o a.user a.request) g false)) h
    ∙ ap (λ (w : Verdict). nat_lt o.number r.number && (expires o.number w || false)) e
    ∙ ap (λ (b : Bool). nat_lt o.number r.number && b) (or_not (expires o.number v) false refl)
