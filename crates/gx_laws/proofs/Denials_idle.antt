-- A denied request changes nothing but the records.
use Rattle.std.proofs.Common.{◌≡◌, ℕ, true, false, List, [], refl, ◌∙◌, ap, cond}
use Rattle.std.specs.{Prelude.{Option, None, ◌||◌, ◌&&◌, option_and_then, nat_lt}, Option.option_map_or}
use Rattle.gx_policy.specs.declared.{policy.PolicyData.PolicyData, rule_name.RuleName.RuleName}
use Rattle.gx_history.specs.{declared.record.{Asked.Asked, RecordData.RecordData, Verdict.Verdict}, Book.rested_of, Executions.sides, Orders.{Order, orders, orders_made, size_asked, size_set, ends_by_request, expires}, Requests.{granted_of, is_granted, asked_of}}
use Rattle.gx_laws.proofs.Records_idle.{AddsNothing, EndsNone}

-- the record is a denial
pub record IsDenial (r : RecordData) : Type 0 where
  pub rule : RuleName
  pub verdict : r.verdict ≡ Verdict.Denied rule

granted_denied : (r : RecordData) → IsDenial r → granted_of r ≡ None
granted_denied r d = ap (λ (v : Verdict). cond (is_granted v) (asked_of r.step) None) d.verdict

size_denied : (o : Order) (r : RecordData) → IsDenial r → size_set o r ≡ None
size_denied o r d =
    ap (λ g. cond (nat_lt o.number r.number) (option_and_then (λ (a : Asked). size_asked o a.user a.request) g) None) (granted_denied r d)
    ∙ elim (nat_lt o.number r.number) as (λ b. cond {A = Option ℕ} b None None ≡ None) [ true ↦ refl | false ↦ refl ]

-- a denial makes, sizes, fills and rests no order
pub denial_adds_nothing : (policy : PolicyData) (history : List RecordData) (r : RecordData) → IsDenial r → AddsNothing policy history r
denial_adds_nothing policy history r d = record {
  makes_none = ap (λ g. option_map_or (λ (a : Asked). orders_made policy (orders policy history) r a.user a.request) g []) (granted_denied r d);
  fills_none = ap (sides policy history) d.verdict;
  rests_none = ap rested_of d.verdict;
  sizes_none = λ (o : Order). size_denied o r d;
}

-- and ends none
pub denial_ends_none : (r : RecordData) → IsDenial r → EndsNone r
denial_ends_none r d o =
    ap (λ (v : Verdict). nat_lt o.number r.number && (expires o.number v || option_map_or (λ (a : Asked). ends_by_request o a.user a.request) (cond (is_granted v) (asked_of r.step) None) false)) d.verdict
    ∙ elim (nat_lt o.number r.number) as (λ b. (b && false) ≡ false) [ true ↦ refl | false ↦ refl ]
