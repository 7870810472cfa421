-- What a granted request says of its record, and that one for no order changes none.
use Rattle.std.proofs.Common.{◌≡◌, ℕ, Bool, true, false, List, [], refl, ◌∙◌, ap, cond}
use Rattle.std.specs.{Prelude.{Option, Some, None, ◌||◌, ◌&&◌, option_and_then, nat_lt}, Option.option_map_or}
use Rattle.gx_units.specs.declared.names.UserName.{UserName}
use Rattle.gx_policy.specs.declared.policy.PolicyData.{PolicyData}
use Rattle.gx_history.specs.{declared.record.{Asked.Asked, Login.Login, RecordData.RecordData, Request.Request, Step.Step, Verdict.Verdict}, Book.rested_of, Executions.sides, Orders.{Order, orders, orders_added, orders_made, size_asked, size_set, ends, ends_by_request, expires}, Requests.granted_of, Verdicts.next}
use Rattle.gx_laws.proofs.{Orders_added.granted_is, Records_idle.{AddsNothing, EndsNone}, Runs_legal.step_left}

-- the record grants this request of a
pub record Grants (r : RecordData) (a : Asked) (q : Request) : Type 0 where
  pub asks : r.step ≡ Step.Asked a
  pub grants : r.verdict ≡ Verdict.Granted
  pub is_for : a.request ≡ q

pub it_grants : (policy : PolicyData) (history : List RecordData) (a : Asked) (r : RecordData) (q : Request)
    → next policy history (Step.Asked a) ≡ Some r → a.request ≡ q → r.verdict ≡ Verdict.Granted → Grants r a q
it_grants policy history a r q left asks granted_of = record { asks = step_left policy history (Step.Asked a) r left; grants = granted_of; is_for = asks }

-- what the record says of an earlier order
pub size_by : (r : RecordData) (a : Asked) (q : Request) (o : Order) → Grants r a q → nat_lt o.number r.number ≡ true → size_set o r ≡ size_asked o a.user q
size_by r a q o g early =
    ap (λ (b : Bool). cond b (option_and_then (λ (x : Asked). size_asked o x.user x.request) (granted_of r)) None) early
    ∙ ap (option_and_then (λ (x : Asked). size_asked o x.user x.request)) (granted_is r a g.asks g.grants)
    ∙ ap (size_asked o a.user) g.is_for

pub ends_by : (r : RecordData) (a : Asked) (q : Request) (o : Order) → Grants r a q → nat_lt o.number r.number ≡ true → ends o r ≡ ends_by_request o a.user q
ends_by r a q o g early =
    ap (λ (b : Bool). b && (expires o.number r.verdict || option_map_or (λ (x : Asked). ends_by_request o x.user x.request) (granted_of r) false)) early
    ∙ ap (λ (v : Verdict). expires o.number v || option_map_or (λ (x : Asked). ends_by_request o x.user x.request) (granted_of r) false) g.grants
    ∙ ap (λ (found : Option Asked). option_map_or (λ (x : Asked). ends_by_request o x.user x.request) found false) (granted_is r a g.asks g.grants)
    ∙ ap (ends_by_request o a.user) g.is_for

pub adds_by : (policy : PolicyData) (known : List Order) (r : RecordData) (a : Asked) (q : Request) → Grants r a q → orders_added policy known r ≡ orders_made policy known r a.user q
adds_by policy known r a q g =
    ap (λ (found : Option Asked). option_map_or (λ (x : Asked). orders_made policy known r x.user x.request) found []) (granted_is r a g.asks g.grants)
    ∙ ap (orders_made policy known r a.user) g.is_for

pub fills_none : (policy : PolicyData) (history : List RecordData) (r : RecordData) (a : Asked) (q : Request) → Grants r a q → sides policy history r.verdict ≡ []
fills_none policy history r a q g = ap (sides policy history) g.grants

-- a request that makes, sizes and ends no order
pub record IsQuiet (q : Request) : Type 0 where
  pub makes_none : (policy : PolicyData) (known : List Order) (r : RecordData) (user : UserName) → orders_made policy known r user q ≡ []
  pub sizes_none : (o : Order) (user : UserName) → size_asked o user q ≡ None
  pub ends_none : (o : Order) (user : UserName) → ends_by_request o user q ≡ false

-- a login and a logout make, size and end no order
pub login_is_quiet : (m : Login) → IsQuiet (Request.Login m)
login_is_quiet m = record { makes_none = λ policy known r user. refl; sizes_none = λ o user. refl; ends_none = λ o user. refl }

pub logout_is_quiet : IsQuiet Request.Logout
logout_is_quiet = record { makes_none = λ policy known r user. refl; sizes_none = λ o user. refl; ends_none = λ o user. refl }

size_quiet : (r : RecordData) (a : Asked) (q : Request) (o : Order) → Grants r a q → IsQuiet q → size_set o r ≡ None
size_quiet r a q o g quiet =
    ap (λ (found : Option Asked). cond (nat_lt o.number r.number) (option_and_then (λ (x : Asked). size_asked o x.user x.request) found) None) (granted_is r a g.asks g.grants)
    ∙ ap (λ (n : Option ℕ). cond (nat_lt o.number r.number) n None) (ap (size_asked o a.user) g.is_for ∙ quiet.sizes_none o a.user)
    ∙ elim (nat_lt o.number r.number) as (λ b. cond {A = Option ℕ} b None None ≡ None) [ true ↦ refl | false ↦ refl ]

pub quiet_adds_nothing : (policy : PolicyData) (history : List RecordData) (r : RecordData) (a : Asked) (q : Request) → Grants r a q → IsQuiet q → AddsNothing policy history r
quiet_adds_nothing policy history r a q g quiet = record {
  makes_none = adds_by policy (orders policy history) r a q g ∙ quiet.makes_none policy (orders policy history) r a.user;
  fills_none = fills_none policy history r a q g;
  rests_none = ap rested_of g.grants;
  sizes_none = λ (o : Order). size_quiet r a q o g quiet;
}

pub quiet_ends_none : (r : RecordData) (a : Asked) (q : Request) → Grants r a q → IsQuiet q → EndsNone r
quiet_ends_none r a q g quiet o =
    ap (λ (v : Verdict). nat_lt o.number r.number && (expires o.number v || option_map_or (λ (x : Asked). ends_by_request o x.user x.request) (granted_of r) false)) g.grants
    ∙ ap (λ (found : Option Asked). nat_lt o.number r.number && option_map_or (λ (x : Asked). ends_by_request o x.user x.request) found false) (granted_is r a g.asks g.grants)
    ∙ ap (λ (b : Bool). nat_lt o.number r.number && b) (ap (ends_by_request o a.user) g.is_for ∙ quiet.ends_none o a.user)
    ∙ elim (nat_lt o.number r.number) as (λ b. (b && false) ≡ false) [ true ↦ refl | false ↦ refl ]
