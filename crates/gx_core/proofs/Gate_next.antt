-- What is always so of a gate and of what it keeps, after one more record.
use Rattle.std.proofs.Common.{◌≡◌, ℕ, ◌+◌, ◌<◌, ◌≤◌, arith, true, false, Bool, List, [], ◌∷◌, ◌++◌, length, length-append, refl, ◌∙◌, ap, inl, inr, subst, sym}
use Rattle.std.specs.Prelude.{Some}
use Rattle.gx_desk.specs.declared.Action.{Action}
use Rattle.gx_policy.specs.declared.policy.PolicyData.{PolicyData}
use Rattle.gx_history.specs.{declared.{«record».{Asked.Asked, RecordData.RecordData, Request.Request, Step.Step, Verdict.Verdict}, moves.Move.Move}, Verdicts.{FitsDay, IsGrantedKillOrLogout, IsKillOrLogout, day_limit, next}, World.{move_of, world}, Reserved.{is_never_refused, is_kill_or_logout, most_reserved_records, reserved_records}}
use Rattle.gx_laws.proofs.{Streams_next.{legal_next, legal_none}, Orders_numbered.number_left, Runs_legal.step_left, ReservedPlaces_enough.{kept_records_take_places, so_many_record_places_are_enough}}
use Rattle.gx_gate_state.specs.{declared.state.GateState.GateState, State.{AreInForce, HaveReservedReports, Takes}}
use Rattle.gx_core.specs.Kept.{AreReserved, HaveReserved, IsKept, IsWhole}

-- the state is what is in force after the record, and the reserved places behind it
pub record AreCarried (policy : PolicyData) (records : List RecordData) (k : GateState) : Type 0 where
  pub in_force : AreInForce policy records k
  pub told : HaveReservedReports policy records k.streams

places_of : {policy : PolicyData} {records : List RecordData} (reserved : ℕ) (k : GateState) → IsWhole policy records reserved k → AreReserved policy records reserved k
unfolding HaveReserved
places_of reserved k whole = whole.places

whole_with : {policy : PolicyData} {records : List RecordData} (reserved : ℕ) (k : GateState) → IsKept policy records k → AreReserved policy records reserved k → IsWhole policy records reserved k
unfolding HaveReserved
whole_with reserved k kept places = record { kept = kept; places = places }

-- as they are
pub as_before : {policy : PolicyData} {records : List RecordData} (reserved : ℕ) (k : GateState) → IsWhole policy records reserved k → AreCarried policy records k
as_before reserved k whole = record { in_force = whole.kept.in_force; told = (places_of reserved k whole).told }

keep_on : {policy : PolicyData} {history : List RecordData} (step : Step) (r : RecordData) (was reserved : ℕ) (before after : GateState) → IsWhole policy history was before
    → next policy history step ≡ Some r → FitsDay r → AreCarried policy (history ++ r ∷ []) after
    → length history + 1 + reserved_records policy (history ++ r ∷ []) ≤ day_limit + most_reserved_records policy → reserved_records policy (history ++ r ∷ []) ≤ reserved
    → IsWhole policy (history ++ r ∷ []) reserved after
keep_on {policy} {history} step r was reserved before after kept left fits carried within recorded =
    whole_with {policy = policy} {records = (history ++ r ∷ [])} reserved after
    (record {
      legal = legal_next r kept.kept.legal (record { is_next = ap (next policy history) (step_left policy history step r left) ∙ left; fits_day = fits });
      in_force = carried.in_force;
    })
    (record {
      within = omega (arith, within, length-append history (r ∷ []));
      recorded = recorded;
      told = carried.told;
    })

-- a record within the day's limit, for which the places were made
pub keep_within : {policy : PolicyData} {history : List RecordData} (step : Step) (r : RecordData) (was made reserved : ℕ) (before after : GateState) → IsWhole policy history was before
    → next policy history step ≡ Some r → length history < day_limit → most_reserved_records policy + 1 ≤ made → reserved + 1 ≡ made → AreCarried policy (history ++ r ∷ []) after
    → IsWhole policy (history ++ r ∷ []) reserved after
keep_within {policy} {history} step r was made reserved before after kept left room enough taken carried =
    let most = so_many_record_places_are_enough policy (history ++ r ∷ []) in
    keep_on step r was reserved before after kept left (record { fits = inl (omega (arith, room, number_left policy history step r left)) }) carried
    (omega (arith, room, most)) (omega (arith, most, enough, taken))

by_kill : (action : Action) → elim action as (λ x. Bool) [ Action.Kill account ↦ true | _ ↦ false ] ≡ true → elim action as (λ x. Type 0) [ Action.Kill account ↦ Unit {0} | _ ↦ ⊥ ]
by_kill (Action.Kill account) h = tt
by_kill (Action.Lift account) h = let clash : false ≡ true = h in cc
by_kill (Action.SetLimit rule limit) h = let clash : false ≡ true = h in cc
by_kill (Action.Restrict rule stock) h = let clash : false ≡ true = h in cc
by_kill (Action.Unrestrict rule stock) h = let clash : false ≡ true = h in cc
by_kill (Action.Grant reader account) h = let clash : false ≡ true = h in cc
by_kill (Action.Revoke reader account) h = let clash : false ≡ true = h in cc
by_kill Action.CloseDay h = let clash : false ≡ true = h in cc

is_either : (q : Request) → is_kill_or_logout q ≡ true → IsKillOrLogout q
is_either Request.Logout h = tt
is_either (Request.Command c) h = by_kill c.action h
is_either (Request.Login m) h = cc
is_either (Request.Unreadable m) h = cc
is_either (Request.Enter m) h = cc
is_either (Request.Replace m) h = cc
is_either (Request.Cancel m) h = cc

granted_either : (v : Verdict) (a : Asked) → is_never_refused a.request v ≡ true → IsGrantedKillOrLogout v (Step.Asked a)
granted_either Verdict.Granted a h = is_either a.request h
granted_either (Verdict.Denied rule) a h = cc
granted_either (Verdict.Filled f) a h = cc
granted_either (Verdict.Rested number) a h = cc
granted_either (Verdict.Expired number) a h = cc

-- a granted Kill or Logout fits the day
pub kept_fits : (policy : PolicyData) (history : List RecordData) (a : Asked) (r : RecordData) → next policy history (Step.Asked a) ≡ Some r → is_never_refused a.request r.verdict ≡ true → FitsDay r
kept_fits policy history a r left is = record {
  fits = inr (subst (IsGrantedKillOrLogout r.verdict) (sym (step_left policy history (Step.Asked a) r left)) (granted_either r.verdict a is));
}

-- it takes one of the places that were kept
pub keep_kept : {policy : PolicyData} {history : List RecordData} (a : Asked) (r : RecordData) (was made reserved : ℕ) (before after : GateState) → IsWhole policy history was before
    → next policy history (Step.Asked a) ≡ Some r → is_never_refused a.request r.verdict ≡ true → was ≤ made → reserved + 1 ≡ made → AreCarried policy (history ++ r ∷ []) after
    → IsWhole policy (history ++ r ∷ []) reserved after
keep_kept {policy} {history} a r was made reserved before after kept left is more taken carried =
    let one = kept_records_take_places policy history a r kept.kept.legal left is in
    let places = places_of was before kept in
    keep_on (Step.Asked a) r was reserved before after kept left (kept_fits policy history a r left is) carried (omega (arith, one, places.within)) (omega (arith, one, more, taken, places.recorded))

-- the places that a request's record finds: kept ones, or its own within the day's limit
pub record FindsPlace (policy : PolicyData) (history : List RecordData) (a : Asked) (given : Verdict) (was made : ℕ) : Type 0 where
  pub more : was ≤ made
  pub own : is_never_refused a.request given ≡ false → most_reserved_records policy + 1 ≤ made
  pub room : is_never_refused a.request given ≡ false → length history < day_limit

-- either way it fits the day
pub asked_fits : {policy : PolicyData} {history : List RecordData} (a : Asked) (r : RecordData) (was made : ℕ) → next policy history (Step.Asked a) ≡ Some r → FindsPlace policy history a r.verdict was made → FitsDay r
asked_fits {policy} {history} a r was made left finds = by (is_never_refused a.request r.verdict) refl
  where
    by : (b : Bool) → is_never_refused a.request r.verdict ≡ b → FitsDay r
    by true is = kept_fits policy history a r left is
    by false is = record { fits = inl (omega (arith, finds.room is, number_left policy history (Step.Asked a) r left)) }

-- there is a place
pub asked_has_place : {policy : PolicyData} {history : List RecordData} (a : Asked) (r : RecordData) (was made : ℕ) (k : GateState) → IsWhole policy history was k → next policy history (Step.Asked a) ≡ Some r
    → FindsPlace policy history a r.verdict was made → 0 < made
asked_has_place {policy} {history} a r was made k kept left finds = by (is_never_refused a.request r.verdict) refl
  where
    by : (b : Bool) → is_never_refused a.request r.verdict ≡ b → 0 < made
    by true is = omega (arith, kept_records_take_places policy history a r kept.kept.legal left is, (places_of was k kept).recorded, finds.more)
    by false is = omega (arith, finds.own is)

-- what the state is brought up to date by, where the places were made
pub takes : {policy : PolicyData} {history : List RecordData} (records : List RecordData) (step : Step) (m : Move) (r entry : RecordData) (was : ℕ) (k : GateState) → IsWhole policy history was k → records ≡ history → entry ≡ r
    → next policy history step ≡ Some r → m ≡ move_of policy (world policy history) r → FitsDay r → Takes policy records m entry k
takes {policy} {history} records step m r entry was k kept same is left moves fits =
    subst (λ (rs : List RecordData). Takes policy rs m entry k) (sym same)
    (subst (λ (e : RecordData). Takes policy history m e k) (sym is)
    (record {
      does = record { legal = kept.kept.legal; is_next = ap (next policy history) (step_left policy history step r left) ∙ left; moves = sym moves };
      fits = fits;
      in_force = kept.kept.in_force;
    }))

-- a matching step's record fits the day, where there is room
pub match_fits : (policy : PolicyData) (history : List RecordData) (handed : ℕ) (r : RecordData) → next policy history (Step.Matching handed) ≡ Some r → length history < day_limit → FitsDay r
match_fits policy history handed r left room = record { fits = inl (omega (arith, room, number_left policy history (Step.Matching handed) r left)) }

pub told_then : {policy : PolicyData} {history : List RecordData} (records : List RecordData) (was : ℕ) (k : GateState) → IsWhole policy history was k → records ≡ history → HaveReservedReports policy records k.streams
told_then {policy} records was k kept same = subst (λ (rs : List RecordData). HaveReservedReports policy rs k.streams) (sym same) (places_of was k kept).told

-- and all is kept
pub keep_asked : {policy : PolicyData} {history : List RecordData} (a : Asked) (r : RecordData) (was made reserved : ℕ) (before after : GateState) → IsWhole policy history was before
    → next policy history (Step.Asked a) ≡ Some r → FindsPlace policy history a r.verdict was made → reserved + 1 ≡ made → AreCarried policy (history ++ r ∷ []) after
    → IsWhole policy (history ++ r ∷ []) reserved after
keep_asked {policy} {history} a r was made reserved before after kept left finds taken carried = by (is_never_refused a.request r.verdict) refl
  where
    by : (b : Bool) → is_never_refused a.request r.verdict ≡ b → IsWhole policy (history ++ r ∷ []) reserved after
    by true is = keep_kept a r was made reserved before after kept left is finds.more taken carried
    by false is = keep_within (Step.Asked a) r was made reserved before after kept left (finds.room is) (finds.own is) taken carried

-- more places, and the same records
pub keep_still : {policy : PolicyData} {history : List RecordData} (records : List RecordData) (was reserved : ℕ) (before after : GateState) → IsWhole policy history was before → records ≡ history → was ≤ reserved
    → AreCarried policy history after → IsWhole policy records reserved after
keep_still {policy} {history} records was reserved before after kept same more carried =
    let places = places_of was before kept in
    subst (λ (rs : List RecordData). IsWhole policy rs reserved after) (sym same)
    (whole_with {policy = policy} {records = history} reserved after
    (record { legal = kept.kept.legal; in_force = carried.in_force })
    (record {
      within = places.within;
      recorded = omega (arith, places.recorded, more);
      told = carried.told;
    }))

-- at the beginning of a day
pub keep_none : {policy : PolicyData} (records : List RecordData) (reserved : ℕ) (state : GateState) → records ≡ [] → most_reserved_records policy ≤ reserved → AreCarried policy [] state → IsWhole policy records reserved state
keep_none {policy} records reserved state none enough carried =
    let most = so_many_record_places_are_enough policy [] in
    subst (λ (rs : List RecordData). IsWhole policy rs reserved state) (sym none)
    (whole_with {policy = policy} {records = []} reserved state
    (record { legal = legal_none policy; in_force = carried.in_force })
    (record {
      within = omega (arith, most);
      recorded = omega (arith, most, enough);
      told = carried.told;
    }))
