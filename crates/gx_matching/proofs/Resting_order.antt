-- Orders come to rest in the order of their numbers.
use Rattle.std.proofs.{Common.{◌≡◌, ℕ, ◌<◌, ◌≤◌, Bool, true, false, List, [], ◌∷◌, ◌++◌, refl, ◌∙◌, ap, sym, cond, arith}, Math.Path.subst, lemmas.{Bool.{ne_eqb, both_ways}, List.append-nil, Option.same_Some}}
use Rattle.std.specs.{Prelude.{Option, Some, None, ◌==◌}, List.{AllByRecursion, cons_option, filter_map}}
use Rattle.gx_units.proofs.Lists_hold.{all_weaker, all_both, all_mapped, all_found_of, found_is}
use Rattle.gx_policy.specs.declared.policy.PolicyData.{PolicyData}
use Rattle.gx_history.specs.{declared.{live_order.LiveOrder.LiveOrder, «record».{RecordData.RecordData, Verdict.Verdict}}, Book.{is_buy, rested_of}, MayMove.MayRest, Live.{live, side}, Turns.{Turn, Adds, Replaces, Rests, becomes, new_in, live_after}, Verdicts.{IsLegal, next}, World.{world, turn_by}}
use Rattle.gx_laws.proofs.{Requests_judged.legal_keeps, Streams_next.{legal_next, legal_none}, Orders_numbered.number_left, LiveOrders_known.{RestsThere, all_resting}, LiveOrders_next.live_next, Moves_allowed.may_by, LiveOrders_numbered.{IsLiving, all_living}, BookSides_next.{AreNew, becomes_same, goes, new_by, puts_to_rest}, Runs_orderly.legal_is_orderly}
use Rattle.gx_orders.specs.LiveOrders.{OrdersData, first_waiting}
use Rattle.gx_orders.proofs.{Orders_stay.{live_within, none_at_first}, Orders_found.comes_first}
use Rattle.gx_book.specs.Resting.{RestingData, resting_of}
use Rattle.gx_matching.specs.Laws.{FirstIsLatest}
use Rattle.gx_matching.proofs.Book_sides.{resting_found}

-- p has the greater number, and waits where o does
abbrev IsBehind : LiveOrder → LiveOrder → Type 0
IsBehind o p = (o.number < p.number) × (o.waits ≡ true → p.waits ≡ true)

-- numbers rise, and those that wait come last
abbrev Ascend : List LiveOrder → Type 0
Ascend [] = Unit {0}
Ascend (o ∷ os) = AllByRecursion (IsBehind o) os × Ascend os

ascend_turned : (f : LiveOrder → Option LiveOrder) (Q : LiveOrder → Type 0) → ((o p x y : LiveOrder) → Q o → IsBehind o p → f o ≡ Some x → f p ≡ Some y → IsBehind x y)
    → (os : List LiveOrder) → AllByRecursion Q os → Ascend os → Ascend (filter_map f os)
ascend_turned f Q step [] all h = tt
ascend_turned f Q step (o ∷ os) all h = at (f o) refl (ascend_turned f Q step os all.1 h.1)
  where
    at : (found : Option LiveOrder) → f o ≡ found → Ascend (filter_map f os) → Ascend (cons_option found (filter_map f os))
    at None e later = later
    at (Some x) e later = (all_found_of (IsBehind o) (IsBehind x) f (λ p y behind k. step o p x y all.0 behind e k) os h.0, later)

ascend_joined : (r : RecordData) (turn : Turn) (os : List LiveOrder) → AreNew r turn → AllByRecursion (λ (o : LiveOrder). o.number < r.number) os → Ascend os → Ascend (os ++ new_in turn)
ascend_joined r turn [] new within h = alone turn
  where
    alone : (t : Turn) → Ascend (new_in t)
    alone (Adds o) = (tt, tt)
    alone (Replaces number o) = (tt, tt)
    alone other = tt
ascend_joined r turn (o ∷ os) new within h = (
  all_both (IsBehind o) os (new_in turn) h.0
      (all_weaker (λ (p : LiveOrder). (p.number ≡ r.number) × (p.waits ≡ true)) (IsBehind o) (λ p is. (subst (λ (n : ℕ). o.number < n) (sym is.0) within.0, λ waits. is.1)) (new_in turn) new),
  ascend_joined r turn os new within.1 h.1,
)

-- a turn that puts none to rest
turns_on : (r : RecordData) (turn : Turn) (os : List LiveOrder) → puts_to_rest turn ≡ false → AreNew r turn → AllByRecursion (λ (o : LiveOrder). o.number < r.number) os → Ascend os → Ascend (live_after turn os)
turns_on r turn os stays new within h =
    ascend_joined r turn (filter_map (becomes turn) os) new
    (all_found_of (λ (o : LiveOrder). o.number < r.number) (λ (o : LiveOrder). o.number < r.number) (becomes turn) (λ o x k e. subst (λ (n : ℕ). n < r.number) (sym (becomes_same turn o x e).0) k) os within)
    (ascend_turned (becomes turn) (λ (o : LiveOrder). o.number < r.number) by os within h)
  where
    by : (o p x y : LiveOrder) → o.number < r.number → IsBehind o p → becomes turn o ≡ Some x → becomes turn p ≡ Some y → IsBehind x y
    by o p x y small behind e k = (
      subst (λ (n : ℕ). n < y.number) (sym (becomes_same turn o x e).0) (subst (λ (n : ℕ). o.number < n) (sym (becomes_same turn p y k).0) behind.0),
      λ waits. (becomes_same turn p y k).2 stays ∙ behind.1 (sym ((becomes_same turn o x e).2 stays) ∙ waits),
    )

-- those before the first that waits rest, and have lesser numbers
abbrev IsParted : LiveOrder → LiveOrder → Type 0
IsParted first o = (o.waits ≡ true → first.number ≤ o.number) × (o.waits ≡ false → o.number < first.number)

parted : (first : LiveOrder) (os : List LiveOrder) → Ascend os → first_waiting os ≡ Some first → AllByRecursion (IsParted first) os
parted first [] h e = tt
parted first (o ∷ os) h e = at o.waits refl e (parted first os h.1)
  where
    behind : o.waits ≡ true → (p : LiveOrder) → IsBehind o p → IsParted o p
    behind w p b = (λ waits. let less : o.number < p.number = b.0 in omega arith, λ rests. absurd (both_ways _ rests (b.1 w)))

    at : (b : Bool) → o.waits ≡ b → cond b (Some o) (first_waiting os) ≡ Some first → (first_waiting os ≡ Some first → AllByRecursion (IsParted first) os) → IsParted first o × AllByRecursion (IsParted first) os
    at true w k deeper = subst (λ (x : LiveOrder). AllByRecursion (IsParted x) (o ∷ os)) (same_Some _ _ k) ((λ waits. omega arith, λ rests. absurd (both_ways _ rests w)), all_weaker (IsBehind o) (IsParted o) (behind w) os h.0)
    at false w k deeper = ((λ waits. absurd (both_ways _ w waits), λ rests. (found_is (IsBehind o) (λ (x : LiveOrder). x.waits) os first h.0 k).0), deeper k)

-- the first that waits comes to rest
rests_on : (number : ℕ) (first : LiveOrder) (os : List LiveOrder) → first_waiting os ≡ Some first → number ≡ first.number → Ascend os → Ascend (filter_map (becomes (Rests number)) os)
rests_on number first os e is h = ascend_turned (becomes (Rests number)) (IsParted first) by os (parted first os h e) h
  where
    kept : (o x : LiveOrder) → (number == o.number) ≡ false → becomes (Rests number) o ≡ Some x → x.waits ≡ o.waits
    kept o x other k = ap (λ (y : LiveOrder). y.waits) (sym (ap (λ (b : Bool). cond b (record o { waits = false }) o) (sym other) ∙ same_Some _ _ k))

    waits_on : (o p x y : LiveOrder) → IsParted first o → IsBehind o p → becomes (Rests number) o ≡ Some x → becomes (Rests number) p ≡ Some y → x.waits ≡ true → (b : Bool) → (number == o.number) ≡ b → y.waits ≡ true
    waits_on o p x y sides behind k l waits true same = absurd (both_ways _ (ap (λ (z : LiveOrder). z.waits) (sym (ap (λ (b : Bool). cond b (record o { waits = false }) o) (sym same) ∙ same_Some _ _ k))) waits)
    waits_on o p x y sides behind k l waits false other =
        let did : o.waits ≡ true = sym (kept o x other k) ∙ waits in
        let above : first.number ≤ o.number = sides.0 did in
        let less : o.number < p.number = behind.0 in
        kept p y (ne_eqb number p.number (λ same. absurd (omega (arith, same, is)))) l ∙ behind.1 did

    by : (o p x y : LiveOrder) → IsParted first o → IsBehind o p → becomes (Rests number) o ≡ Some x → becomes (Rests number) p ≡ Some y → IsBehind x y
    by o p x y sides behind k l = (
      subst (λ (n : ℕ). n < y.number) (sym (becomes_same (Rests number) o x k).0) (subst (λ (n : ℕ). o.number < n) (sym (becomes_same (Rests number) p y l).0) behind.0),
      λ waits. waits_on o p x y sides behind k l waits (number == o.number) refl,
    )

ascend_next : {policy : PolicyData} {history : List RecordData} (r : RecordData) → IsLegal policy history → next policy history r.step ≡ Some r → Ascend (live policy history) → Ascend (live policy (history ++ r ∷ []))
ascend_next {policy} {history} r legal left h = by r.verdict refl
  where
    os : List LiveOrder
    os = live policy history

    then_by : (v : Verdict) → r.verdict ≡ v → Ascend (live_after (turn_by policy (world policy history) r v r.step) os) → Ascend (live policy (history ++ r ∷ []))
    then_by v e k = subst Ascend (sym (live_next policy history r.step r legal left ∙ ap (λ (x : Verdict). live_after (turn_by policy (world policy history) r x r.step) os) e)) k

    none_rests : (v : Verdict) → r.verdict ≡ v → rested_of v ≡ None → Ascend (live policy (history ++ r ∷ []))
    none_rests v e none =
        then_by v e (turns_on r (turn_by policy (world policy history) r v r.step) os (goes policy (world policy history) r v r.step none) (new_by policy (world policy history) r v r.step) (live_within r.number legal (number_left policy history r.step r left)) h)

    first_rests : (number : ℕ) → r.verdict ≡ Verdict.Rested number → MayRest (world policy history) r number → Ascend (live policy (history ++ r ∷ []))
    first_rests number e is =
        then_by (Verdict.Rested number) e (subst Ascend (sym (append-nil _)) (rests_on number is.first os (comes_first policy history is.first is.waiting is.comes_first) is.has_number h))

    by : (v : Verdict) → r.verdict ≡ v → Ascend (live policy (history ++ r ∷ []))
    by (Verdict.Rested number) e = first_rests number e (may_by r.step r (Verdict.Rested number) legal left e)
    by Verdict.Granted e = none_rests Verdict.Granted e refl
    by (Verdict.Denied rule) e = none_rests (Verdict.Denied rule) e refl
    by (Verdict.Filled f) e = none_rests (Verdict.Filled f) e refl
    by (Verdict.Expired number) e = none_rests (Verdict.Expired number) e refl

live_ascend : {policy : PolicyData} {history : List RecordData} → IsLegal policy history → Ascend (live policy history)
live_ascend {policy} legal =
    (legal_keeps (λ h. IsLegal policy h × Ascend (live policy h)) (legal_none policy, subst Ascend (sym (ap (λ (d : OrdersData). d.live) (none_at_first policy))) tt)
    (λ h r kept follows. (legal_next r kept.0 follows, ascend_next r kept.0 follows.is_next kept.1)) legal).1

-- the first that waits has a number above those that rest
pub first_is_latest : FirstIsLatest
first_is_latest policy history o legal waits =
    let lives : IsLiving policy history o = found_is (IsLiving policy history) (λ (x : LiveOrder). x.waits) (live policy history) o (all_living legal) waits in
    let sides : AllByRecursion (IsParted o) (live policy history) = parted o (live policy history) (live_ascend legal) waits in
    subst (AllByRecursion (λ (r : RestingData). r.price ≡ o.terms.price → r.order < o.number)) (sym (resting_found policy history o.terms.stock (is_buy o.terms.side) lives.listed))
    (all_mapped (λ (r : RestingData). r.price ≡ o.terms.price → r.order < o.number) resting_of (side policy history o.terms.stock (is_buy o.terms.side))
    (all_weaker (RestsThere policy history o.terms.stock (is_buy o.terms.side)) (λ (x : LiveOrder). x.terms.price ≡ o.terms.price → x.number < o.number)
    (λ x there price. (found_is (IsParted o) (λ (y : LiveOrder). y.number == x.number) (live policy history) x sides there.known.is_found).1 there.rests) (side policy history o.terms.stock (is_buy o.terms.side))
    (all_resting o.terms.stock (is_buy o.terms.side) (legal_is_orderly legal))))
