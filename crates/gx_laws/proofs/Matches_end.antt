-- Matching steps end: each leaves fewer orders that wait or fewer that live.
use Rattle.std.proofs.{Common.{◌≡◌, ℕ, zero, suc, ◌+◌, ◌<◌, ◌≤◌, Bool, true, false, not, List, [], ◌∷◌, ◌++◌, refl, ◌∙◌, ap, sym, cond, length, arith, append_assoc}, Math.Path.subst, lemmas.{Bool.{eq-eqb, le-ltb, ltb-false, ltb-true, or_left, or_right}, List.append-nil}}
use Rattle.std.specs.{Prelude.{Option, Some, None, min, ◌==◌, ◌||◌, nat_lt}, List.{AllByRecursion, cons_option, filter, filter_map}}
use Rattle.gx_units.proofs.Lists_hold.{all_both}
use Rattle.gx_policy.specs.declared.policy.PolicyData.{PolicyData}
use Rattle.gx_history.specs.{declared.{live_order.LiveOrder.LiveOrder, «record».{Fill.Fill, RecordData.RecordData, Step.Step, Verdict.Verdict}}, Live.{waiting, live_numbered, live}, LiveOrders.shares_open, Matching.matching, MayMove.{MayExpire, MayRest}, Settling.{most_matches, settle_on, settled_within, settled_records, AddsMatches}, Turns.{Turn, becomes, new_in, live_after, while_open}, Verdicts.next, World.{turn_by, world}}
use Rattle.gx_history.specs.Turns as turns
use Rattle.gx_laws.proofs.{Runs_legal.{step_left, idle_where_none_waits}, Fills_executed.{IsFill, is_fill}, LiveOrders_next.by_match, Matches_allowed.{idle_where_empty, may_match}, Runs_orderly.{IsOrderly, orderly_next}, BookSides_next.{puts_to_rest, waits_rested, waits_turned}}

-- what goes on is no more
no_more : {X : Type 0} (f : X → Option X) (xs : List X) → length (filter_map f xs) ≤ length xs
no_more f [] = omega arith
no_more {X} f (x ∷ xs) = at (f x) (no_more f xs)
  where
    at : (found : Option X) → length (filter_map f xs) ≤ length xs → length (cons_option found (filter_map f xs)) ≤ suc (length xs)
    at None h = omega arith
    at (Some y) h = omega arith

-- and fewer where one that is found does not go on
one_fewer : (f : LiveOrder → Option LiveOrder) (os : List LiveOrder) (n : ℕ) (o : LiveOrder) → live_numbered os n ≡ Some o → f o ≡ None → length (filter_map f os) < length os
one_fewer f [] n o found gone = cc
one_fewer f (x ∷ xs) n o found gone = at (x.number == n) found (one_fewer f xs n o) (no_more f xs) (f x) refl
  where
    same : Some x ≡ Some o → x ≡ o
    same e = cc

    at : (b : Bool) → cond b (Some x) (live_numbered xs n) ≡ Some o → (live_numbered xs n ≡ Some o → f o ≡ None → length (filter_map f xs) < length xs) → length (filter_map f xs) ≤ length xs
        → (found : Option LiveOrder) → f x ≡ found → length (cons_option found (filter_map f xs)) < suc (length xs)
    at b k deeper short None e = omega arith
    at true k deeper short (Some y) e = let no : Some y ≡ None = sym e ∙ ap f (same k) ∙ gone in cc
    at false k deeper short (Some y) e = let less : length (filter_map f xs) < length xs = deeper k gone in omega arith

-- the sides of a fill, where all that is open of one is filled
all_filled : (f : Fill) (o : LiveOrder) → (o.number == f.taker || o.number == f.maker) ≡ true → shares_open o ≤ f.shares → becomes (turns.Fills f) o ≡ None
all_filled f o side all =
    ap (λ (b : Bool). cond b (while_open (record o { done = o.done + f.shares })) (Some o)) side
    ∙ ap (λ (b : Bool). cond b (Some (record o { done = o.done + f.shares })) None) (le-ltb (o.done + f.shares) o.total (omega arith))

-- the lists after a matching step
live_then : {policy : PolicyData} {history : List RecordData} (handed : ℕ) (r : RecordData) (v : Verdict) → IsOrderly policy history → next policy history (Step.Matching handed) ≡ Some r → r.verdict ≡ v
    → live policy (history ++ r ∷ []) ≡ live_after (turn_by policy (world policy history) r v (Step.Matching handed)) (live policy history)
live_then handed r v orderly left e = by_match handed r orderly left v e

waits_then : {policy : PolicyData} {history : List RecordData} (handed : ℕ) (r : RecordData) (v : Verdict) (turn : Turn) → IsOrderly policy history → next policy history (Step.Matching handed) ≡ Some r → r.verdict ≡ v
    → turn_by policy (world policy history) r v (Step.Matching handed) ≡ turn → puts_to_rest turn ≡ false → new_in turn ≡ [] → waiting policy (history ++ r ∷ []) ≡ filter_map (becomes turn) (waiting policy history)
unfolding waiting
waits_then {policy} {history} handed r v turn orderly left e is goes none =
    ap (filter (λ (o : LiveOrder). o.waits)) (live_then handed r v orderly left e ∙ ap (λ (x : Turn). live_after x (live policy history)) is)
    ∙ waits_turned r turn (live policy history) goes (subst (AllByRecursion (λ (o : LiveOrder). (o.number ≡ r.number) × (o.waits ≡ true))) (sym none) tt)
    ∙ ap (λ (os : List LiveOrder). filter_map (becomes turn) (filter (λ (o : LiveOrder). o.waits) (live policy history)) ++ os) none
    ∙ append-nil (filter_map (becomes turn) (filter (λ (o : LiveOrder). o.waits) (live policy history)))

fewer_of : (a b c d : ℕ) → a ≤ c → b < d → a + b < c + d
fewer_of a b c d h k = omega arith

fewer_first : (a b c d : ℕ) → a < c → b ≤ d → a + b < c + d
fewer_first a b c d h k = omega arith

-- a fill leaves fewer: the taker no longer waits, or the maker no longer lives
fill_leaves_fewer : {policy : PolicyData} {history : List RecordData} (handed : ℕ) (r : RecordData) (f : Fill) → IsOrderly policy history → next policy history (Step.Matching handed) ≡ Some r → r.verdict ≡ Verdict.Filled f → (is : IsFill policy history r f)
    → most_matches policy (history ++ r ∷ []) < most_matches policy history
fill_leaves_fewer {policy} {history} handed r f orderly left e is = at (nat_lt (shares_open is.may.maker) (shares_open is.may.taker)) refl (ap (λ (x : Fill). x.shares) is.may.is_theirs)
  where
    lives : live policy (history ++ r ∷ []) ≡ filter_map (becomes (turns.Fills f)) (live policy history)
    lives = live_then handed r (Verdict.Filled f) orderly left e ∙ append-nil (filter_map (becomes (turns.Fills f)) (live policy history))

    waits : waiting policy (history ++ r ∷ []) ≡ filter_map (becomes (turns.Fills f)) (waiting policy history)
    waits = waits_then handed r (Verdict.Filled f) (turns.Fills f) orderly left e refl refl refl

    few_live : length (live policy (history ++ r ∷ [])) ≤ length (live policy history)
    few_live = subst (λ (os : List LiveOrder). length os ≤ length (live policy history)) (sym lives) (no_more (becomes (turns.Fills f)) (live policy history))

    few_wait : length (waiting policy (history ++ r ∷ [])) ≤ length (waiting policy history)
    few_wait = subst (λ (os : List LiveOrder). length os ≤ length (waiting policy history)) (sym waits) (no_more (becomes (turns.Fills f)) (waiting policy history))

    without_first : becomes (turns.Fills f) is.may.taker ≡ None → length (waiting policy (history ++ r ∷ [])) < length (waiting policy history)
    without_first gone =
        let now : length (waiting policy (history ++ r ∷ [])) ≡ length (filter_map (becomes (turns.Fills f)) is.may.waiting) =
        ap length (waits ∙ ap (filter_map (becomes (turns.Fills f))) is.may.comes_first ∙ ap (λ (x : Option LiveOrder). cons_option x (filter_map (becomes (turns.Fills f)) is.may.waiting)) gone) in
        let was : length (waiting policy history) ≡ suc (length is.may.waiting) = ap length is.may.comes_first in
        let short : length (filter_map (becomes (turns.Fills f)) is.may.waiting) ≤ length is.may.waiting = no_more (becomes (turns.Fills f)) is.may.waiting in
        omega arith

    at : (b : Bool) → nat_lt (shares_open is.may.maker) (shares_open is.may.taker) ≡ b → f.shares ≡ min (shares_open is.may.taker) (shares_open is.may.maker) → most_matches policy (history ++ r ∷ []) < most_matches policy history
    at true k shares =
        let smaller : shares_open is.may.maker < shares_open is.may.taker = ltb-true (shares_open is.may.maker) (shares_open is.may.taker) k in
        let all : shares_open is.may.maker ≤ f.shares = omega arith in
        fewer_of _ _ _ _ few_wait (subst (λ (os : List LiveOrder). length os < length (live policy history)) (sym lives)
        (one_fewer (becomes (turns.Fills f)) (live policy history) is.may.maker.number is.may.maker is.maker_rests.known.is_found
        (all_filled f is.may.maker (or_right (is.may.maker.number == f.taker) (is.may.maker.number == f.maker) (eq-eqb is.may.maker.number f.maker (sym is.of_maker))) all)))
    at false k shares =
        let smaller : shares_open is.may.taker ≤ shares_open is.may.maker = ltb-false (shares_open is.may.maker) (shares_open is.may.taker) k in
        let all : shares_open is.may.taker ≤ f.shares = omega arith in
        fewer_first _ _ _ _ (without_first (all_filled f is.may.taker (or_left (is.may.taker.number == f.taker) (is.may.taker.number == f.maker) (eq-eqb is.may.taker.number f.taker (sym is.of_taker))) all)) few_live

-- the first no longer waits
first_leaves : (number : ℕ) (first : LiveOrder) (others : List LiveOrder) → number ≡ first.number → length (filter (λ (o : LiveOrder). not (number == o.number)) (first ∷ others)) ≤ length others
first_leaves number first others e =
    subst (λ (b : Bool). length (cond (not b) (first ∷ filter (λ (o : LiveOrder). not (number == o.number)) others) (filter (λ (o : LiveOrder). not (number == o.number)) others)) ≤ length others) (sym (eq-eqb number first.number e)) (shorter others)
  where
    shorter : (os : List LiveOrder) → length (filter (λ (o : LiveOrder). not (number == o.number)) os) ≤ length os
    shorter [] = omega arith
    shorter (o ∷ os) = at (number == o.number) (shorter os)
      where
        at : (b : Bool) → length (filter (λ (o : LiveOrder). not (number == o.number)) os) ≤ length os → length (cond (not b) (o ∷ filter (λ (o : LiveOrder). not (number == o.number)) os) (filter (λ (o : LiveOrder). not (number == o.number)) os)) ≤ suc (length os)
        at true h = omega arith
        at false h = omega arith

waits_at_rest : {policy : PolicyData} {history : List RecordData} (handed : ℕ) (r : RecordData) (number : ℕ) → IsOrderly policy history → next policy history (Step.Matching handed) ≡ Some r → r.verdict ≡ Verdict.Rested number
    → waiting policy (history ++ r ∷ []) ≡ filter (λ (o : LiveOrder). not (number == o.number)) (waiting policy history)
unfolding waiting
waits_at_rest {policy} {history} handed r number orderly left e = ap (filter (λ (o : LiveOrder). o.waits)) (live_then handed r (Verdict.Rested number) orderly left e) ∙ waits_rested number (live policy history)

rest_leaves_fewer : {policy : PolicyData} {history : List RecordData} (handed : ℕ) (r : RecordData) (number : ℕ) → IsOrderly policy history → next policy history (Step.Matching handed) ≡ Some r → r.verdict ≡ Verdict.Rested number
    → most_matches policy (history ++ r ∷ []) < most_matches policy history
rest_leaves_fewer {policy} {history} handed r number orderly left e =
    let may : MayRest (world policy history) r number = may_match policy history handed r (Verdict.Rested number) left e in
    let lives : length (live policy (history ++ r ∷ [])) ≡ length (filter_map (becomes (turns.Rests number)) (live policy history)) = ap length (live_then handed r (Verdict.Rested number) orderly left e ∙ append-nil (filter_map (becomes (turns.Rests number)) (live policy history))) in
    let few : length (filter_map (becomes (turns.Rests number)) (live policy history)) ≤ length (live policy history) = no_more (becomes (turns.Rests number)) (live policy history) in
    let waits : length (waiting policy (history ++ r ∷ [])) ≡ length (filter (λ (o : LiveOrder). not (number == o.number)) (may.first ∷ may.waiting)) = ap length (waits_at_rest handed r number orderly left e ∙ ap (filter (λ (o : LiveOrder). not (number == o.number))) may.comes_first) in
    let less : length (filter (λ (o : LiveOrder). not (number == o.number)) (may.first ∷ may.waiting)) ≤ length may.waiting = first_leaves number may.first may.waiting may.has_number in
    let was : length (waiting policy history) ≡ suc (length may.waiting) = ap length may.comes_first in
    omega arith

end_leaves_fewer : {policy : PolicyData} {history : List RecordData} (handed : ℕ) (r : RecordData) (number : ℕ) → IsOrderly policy history → next policy history (Step.Matching handed) ≡ Some r → r.verdict ≡ Verdict.Expired number → most_matches policy (history ++ r ∷ []) < most_matches policy history
end_leaves_fewer {policy} {history} handed r number orderly left e =
    let may : MayExpire (world policy history) r number = may_match policy history handed r (Verdict.Expired number) left e in
    let lives : length (live policy (history ++ r ∷ [])) ≡ length (filter_map (becomes (turns.Ends number)) (live policy history)) = ap length (live_then handed r (Verdict.Expired number) orderly left e ∙ append-nil (filter_map (becomes (turns.Ends number)) (live policy history))) in
    let few : length (filter_map (becomes (turns.Ends number)) (live policy history)) ≤ length (live policy history) = no_more (becomes (turns.Ends number)) (live policy history) in
    let gone : becomes (turns.Ends number) may.first ≡ None = ap (λ (b : Bool). cond {A = Option LiveOrder} b None (Some may.first)) (eq-eqb number may.first.number may.has_number) in
    let waits : length (waiting policy (history ++ r ∷ [])) ≡ length (filter_map (becomes (turns.Ends number)) may.waiting) =
    ap length (waits_then handed r (Verdict.Expired number) (turns.Ends number) orderly left e refl refl refl ∙ ap (filter_map (becomes (turns.Ends number))) may.comes_first ∙ ap (λ (x : Option LiveOrder). cons_option x (filter_map (becomes (turns.Ends number)) may.waiting)) gone) in
    let less : length (filter_map (becomes (turns.Ends number)) may.waiting) ≤ length may.waiting = no_more (becomes (turns.Ends number)) may.waiting in
    let was : length (waiting policy history) ≡ suc (length may.waiting) = ap length may.comes_first in
    omega arith

-- each matching step leaves fewer
pub match_leaves_fewer : {policy : PolicyData} {history : List RecordData} (handed : ℕ) (r : RecordData) → IsOrderly policy history → next policy history (Step.Matching handed) ≡ Some r
    → most_matches policy (history ++ r ∷ []) < most_matches policy history
match_leaves_fewer {policy} {history} handed r orderly left = by_verdict r.verdict refl
  where
    by_verdict : (v : Verdict) → r.verdict ≡ v → most_matches policy (history ++ r ∷ []) < most_matches policy history
    by_verdict Verdict.Granted e = absurd (may_match policy history handed r Verdict.Granted left e)
    by_verdict (Verdict.Denied rule) e = absurd (may_match policy history handed r (Verdict.Denied rule) left e)
    by_verdict (Verdict.Filled f) e = fill_leaves_fewer handed r f orderly left e (is_fill handed r f orderly left e)
    by_verdict (Verdict.Rested n) e = rest_leaves_fewer handed r n orderly left e
    by_verdict (Verdict.Expired n) e = end_leaves_fewer handed r n orderly left e

-- the records after it are orderly as well
pub match_is_orderly : {policy : PolicyData} {history : List RecordData} (handed : ℕ) (r : RecordData) → IsOrderly policy history → next policy history (Step.Matching handed) ≡ Some r → IsOrderly policy (history ++ r ∷ [])
match_is_orderly {policy} {history} handed r orderly left =
    orderly_next r orderly (ap (next policy history) (step_left policy history (Step.Matching handed) r left) ∙ left)

-- where nothing waits and nothing lives there is no matching step
none_to_match : (policy : PolicyData) (history : List RecordData) (moment : ℕ) → most_matches policy history ≤ 0 → next policy history (Step.Matching moment) ≡ None
none_to_match policy history moment h = (idle_where_none_waits policy history moment).1 (nothing (waiting policy history) (none (length (waiting policy history)) (length (live policy history)) h))
  where
    none : (n m : ℕ) → n + m ≤ 0 → n ≤ 0
    none n m k = omega arith

    nothing : (ss : List LiveOrder) → length ss ≤ 0 → ss ≡ []
    nothing [] k = refl
    nothing (s ∷ ss) k = absurd (omega arith)

-- so many steps are enough
enough : {policy : PolicyData} (n m : ℕ) (history : List RecordData) (moment : ℕ) → IsOrderly policy history → most_matches policy history ≤ n → most_matches policy history ≤ m
    → settled_within n policy history moment ≡ settled_within m policy history moment
enough zero zero history moment orderly h k = refl
enough {policy} zero (suc m) history moment orderly h k = sym (ap (settle_on (λ longer. settled_within m policy longer moment) history) (none_to_match policy history moment h))
enough {policy} (suc n) zero history moment orderly h k = ap (settle_on (λ longer. settled_within n policy longer moment) history) (none_to_match policy history moment k)
enough {policy} (suc n) (suc m) history moment orderly h k = at (next policy history (Step.Matching moment)) refl (λ longer. enough n m longer moment)
  where
    at : (found : Option RecordData) → next policy history (Step.Matching moment) ≡ found
        → ((longer : List RecordData) → IsOrderly policy longer → most_matches policy longer ≤ n → most_matches policy longer ≤ m → settled_within n policy longer moment ≡ settled_within m policy longer moment)
        → settle_on (λ longer. settled_within n policy longer moment) history found ≡ settle_on (λ longer. settled_within m policy longer moment) history found
    at None e deeper = refl
    at (Some r) e deeper =
        let fewer : most_matches policy (history ++ r ∷ []) < most_matches policy history = match_leaves_fewer moment r orderly e in
        deeper (history ++ r ∷ []) (match_is_orderly moment r orderly e) (one_less fewer h) (one_less fewer k)
      where
        one_less : {a b c : ℕ} → a < b → b ≤ suc c → a ≤ c
        one_less x y = omega arith

-- where there is no matching step, nothing settles
pub settled_idle : (policy : PolicyData) (history : List RecordData) (moment : ℕ) → next policy history (Step.Matching moment) ≡ None → settled_records policy history moment ≡ history
unfolding settled_records
settled_idle policy history moment none = at (most_matches policy history)
  where
    at : (n : ℕ) → settled_within n policy history moment ≡ history
    at zero = refl
    at (suc n) = ap (settle_on (λ longer. settled_within n policy longer moment) history) none

-- a matching step is one of those that settle
pub settled_step : {policy : PolicyData} {history : List RecordData} (moment : ℕ) (r : RecordData) → IsOrderly policy history → next policy history (Step.Matching moment) ≡ Some r
    → settled_records policy history moment ≡ settled_records policy (history ++ r ∷ []) moment
unfolding settled_records
settled_step {policy} {history} moment r orderly left = at (most_matches policy history) (match_leaves_fewer moment r orderly left)
  where
    at : (n : ℕ) → most_matches policy (history ++ r ∷ []) < n → settled_within n policy history moment ≡ settled_within (most_matches policy (history ++ r ∷ [])) policy (history ++ r ∷ []) moment
    at zero h = absurd (omega arith)
    at (suc n) h =
        ap (settle_on (λ longer. settled_within n policy longer moment) history) left
        ∙ enough n (most_matches policy (history ++ r ∷ [])) (history ++ r ∷ []) moment (match_is_orderly moment r orderly left) (omega arith) (omega arith)

-- what settles keeps whatever each matching step keeps
pub settled_keeps : (policy : PolicyData) (moment : ℕ) (Keeps : List RecordData → Type 0) → ((history : List RecordData) (r : RecordData) → Keeps history → next policy history (Step.Matching moment) ≡ Some r → Keeps (history ++ r ∷ []))
    → (n : ℕ) (history : List RecordData) → Keeps history → Keeps (settled_within n policy history moment)
settled_keeps policy moment Keeps step zero history kept = kept
settled_keeps policy moment Keeps step (suc n) history kept = at (next policy history (Step.Matching moment)) refl (λ longer. settled_keeps policy moment Keeps step n longer)
  where
    at : (found : Option RecordData) → next policy history (Step.Matching moment) ≡ found → ((longer : List RecordData) → Keeps longer → Keeps (settled_within n policy longer moment))
        → Keeps (settle_on (λ longer. settled_within n policy longer moment) history found)
    at None e deeper = kept
    at (Some r) e deeper = deeper (history ++ r ∷ []) (step history r kept e)

-- and then nothing waits
settled_within_ends : {policy : PolicyData} (n : ℕ) (history : List RecordData) (moment : ℕ) → IsOrderly policy history → most_matches policy history ≤ n
    → next policy (settled_within n policy history moment) (Step.Matching moment) ≡ None
settled_within_ends {policy} zero history moment orderly h = none_to_match policy history moment h
settled_within_ends {policy} (suc n) history moment orderly h = at (next policy history (Step.Matching moment)) refl (λ longer. settled_within_ends n longer moment)
  where
    at : (found : Option RecordData) → next policy history (Step.Matching moment) ≡ found
        → ((longer : List RecordData) → IsOrderly policy longer → most_matches policy longer ≤ n → next policy (settled_within n policy longer moment) (Step.Matching moment) ≡ None)
        → next policy (settle_on (λ longer. settled_within n policy longer moment) history found) (Step.Matching moment) ≡ None
    at None e deeper = e
    at (Some r) e deeper =
        let fewer : most_matches policy (history ++ r ∷ []) < most_matches policy history = match_leaves_fewer moment r orderly e in
        deeper (history ++ r ∷ []) (match_is_orderly moment r orderly e) (one_less fewer)
      where
        one_less : most_matches policy (history ++ r ∷ []) < most_matches policy history → most_matches policy (history ++ r ∷ []) ≤ n
        one_less x = omega arith

pub settled_ends : {policy : PolicyData} {history : List RecordData} (moment : ℕ) → IsOrderly policy history → matching policy (settled_records policy history moment) ≡ None
unfolding settled_records
settled_ends {policy} {history} moment orderly =
    let over : List RecordData = settled_within (most_matches policy history) policy history moment in
    (idle_where_empty policy over).1
    ((idle_where_none_waits policy over moment).0 (settled_within_ends (most_matches policy history) history moment orderly (omega arith)))

-- by matching steps alone
pub settled_adds : (policy : PolicyData) (history : List RecordData) (moment : ℕ) → AddsMatches history (settled_records policy history moment) moment
unfolding settled_records
settled_adds policy history moment =
    settled_keeps policy moment (λ (h : List RecordData). AddsMatches history h moment) one_more (most_matches policy history) history
    (record { more = []; goes_on = sym (append-nil history); are_matches = tt })
  where
    one_more : (h : List RecordData) (r : RecordData) → AddsMatches history h moment → next policy h (Step.Matching moment) ≡ Some r → AddsMatches history (h ++ r ∷ []) moment
    one_more h r adds left = record {
      more = adds.more ++ r ∷ [];
      goes_on = ap (λ (rs : List RecordData). rs ++ r ∷ []) adds.goes_on ∙ append_assoc history adds.more (r ∷ []);
      are_matches =
          all_both (λ (x : RecordData). x.step ≡ Step.Matching moment) adds.more (r ∷ []) adds.are_matches (step_left policy h (Step.Matching moment) r left, tt);
    }
