-- The numbers of all orders that wait, once one more record stands behind.
use Rattle.std.proofs.{Common.{◌≡◌, ℕ, suc, Bool, true, false, not, cond, ◌==◌, List, [], ◌∷◌, ◌++◌, length, refl, ap, sym, ◌∙◌, subst}, lemmas.Bool.{eq-eqb, eqb-true, ne_eqb, or_left, or_right}}
use Rattle.std.specs.{Prelude.{Option, Some, None, ◌||◌}, Option.option_map_or, List.{AllByRecursion, cons_option, filter, filter_map, find, list_any}}
use Rattle.gx_units.proofs.Lists_hold.{all_weaker, all_both}
use Rattle.gx_policy.specs.declared.policy.PolicyData.{PolicyData}
use Rattle.gx_history.specs.{declared.{live_order.LiveOrder.LiveOrder, «record».RecordData.RecordData}, Live.{live, live_numbered, waiting}, Turns.{Turn, Keeps, Adds, Sizes, Replaces, EndsAll, Fills, Rests, Ends, becomes, new_in, live_after, waiting_after}, Verdicts.{IsLegal, Follows}, World.{turn_of, world}}
use Rattle.gx_laws.proofs.{Streams_next.legal_before, LiveOrders_known.live_are_found, BookSides_next.{becomes_same, new_by, waiting_next}}
use Rattle.gx_whatif.specs.{Following.{AreAllOf, waits_numbered}, Redone.{is_at_rest, is_none}}

-- the order has one of these numbers
abbrev IsOneOf : List ℕ → LiveOrder → Type 0
IsOneOf numbers o = list_any (λ n. n == o.number) numbers ≡ true

still_one : (numbers : List ℕ) (n k : ℕ) → list_any (λ m. m == k) numbers ≡ true → list_any (λ m. m == k) (numbers ++ n ∷ []) ≡ true
still_one [] n k h = cc
still_one (m ∷ numbers) n k h = at (still_one numbers n k) (m == k) h
  where
    at : (list_any (λ m. m == k) numbers ≡ true → list_any (λ m. m == k) (numbers ++ n ∷ []) ≡ true) → (b : Bool) → (b || list_any (λ m. m == k) numbers) ≡ true → (b || list_any (λ m. m == k) (numbers ++ n ∷ [])) ≡ true
    at later true h = refl
    at later false h = later h

is_the_last : (numbers : List ℕ) (n k : ℕ) → k ≡ n → list_any (λ m. m == k) (numbers ++ n ∷ []) ≡ true
is_the_last [] n k h = or_left (n == k) false (eq-eqb n k (sym h))
is_the_last (m ∷ numbers) n k h = or_right (m == k) (list_any (λ m. m == k) (numbers ++ n ∷ [])) (is_the_last numbers n k h)

all_kept : (P : LiveOrder → Type 0) (test : LiveOrder → Bool) (os : List LiveOrder) → AllByRecursion P os → AllByRecursion P (filter test os)
all_kept P test [] h = tt
all_kept P test (o ∷ os) h = at (all_kept P test os h.1) (test o)
  where
    at : AllByRecursion P (filter test os) → (b : Bool) → AllByRecursion P (cond b (o ∷ filter test os) (filter test os))
    at later true = (h.0, later)
    at later false = later

-- what each order becomes is one of these numbers as it was
all_become : (turn : Turn) (numbers : List ℕ) (os : List LiveOrder) → AllByRecursion (IsOneOf numbers) os → AllByRecursion (IsOneOf numbers) (filter_map (becomes turn) os)
all_become turn numbers [] h = tt
all_become turn numbers (o ∷ os) h = at (all_become turn numbers os h.1) (becomes turn o) refl
  where
    at : AllByRecursion (IsOneOf numbers) (filter_map (becomes turn) os) → (found : Option LiveOrder) → becomes turn o ≡ found → AllByRecursion (IsOneOf numbers) (cons_option found (filter_map (becomes turn) os))
    at later None e = later
    at later (Some x) e = (subst (λ (k : ℕ). list_any (λ n. n == k) numbers ≡ true) (sym (becomes_same turn o x e).0) h.0, later)

all_turned : (turn : Turn) (numbers : List ℕ) (os : List LiveOrder) → AllByRecursion (IsOneOf numbers) os → AllByRecursion (IsOneOf numbers) (new_in turn)
    → AllByRecursion (IsOneOf numbers) (live_after turn os)
all_turned turn numbers os h new = all_both (IsOneOf numbers) (filter_map (becomes turn) os) (new_in turn) (all_become turn numbers os h) new

all_wait : (turn : Turn) (numbers : List ℕ) (os : List LiveOrder) → AllByRecursion (IsOneOf numbers) os → AllByRecursion (IsOneOf numbers) (new_in turn)
    → AllByRecursion (IsOneOf numbers) (waiting_after turn os)
all_wait (Rests number) numbers os h new = all_kept (IsOneOf numbers) (λ (o : LiveOrder). not (number == o.number)) os h
all_wait Keeps numbers os h new = all_turned Keeps numbers os h new
all_wait (Adds o) numbers os h new = all_turned (Adds o) numbers os h new
all_wait (Sizes number size) numbers os h new = all_turned (Sizes number size) numbers os h new
all_wait (Replaces number o) numbers os h new = all_turned (Replaces number o) numbers os h new
all_wait (EndsAll action) numbers os h new = all_turned (EndsAll action) numbers os h new
all_wait (Fills f) numbers os h new = all_turned (Fills f) numbers os h new
all_wait (Ends number) numbers os h new = all_turned (Ends number) numbers os h new

-- with the number of the record that stands behind
with_last : {policy : PolicyData} (earlier : List RecordData) (r : RecordData) (numbers : List ℕ) → IsLegal policy (earlier ++ r ∷ []) → AreAllOf policy earlier numbers
    → AreAllOf policy (earlier ++ r ∷ []) (numbers ++ r.number ∷ [])
with_last {policy} earlier r numbers legal all =
    let parts : IsLegal policy earlier × Follows policy (earlier, r) = legal_before earlier r legal in
    let w = world policy earlier in
    let turn : Turn = turn_of policy w r in
    let more : List ℕ = numbers ++ r.number ∷ [] in
    subst (AllByRecursion (IsOneOf more)) (sym (waiting_next policy earlier r.step r parts.0 parts.1.is_next))
    (all_wait turn more (waiting policy earlier)
    (all_weaker (IsOneOf numbers) (IsOneOf more) (λ o h. still_one numbers r.number o.number h) (waiting policy earlier) all)
    (all_weaker (λ (o : LiveOrder). (o.number ≡ r.number) × (o.waits ≡ true)) (IsOneOf more) (λ o h. is_the_last numbers r.number o.number h.0) (new_in turn) (new_by policy w r r.verdict r.step)))

-- those that wait are found waiting by their numbers
found_waiting : (L os : List LiveOrder) → AllByRecursion (λ (o : LiveOrder). live_numbered L o.number ≡ Some o) os
    → AllByRecursion (λ (o : LiveOrder). waits_numbered L o.number ≡ true) (filter (λ (o : LiveOrder). o.waits) os)
found_waiting L [] h = tt
found_waiting L (o ∷ os) h = at (found_waiting L os h.1) o.waits refl
  where
    at : AllByRecursion (λ (x : LiveOrder). waits_numbered L x.number ≡ true) (filter (λ (x : LiveOrder). x.waits) os) → (b : Bool) → o.waits ≡ b → AllByRecursion (λ (x : LiveOrder). waits_numbered L x.number ≡ true) (cond b (o ∷ filter (λ (x : LiveOrder). x.waits) os) (filter (λ (x : LiveOrder). x.waits) os))
    at later true e = (ap (λ (found : Option LiveOrder). option_map_or (λ (x : LiveOrder). x.waits) found false) h.0 ∙ e, later)
    at later false e = later

-- a number that passes is still one of those that do
kept_one : (test : ℕ → Bool) (k : ℕ) → test k ≡ true → (numbers : List ℕ) → list_any (λ n. n == k) numbers ≡ true → list_any (λ n. n == k) (filter test numbers) ≡ true
kept_one test k passes [] h = cc
kept_one test k passes (n ∷ numbers) h = at (kept_one test k passes numbers) (n == k) refl h
  where
    rest : list_any (λ m. m == k) (filter test numbers) ≡ true → (b : Bool) → list_any (λ m. m == k) (cond b (n ∷ filter test numbers) (filter test numbers)) ≡ true
    rest later true = or_right (n == k) (list_any (λ m. m == k) (filter test numbers)) later
    rest later false = later

    here : (b : Bool) → (n == k) ≡ true → test n ≡ b → list_any (λ m. m == k) (cond b (n ∷ filter test numbers) (filter test numbers)) ≡ true
    here true e t = or_left (n == k) (list_any (λ m. m == k) (filter test numbers)) e
    here false e t = let clash : false ≡ true = sym t ∙ ap test (eqb-true n k e) ∙ passes in cc

    at : (list_any (λ m. m == k) numbers ≡ true → list_any (λ m. m == k) (filter test numbers) ≡ true) → (b : Bool) → (n == k) ≡ b → (b || list_any (λ m. m == k) numbers) ≡ true → list_any (λ m. m == k) (cond (test n) (n ∷ filter test numbers) (filter test numbers)) ≡ true
    at later true e h = here (test n) e refl
    at later false e h = rest (later h) (test n)

all_kept_ones : (test : ℕ → Bool) (numbers : List ℕ) (os : List LiveOrder) → AllByRecursion (λ (o : LiveOrder). test o.number ≡ true) os → AllByRecursion (IsOneOf numbers) os
    → AllByRecursion (IsOneOf (filter test numbers)) os
all_kept_ones test numbers [] passes h = tt
all_kept_ones test numbers (o ∷ os) passes h = (kept_one test o.number passes.0 numbers h.0, all_kept_ones test numbers os passes.1 h.1)

-- once the others are taken out
swept : {policy : PolicyData} {records : List RecordData} (numbers : List ℕ) → IsLegal policy records → AreAllOf policy records numbers
    → AreAllOf policy records (filter (waits_numbered (live policy records)) numbers)
unfolding waiting
swept {policy} {records} numbers legal all =
    all_kept_ones (waits_numbered (live policy records)) numbers (filter (λ (o : LiveOrder). o.waits) (live policy records))
    (found_waiting (live policy records) (live policy records) (live_are_found policy records legal)) all

-- these are numbers of all that wait behind the last record
pub all_swept : {policy : PolicyData} {records : List RecordData} (earlier : List RecordData) (r : RecordData) (before pushed after : List ℕ) → IsLegal policy records → records ≡ earlier ++ r ∷ []
    → AreAllOf policy earlier before → pushed ≡ before ++ r.number ∷ [] → after ≡ filter (waits_numbered (live policy records)) pushed → AreAllOf policy records after
all_swept {policy} {records} earlier r before pushed after legal last all put is =
    subst (AreAllOf policy records) (sym is)
    (swept pushed legal
    (subst (λ (rs : List RecordData). AreAllOf policy rs pushed) (sym last)
    (subst (AreAllOf policy (earlier ++ r ∷ [])) (sym put)
    (with_last earlier r before (subst (IsLegal policy) last legal) all))))

-- one that is found waiting is one that waits
some_wait : (os : List LiveOrder) (n : ℕ) → waits_numbered os n ≡ true → is_none (filter (λ (o : LiveOrder). o.waits) os) ≡ false
some_wait [] n h = cc
some_wait (o ∷ os) n h = at (some_wait os n) (o.number == n) o.waits refl h
  where
    at : (waits_numbered os n ≡ true → is_none (filter (λ (x : LiveOrder). x.waits) os) ≡ false) → (same w : Bool) → o.waits ≡ w
        → option_map_or (λ (x : LiveOrder). x.waits) (cond same (Some o) (find (λ (x : LiveOrder). x.number == n) os)) false ≡ true
        → is_none (cond w (o ∷ filter (λ (x : LiveOrder). x.waits) os) (filter (λ (x : LiveOrder). x.waits) os)) ≡ false
    at later same true e h = refl
    at later true false e h = let clash : false ≡ true = sym e ∙ h in cc
    at later false false e h = later h

first_passes : (test : ℕ → Bool) (numbers : List ℕ) (n : ℕ) (more : List ℕ) → filter test numbers ≡ n ∷ more → test n ≡ true
first_passes test [] n more h = cc
first_passes test (m ∷ numbers) n more h = at (first_passes test numbers n more) (test m) refl h
  where
    same : (x : ℕ) (xs : List ℕ) → x ∷ xs ≡ n ∷ more → x ≡ n
    same x xs e = cc

    at : (filter test numbers ≡ n ∷ more → test n ≡ true) → (b : Bool) → test m ≡ b → cond b (m ∷ filter test numbers) (filter test numbers) ≡ n ∷ more → test n ≡ true
    at later true t e = ap test (sym (same m (filter test numbers) e)) ∙ t
    at later false t e = later e

none_wait : (os : List LiveOrder) → AllByRecursion (IsOneOf []) os → is_none os ≡ true
none_wait [] h = refl
none_wait (o ∷ os) h = let clash : false ≡ true = h.0 in cc

-- none is left exactly where none waits
pub none_left : (policy : PolicyData) (records : List RecordData) (pushed after : List ℕ) → after ≡ filter (waits_numbered (live policy records)) pushed → AreAllOf policy records after
    → is_none after ≡ is_at_rest policy records
unfolding waiting
none_left policy records pushed after is all = by after refl
  where
    by : (left : List ℕ) → after ≡ left → is_none left ≡ is_at_rest policy records
    by [] e = sym (none_wait (waiting policy records) (subst (AreAllOf policy records) e all))
    by (n ∷ more) e =
        sym (some_wait (live policy records) n (first_passes (waits_numbered (live policy records)) pushed n more (sym is ∙ e)))

-- by their count
pub none_counted : (numbers : List ℕ) → (length numbers == 0) ≡ is_none numbers
none_counted [] = refl
none_counted (n ∷ numbers) = ne_eqb (suc (length numbers)) 0 (λ h. cc)
