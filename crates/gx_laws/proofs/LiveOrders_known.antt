-- What is known of each live order, of those that wait and of those that rest.
use Rattle.std.proofs.{Common.{◌≡◌, ℕ, Bool, true, false, not, List, [], ◌∷◌, refl, ◌∙◌, ap, sym, fold}, Math.Path.subst, lemmas.Bool.{eqb-true, not-true}}
use Rattle.std.specs.{Prelude.{Option, Some, None, ◌==◌}, List.{filter, filter_map, cons_option, AllByRecursion}}
use Rattle.gx_units.specs.declared.names.Symbol.{Symbol}
use Rattle.gx_units.proofs.Lists_hold.{all_weaker, all_both, filtered, all_pass, all_and, all_found_of, found_is}
use Rattle.gx_policy.specs.{declared.policy.PolicyData.PolicyData, Lists.inserted_behind}
use Rattle.gx_history.specs.{declared.{live_order.LiveOrder.LiveOrder, «record».RecordData.RecordData}, Book.rest_numbers, Executions.{Execution, done, executions}, Live.{waiting, ahead, is_there, side, has_come, live_numbered, live, open_now}, Orders.{Order, is_dead, order_numbered, orders, total}}
use Rattle.gx_laws.proofs.{Rules_first.{first_such, IsFirstSuch}, Lists_members.of_all, Keys_differ.{AreApart, apart_are_found, all_members}, Lists_found.open_parts, NamedOrders_only.{IsOfKnown, live_of_known}, Runs_orderly.{IsOrderly, legal_is_orderly, number_of}}
use Rattle.gx_laws.specs.EffectLaws.{LiveOrdersAreFound}

-- whatever the order
pub all_placed : {X : Type 0} (P : X → Type 0) (better : X → X → Bool) (earlier xs : List X) → AllByRecursion P earlier → AllByRecursion P xs → AllByRecursion P (fold (inserted_behind better) earlier xs)
all_placed P better earlier [] h k = h
all_placed P better earlier (x ∷ xs) h k =
    all_placed P better (inserted_behind better earlier x) xs
    (all_both P (filter (λ y. not (better x y)) earlier) (x ∷ filter (better x) earlier) (filtered P (λ y. not (better x y)) earlier h) (k.0, filtered P (better x) earlier h)) k.1

-- one of the live orders, and the order that it is of
pub record IsKnown (policy : PolicyData) (history : List RecordData) (o : LiveOrder) : Type 0 where
  pub of : IsOfKnown policy history o
  pub is_made : order_numbered (orders policy history) o.number ≡ Some of.order
  pub is_found : live_numbered (live policy history) o.number ≡ Some o

abbrev pub number_in : LiveOrder → ℕ
number_in o = o.number

-- what goes on has its number
apart_kept : (f : Order → Option LiveOrder) → ((x : Order) (o : LiveOrder) → f x ≡ Some o → o.number ≡ x.number) → (xs : List Order) → AreApart number_of xs → AreApart number_in (filter_map f xs)
apart_kept f same [] h = tt
apart_kept f same (x ∷ xs) h = at (f x) refl (apart_kept f same xs h.1)
  where
    at : (found : Option LiveOrder) → f x ≡ found → AreApart number_in (filter_map f xs) → AreApart number_in (cons_option found (filter_map f xs))
    at None e rest = rest
    at (Some o) e rest = (all_found_of (λ (y : Order). y.number ≡ x.number → ⊥) (λ (p : LiveOrder). p.number ≡ o.number → ⊥) f (λ y p other k same_number. other (sym (same y p k) ∙ same_number ∙ same x o e)) xs h.0, rest)

number_kept : (made : List Execution) (history : List RecordData) (x : Order) (o : LiveOrder) → open_now made history x ≡ Some o → o.number ≡ x.number
number_kept made history x o h = ap (λ (y : LiveOrder). y.number) (sym (open_parts x (is_dead history x) (total history x) (done made x) (not (has_come (rest_numbers history) x.number)) o h).2)

pub live_apart : {policy : PolicyData} {history : List RecordData} → IsOrderly policy history → AreApart number_in (live policy history)
unfolding live
live_apart {policy} {history} orderly = apart_kept (open_now (executions policy history) history) (number_kept (executions policy history) history) (orders policy history) orderly.apart

pub live_known : {policy : PolicyData} {history : List RecordData} → IsOrderly policy history → AllByRecursion (IsKnown policy history) (live policy history)
live_known {policy} {history} orderly =
    all_weaker (λ (o : LiveOrder). IsOfKnown policy history o × (live_numbered (live policy history) o.number ≡ Some o)) (IsKnown policy history)
    (λ o h. record {
      of = h.0;
      is_made = ap (λ (p : LiveOrder). order_numbered (orders policy history) p.number) (sym h.0.is_it)
          ∙ of_all (λ (x : Order). order_numbered (orders policy history) x.number ≡ Some x) h.0.order (orders policy history) (apart_are_found number_of (orders policy history) orderly.apart) h.0.is_known;
      is_found = h.1;
    }) (live policy history)
    (all_and (IsOfKnown policy history) (λ (o : LiveOrder). live_numbered (live policy history) o.number ≡ Some o) (live policy history)
    (live_of_known policy history) (apart_are_found number_in (live policy history) (live_apart orderly)))

pub live_are_found : LiveOrdersAreFound
live_are_found policy history legal =
    apart_are_found number_in (live policy history) (live_apart (legal_is_orderly legal))

-- a live order waits exactly where it has not come to rest
pub waits_is : {policy : PolicyData} {history : List RecordData} (o : LiveOrder) → IsOfKnown policy history o → o.waits ≡ not (has_come (rest_numbers history) o.number)
waits_is {history} o known = subst (λ (p : LiveOrder). p.waits ≡ not (has_come (rest_numbers history) p.number)) known.is_it refl

-- a live order that waits to be matched
pub record IsWaiting (policy : PolicyData) (history : List RecordData) (o : LiveOrder) : Type 0 where
  pub known : IsKnown policy history o
  pub has_not_rested : has_come (rest_numbers history) o.number ≡ false

pub all_waiting : {policy : PolicyData} {history : List RecordData} → IsOrderly policy history → AllByRecursion (IsWaiting policy history) (waiting policy history)
unfolding waiting
all_waiting {policy} {history} orderly =
    all_weaker (λ (o : LiveOrder). IsKnown policy history o × (o.waits ≡ true)) (IsWaiting policy history)
    (λ o h. record { known = h.0; has_not_rested = not-true (has_come (rest_numbers history) o.number) (sym (waits_is o h.0.of) ∙ h.1) }) (waiting policy history)
    (all_and (IsKnown policy history) (λ (o : LiveOrder). o.waits ≡ true) (waiting policy history)
    (filtered (IsKnown policy history) (λ (o : LiveOrder). o.waits) (live policy history) (live_known orderly)) (all_pass (λ (o : LiveOrder). o.waits) (live policy history)))

pub first_waiting : {policy : PolicyData} {history : List RecordData} (first : LiveOrder) (others : List LiveOrder) → IsOrderly policy history → waiting policy history ≡ first ∷ others → IsWaiting policy history first
first_waiting {policy} {history} first others orderly e = (subst (AllByRecursion (IsWaiting policy history)) e (all_waiting orderly)).0

-- a live order that has come to rest, on this side of the stock
pub record RestsThere (policy : PolicyData) (history : List RecordData) (stock : Symbol) (buy : Bool) (o : LiveOrder) : Type 0 where
  pub known : IsKnown policy history o
  pub there : is_there stock buy o ≡ true
  pub has_come_to_rest : has_come (rest_numbers history) o.number ≡ true
  pub rests : o.waits ≡ false

pub number_found : (os : List LiveOrder) (n : ℕ) (o : LiveOrder) → live_numbered os n ≡ Some o → (o.number == n) ≡ true
number_found os n o e = let such : IsFirstSuch (λ (x : LiveOrder). x.number == n) os o = first_such (λ (x : LiveOrder). x.number == n) os o e in such.3

numbered_is : (os : List LiveOrder) (number : ℕ) (o : LiveOrder) → live_numbered os number ≡ Some o → o.number ≡ number
numbered_is os number o e = eqb-true o.number number (number_found os number o e)

pub all_resting : {policy : PolicyData} {history : List RecordData} (stock : Symbol) (buy : Bool) → IsOrderly policy history → AllByRecursion (RestsThere policy history stock buy) (side policy history stock buy)
unfolding side
all_resting {policy} {history} stock buy orderly =
    let found : List LiveOrder = filter_map (live_numbered (live policy history)) (rest_numbers history) in
    all_placed (RestsThere policy history stock buy) (ahead buy) [] (filter (is_there stock buy) found) tt
    (all_weaker (λ (o : LiveOrder). (IsKnown policy history o × (has_come (rest_numbers history) o.number ≡ true)) × (is_there stock buy o ≡ true)) (RestsThere policy history stock buy)
    (λ o h. record { known = h.0.0; there = h.1; has_come_to_rest = h.0.1; rests = waits_is o h.0.0.of ∙ ap not h.0.1 }) (filter (is_there stock buy) found)
    (all_and (λ (o : LiveOrder). IsKnown policy history o × (has_come (rest_numbers history) o.number ≡ true)) (λ (o : LiveOrder). is_there stock buy o ≡ true) (filter (is_there stock buy) found)
    (filtered (λ (o : LiveOrder). IsKnown policy history o × (has_come (rest_numbers history) o.number ≡ true)) (is_there stock buy) found
    (all_found_of (λ (n : ℕ). has_come (rest_numbers history) n ≡ true) (λ (o : LiveOrder). IsKnown policy history o × (has_come (rest_numbers history) o.number ≡ true)) (live_numbered (live policy history))
    (λ n o among e. (found_is (IsKnown policy history) (λ (x : LiveOrder). x.number == n) (live policy history) o (live_known orderly) e, ap (has_come (rest_numbers history)) (numbered_is (live policy history) n o e) ∙ among))
    (rest_numbers history) (all_members (rest_numbers history)))) (all_pass (is_there stock buy) found)))
