-- A side of the book has the live orders that rest there, and no other.
use Rattle.std.proofs.{Common.{◌≡◌, ℕ, Bool, true, false, List, [], ◌∷◌, refl, ◌∙◌, ap, sym, cond}, Math.Path.subst, lemmas.Bool.{eq-eqb, eqb-true, not-false, both_ways}}
use Rattle.std.specs.{Prelude.{Option, Some, None, ◌==◌, ◌||◌, find}, List.{AllByRecursion, cons_option, filter_map}}
use Rattle.gx_units.specs.declared.names.Symbol.{Symbol}
use Rattle.gx_units.proofs.Lists_hold.{all_weaker, found_is}
use Rattle.gx_policy.specs.declared.policy.PolicyData.{PolicyData}
use Rattle.gx_history.specs.{declared.{live_order.LiveOrder.LiveOrder, «record».RecordData.RecordData}, Book.rest_numbers, Live.{IsAtRest, by_time, ahead, is_there, side, has_come, live_numbered, live}, Verdicts.IsLegal}
use Rattle.gx_laws.proofs.{LiveOrders_known.{IsKnown, RestsThere, all_resting, live_known, number_found, waits_is}, PriceOrder_best.{all_in_order, all_unfiltered}, Runs_orderly.{IsOrderly, legal_is_orderly}}

-- no other
pub none_but_these : (policy : PolicyData) (history : List RecordData) (stock : Symbol) (buy : Bool) → IsLegal policy history
    → AllByRecursion (IsAtRest policy history stock buy) (side policy history stock buy)
none_but_these policy history stock buy legal =
    all_weaker (RestsThere policy history stock buy) (IsAtRest policy history stock buy)
    (λ o k. record { is_in_place = k.there; came_to_rest = k.rests; lives = k.known.is_found })
    (side policy history stock buy) (all_resting stock buy (legal_is_orderly legal))

none_such : {X : Type 0} (p : X → Bool) (xs : List X) → find p xs ≡ None → AllByRecursion (λ (x : X). p x ≡ false) xs
none_such p [] h = tt
none_such {X} p (x ∷ xs) h = at (p x) refl h (none_such p xs)
  where
    at : (b : Bool) → p x ≡ b → cond b (Some x) (find p xs) ≡ None → (find p xs ≡ None → AllByRecursion (λ (y : X). p y ≡ false) xs) → (p x ≡ false) × AllByRecursion (λ (y : X). p y ≡ false) xs
    at true e k deeper = cc
    at false e k deeper = (e, deeper k)

-- what holds of all that are found holds of what is found under a number that has come
of_come : (P : LiveOrder → Type 0) (f : ℕ → Option LiveOrder) (ns : List ℕ) (n : ℕ) (o : LiveOrder) → AllByRecursion P (filter_map f ns) → has_come ns n ≡ true → f n ≡ Some o → P o
of_come P f [] n o h k e = cc
of_come P f (m ∷ ns) n o h k e = at (m == n) refl k (f m) refl h (λ x. of_come P f ns n o x)
  where
    same : (x : LiveOrder) → f m ≡ Some x → (m == n) ≡ true → x ≡ o
    same x is here = let both : Some x ≡ Some o = sym is ∙ ap f (eqb-true m n here) ∙ e in cc

    at : (b : Bool) → (m == n) ≡ b → (b || has_come ns n) ≡ true → (found : Option LiveOrder) → f m ≡ found → AllByRecursion P (cons_option found (filter_map f ns))
        → (AllByRecursion P (filter_map f ns) → has_come ns n ≡ true → f n ≡ Some o → P o) → P o
    at true here k None is h deeper = let both : None ≡ Some o = sym is ∙ ap f (eqb-true m n here) ∙ e in cc
    at true here k (Some x) is h deeper = subst P (same x is here) h.0
    at false here k None is h deeper = deeper h k e
    at false here k (Some x) is h deeper = deeper h.1 k e

-- what holds of all that rest on a side holds of each that came to rest there
pub side_has : (policy : PolicyData) (history : List RecordData) (P : LiveOrder → Type 0) (stock : Symbol) (buy : Bool) (o : LiveOrder) → AllByRecursion P (side policy history stock buy)
    → live_numbered (live policy history) o.number ≡ Some o → has_come (rest_numbers history) o.number ≡ true → is_there stock buy o ≡ true → P o
unfolding side
side_has policy history P stock buy o all found come there =
    of_come (λ (x : LiveOrder). is_there stock buy x ≡ true → P x) (live_numbered (live policy history)) (rest_numbers history) o.number o
    (all_unfiltered P (is_there stock buy) (filter_map (live_numbered (live policy history)) (rest_numbers history)) (all_in_order P (ahead buy) [] (by_time policy history stock buy) all).1)
    come found there

-- each is found under its number
is_found_there : {policy : PolicyData} {history : List RecordData} (stock : Symbol) (buy : Bool) (o : LiveOrder) → IsOrderly policy history → IsKnown policy history o
    → o.waits ≡ false → is_there stock buy o ≡ true → live_numbered (side policy history stock buy) o.number ≡ Some o
is_found_there {policy} {history} stock buy o orderly known rests there = at (live_numbered (side policy history stock buy) o.number) refl
  where
    at : (found : Option LiveOrder) → live_numbered (side policy history stock buy) o.number ≡ found → live_numbered (side policy history stock buy) o.number ≡ Some o
    at None e =
        absurd (both_ways (o.number == o.number)
        (side_has policy history (λ (x : LiveOrder). (x.number == o.number) ≡ false) stock buy o (none_such (λ (x : LiveOrder). x.number == o.number) (side policy history stock buy) e)
        known.is_found (not-false (has_come (rest_numbers history) o.number) (sym (waits_is o known.of) ∙ rests)) there)
        (eq-eqb o.number o.number refl))
    at (Some y) e =
        let that : RestsThere policy history stock buy y × ((y.number == o.number) ≡ true) = (
          found_is (RestsThere policy history stock buy) (λ (x : LiveOrder). x.number == o.number) (side policy history stock buy) y (all_resting stock buy orderly) e,
          number_found (side policy history stock buy) o.number y e,
        ) in
        e ∙ sym that.0.known.is_found ∙ ap (live_numbered (live policy history)) (eqb-true y.number o.number that.1) ∙ known.is_found

-- and all of them
pub all_of_these : (policy : PolicyData) (history : List RecordData) (stock : Symbol) (buy : Bool) → IsLegal policy history
    → AllByRecursion (λ (o : LiveOrder). o.waits ≡ false → is_there stock buy o ≡ true → live_numbered (side policy history stock buy) o.number ≡ Some o) (live policy history)
all_of_these policy history stock buy legal =
    let orderly : IsOrderly policy history = legal_is_orderly legal in
    all_weaker (IsKnown policy history) (λ (o : LiveOrder). o.waits ≡ false → is_there stock buy o ≡ true → live_numbered (side policy history stock buy) o.number ≡ Some o)
    (λ o k rests there. is_found_there stock buy o orderly k rests there) (live policy history) (live_known orderly)
