-- What one more record makes of those that wait, and of each side of the book.
use Rattle.std.proofs.{Common.{◌≡◌, ℕ, ◌+◌, ◌≤◌, Bool, true, false, not, List, [], ◌∷◌, ◌++◌, refl, ◌∙◌, ap, sym, cond, fold, length, arith}, Math.Path.subst, lemmas.{Bool.{eq-eqb, eqb-true, ne_eqb}, List.{Elements.{filter-append, filter_map-append}, Sums.fold-append, append-nil}, Option.same_Some}}
use Rattle.std.specs.{Prelude.{Option, Some, None, ◌||◌, ◌&&◌, ◌==◌, nat_lt, option_and_then, option_to_list}, Option.option_map_or, List.{AllByRecursion, cons_option, filter, filter_map}}
use Rattle.gx_units.specs.{declared.names.{AccountName.AccountName, Symbol.Symbol}, Names.same_stock}
use Rattle.gx_units.proofs.Lists_hold.{all_weaker}
use Rattle.gx_ouch.specs.declared.outbound.OrderTerms.{OrderTerms}
use Rattle.gx_policy.specs.{declared.policy.PolicyData.PolicyData, Lists.{in_order, inserted_behind}, People.account_of}
use Rattle.gx_history.specs.{declared.{live_order.LiveOrder.LiveOrder, «record».{Asked.Asked, RecordData.RecordData, Request.Request, Step.Step, Verdict.Verdict}, moves.Move.Move}, Book.{is_on, rest_numbers, rested_of}, Live.{waiting, ahead, is_there, side, has_come, live_numbered, live, live_under}, LiveOrders.replacement_order, MayMove.MayRest, Orders.ends_account, Requests.is_judged, Turns.{Turn, Keeps, Adds, Sizes, Replaces, EndsAll, Fills, Rests, Ends, becomes, new_in, new_order, side_after, live_after, waiting_after, while_open}, Verdicts.{IsLegal, next}, World.{SidesGoOn, WaitingGoesOn, World, move_asked, turn_by, turn_in, turn_of, world}}
use Rattle.gx_laws.proofs.{Requests_judged.asked_is_judged, Orders_next.rested_next, Orders_numbered.number_left, Keys_differ.AreApart, LiveOrders_known.{first_waiting, live_apart, number_found}, LiveOrders_next.{each_turned, live_next}, Matches_allowed.may_match, Runs_orderly.{IsOrderly, legal_is_orderly}, PriceOrder_filtered.{IsParted, IsRanking, lower, no_lower, placed_parted}}

-- an order that goes on has its number, its terms, its account and its user, and waits as before unless it is put to rest
abbrev pub IsSame : Bool → LiveOrder → LiveOrder → Type 0
IsSame rests o x = (x.number ≡ o.number) × (x.terms ≡ o.terms) × (rests ≡ false → x.waits ≡ o.waits) × (x.account ≡ o.account) × (x.user ≡ o.user)

it_is : (rests : Bool) (o x : LiveOrder) → o ≡ x → IsSame rests o x
it_is rests o x e = (ap (λ (y : LiveOrder). y.number) (sym e), ap (λ (y : LiveOrder). y.terms) (sym e), λ h. ap (λ (y : LiveOrder). y.waits) (sym e), ap (λ (y : LiveOrder). y.account) (sym e), ap (λ (y : LiveOrder). y.user) (sym e))

open_is : (y x : LiveOrder) → while_open y ≡ Some x → y ≡ x
open_is y x h = at (nat_lt y.done y.total) h
  where
    at : (b : Bool) → cond b (Some y) None ≡ Some x → y ≡ x
    at true k = same_Some y x k
    at false k = cc

-- gone, or as it was
gone_or_not : (b : Bool) (o x : LiveOrder) → cond b None (Some o) ≡ Some x → IsSame false o x
gone_or_not true o x k = cc
gone_or_not false o x k = it_is false o x (same_Some o x k)

-- changed, or as it was
open_or_not : (b : Bool) (o y x : LiveOrder) → IsSame false o y → cond b (while_open y) (Some o) ≡ Some x → IsSame false o x
open_or_not true o y x h k = subst (IsSame false o) (open_is y x k) h
open_or_not false o y x h k = it_is false o x (same_Some o x k)

abbrev pub puts_to_rest : Turn → Bool
puts_to_rest (Rests number) = true
puts_to_rest other = false

pub becomes_same : (turn : Turn) (o x : LiveOrder) → becomes turn o ≡ Some x → IsSame (puts_to_rest turn) o x
becomes_same Keeps o x h = it_is false o x (same_Some o x h)
becomes_same (Adds new) o x h = it_is false o x (same_Some o x h)
becomes_same (Sizes number size) o x h = open_or_not (o.number == number) o (record o { total = size }) x (refl, refl, λ k. refl, refl, refl) h
becomes_same (Replaces number new) o x h = gone_or_not (o.number == number) o x h
becomes_same (EndsAll action) o x h = gone_or_not (ends_account o.account action) o x h
becomes_same (Fills f) o x h = open_or_not (o.number == f.taker || o.number == f.maker) o (record o { done = o.done + f.shares }) x (refl, refl, λ k. refl, refl, refl) h
becomes_same (Rests number) o x h = at (number == o.number) h
  where
    never : {X : Type 0} → true ≡ false → X
    never e = cc

    at : (b : Bool) → Some (cond b (record o { waits = false }) o) ≡ Some x → IsSame true o x
    at true k = let e : record o { waits = false } ≡ x = same_Some (record o { waits = false }) x k in (ap (λ (y : LiveOrder). y.number) (sym e), ap (λ (y : LiveOrder). y.terms) (sym e), λ l. never l, ap (λ (y : LiveOrder). y.account) (sym e), ap (λ (y : LiveOrder). y.user) (sym e))
    at false k = it_is true o x (same_Some o x k)
becomes_same (Ends number) o x h = gone_or_not (number == o.number) o x h

-- found by its number, before and after
none_found : (n : ℕ) (o : LiveOrder) (os : List LiveOrder) → o.number ≡ n → AllByRecursion (λ (x : LiveOrder). x.number ≡ o.number → ⊥) os → live_numbered os n ≡ None
none_found n o [] e h = refl
none_found n o (x ∷ os) e h = ap (λ (b : Bool). cond b (Some x) (live_numbered os n)) (ne_eqb x.number n (λ same. h.0 (same ∙ sym e))) ∙ none_found n o os e h.1

found_turned : (f : LiveOrder → Option LiveOrder) → ((o x : LiveOrder) → f o ≡ Some x → x.number ≡ o.number) → (os : List LiveOrder) → AreApart (λ (o : LiveOrder). o.number) os → (n : ℕ)
    → live_numbered (filter_map f os) n ≡ option_and_then f (live_numbered os n)
found_turned f same [] h n = refl
found_turned f same (o ∷ os) h n = at (o.number == n) refl (f o) refl (found_turned f same os h.1 n)
  where
    rest : List LiveOrder
    rest = filter_map f os

    at : (b : Bool) → (o.number == n) ≡ b → (found : Option LiveOrder) → f o ≡ found → live_numbered rest n ≡ option_and_then f (live_numbered os n)
        → live_numbered (cons_option found rest) n ≡ option_and_then f (cond b (Some o) (live_numbered os n))
    at true e None k deeper = deeper ∙ ap (option_and_then f) (none_found n o os (eqb-true o.number n e) h.0) ∙ sym k
    at true e (Some x) k deeper = ap (λ (m : ℕ). cond (m == n) (Some x) (live_numbered rest n)) (same o x k) ∙ ap (λ (b : Bool). cond b (Some x) (live_numbered rest n)) e ∙ sym k
    at false e None k deeper = deeper
    at false e (Some x) k deeper = ap (λ (m : ℕ). cond (m == n) (Some x) (live_numbered rest n)) (same o x k) ∙ ap (λ (b : Bool). cond b (Some x) (live_numbered rest n)) e ∙ deeper

-- a test that what goes on passes as before
filter_turned : {X : Type 0} (p q : X → Bool) (f : X → Option X) → ((x y : X) → f x ≡ Some y → p y ≡ q x) → (xs : List X) → filter p (filter_map f xs) ≡ filter_map f (filter q xs)
filter_turned p q f same [] = refl
filter_turned {X} p q f same (x ∷ xs) = at (f x) refl (q x) refl (filter_turned p q f same xs)
  where
    at : (found : Option X) → f x ≡ found → (b : Bool) → q x ≡ b → filter p (filter_map f xs) ≡ filter_map f (filter q xs) → filter p (cons_option found (filter_map f xs)) ≡ filter_map f (cond b (x ∷ filter q xs) (filter q xs))
    at None e true k deeper = deeper ∙ ap (λ (found : Option X). cons_option found (filter_map f (filter q xs))) (sym e)
    at None e false k deeper = deeper
    at (Some y) e true k deeper =
        ap (λ (b : Bool). cond b (y ∷ filter p (filter_map f xs)) (filter p (filter_map f xs))) (same x y e ∙ k) ∙ ap (λ (ys : List X). y ∷ ys) deeper ∙ ap (λ (found : Option X). cons_option found (filter_map f (filter q xs))) (sym e)
    at (Some y) e false k deeper = ap (λ (b : Bool). cond b (y ∷ filter p (filter_map f xs)) (filter p (filter_map f xs))) (same x y e ∙ k) ∙ deeper

-- what goes on stands in the same order
places_turned : {X : Type 0} (better : X → X → Bool) → IsRanking better → (f : X → Option X) → ((x y u v : X) → f x ≡ Some u → f y ≡ Some v → better u v ≡ better x y) → (earlier xs : List X) → IsParted better earlier
    → fold (inserted_behind better) (filter_map f earlier) (filter_map f xs) ≡ filter_map f (fold (inserted_behind better) earlier xs)
places_turned better ranks f alike earlier [] parted = refl
places_turned {X} better ranks f alike earlier (x ∷ xs) parted = at (f x) refl (places_turned better ranks f alike (inserted_behind better earlier x) xs (placed_parted better ranks earlier x parted))
  where
    no_worse : List X
    no_worse = filter (λ y. not (better x y)) earlier

    worse : List X
    worse = filter (better x) earlier

    in_parts : filter_map f (inserted_behind better earlier x) ≡ filter_map f no_worse ++ cons_option (f x) (filter_map f worse)
    in_parts = filter_map-append f no_worse (x ∷ worse)

    at : (found : Option X) → f x ≡ found → fold (inserted_behind better) (filter_map f (inserted_behind better earlier x)) (filter_map f xs) ≡ filter_map f (fold (inserted_behind better) (inserted_behind better earlier x) xs)
        → fold (inserted_behind better) (filter_map f earlier) (cons_option found (filter_map f xs)) ≡ filter_map f (fold (inserted_behind better) (inserted_behind better earlier x) xs)
    at None e deeper =
        ap (λ (ys : List X). fold (inserted_behind better) ys (filter_map f xs))
        (ap (filter_map f) (sym (parted x)) ∙ filter_map-append f no_worse worse ∙ ap (λ (found : Option X). filter_map f no_worse ++ cons_option found (filter_map f worse)) (sym e) ∙ sym in_parts)
        ∙ deeper
    at (Some u) e deeper =
        ap (λ (ys : List X). fold (inserted_behind better) ys (filter_map f xs))
        (ap (λ (ys : List X). ys ++ u ∷ filter (better u) (filter_map f earlier)) (filter_turned (λ y. not (better u y)) (λ y. not (better x y)) f (λ y v k. ap not (alike x y u v e k)) earlier)
        ∙ ap (λ (ys : List X). filter_map f no_worse ++ u ∷ ys) (filter_turned (better u) (better x) f (λ y v k. alike x y u v e k) earlier)
        ∙ ap (λ (found : Option X). filter_map f no_worse ++ cons_option found (filter_map f worse)) (sym e)
        ∙ sym in_parts)
        ∙ deeper

-- behind others that do not have the number
found_front : (os more : List LiveOrder) (n : ℕ) → live_numbered more n ≡ None → live_numbered (os ++ more) n ≡ live_numbered os n
found_front [] more n h = h
found_front (o ∷ os) more n h = ap (λ (found : Option LiveOrder). cond (o.number == n) (Some o) found) (found_front os more n h)

none_new : (n number : ℕ) (os : List LiveOrder) → (number ≡ n → ⊥) → AllByRecursion (λ (o : LiveOrder). (o.number ≡ number) × (o.waits ≡ true)) os → live_numbered os n ≡ None
none_new n number [] other h = refl
none_new n number (o ∷ os) other h = ap (λ (b : Bool). cond b (Some o) (live_numbered os n)) (ne_eqb o.number n (λ e. other (sym h.0.0 ∙ e))) ∙ none_new n number os other h.1

all_wait : (os : List LiveOrder) (number : ℕ) → AllByRecursion (λ (o : LiveOrder). (o.number ≡ number) × (o.waits ≡ true)) os → filter (λ (o : LiveOrder). o.waits) os ≡ os
all_wait [] number h = refl
all_wait (o ∷ os) number h = ap (λ (b : Bool). cond b (o ∷ filter (λ (o : LiveOrder). o.waits) os) (filter (λ (o : LiveOrder). o.waits) os)) h.0.1 ∙ ap (λ (more : List LiveOrder). o ∷ more) (all_wait os number h.1)

-- what comes new has the record's number, and waits
abbrev pub AreNew : RecordData → Turn → Type 0
AreNew r turn = AllByRecursion (λ (o : LiveOrder). (o.number ≡ r.number) × (o.waits ≡ true)) (new_in turn)

-- what holds of what no order or account does, and of what each does, holds of what the one that is found does
found_turns : {U : Type 0} (P : Turn → Type 0) (make : U → Move) → P Keeps → ((u : U) → P (turn_in (make u))) → (found : Option U) → P (turn_in (option_map_or make found Move.Nothing))
found_turns P make none each None = none
found_turns P make none each (Some u) = each u

new_asked : (policy : PolicyData) (w : World) (r : RecordData) (a : Asked) (q : Request) → AreNew r (turn_in (move_asked policy w r a q))
new_asked policy w r a (Request.Enter m) = found_turns (AreNew r) (λ (account : AccountName). Move.Adds (new_order policy r a.user account m)) tt (λ account. ((refl, refl), tt)) (account_of policy a.user)
new_asked policy w r a (Request.Replace m) = found_turns (AreNew r) (λ (old : LiveOrder). Move.Replaces old (replacement_order r m old)) tt (λ old. ((refl, refl), tt)) (live_under w.live a.user m.existing_token)
new_asked policy w r a (Request.Cancel m) = found_turns (AreNew r) (λ (cut : LiveOrder). Move.Sizes cut m.shares) tt (λ cut. tt) (live_under w.live a.user m.token)
new_asked policy w r a other = tt

pub new_by : (policy : PolicyData) (w : World) (r : RecordData) (v : Verdict) (s : Step) → AreNew r (turn_by policy w r v s)
new_by policy w r Verdict.Granted (Step.Asked a) = new_asked policy w r a a.request
new_by policy w r Verdict.Granted (Step.Matching handed) = tt
new_by policy w r (Verdict.Denied rule) (Step.Asked a) = tt
new_by policy w r (Verdict.Denied rule) (Step.Matching handed) = tt
new_by policy w r (Verdict.Filled f) s = tt
new_by policy w r (Verdict.Rested number) s = tt
new_by policy w r (Verdict.Expired number) s = tt

-- those that wait
pub waits_turned : (r : RecordData) (turn : Turn) (os : List LiveOrder) → puts_to_rest turn ≡ false → AreNew r turn → filter (λ (o : LiveOrder). o.waits) (live_after turn os) ≡ live_after turn (filter (λ (o : LiveOrder). o.waits) os)
waits_turned r turn os goes new =
    filter-append (λ (o : LiveOrder). o.waits) (filter_map (becomes turn) os) (new_in turn)
    ∙ ap (λ (more : List LiveOrder). filter (λ (o : LiveOrder). o.waits) (filter_map (becomes turn) os) ++ more) (all_wait (new_in turn) r.number new)
    ∙ ap (λ (found : List LiveOrder). found ++ new_in turn) (filter_turned (λ (o : LiveOrder). o.waits) (λ (o : LiveOrder). o.waits) (becomes turn) (λ o x k. (becomes_same turn o x k).2 goes) os)

pub waits_rested : (number : ℕ) (os : List LiveOrder) → filter (λ (o : LiveOrder). o.waits) (live_after (Rests number) os) ≡ filter (λ (o : LiveOrder). not (number == o.number)) (filter (λ (o : LiveOrder). o.waits) os)
waits_rested number os = ap (filter (λ (o : LiveOrder). o.waits)) (append-nil (filter_map (becomes (Rests number)) os)) ∙ each os
  where
    each : (os : List LiveOrder) → filter (λ (o : LiveOrder). o.waits) (filter_map (becomes (Rests number)) os) ≡ filter (λ (o : LiveOrder). not (number == o.number)) (filter (λ (o : LiveOrder). o.waits) os)
    each [] = refl
    each (o ∷ os) = at (number == o.number) o.waits refl refl (each os)
      where
        here : List LiveOrder
        here = filter (λ (o : LiveOrder). o.waits) (filter_map (becomes (Rests number)) os)

        there : List LiveOrder
        there = filter (λ (o : LiveOrder). not (number == o.number)) (filter (λ (o : LiveOrder). o.waits) os)

        at : (b w : Bool) → (number == o.number) ≡ b → o.waits ≡ w → here ≡ there
            → cond (cond b (record o { waits = false }) o).waits (cond b (record o { waits = false }) o ∷ here) here ≡ filter (λ (o : LiveOrder). not (number == o.number)) (cond w (o ∷ filter (λ (o : LiveOrder). o.waits) os) (filter (λ (o : LiveOrder). o.waits) os))
        at true true e k deeper = deeper ∙ sym (ap (λ (b : Bool). cond (not b) (o ∷ there) there) e)
        at true false e k deeper = deeper
        at false true e k deeper = ap (λ (b : Bool). cond b (o ∷ here) here) k ∙ ap (λ (os : List LiveOrder). o ∷ os) deeper ∙ sym (ap (λ (b : Bool). cond (not b) (o ∷ there) there) e)
        at false false e k deeper = ap (λ (b : Bool). cond b (o ∷ here) here) k ∙ deeper

pub waiting_next : WaitingGoesOn
unfolding waiting
waiting_next policy history step r legal left =
    ap (filter (λ (o : LiveOrder). o.waits)) (live_next policy history step r legal left) ∙ by (turn_of policy (world policy history) r) (new_by policy (world policy history) r r.verdict r.step)
  where
    by : (turn : Turn) → AreNew r turn → filter (λ (o : LiveOrder). o.waits) (live_after turn (live policy history)) ≡ waiting_after turn (filter (λ (o : LiveOrder). o.waits) (live policy history))
    by (Rests number) new = waits_rested number (live policy history)
    by Keeps new = waits_turned r Keeps (live policy history) refl new
    by (Adds o) new = waits_turned r (Adds o) (live policy history) refl new
    by (Sizes number size) new = waits_turned r (Sizes number size) (live policy history) refl new
    by (Replaces number o) new = waits_turned r (Replaces number o) (live policy history) refl new
    by (EndsAll action) new = waits_turned r (EndsAll action) (live policy history) refl new
    by (Fills f) new = waits_turned r (Fills f) (live policy history) refl new
    by (Ends number) new = waits_turned r (Ends number) (live policy history) refl new

pub prices_rank : (buy : Bool) → IsRanking (ahead buy)
prices_rank true = record {
  goes_on = λ (a b c : LiveOrder) h k. lower c.terms.price b.terms.price a.terms.price k h;
  stays_behind = λ (a b c : LiveOrder) h k. no_lower c.terms.price b.terms.price a.terms.price k h;
}
prices_rank false = record {
  goes_on = λ (a b c : LiveOrder) h k. lower a.terms.price b.terms.price c.terms.price h k;
  stays_behind = λ (a b c : LiveOrder) h k. no_lower a.terms.price b.terms.price c.terms.price h k;
}

price_alike : (buy : Bool) (x y u v : LiveOrder) → u.terms ≡ x.terms → v.terms ≡ y.terms → ahead buy u v ≡ ahead buy x y
price_alike buy x y u v e f = ap (λ (t : OrderTerms). cond buy (nat_lt v.terms.price t.price) (nat_lt t.price v.terms.price)) e ∙ ap (λ (t : OrderTerms). cond buy (nat_lt t.price x.terms.price) (nat_lt x.terms.price t.price)) f

there_alike : (stock : Symbol) (buy : Bool) (o x : LiveOrder) → x.terms ≡ o.terms → is_there stock buy x ≡ is_there stock buy o
there_alike stock buy o x e = ap (λ (t : OrderTerms). same_stock t.stock stock && is_on buy t.side) e

-- a side of those that are found by these numbers
abbrev side_of : List LiveOrder → List ℕ → Symbol → Bool → List LiveOrder
side_of found came stock buy = in_order (ahead buy) (filter (is_there stock buy) (filter_map (live_numbered found) came))

-- where no order comes to rest
side_goes_on : (turn : Turn) (r : RecordData) (os : List LiveOrder) (came : List ℕ) (stock : Symbol) (buy : Bool) → AreApart (λ (o : LiveOrder). o.number) os → AreNew r turn → AllByRecursion (λ (n : ℕ). r.number ≡ n → ⊥) came
    → side_of (live_after turn os) came stock buy ≡ filter_map (becomes turn) (side_of os came stock buy)
side_goes_on turn r os came stock buy apart new others =
    ap (λ (found : List LiveOrder). in_order (ahead buy) (filter (is_there stock buy) found))
    (each_turned (live_numbered os) (live_numbered (live_after turn os)) (becomes turn) came
    (all_weaker (λ (n : ℕ). r.number ≡ n → ⊥) (λ (n : ℕ). live_numbered (live_after turn os) n ≡ option_and_then (becomes turn) (live_numbered os n))
    (λ n other. found_front (filter_map (becomes turn) os) (new_in turn) n (none_new n r.number (new_in turn) other new) ∙ found_turned (becomes turn) (λ o x k. (becomes_same turn o x k).0) os apart n) came others))
    ∙ ap (in_order (ahead buy)) (filter_turned (is_there stock buy) (is_there stock buy) (becomes turn) (λ o x k. there_alike stock buy o x (becomes_same turn o x k).1) (filter_map (live_numbered os) came))
    ∙ places_turned (ahead buy) (prices_rank buy) (becomes turn) (λ x y u v e f. price_alike buy x y u v (becomes_same turn x u e).1 (becomes_same turn y v f).1) [] (filter (is_there stock buy) (filter_map (live_numbered os) came)) (λ x. refl)

-- where one does
rests_beside : (number n : ℕ) (found : Option LiveOrder) → ((o : LiveOrder) → found ≡ Some o → (o.number == n) ≡ true) → (number ≡ n → ⊥) → option_and_then (becomes (Rests number)) found ≡ found
rests_beside number n None is other = refl
rests_beside number n (Some o) is other = ap (λ (b : Bool). Some (cond b (record o { waits = false }) o)) (ne_eqb number o.number (λ e. other (e ∙ eqb-true o.number n (is o refl))))

same_found : (f g : ℕ → Option LiveOrder) (ns : List ℕ) → AllByRecursion (λ (n : ℕ). f n ≡ g n) ns → filter_map f ns ≡ filter_map g ns
same_found f g [] h = refl
same_found f g (n ∷ ns) h = ap (λ (found : Option LiveOrder). cons_option found (filter_map f ns)) h.0 ∙ ap (cons_option (g n)) (same_found f g ns h.1)

side_rests : (number : ℕ) (os : List LiveOrder) (came : List ℕ) (stock : Symbol) (buy : Bool) → AreApart (λ (o : LiveOrder). o.number) os → AllByRecursion (λ (n : ℕ). number ≡ n → ⊥) came
    → side_of (live_after (Rests number) os) (came ++ number ∷ []) stock buy ≡ side_after (Rests number) os stock buy (side_of os came stock buy)
side_rests number os came stock buy apart others =
    ap (λ (found : List LiveOrder). in_order (ahead buy) (filter (is_there stock buy) found))
    (filter_map-append (live_numbered (live_after (Rests number) os)) came (number ∷ [])
    ∙ ap (λ (xs : List LiveOrder). xs ++ filter_map (live_numbered (live_after (Rests number) os)) (number ∷ [])) (same_found (live_numbered (live_after (Rests number) os)) (live_numbered os) came
    (all_weaker (λ (n : ℕ). number ≡ n → ⊥) (λ (n : ℕ). live_numbered (live_after (Rests number) os) n ≡ live_numbered os n) (λ n other. found n ∙ rests_beside number n (live_numbered os n) (number_found os n) other) came others))
    ∙ ap (λ (x : Option LiveOrder). rested_before ++ cons_option x []) (found number))
    ∙ ap (in_order (ahead buy)) (filter-append (is_there stock buy) rested_before (cons_option (option_and_then (becomes (Rests number)) (live_numbered os number)) []))
    ∙ at (live_numbered os number) (number_found os number)
  where
    rested_before : List LiveOrder
    rested_before = filter_map (live_numbered os) came

    found : (n : ℕ) → live_numbered (live_after (Rests number) os) n ≡ option_and_then (becomes (Rests number)) (live_numbered os n)
    found n = ap (λ (xs : List LiveOrder). live_numbered xs n) (append-nil (filter_map (becomes (Rests number)) os)) ∙ found_turned (becomes (Rests number)) (λ o x k. (becomes_same (Rests number) o x k).0) os apart n

    placed_if : (b : Bool) (o : LiveOrder) → in_order (ahead buy) (filter (is_there stock buy) rested_before ++ cond b (o ∷ []) []) ≡ cond b (inserted_behind (ahead buy) (side_of os came stock buy) o) (side_of os came stock buy)
    placed_if true o = fold-append (inserted_behind (ahead buy)) [] (filter (is_there stock buy) rested_before) (o ∷ [])
    placed_if false o = ap (in_order (ahead buy)) (append-nil (filter (is_there stock buy) rested_before))

    at : (x : Option LiveOrder) → ((o : LiveOrder) → x ≡ Some o → (o.number == number) ≡ true)
        → in_order (ahead buy) (filter (is_there stock buy) rested_before ++ filter (is_there stock buy) (cons_option (option_and_then (becomes (Rests number)) x) []))
        ≡ option_map_or (λ (o : LiveOrder). cond (is_there stock buy o) (inserted_behind (ahead buy) (side_of os came stock buy) (record o { waits = false })) (side_of os came stock buy)) x (side_of os came stock buy)
    at None is = ap (in_order (ahead buy)) (append-nil (filter (is_there stock buy) rested_before))
    at (Some o) is =
        ap (λ (b : Bool). in_order (ahead buy) (filter (is_there stock buy) rested_before ++ filter (is_there stock buy) (cond b (record o { waits = false }) o ∷ [])))
        (eq-eqb number o.number (sym (eqb-true o.number number (is o refl))))
        ∙ placed_if (is_there stock buy o) (record o { waits = false })

-- what no number of a record equals
later : (limit number : ℕ) (ns : List ℕ) → number ≡ limit + 1 → AllByRecursion (λ (n : ℕ). n ≤ limit) ns → AllByRecursion (λ (n : ℕ). number ≡ n → ⊥) ns
later limit number ns place h = all_weaker (λ (n : ℕ). n ≤ limit) (λ (n : ℕ). number ≡ n → ⊥) (λ n k same. absurd (omega arith)) ns h

none_of : (number : ℕ) (ns : List ℕ) → has_come ns number ≡ false → AllByRecursion (λ (n : ℕ). number ≡ n → ⊥) ns
none_of number [] h = tt
none_of number (n ∷ ns) h = at (n == number) refl h (none_of number ns)
  where
    at : (b : Bool) → (n == number) ≡ b → (b || has_come ns number) ≡ false → (has_come ns number ≡ false → AllByRecursion (λ (n : ℕ). number ≡ n → ⊥) ns) → (number ≡ n → ⊥) × AllByRecursion (λ (n : ℕ). number ≡ n → ⊥) ns
    at true e k deeper = cc
    at false e k deeper = (λ same. never (eq-eqb n number (sym same)) e, deeper k)
      where
        never : {b : Bool} → b ≡ true → b ≡ false → ⊥
        never h k = cc

rested_stays : (history : List RecordData) (r : RecordData) (v : Verdict) → r.verdict ≡ v → rested_of v ≡ None → rest_numbers (history ++ r ∷ []) ≡ rest_numbers history
rested_stays history r v e none = rested_next history r ∙ ap (λ (x : Verdict). rest_numbers history ++ option_to_list (rested_of x)) e ∙ ap (λ (x : Option ℕ). rest_numbers history ++ option_to_list x) none ∙ append-nil (rest_numbers history)

-- any turn but a rest
pub other_turn : (turn : Turn) (os : List LiveOrder) (stock : Symbol) (buy : Bool) (found : List LiveOrder) → puts_to_rest turn ≡ false → filter_map (becomes turn) found ≡ side_after turn os stock buy found
other_turn Keeps os stock buy found h = refl
other_turn (Adds o) os stock buy found h = refl
other_turn (Sizes number size) os stock buy found h = refl
other_turn (Replaces number o) os stock buy found h = refl
other_turn (EndsAll action) os stock buy found h = refl
other_turn (Fills f) os stock buy found h = refl
other_turn (Rests number) os stock buy found h = cc
other_turn (Ends number) os stock buy found h = refl

abbrev GoesOn : Turn → Type 0
GoesOn turn = puts_to_rest turn ≡ false

goes_by : (policy : PolicyData) (w : World) (r : RecordData) (a : Asked) (q : Request) → GoesOn (turn_in (move_asked policy w r a q))
goes_by policy w r a (Request.Enter m) = found_turns GoesOn (λ (account : AccountName). Move.Adds (new_order policy r a.user account m)) refl (λ account. refl) (account_of policy a.user)
goes_by policy w r a (Request.Replace m) = found_turns GoesOn (λ (old : LiveOrder). Move.Replaces old (replacement_order r m old)) refl (λ old. refl) (live_under w.live a.user m.existing_token)
goes_by policy w r a (Request.Cancel m) = found_turns GoesOn (λ (cut : LiveOrder). Move.Sizes cut m.shares) refl (λ cut. refl) (live_under w.live a.user m.token)
goes_by policy w r a other = refl

pub goes : (policy : PolicyData) (w : World) (r : RecordData) (v : Verdict) (s : Step) → rested_of v ≡ None → GoesOn (turn_by policy w r v s)
goes policy w r Verdict.Granted (Step.Asked a) h = goes_by policy w r a a.request
goes policy w r Verdict.Granted (Step.Matching handed) h = refl
goes policy w r (Verdict.Denied rule) (Step.Asked a) h = refl
goes policy w r (Verdict.Denied rule) (Step.Matching handed) h = refl
goes policy w r (Verdict.Filled f) s h = refl
goes policy w r (Verdict.Rested number) s h = cc
goes policy w r (Verdict.Expired number) s h = refl

-- a record that puts none to rest
side_kept : {policy : PolicyData} {history : List RecordData} (step : Step) (r : RecordData) (stock : Symbol) (buy : Bool) → IsLegal policy history → next policy history step ≡ Some r → (v : Verdict) → r.verdict ≡ v → rested_of v ≡ None
    → side policy (history ++ r ∷ []) stock buy ≡ side_after (turn_by policy (world policy history) r v r.step) (live policy history) stock buy (side policy history stock buy)
unfolding side
side_kept {policy} {history} step r stock buy legal left v e none =
    let turn : Turn = turn_by policy (world policy history) r v r.step in
    ap (λ (ns : List ℕ). side_of (live policy (history ++ r ∷ [])) ns stock buy) (rested_stays history r v e none)
    ∙ ap (λ (os : List LiveOrder). side_of os (rest_numbers history) stock buy) (live_next policy history step r legal left ∙ ap (λ (x : Verdict). live_after (turn_by policy (world policy history) r x r.step) (live policy history)) e)
    ∙ side_goes_on turn r (live policy history) (rest_numbers history) stock buy (live_apart (legal_is_orderly legal)) (new_by policy (world policy history) r v r.step)
    (later (length history) r.number (rest_numbers history) (number_left policy history step r left) (legal_is_orderly legal).rested_within)
    ∙ other_turn turn (live policy history) stock buy (side policy history stock buy) (goes policy (world policy history) r v r.step none)

-- a record that does
side_more : {policy : PolicyData} {history : List RecordData} (handed : ℕ) (r : RecordData) (stock : Symbol) (buy : Bool) (number : ℕ) → IsLegal policy history → next policy history (Step.Matching handed) ≡ Some r → r.verdict ≡ Verdict.Rested number
    → side policy (history ++ r ∷ []) stock buy ≡ side_after (Rests number) (live policy history) stock buy (side policy history stock buy)
unfolding side
side_more {policy} {history} handed r stock buy number legal left e =
    let orderly : IsOrderly policy history = legal_is_orderly legal in
    let may : MayRest (world policy history) r number = may_match policy history handed r (Verdict.Rested number) left e in
    ap (λ (ns : List ℕ). side_of (live policy (history ++ r ∷ [])) ns stock buy) (rested_next history r ∙ ap (λ (v : Verdict). rest_numbers history ++ option_to_list (rested_of v)) e)
    ∙ ap (λ (os : List LiveOrder). side_of os (rest_numbers history ++ number ∷ []) stock buy) (live_next policy history (Step.Matching handed) r legal left ∙ ap (λ (x : Verdict). live_after (turn_by policy (world policy history) r x r.step) (live policy history)) e)
    ∙ side_rests number (live policy history) (rest_numbers history) stock buy (live_apart orderly) (none_of number (rest_numbers history) (ap (has_come (rest_numbers history)) may.has_number ∙ (first_waiting may.first may.waiting orderly may.comes_first).has_not_rested))

by_verdict : {policy : PolicyData} {history : List RecordData} (step : Step) (r : RecordData) (stock : Symbol) (buy : Bool) → IsLegal policy history → next policy history step ≡ Some r → (v : Verdict) → r.verdict ≡ v
    → side policy (history ++ r ∷ []) stock buy ≡ side_after (turn_by policy (world policy history) r v r.step) (live policy history) stock buy (side policy history stock buy)
by_verdict step r stock buy legal left Verdict.Granted e = side_kept step r stock buy legal left Verdict.Granted e refl
by_verdict step r stock buy legal left (Verdict.Denied rule) e = side_kept step r stock buy legal left (Verdict.Denied rule) e refl
by_verdict step r stock buy legal left (Verdict.Filled f) e = side_kept step r stock buy legal left (Verdict.Filled f) e refl
by_verdict step r stock buy legal left (Verdict.Expired number) e = side_kept step r stock buy legal left (Verdict.Expired number) e refl
by_verdict {policy} {history} (Step.Asked a) r stock buy legal left (Verdict.Rested number) e = let judged : false ≡ true = ap is_judged (sym e) ∙ asked_is_judged policy history a r left in cc
by_verdict (Step.Matching handed) r stock buy legal left (Verdict.Rested number) e = side_more handed r stock buy number legal left e

pub side_next : SidesGoOn
side_next policy history step r stock buy legal left = by_verdict step r stock buy legal left r.verdict refl
