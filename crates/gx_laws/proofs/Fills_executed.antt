-- A fill is between the first that waits and the best that rests, and takes its shares off what each has executed.
use Rattle.std.proofs.{Common.{◌≡◌, ℕ, ◌+◌, Bool, true, false, not, List, [], ◌∷◌, ◌++◌, refl, ◌∙◌, ap, sym, map, cond, arith, sum_by}, Math.Path.subst, lemmas.{Bool.{eq-eqb, ne_eqb, eqb-true}, List.Sums.sum_by-cons, Option.same_Some}}
use Rattle.std.specs.{Prelude.{Option, Some, None, ◌==◌, ◌||◌, option_to_list}, List.{list_any, AllByRecursion}}
use Rattle.gx_units.proofs.Lists_hold.{all_weaker}
use Rattle.gx_ouch.specs.declared.letters.Liquidity.{Liquidity}
use Rattle.gx_policy.specs.declared.policy.PolicyData.{PolicyData}
use Rattle.gx_history.specs.{declared.{live_order.LiveOrder.LiveOrder, «record».{Fill.Fill, RecordData.RecordData, Step.Step, Verdict.Verdict}}, Book.rest_numbers, Executions.{Execution, done, executed_shares, shares_for, side_of, sides}, Live.{is_buy_order, has_come}, MayMove.MayFill, Orders.{Order, orders, order_numbered, is_dead}, Requests.granted_of, Verdicts.next, World.world}
use Rattle.gx_laws.proofs.{Runs_legal.step_left, LiveOrders_known.{IsKnown, IsWaiting, RestsThere, all_resting, first_waiting}, Matches_allowed.may_match, NamedOrders_only.IsOfKnown, Runs_orderly.{IsOrderly, IsGone, HasGone}, Records_ungranted.match_grants_nothing}

-- a record of this fill, between the first that waits and the best that rests
pub record IsFill (policy : PolicyData) (history : List RecordData) (r : RecordData) (f : Fill) : Type 0 where
  pub grants_nothing : granted_of r ≡ None
  pub is_fill : r.verdict ≡ Verdict.Filled f
  pub may : MayFill (world policy history) r f
  pub taker_waits : IsWaiting policy history may.taker
  pub maker_rests : RestsThere policy history may.taker.terms.stock (not (is_buy_order may.taker)) may.maker
  pub of_taker : f.taker ≡ may.taker.number
  pub of_maker : f.maker ≡ may.maker.number

pub is_fill : {policy : PolicyData} {history : List RecordData} (handed : ℕ) (r : RecordData) (f : Fill) → IsOrderly policy history → next policy history (Step.Matching handed) ≡ Some r
    → r.verdict ≡ Verdict.Filled f → IsFill policy history r f
is_fill {policy} {history} handed r f orderly left fills =
    let may : MayFill (world policy history) r f = may_match policy history handed r (Verdict.Filled f) left fills in
    record {
      grants_nothing = match_grants_nothing r handed (step_left policy history (Step.Matching handed) r left);
      is_fill = fills;
      may = may;
      taker_waits = first_waiting may.taker may.waiting orderly may.comes_first;
      maker_rests =
          (subst (AllByRecursion (RestsThere policy history may.taker.terms.stock (not (is_buy_order may.taker)))) may.is_best
          (all_resting may.taker.terms.stock (not (is_buy_order may.taker)) orderly)).0;
      of_taker = ap (λ (x : Fill). x.taker) may.is_theirs;
      of_maker = ap (λ (x : Fill). x.maker) may.is_theirs;
    }

-- the fill, for the order that came in, and for the one that rested
abbrev pub taker_side : Fill → Order → Execution
taker_side f o = record { fill = f; liquidity = Liquidity.Removed; order = o }

abbrev pub maker_side : Fill → Order → Execution
maker_side f o = record { fill = f; liquidity = Liquidity.Added; order = o }

-- its two sides
abbrev pub both_sides : Fill → Order → Order → List Execution
both_sides f taker maker = taker_side f taker ∷ maker_side f maker ∷ []

pub sides_are : {policy : PolicyData} {history : List RecordData} (r : RecordData) (f : Fill) (is : IsFill policy history r f)
    → sides policy history r.verdict ≡ both_sides f is.taker_waits.known.of.order is.maker_rests.known.of.order
sides_are {policy} {history} r f is =
    ap (sides policy history) is.is_fill
    ∙ ap (λ (n : ℕ). side_of (orders policy history) f Liquidity.Removed n ++ side_of (orders policy history) f Liquidity.Added f.maker) is.of_taker
    ∙ ap (λ (n : ℕ). side_of (orders policy history) f Liquidity.Removed is.may.taker.number ++ side_of (orders policy history) f Liquidity.Added n) is.of_maker
    ∙ ap (λ (found : Option Order). map (made Liquidity.Removed) (option_to_list found) ++ side_of (orders policy history) f Liquidity.Added is.may.maker.number) is.taker_waits.known.is_made
    ∙ ap (λ (found : Option Order). taker_side f is.taker_waits.known.of.order ∷ map (made Liquidity.Added) (option_to_list found)) is.maker_rests.known.is_made
  where
    made : Liquidity → Order → Execution
    made liquidity o = record { fill = f; liquidity = liquidity; order = o }

-- two numbers that differ, and what each brings
abbrev pub bring : ℕ → ℕ → ℕ → ℕ
bring m n shares = cond (m == n) shares 0

pub brought : (t m n shares : ℕ) → (t ≡ m → ⊥) → bring t n shares + (bring m n shares + 0) ≡ cond (n == t || n == m) shares 0
brought t m n shares differ = at (t == n) refl (m == n) refl
  where
    at : (b : Bool) → (t == n) ≡ b → (c : Bool) → (m == n) ≡ c → bring t n shares + (bring m n shares + 0) ≡ cond (n == t || n == m) shares 0
    at true e true f = absurd (differ (eqb-true t n e ∙ sym (eqb-true m n f)))
    at true e false f =
        let here : bring t n shares ≡ shares = ap (λ (x : Bool). cond x shares 0) e in
        let none : bring m n shares ≡ 0 = ap (λ (x : Bool). cond x shares 0) f in
        let all : cond (n == t || n == m) shares 0 ≡ shares = ap (λ (x : Bool). cond (x || n == m) shares 0) (eq-eqb n t (sym (eqb-true t n e))) in
        omega arith
    at false e true f =
        let none : bring t n shares ≡ 0 = ap (λ (x : Bool). cond x shares 0) e in
        let here : bring m n shares ≡ shares = ap (λ (x : Bool). cond x shares 0) f in
        let all : cond (n == t || n == m) shares 0 ≡ shares = ap (λ (x : Bool). cond (n == t || x) shares 0) (eq-eqb n m (sym (eqb-true m n f))) ∙ either (n == t) in
        omega arith
      where
        either : (x : Bool) → cond (x || true) shares 0 ≡ shares
        either true = refl
        either false = refl
    at false e false f =
        let none : bring t n shares ≡ 0 = ap (λ (x : Bool). cond x shares 0) e in
        let nor : bring m n shares ≡ 0 = ap (λ (x : Bool). cond x shares 0) f in
        let no : cond (n == t || n == m) shares 0 ≡ 0 =
        ap (λ (x : Bool). cond (x || n == m) shares 0) (flipped t n e) ∙ ap (λ (x : Bool). cond (false || x) shares 0) (flipped m n f) in
        omega arith
      where
        flipped : (a b : ℕ) → (a == b) ≡ false → (b == a) ≡ false
        flipped a b h = ne_eqb b a (λ same. clash a b h (eq-eqb a b (sym same)))
          where
            clash : (a b : ℕ) → (a == b) ≡ false → (a == b) ≡ true → ⊥
            clash a b h k = cc

pub executed_of_both : (f : Fill) (taker maker : Order) (n : ℕ) → executed_shares (both_sides f taker maker) n ≡ bring taker.number n f.shares + (bring maker.number n f.shares + 0)
unfolding executed_shares
executed_of_both f taker maker n =
    sum_by-cons (shares_for n) (taker_side f taker) (maker_side f maker ∷ [])
    ∙ ap (λ (rest : ℕ). bring taker.number n f.shares + rest) (sum_by-cons (shares_for n) (maker_side f maker) [])

sum_of_none : (g : ℕ → ℕ) (ns : List ℕ) → AllByRecursion (λ (n : ℕ). g n ≡ 0) ns → sum_by g ns ≡ 0
sum_of_none g [] h = refl
sum_of_none g (n ∷ ns) h =
    let whole : sum_by g (n ∷ ns) ≡ g n + sum_by g ns = sum_by-cons g n ns in
    let first : g n ≡ 0 = h.0 in
    let rest : sum_by g ns ≡ 0 = sum_of_none g ns h.1 in
    omega arith

-- a live order is none that has gone
live_is_not_gone : {policy : PolicyData} {history : List RecordData} (o : LiveOrder) (n : ℕ) → IsKnown policy history o → IsGone policy history n → o.number ≡ n → ⊥
live_is_not_gone {policy} {history} o n known gone same =
    let found : known.of.order ≡ gone.order = same_Some _ _ (sym known.is_made ∙ ap (order_numbered (orders policy history)) same ∙ gone.is_made) in
    clash (is_dead history known.of.order) (ap (is_dead history) found ∙ gone.has_ended) known.of.is_not_dead
  where
    clash : (b : Bool) → b ≡ true → b ≡ false → ⊥
    clash true h k = cc
    clash false h k = cc

-- the order that it is of has its number
pub number_of_known : {policy : PolicyData} {history : List RecordData} (o : LiveOrder) → (k : IsOfKnown policy history o) → k.order.number ≡ o.number
number_of_known o k = ap (λ (p : LiveOrder). p.number) k.is_it

-- taker and maker are two orders
pub taker_is_not_maker : (policy : PolicyData) (history : List RecordData) (taker maker : LiveOrder) → has_come (rest_numbers history) taker.number ≡ false → has_come (rest_numbers history) maker.number ≡ true → taker.number ≡ maker.number → ⊥
taker_is_not_maker policy history taker maker not_yet rests same =
    clash (ap (λ (n : ℕ). list_any (λ m. m == n) (rest_numbers history)) same) not_yet rests
  where
    clash : {b c : Bool} → b ≡ c → b ≡ false → c ≡ true → ⊥
    clash e h k = cc

-- what the fill takes of an order, by its number
pub done_by_fill : {policy : PolicyData} {history : List RecordData} (r : RecordData) (f : Fill) (is : IsFill policy history r f) (o : Order) → HasGone policy history o
    → done (both_sides f is.taker_waits.known.of.order is.maker_rests.known.of.order) o ≡ cond (o.number == f.taker || o.number == f.maker) f.shares 0
unfolding done
done_by_fill {policy} {history} r f is o gone =
    let those : List Execution = both_sides f is.taker_waits.known.of.order is.maker_rests.known.of.order in
    let whole : sum_by (executed_shares those) (o.number ∷ o.replaced) ≡ executed_shares those o.number + sum_by (executed_shares those) o.replaced = sum_by-cons (executed_shares those) o.number o.replaced in
    let rest : sum_by (executed_shares those) o.replaced ≡ 0 =
    sum_of_none (executed_shares those) o.replaced (all_weaker (IsGone policy history) (λ (n : ℕ). executed_shares those n ≡ 0) (λ n g. none_of n g) o.replaced gone) in
    let own : executed_shares those o.number ≡ cond (o.number == is.may.taker.number || o.number == is.may.maker.number) f.shares 0 =
    both_of o.number
    ∙ brought is.may.taker.number is.may.maker.number o.number f.shares
    (taker_is_not_maker policy history is.may.taker is.may.maker is.taker_waits.has_not_rested is.maker_rests.has_come_to_rest) in
    let named : cond (o.number == is.may.taker.number || o.number == is.may.maker.number) f.shares 0 ≡ cond (o.number == f.taker || o.number == f.maker) f.shares 0 =
    ap (λ (n : ℕ). cond (o.number == n || o.number == is.may.maker.number) f.shares 0) (sym is.of_taker)
    ∙ ap (λ (n : ℕ). cond (o.number == f.taker || o.number == n) f.shares 0) (sym is.of_maker) in
    omega arith
  where
    both_of : (n : ℕ) → executed_shares (both_sides f is.taker_waits.known.of.order is.maker_rests.known.of.order) n ≡ bring is.may.taker.number n f.shares + (bring is.may.maker.number n f.shares + 0)
    both_of n =
        executed_of_both f is.taker_waits.known.of.order is.maker_rests.known.of.order n
        ∙ ap (λ (t : ℕ). bring t n f.shares + (bring is.maker_rests.known.of.order.number n f.shares + 0)) (number_of_known is.may.taker is.taker_waits.known.of)
        ∙ ap (λ (k : ℕ). bring is.may.taker.number n f.shares + (bring k n f.shares + 0)) (number_of_known is.may.maker is.maker_rests.known.of)

    none_of : (n : ℕ) → IsGone policy history n → executed_shares (both_sides f is.taker_waits.known.of.order is.maker_rests.known.of.order) n ≡ 0
    none_of n g =
        both_of n
        ∙ ap (λ (b : Bool). cond b f.shares 0 + (bring is.may.maker.number n f.shares + 0)) (ne_eqb is.may.taker.number n (live_is_not_gone is.may.taker n is.taker_waits.known g))
        ∙ ap (λ (b : Bool). 0 + (cond b f.shares 0 + 0)) (ne_eqb is.may.maker.number n (live_is_not_gone is.may.maker n is.maker_rests.known g))
