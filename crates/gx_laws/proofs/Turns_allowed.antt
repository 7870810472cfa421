-- What one more record does to the live orders may be done.
use Rattle.std.proofs.{Common.{◌≡◌, ℕ, ◌+◌, ◌<◌, ◌≤◌, ◌^◌, true, false, List, [], ◌∷◌, refl, ◌∙◌, ap, sym, Bool, cond, length, arith}, Math.Path.subst, lemmas.Bool.{eqb-true, lt-ltb, ne_eqb, and_parts}}
use Rattle.std.specs.{Prelude.{Option, Some, None, ◌==◌, is_some, nat_eq, not, IsTrue}, Option.option_map_or, List.{AllByRecursion, IsDistinct}}
use Rattle.gx_units.specs.{Names.same_stock, declared.names.AccountName.AccountName}
use Rattle.gx_units.proofs.Lists_hold.{all_weaker, all_mapped, found_is}
use Rattle.gx_ouch.specs.declared.inbound.{CancelOrder.CancelOrder, EnterOrder.EnterOrder, ReplaceOrder.ReplaceOrder}
use Rattle.gx_policy.specs.{declared.policy.PolicyData.PolicyData, People.{account_of, stock_named}}
use Rattle.gx_history.specs.{declared.{live_order.LiveOrder.LiveOrder, «record».{Asked.Asked, Fill.Fill, RecordData.RecordData, Request.Request, Step.Step, Verdict.Verdict}, moves.Move.{Move, TheVariants.{Adds, Expires, Fills, Nothing, Replaces, Sizes}}}, Book.is_on, Figures.{Positions, positions}, Live.{is_buy_order, live, live_numbered, live_under}, LiveOrders.{is_under, replacement_order, terms_then}, Matched.IsFair, MayMove.{MayExpire, MayMove}, Orders.{Order, order_entered, order_numbered, orders, orders_added, order_replacing}, Requests.is_judged, Turns.new_order, Verdicts.{IsLegal, next}, World.{move_asked, move_by, turn_by, turn_in, world}}
use Rattle.gx_laws.proofs.{Enters_granted.entered_has_shares, Requests_judged.asked_is_judged, Orders_listed.{entered_is_listed, orders_are_listed}, Orders_numbered.{number_left, numbers_are_within}, Orders_owned.last_such_is, Runs_legal.step_left, Lists_members.of_all, Keys_differ.{AreApart, IsApartFrom}, Fills_fair.fills_are_fair, LiveOrders_known.{IsKnown, IsWaiting, all_waiting, live_apart, live_known, number_found, number_in}, Moves_allowed.may_by, NamedOrders_only.{FindsOne, finds_one}, Runs_orderly.legal_is_orderly, Requests_granted.{adds_by, it_grants}, Terms_bounds.{entered_price, entered_shares, replaced_price, replaced_shares}, Moments_ordered.granted_last}
use Rattle.gx_laws.specs.{PositionLaws.RecordsMayCome, Sound.{IsListed, IsLive, IsNoLater, IsOf, IsLiveThere, MayChange, MayCome, numbers_of}}

-- what is known of a live order says of which grant it is
is_of_known : {policy : PolicyData} {history : List RecordData} (o : LiveOrder) (known : IsKnown policy history o) → IsOf o known.of.order
is_of_known o known = record {
  number = ap (λ (x : LiveOrder). x.number) known.of.is_it;
  account = ap (λ (x : LiveOrder). x.account) known.of.is_it;
  terms = ap (λ (x : LiveOrder). x.terms) known.of.is_it;
}

all_known : {policy : PolicyData} {history : List RecordData} → IsLegal policy history → AllByRecursion (IsKnown policy history) (live policy history)
all_known legal = live_known (legal_is_orderly legal)

-- what holds of each order that was granted holds of each live one
pub of_live : {policy : PolicyData} {history : List RecordData} (P : Order → Type 0) (Q : LiveOrder → Type 0) → ((grant : Order) (o : LiveOrder) → IsOf o grant → P grant → Q o)
    → IsLegal policy history → AllByRecursion P (orders policy history) → AllByRecursion Q (live policy history)
of_live {policy} {history} P Q holds legal all =
    all_weaker (IsKnown policy history) Q (λ o known. holds known.of.order o (is_of_known o known) (of_all P known.of.order (orders policy history) all known.of.is_known))
    (live policy history) (all_known legal)

-- each is in a listed stock
pub live_are_listed : {policy : PolicyData} {history : List RecordData} → IsLegal policy history → AllByRecursion (IsListed policy) (live policy history)
live_are_listed {policy} {history} legal =
    of_live (λ (x : Order). IsTrue (is_some (stock_named policy x.terms.stock))) (IsListed policy)
    (λ x o of listed. subst (λ terms. IsTrue (is_some (stock_named policy terms.stock))) of.terms listed) legal (orders_are_listed policy history legal)

distinct : (os : List LiveOrder) → AreApart number_in os → IsDistinct nat_eq (numbers_of os)
unfolding IsDistinct
distinct [] h = tt
distinct (o ∷ os) h = (
  all_mapped (λ (n : ℕ). nat_eq o.number n ≡ false) number_in os
      (all_weaker (IsApartFrom number_in o) (λ (x : LiveOrder). nat_eq o.number x.number ≡ false) (λ x apart. ne_eqb o.number x.number (λ e. apart (sym e))) os h.0),
  distinct os h.1,
)

-- and their numbers differ
pub numbers_apart : {policy : PolicyData} {history : List RecordData} → IsLegal policy history → IsDistinct nat_eq (numbers_of (live policy history))
numbers_apart {policy} {history} legal = distinct (live policy history) (live_apart (legal_is_orderly legal))

-- none has a later number
none_numbered : (os : List LiveOrder) (top number : ℕ) → AllByRecursion (λ (o : LiveOrder). o.number ≤ top) os → top < number → live_numbered os number ≡ None
none_numbered [] top number h late = refl
none_numbered (o ∷ os) top number h late =
    ap (λ (b : Bool). cond b (Some o) (live_numbered os number)) (ne_eqb o.number number (differs h.0)) ∙ none_numbered os top number h.1 late
  where
    differs : o.number ≤ top → o.number ≡ number → ⊥
    differs most same = absurd (omega (arith, most, same, late))

module _ (policy : PolicyData) (history : List RecordData) (r : RecordData) (legal : IsLegal policy history) where
  abbrev held : Positions
  held = positions policy history

  abbrev granted : List Order
  granted = orders_added policy (orders policy history) r

  abbrev Comes : Move → Type 0
  Comes m = MayChange policy held (turn_in m) granted

  -- a live order is there under its number
  abbrev there : (number : ℕ) (o : LiveOrder) → live_numbered (live policy history) number ≡ Some o → IsLiveThere held number
  there number o found =
      let known : IsKnown policy history o = found_is (IsKnown policy history) (λ (x : LiveOrder). x.number == number) (live policy history) o (all_known legal) found in
      record {
        order = o;
        is_found = found;
        grant = known.of.order;
        is_granted = ap (order_numbered (orders policy history)) (sym (eqb-true o.number number (number_found (live policy history) number o found))) ∙ known.is_made;
        is_of = is_of_known o known;
      }

  -- a granted request
  module _ (a : Asked) (left : next policy history (Step.Asked a) ≡ Some r) (grants : r.verdict ≡ Verdict.Granted) where
    may : (q : Request) → a.request ≡ q → MayMove policy (world policy history) r (move_asked policy (world policy history) r a q)
    may q asks =
        subst (λ (x : Request). MayMove policy (world policy history) r (move_asked policy (world policy history) r a x)) asks
        (subst (λ (s : Step). MayMove policy (world policy history) r (move_by policy (world policy history) r Verdict.Granted s)) (step_left policy history (Step.Asked a) r left)
        (may_by (Step.Asked a) r Verdict.Granted legal left grants))

    -- an order of this record
    new_comes : (new : LiveOrder) (grant : Order) → granted ≡ grant ∷ [] → IsOf new grant → new.number ≡ r.number → IsListed policy new → IsLive new → new.total < 2 ^ 32 → new.terms.price < 2 ^ 32
        → MayCome policy held new granted
    new_comes new grant adds of numbered listed lives small cheap =
        let place : r.number ≡ length history + 1 = number_left policy history (Step.Asked a) r left in
        record {
          grant = grant;
          is_granted = adds;
          is_of = of;
          is_new =
              none_numbered (live policy history) (length history) new.number
              (of_live (λ (x : Order). x.number ≤ length history) (λ (o : LiveOrder). o.number ≤ length history) (λ x o is most. subst (λ (n : ℕ). n ≤ length history) is.number most) legal (numbers_are_within policy history legal))
              (omega (arith, numbered, place));
          is_listed = listed;
          is_last = (subst (AllByRecursion (λ (o : Order). AllByRecursion (IsNoLater o) (orders policy history))) adds (granted_last (Step.Asked a) r legal left)).0;
          is_open = lives;
          is_small = small;
          is_cheap = cheap;
        }

    -- a user's live order under a token is known
    known_under : (token : _) (o : LiveOrder) → live_under (live policy history) a.user token ≡ Some o → IsKnown policy history o
    known_under token o named = last_such_is (IsKnown policy history) (is_under a.user token) (live policy history) o (all_known legal) named

    by_enter : (m : EnterOrder) → a.request ≡ Request.Enter m → (found : Option AccountName) → account_of policy a.user ≡ found
        → MayMove policy (world policy history) r (option_map_or (λ (account : AccountName). Adds (new_order policy r a.user account m)) found Nothing)
        → Comes (option_map_or (λ (account : AccountName). Adds (new_order policy r a.user account m)) found Nothing)
    by_enter m asks None his moves = tt
    by_enter m asks (Some account) his moves =
        new_comes (new_order policy r a.user account m) (order_entered policy r a.user account m)
        (adds_by policy (orders policy history) r a (Request.Enter m) (it_grants policy history a r (Request.Enter m) left asks grants)
        ∙ ap (λ (found : Option AccountName). option_map_or (λ account. order_entered policy r a.user account m ∷ []) found []) his)
        (record { number = refl; account = refl; terms = refl }) refl (entered_is_listed policy history a r m left grants asks) (entered_has_shares policy history a r m left grants asks)
        (entered_shares policy history a r m left grants asks) (entered_price policy history a r m left grants asks)

    by_replace : (m : ReplaceOrder) → a.request ≡ Request.Replace m → (found : Option LiveOrder) → live_under (live policy history) a.user m.existing_token ≡ found
        → MayMove policy (world policy history) r (option_map_or (λ (old : LiveOrder). Replaces old (replacement_order r m old)) found Nothing)
        → Comes (option_map_or (λ (old : LiveOrder). Replaces old (replacement_order r m old)) found Nothing)
    by_replace m asks None named moves = tt
    by_replace m asks (Some old) named moves =
        let one : FindsOne policy history a.user m.existing_token old = finds_one a.user m.existing_token old legal named in
        record {
          is_there = there old.number old (known_under m.existing_token old named).is_found;
          is_his = refl;
          may_come =
              new_comes (replacement_order r m old) (order_replacing r m one.known.order)
              (adds_by policy (orders policy history) r a (Request.Replace m) (it_grants policy history a r (Request.Replace m) left asks grants)
              ∙ ap (λ (found : Option Order). option_map_or (λ o. order_replacing r m o ∷ []) found []) one.is_last)
              (record { number = refl; account = ap (λ (x : LiveOrder). x.account) one.known.is_it; terms = ap (λ (x : LiveOrder). terms_then m x.terms) one.known.is_it }) refl
              (last_such_is (IsListed policy) (is_under a.user m.existing_token) (live policy history) old (live_are_listed legal) named) (lt-ltb old.done m.shares moves.some_open)
              (replaced_shares policy history a r m old left grants asks named) (replaced_price policy history a r m old left grants asks named);
        }

    by_cancel : (m : CancelOrder) (found : Option LiveOrder) → live_under (live policy history) a.user m.token ≡ found
        → MayMove policy (world policy history) r (option_map_or (λ (cut : LiveOrder). Sizes cut m.shares) found Nothing)
        → Comes (option_map_or (λ (cut : LiveOrder). Sizes cut m.shares) found Nothing)
    by_cancel m None named moves = tt
    by_cancel m (Some cut) named moves = record { is_there = there cut.number cut (known_under m.token cut named).is_found; is_less = moves.is_less }

    by_grant : (q : Request) → a.request ≡ q → Comes (move_asked policy (world policy history) r a q)
    by_grant (Request.Login m) asks = tt
    by_grant Request.Logout asks = tt
    by_grant (Request.Unreadable m) asks = tt
    by_grant (Request.Enter m) asks = by_enter m asks (account_of policy a.user) refl (may (Request.Enter m) asks)
    by_grant (Request.Replace m) asks = by_replace m asks (live_under (live policy history) a.user m.existing_token) refl (may (Request.Replace m) asks)
    by_grant (Request.Cancel m) asks = by_cancel m (live_under (live policy history) a.user m.token) refl (may (Request.Cancel m) asks)
    by_grant (Request.Command c) asks = tt

  -- a request
  by_asked : (a : Asked) → next policy history (Step.Asked a) ≡ Some r → (v : Verdict) → r.verdict ≡ v → Comes (move_by policy (world policy history) r v (Step.Asked a))
  by_asked a left Verdict.Granted e = by_grant a left e a.request refl
  by_asked a left (Verdict.Denied rule) e = tt
  by_asked a left (Verdict.Filled f) e = let judged : false ≡ true = ap is_judged (sym e) ∙ asked_is_judged policy history a r left in cc
  by_asked a left (Verdict.Rested number) e = tt
  by_asked a left (Verdict.Expired number) e = let judged : false ≡ true = ap is_judged (sym e) ∙ asked_is_judged policy history a r left in cc

  by_fill : (f : Fill) → IsFair policy history f → Comes (Fills f)
  by_fill f fair = record {
    taker = there f.taker fair.taker fair.taker_lives;
    maker = there f.maker fair.maker fair.maker_lives;
    they_differ = fair.they_differ;
    of_one_stock = (and_parts (same_stock fair.maker.terms.stock fair.taker.terms.stock) (is_on (not (is_buy_order fair.taker)) fair.maker.terms.side) fair.other_side).0;
    taker_has = fair.taker_has_them;
    maker_has = fair.maker_has_them;
    at_its_price = fair.at_its_price;
  }

  by_end : (number : ℕ) → MayExpire (world policy history) r number → Comes (Expires number)
  by_end number is =
      let first_waits : IsWaiting policy history is.first = (subst (AllByRecursion (IsWaiting policy history)) is.comes_first (all_waiting (legal_is_orderly legal))).0 in
      there number is.first (ap (live_numbered (live policy history)) is.has_number ∙ first_waits.known.is_found)

  -- a matching step
  by_match : (handed : ℕ) → next policy history (Step.Matching handed) ≡ Some r → (v : Verdict) → r.verdict ≡ v → Comes (move_by policy (world policy history) r v (Step.Matching handed))
  by_match handed left Verdict.Granted e = tt
  by_match handed left (Verdict.Denied rule) e = tt
  by_match handed left (Verdict.Filled f) e = by_fill f (fills_are_fair policy history handed r f legal left e)
  by_match handed left (Verdict.Rested number) e = tt
  by_match handed left (Verdict.Expired number) e = by_end number (may_by (Step.Matching handed) r (Verdict.Expired number) legal left e)

  by_step : (step : Step) → next policy history step ≡ Some r → Comes (move_by policy (world policy history) r r.verdict step)
  by_step (Step.Asked a) left = by_asked a left r.verdict refl
  by_step (Step.Matching handed) left = by_match handed left r.verdict refl

-- any step
pub records_may_come : RecordsMayCome
records_may_come policy history step r legal left =
    subst (λ (s : Step). MayChange policy (positions policy history) (turn_by policy (world policy history) r r.verdict s) (orders_added policy (orders policy history) r)) (sym (step_left policy history step r left))
    (by_step policy history r legal step left)
