-- What every run keeps of its orders: numbers that differ, replaced orders that have ended, and one rest an order.
use Rattle.std.proofs.{Common.{◌≡◌, ℕ, ◌+◌, ◌<◌, ◌≤◌, Bool, true, false, not, List, [], ◌∷◌, ◌++◌, refl, ◌∙◌, ap, sym, cond, length, arith, length-append, inl, inr, ◌⊎◌}, Math.Path.subst, lemmas.{Bool.{lt-ltb, eq-eqb, and_parts, not-true}, List.append-nil}}
use Rattle.std.specs.{Prelude.{Option, Some, None, find, option_to_list, ◌&&◌, ◌||◌, ◌==◌}, Option.option_map_or, List.{list_any, AllByRecursion}}
use Rattle.gx_units.specs.{declared.names.{AccountName.AccountName, Token.Token, UserName.UserName}, Names.{same_user, same_token}}
use Rattle.gx_ouch.specs.declared.inbound.{EnterOrder.EnterOrder, ReplaceOrder.ReplaceOrder}
use Rattle.gx_policy.specs.{declared.policy.PolicyData.PolicyData, People.account_of}
use Rattle.gx_history.specs.{declared.{live_order.LiveOrder.LiveOrder, «record».{Asked.Asked, RecordData.RecordData, Request.Request, Step.Step, Verdict.Verdict}}, Book.{rest_numbers, rested_of}, Executions.{done, executions}, Live.{waiting, has_come, live, open_now}, MayMove.MayRest, Orders.{total, Order, orders, orders_added, orders_made, order_under, order_numbered, order_entered, order_replacing, is_dead, ends, ends_by_request, expires}, Requests.{granted_of, is_judged}, Verdicts.{next, IsLegal}, World.world}
use Rattle.gx_laws.proofs.{Orders_added.found_passes, Requests_judged.{legal_keeps, asked_is_judged}, Orders_next.{orders_none, orders_next, is_dead_next, rested_next}, Orders_numbered.number_left, Orders_owned.last_such_is, Keys_differ.{AreApart, IsApartFrom, apart_next, apart_are_found}, Lists_found.open_parts, Matches_allowed.may_match}
use Rattle.gx_units.proofs.{Test_known.or_true, Names_equal.{user_is, token_is, user_is_itself, token_is_itself}, Lists_hold.{all_weaker, all_both, filtered, all_pass, all_and, all_found_of}}

abbrev pub number_of : Order → ℕ
number_of o = o.number

-- an order of this number was made, and has ended
pub record IsGone (policy : PolicyData) (history : List RecordData) (number : ℕ) : Type 0 where
  pub order : Order
  pub is_made : order_numbered (orders policy history) number ≡ Some order
  pub has_ended : is_dead history order ≡ true

abbrev pub HasGone : PolicyData → List RecordData → Order → Type 0
HasGone policy history o = AllByRecursion (IsGone policy history) o.replaced

pub record IsOrderly (policy : PolicyData) (history : List RecordData) : Type 0 where
  pub within : AllByRecursion (λ (o : Order). o.number ≤ length history) (orders policy history)
  pub apart : AreApart number_of (orders policy history)
  pub gone : AllByRecursion (HasGone policy history) (orders policy history)
  pub rested_within : AllByRecursion (λ (n : ℕ). n ≤ length history) (rest_numbers history)
  pub rested_apart : AreApart (λ (n : ℕ). n) (rest_numbers history)

-- what was found is found where more is added
found_still : {X : Type 0} (p : X → Bool) (xs more : List X) (x : X) → find p xs ≡ Some x → find p (xs ++ more) ≡ Some x
found_still p [] more x h = cc
found_still {X} p (y ∷ xs) more x h = at (p y) h (found_still p xs more x)
  where
    at : (b : Bool) → cond b (Some y) (find p xs) ≡ Some x → (find p xs ≡ Some x → find p (xs ++ more) ≡ Some x) → cond b (Some y) (find p (xs ++ more)) ≡ Some x
    at true k deeper = k
    at false k deeper = deeper k

-- what has ended has ended for good
still_gone : {policy : PolicyData} {history : List RecordData} (r : RecordData) (number : ℕ) → IsGone policy history number → IsGone policy (history ++ r ∷ []) number
still_gone {policy} {history} r number g = record {
  order = g.order;
  is_made =
      ap (λ (os : List Order). order_numbered os number) (orders_next policy history r)
      ∙ found_still (λ (o : Order). o.number == number) (orders policy history) (orders_added policy (orders policy history) r) g.order g.is_made;
  has_ended = is_dead_next history r g.order ∙ ap (λ (b : Bool). b || ends g.order r) g.has_ended;
}

-- what the record adds: nothing, or an order with its number, in place of orders that have ended by now
pub record AddsOrder (policy : PolicyData) (history : List RecordData) (r : RecordData) : Type 0 where
  pub order : Order
  pub adds : orders_added policy (orders policy history) r ≡ order ∷ []
  pub has_number : order.number ≡ r.number
  pub has_gone : HasGone policy (history ++ r ∷ []) order

-- a known order, under its number and for the orders that it replaced
abbrev IsKept : PolicyData → List RecordData → Order → Type 0
IsKept policy history o = (order_numbered (orders policy history) o.number ≡ Some o) × HasGone policy history o × (o.number ≤ length history)

all_kept : {policy : PolicyData} {history : List RecordData} → IsOrderly policy history → AllByRecursion (IsKept policy history) (orders policy history)
all_kept {policy} {history} orderly =
    zipped (orders policy history) (apart_are_found number_of (orders policy history) orderly.apart) orderly.gone orderly.within
  where
    zipped : (os : List Order) → AllByRecursion (λ (o : Order). order_numbered (orders policy history) o.number ≡ Some o) os → AllByRecursion (HasGone policy history) os
        → AllByRecursion (λ (o : Order). o.number ≤ length history) os → AllByRecursion (IsKept policy history) os
    zipped [] a b c = tt
    zipped (o ∷ os) a b c = ((a.0, b.0, c.0), zipped os a.1 b.1 c.1)

-- the record of a granted Replace ends the order in whose place it puts another
replaced_has_ended : (o : Order) (r : RecordData) (a : Asked) (m : ReplaceOrder) → granted_of r ≡ Some a → a.request ≡ Request.Replace m → o.number < r.number
    → same_user o.user a.user ≡ true → same_token o.token m.existing_token ≡ true → ends o r ≡ true
replaced_has_ended o r a m grants asks early his under =
    let user : o.user ≡ a.user = user_is o.user a.user his in
    let token : o.token ≡ m.existing_token = token_is o.token m.existing_token under in
    ap (λ (b : Bool). b && (expires o.number r.verdict || option_map_or (λ (x : Asked). ends_by_request o x.user x.request) (granted_of r) false)) (lt-ltb o.number r.number early)
    ∙ ap (λ (g : Option Asked). expires o.number r.verdict || option_map_or (λ (x : Asked). ends_by_request o x.user x.request) g false) grants
    ∙ ap (λ (q : Request). expires o.number r.verdict || ends_by_request o a.user q) asks
    ∙ ap (λ (u : UserName). expires o.number r.verdict || (same_user a.user u && same_token m.existing_token o.token)) user
    ∙ ap (λ (b : Bool). expires o.number r.verdict || (b && same_token m.existing_token o.token)) (user_is_itself a.user)
    ∙ ap (λ (t : Token). expires o.number r.verdict || same_token m.existing_token t) token
    ∙ ap (λ (b : Bool). expires o.number r.verdict || b) (token_is_itself m.existing_token)
    ∙ or_true (expires o.number r.verdict)

-- the order in whose place another stands is gone
replaced_is_gone : (policy : PolicyData) (history : List RecordData) (r : RecordData) (o : Order) → IsKept policy history o → ends o r ≡ true → IsGone policy (history ++ r ∷ []) o.number
replaced_is_gone policy history r o kept ending = record {
  order = o;
  is_made =
      ap (λ (os : List Order). order_numbered os o.number) (orders_next policy history r)
      ∙ found_still (λ (x : Order). x.number == o.number) (orders policy history) (orders_added policy (orders policy history) r) o kept.0;
  has_ended = is_dead_next history r o ∙ ap (λ (b : Bool). is_dead history o || b) ending ∙ or_true (is_dead history o);
}

pub what_it_adds : {policy : PolicyData} {history : List RecordData} (r : RecordData) → IsOrderly policy history → r.number ≡ length history + 1
    → (orders_added policy (orders policy history) r ≡ []) ⊎ AddsOrder policy history r
what_it_adds {policy} {history} r orderly place = by_grant (granted_of r) refl
  where
    known : List Order
    known = orders policy history

    adds : List Order → Type 0
    adds os = (orders_added policy known r ≡ os)

    by_replace : (a : Asked) (m : ReplaceOrder) → granted_of r ≡ Some a → a.request ≡ Request.Replace m → (found : Option Order) → order_under known a.user m.existing_token ≡ found
        → orders_added policy known r ≡ option_map_or (λ (o : Order). order_replacing r m o ∷ []) found [] → (orders_added policy known r ≡ []) ⊎ AddsOrder policy history r
    by_replace a m g asks None e same = inl same
    by_replace a m g asks (Some o) e same =
        let is_his : Order → Bool = λ (x : Order). same_user x.user a.user && same_token x.token m.existing_token in
        let kept : IsKept policy history o = last_such_is (IsKept policy history) is_his known o (all_kept orderly) e in
        let passes : (same_user o.user a.user ≡ true) × (same_token o.token m.existing_token ≡ true) = and_parts (same_user o.user a.user) (same_token o.token m.existing_token) (found_passes is_his known o e) in
        let early : o.number < r.number = sooner o.number kept.2 in
        inr (record {
          order = order_replacing r m o;
          adds = same;
          has_number = refl;
          has_gone = (
            replaced_is_gone policy history r o kept (replaced_has_ended o r a m g asks early passes.0 passes.1),
            all_weaker (IsGone policy history) (IsGone policy (history ++ r ∷ [])) (λ n h. still_gone r n h) o.replaced kept.1,
          );
        })
      where
        sooner : (n : ℕ) → n ≤ length history → n < r.number
        sooner n h = omega arith

    by_enter : (a : Asked) (m : EnterOrder) → (found : Option AccountName)
        → orders_added policy known r ≡ option_map_or (λ (account : AccountName). order_entered policy r a.user account m ∷ []) found [] → (orders_added policy known r ≡ []) ⊎ AddsOrder policy history r
    by_enter a m None same = inl same
    by_enter a m (Some account) same = inr (record { order = order_entered policy r a.user account m; adds = same; has_number = refl; has_gone = tt })

    by_request : (a : Asked) → granted_of r ≡ Some a → (q : Request) → a.request ≡ q → orders_added policy known r ≡ orders_made policy known r a.user q
        → (orders_added policy known r ≡ []) ⊎ AddsOrder policy history r
    by_request a g (Request.Login m) asks same = inl same
    by_request a g Request.Logout asks same = inl same
    by_request a g (Request.Unreadable m) asks same = inl same
    by_request a g (Request.Enter m) asks same = by_enter a m (account_of policy a.user) same
    by_request a g (Request.Replace m) asks same = by_replace a m g asks (order_under known a.user m.existing_token) refl same
    by_request a g (Request.Cancel m) asks same = inl same
    by_request a g (Request.Command c) asks same = inl same

    by_grant : (found : Option Asked) → granted_of r ≡ found → (orders_added policy known r ≡ []) ⊎ AddsOrder policy history r
    by_grant None g = inl (ap (λ (x : Option Asked). option_map_or (λ (a : Asked). orders_made policy known r a.user a.request) x []) g)
    by_grant (Some a) g = by_request a g a.request refl (ap (λ (x : Option Asked). option_map_or (λ (y : Asked). orders_made policy known r y.user y.request) x []) g)

-- the orders after the record
pub record AreOrderly (policy : PolicyData) (history : List RecordData) : Type 0 where
  pub within : AllByRecursion (λ (o : Order). o.number ≤ length history) (orders policy history)
  pub apart : AreApart number_of (orders policy history)
  pub gone : AllByRecursion (HasGone policy history) (orders policy history)

orders_after : {policy : PolicyData} {history : List RecordData} (r : RecordData) → IsOrderly policy history → r.number ≡ length history + 1 → AreOrderly policy (history ++ r ∷ [])
orders_after {policy} {history} r orderly place = by (what_it_adds r orderly place)
  where
    now : List RecordData
    now = history ++ r ∷ []

    size : length (history ++ r ∷ []) ≡ length history + 1
    size = length-append history (r ∷ [])

    of_list : (os : List Order) → orders policy now ≡ os → AllByRecursion (λ (o : Order). o.number ≤ length now) os → AreApart number_of os → AllByRecursion (HasGone policy now) os → AreOrderly policy now
    of_list os e a b c = record {
      within = subst (λ (xs : List Order). AllByRecursion (λ (o : Order). o.number ≤ length now) xs) (sym e) a;
      apart = subst (λ (xs : List Order). AreApart number_of xs) (sym e) b;
      gone = subst (λ (xs : List Order). AllByRecursion (HasGone policy now) xs) (sym e) c;
    }

    grown : (n : ℕ) → n ≤ length history → n ≤ length now
    grown n h = omega (arith, size)

    old_within : AllByRecursion (λ (o : Order). o.number ≤ length now) (orders policy history)
    old_within = all_weaker (λ (o : Order). o.number ≤ length history) (λ (o : Order). o.number ≤ length now) (λ o h. grown o.number h) (orders policy history) orderly.within

    old_gone : AllByRecursion (HasGone policy now) (orders policy history)
    old_gone =
        all_weaker (HasGone policy history) (HasGone policy now)
        (λ o h. all_weaker (IsGone policy history) (IsGone policy now) (λ n g. still_gone r n g) o.replaced h) (orders policy history) orderly.gone

    new_within : (n : ℕ) → n ≡ r.number → n ≤ length now
    new_within n e = omega (arith, size)

    differs : (n m : ℕ) → n ≤ length history → m ≡ r.number → n ≡ m → ⊥
    differs n m h e same = absurd (omega arith)

    by : (orders_added policy (orders policy history) r ≡ []) ⊎ AddsOrder policy history r → AreOrderly policy now
    by (inl none) =
        of_list (orders policy history) (orders_next policy history r ∙ ap (λ (more : List Order). orders policy history ++ more) none ∙ append-nil (orders policy history))
        old_within orderly.apart old_gone
    by (inr one) =
        of_list (orders policy history ++ one.order ∷ []) (orders_next policy history r ∙ ap (λ (more : List Order). orders policy history ++ more) one.adds)
        (all_both (λ (o : Order). o.number ≤ length now) (orders policy history) (one.order ∷ []) old_within (new_within one.order.number one.has_number, tt))
        (apart_next number_of (orders policy history) one.order orderly.apart
        (all_weaker (λ (o : Order). o.number ≤ length history) (IsApartFrom number_of one.order) (λ o h. differs o.number one.order.number h one.has_number) (orders policy history) orderly.within))
        (all_both (HasGone policy now) (orders policy history) (one.order ∷ []) old_gone (one.has_gone, tt))

-- those that wait have not come to rest, and have an order's number
abbrev pub WaitsWithin : List RecordData → LiveOrder → Type 0
WaitsWithin history o = (has_come (rest_numbers history) o.number ≡ false) × (o.number ≤ length history)

pub waiting_within : (policy : PolicyData) (history : List RecordData) → AllByRecursion (λ (o : Order). o.number ≤ length history) (orders policy history)
    → AllByRecursion (WaitsWithin history) (waiting policy history)
unfolding waiting live
waiting_within policy history within =
    all_weaker (λ (o : LiveOrder). (o.waits ≡ true) × ((o.number ≤ length history) × (o.waits ≡ not (has_come (rest_numbers history) o.number)))) (WaitsWithin history) (λ o h. (not-true (has_come (rest_numbers history) o.number) (sym h.1.1 ∙ h.0), h.1.0)) (waiting policy history)
    (all_and (λ (o : LiveOrder). o.waits ≡ true) (λ (o : LiveOrder). (o.number ≤ length history) × (o.waits ≡ not (has_come (rest_numbers history) o.number))) (waiting policy history)
    (all_pass (λ (o : LiveOrder). o.waits) (live policy history))
    (filtered (λ (o : LiveOrder). (o.number ≤ length history) × (o.waits ≡ not (has_come (rest_numbers history) o.number))) (λ (o : LiveOrder). o.waits) (live policy history)
    (all_found_of (λ (x : Order). x.number ≤ length history) (λ (o : LiveOrder). (o.number ≤ length history) × (o.waits ≡ not (has_come (rest_numbers history) o.number))) (open_now (executions policy history) history)
    (λ x o small h. subst (λ (y : LiveOrder). (y.number ≤ length history) × (y.waits ≡ not (has_come (rest_numbers history) y.number)))
    (open_parts x (is_dead history x) (total history x) (done (executions policy history) x) (not (has_come (rest_numbers history) x.number)) o h).2 (small, refl)) (orders policy history) within)))

-- the order that comes to rest, if one does
pub record NewRest (history : List RecordData) (number : ℕ) : Type 0 where
  pub has_not : list_any (λ n. n == number) (rest_numbers history) ≡ false
  pub within : number ≤ length history

new_rest : {policy : PolicyData} {history : List RecordData} (r : RecordData) (number : ℕ) → IsOrderly policy history → next policy history r.step ≡ Some r → r.verdict ≡ Verdict.Rested number → NewRest history number
new_rest {policy} {history} r number orderly left rests = by_step r.step refl
  where
    by_step : (s : Step) → r.step ≡ s → NewRest history number
    by_step (Step.Asked a) asks =
        let judged : is_judged r.verdict ≡ true = asked_is_judged policy history a r (ap (next policy history) (sym asks) ∙ left) in
        let not_judged : is_judged r.verdict ≡ false = ap is_judged rests in
        cc
    by_step (Step.Matching handed) asks =
        let may : MayRest (world policy history) r number = may_match policy history handed r (Verdict.Rested number) (ap (next policy history) (sym asks) ∙ left) rests in
        let his : WaitsWithin history may.first = (subst (AllByRecursion (WaitsWithin history)) may.comes_first (waiting_within policy history orderly.within)).0 in
        record {
          has_not = ap (λ (k : ℕ). list_any (λ n. n == k) (rest_numbers history)) may.has_number ∙ his.0;
          within = subst (λ (k : ℕ). k ≤ length history) (sym may.has_number) his.1;
        }

-- the rests after the record: of earlier orders, and apart
pub record RestsAreOrderly (history now : List RecordData) : Type 0 where
  pub within : AllByRecursion (λ (n : ℕ). n ≤ length history) (rest_numbers now)
  pub apart : AreApart (λ (n : ℕ). n) (rest_numbers now)

pub rests_after : {policy : PolicyData} {history : List RecordData} (r : RecordData) → IsOrderly policy history → next policy history r.step ≡ Some r → RestsAreOrderly history (history ++ r ∷ [])
rests_after {history} r orderly left = by_verdict r.verdict refl
  where
    now : List RecordData
    now = history ++ r ∷ []

    of_list : (ns : List ℕ) → rest_numbers now ≡ ns → AllByRecursion (λ (n : ℕ). n ≤ length history) ns → AreApart (λ (n : ℕ). n) ns → RestsAreOrderly history now
    of_list ns e a b = record {
      within = subst (λ (xs : List ℕ). AllByRecursion (λ (n : ℕ). n ≤ length history) xs) (sym e) a;
      apart = subst (λ (xs : List ℕ). AreApart (λ (n : ℕ). n) xs) (sym e) b;
    }

    none : rested_of r.verdict ≡ None → RestsAreOrderly history now
    none e = of_list (rest_numbers history) (rested_next history r ∙ ap (λ (found : Option ℕ). rest_numbers history ++ option_to_list found) e ∙ append-nil (rest_numbers history)) orderly.rested_within orderly.rested_apart

    apart_from : (k : ℕ) (ns : List ℕ) → list_any (λ n. n == k) ns ≡ false → AllByRecursion (λ (n : ℕ). n ≡ k → ⊥) ns
    apart_from k [] h = tt
    apart_from k (n ∷ ns) h = (λ same. first (n == k) h (eq-eqb n k same), apart_from k ns (second (n == k) h))
      where
        first : (b : Bool) → (b || list_any (λ n. n == k) ns) ≡ false → b ≡ true → ⊥
        first true x y = let no : true ≡ false = x in cc
        first false x y = cc

        second : (b : Bool) → (b || list_any (λ n. n == k) ns) ≡ false → list_any (λ n. n == k) ns ≡ false
        second true x = cc
        second false x = x

    by_verdict : (v : Verdict) → r.verdict ≡ v → RestsAreOrderly history now
    by_verdict Verdict.Granted e = none (ap rested_of e)
    by_verdict (Verdict.Denied rule) e = none (ap rested_of e)
    by_verdict (Verdict.Filled f) e = none (ap rested_of e)
    by_verdict (Verdict.Expired n) e = none (ap rested_of e)
    by_verdict (Verdict.Rested n) e =
        let new : NewRest history n = new_rest r n orderly left e in
        of_list (rest_numbers history ++ n ∷ []) (rested_next history r ∙ ap (λ (found : Option ℕ). rest_numbers history ++ option_to_list found) (ap rested_of e))
        (all_both (λ (k : ℕ). k ≤ length history) (rest_numbers history) (n ∷ []) orderly.rested_within (new.within, tt))
        (apart_next (λ (k : ℕ). k) (rest_numbers history) n orderly.rested_apart (apart_from n (rest_numbers history) new.has_not))

pub orderly_none : (policy : PolicyData) → IsOrderly policy []
orderly_none policy = record {
  within = subst (λ (os : List Order). AllByRecursion (λ (o : Order). o.number ≤ 0) os) (sym (orders_none policy)) tt;
  apart = subst (λ (os : List Order). AreApart number_of os) (sym (orders_none policy)) tt;
  gone = subst (λ (os : List Order). AllByRecursion (HasGone policy []) os) (sym (orders_none policy)) tt;
  rested_within = tt;
  rested_apart = tt;
}

-- one more record that is next
pub orderly_next : {policy : PolicyData} {history : List RecordData} (r : RecordData) → IsOrderly policy history → next policy history r.step ≡ Some r → IsOrderly policy (history ++ r ∷ [])
orderly_next {policy} {history} r orderly left =
    let those : AreOrderly policy (history ++ r ∷ []) = orders_after r orderly (number_left policy history r.step r left) in
    let rests : RestsAreOrderly history (history ++ r ∷ []) = rests_after r orderly left in
    let size : length (history ++ r ∷ []) ≡ length history + 1 = length-append history (r ∷ []) in
    record {
      within = those.within;
      apart = those.apart;
      gone = those.gone;
      rested_within = all_weaker (λ (n : ℕ). n ≤ length history) (λ (n : ℕ). n ≤ length (history ++ r ∷ [])) (λ n h. omega arith) (rest_numbers (history ++ r ∷ [])) rests.within;
      rested_apart = rests.apart;
    }

-- so in every legal history
pub legal_is_orderly : {policy : PolicyData} {history : List RecordData} → IsLegal policy history → IsOrderly policy history
legal_is_orderly {policy} legal = legal_keeps (IsOrderly policy) (orderly_none policy) (λ h r orderly follows. orderly_next r orderly follows.is_next) legal
