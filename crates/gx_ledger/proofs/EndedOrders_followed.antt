-- How a ledger follows orders that end one after another, and an order that takes the place of another.
use Rattle.std.proofs.{Common.{◌≡◌, ℕ, ◌<◌, ◌^◌, Bool, true, false, cond, ◌&&◌, ◌||◌, not, List, [], ◌∷◌, ◌++◌, refl, sym, ap, ◌∙◌, subst, arith}, lemmas.{Bool.eqb-true, List.{append-nil, Sums.fold_push}}}
use Rattle.std.specs.{Prelude.{Some, None, nat_eq}, List.{AllByRecursion, IsDistinct, filter, filter_map, list_any}, Cmp.nat_eq_equiv}
use Rattle.gx_units.proofs.Lists_hold.{filtered, all_before}
use Rattle.gx_history.specs.{declared.live_order.LiveOrder.LiveOrder, Figures.{Positions, live_shares, live_value, of_accounts}, Live.live_numbered, Orders.ends_account, Turns.becomes}
use Rattle.gx_policy.specs.declared.policy.PolicyData.{PolicyData}
use Rattle.gx_history.specs.Turns as turns
use Rattle.gx_laws.proofs.{World_next.{all_stay, those_go}, Sums_turn.{IsNoMore, is_numbered, no_rise_by, none_if_gone, shares_of, value_of}}
use Rattle.gx_laws.specs.{Changing.positions_with, Sound.{AreSound, IsListed, IsLive, MayCome, anyone, numbers_of}}
use Rattle.gx_ledger.specs.{Following.{AllAreEnded, EndedThenAccepted, NoneCloses, OneMoreCloses, all_closed, positions_closed, ended_by}, StandsFor.{IsHeld, StandsFor}}

-- any other number
abbrev pub is_other : ℕ → LiveOrder → Bool
is_other n o = not (is_numbered n o)

-- the order of a number ends
ends_one : (n : ℕ) (o : LiveOrder) → becomes (turns.Ends n) o ≡ cond (is_numbered n o) None (Some o)
ends_one n o = ap (λ b. cond b None (Some o)) (nat_eq_equiv.symm n o.number)

one_ends : (n : ℕ) (os : List LiveOrder) → filter_map (becomes (turns.Ends n)) os ≡ filter (is_other n) os
one_ends n os = (λ i. filter_map (λ o. ends_one n o i) os) ∙ those_go (is_numbered n) os

numbers_filtered : (n : ℕ) (q : LiveOrder → Bool) (os : List LiveOrder) → AllByRecursion (λ k. nat_eq n k ≡ false) (numbers_of os) → AllByRecursion (λ k. nat_eq n k ≡ false) (numbers_of (filter q os))
numbers_filtered n q [] apart = tt
numbers_filtered n q (o ∷ os) apart = by (q o) (numbers_filtered n q os apart.1)
  where
    by : (b : Bool) → AllByRecursion (λ k. nat_eq n k ≡ false) (numbers_of (filter q os)) → AllByRecursion (λ k. nat_eq n k ≡ false) (numbers_of (cond b (o ∷ filter q os) (filter q os)))
    by true rest = (apart.0, rest)
    by false rest = rest

pub distinct_filtered : (q : LiveOrder → Bool) (os : List LiveOrder) → IsDistinct nat_eq (numbers_of os) → IsDistinct nat_eq (numbers_of (filter q os))
unfolding IsDistinct
distinct_filtered q [] distinct = tt
distinct_filtered q (o ∷ os) distinct = by (q o) (distinct_filtered q os distinct.1)
  where
    by : (b : Bool) → IsDistinct nat_eq (numbers_of (filter q os)) → IsDistinct nat_eq (numbers_of (cond b (o ∷ filter q os) (filter q os)))
    by true rest = (numbers_filtered o.number q os distinct.0, rest)
    by false rest = rest

-- some of the live orders
abbrev only : (LiveOrder → Bool) → Positions → Positions
only q held = record { live = filter q held.live; executions = held.executions; grants = held.grants }

-- an order that has ended is gone
closed_is : (held : Positions) (o : LiveOrder) → positions_closed held o ≡ only (is_other o.number) held
closed_is held o = λ i. record { live = (append-nil _ ∙ one_ends o.number held.live) i; executions = append-nil held.executions i; grants = append-nil held.grants i }

others_sound : {policy : PolicyData} (held : Positions) (n : ℕ) → AreSound policy held → AreSound policy (only (is_other n) held)
others_sound {policy} held n sound = record {
  numbers_differ = distinct_filtered (is_other n) held.live sound.numbers_differ;
  all_live = filtered IsLive (is_other n) held.live sound.all_live;
  all_listed = filtered (IsListed policy) (is_other n) held.live sound.all_listed;
  never_fall = sound.never_fall;
  fit = record { live_shares = fewer_shares sound.fit.live_shares; live_value = less_value sound.fit.live_value; done_shares = sound.fit.done_shares; done_value = sound.fit.done_value };
}
  where
    no_more : AllByRecursion (IsNoMore (turns.Ends n)) held.live
    no_more = none_if_gone (turns.Ends n) (is_numbered n) (ends_one n) held.live

    fewer_shares : live_shares held.live anyone < 2 ^ 128 → live_shares (filter (is_other n) held.live) anyone < 2 ^ 128
    fewer_shares fit =
        let few = no_rise_by (shares_of (of_accounts anyone)) (turns.Ends n) held.live no_more in
        let same = ap (λ os. live_shares os anyone) (one_ends n held.live) in
        omega (arith, fit, few, same)

    less_value : live_value held.live anyone < 2 ^ 128 → live_value (filter (is_other n) held.live) anyone < 2 ^ 128
    less_value fit =
        let few = no_rise_by (value_of anyone) (turns.Ends n) held.live no_more in
        let same = ap (λ os. live_value os anyone) (one_ends n held.live) in
        omega (arith, fit, few, same)

closed_sound : {policy : PolicyData} (held : Positions) (o : LiveOrder) → AreSound policy held → AreSound policy (positions_closed held o)
closed_sound {policy} held o sound = subst (AreSound policy) (sym (closed_is held o)) (others_sound held o.number sound)

all_closed_sound : {policy : PolicyData} (held : Positions) (orders : List LiveOrder) → AreSound policy held → AreSound policy (all_closed orders held)
all_closed_sound held [] sound = sound
all_closed_sound held (o ∷ orders) sound = all_closed_sound (positions_closed held o) orders (closed_sound held o sound)

-- another order is found as before
other_found : (n m : ℕ) (os : List LiveOrder) → nat_eq n m ≡ false → live_numbered (filter (is_other n) os) m ≡ live_numbered os m
other_found n m [] differ = refl
other_found n m (o ∷ os) differ = by (nat_eq o.number n) refl (other_found n m os differ)
  where
    by : (b : Bool) → nat_eq o.number n ≡ b → live_numbered (filter (is_other n) os) m ≡ live_numbered os m
        → live_numbered (cond (not b) (o ∷ filter (is_other n) os) (filter (is_other n) os)) m ≡ cond (nat_eq o.number m) (Some o) (live_numbered os m)
    by true h deeper = deeper ∙ ap (λ b. cond b (Some o) (live_numbered os m)) (sym (ap (λ k. nat_eq k m) (eqb-true o.number n h) ∙ differ))
    by false h deeper = ap (λ found. cond (nat_eq o.number m) (Some o) found) deeper

none_found : (q : LiveOrder → Bool) (m : ℕ) (os : List LiveOrder) → live_numbered os m ≡ None → live_numbered (filter q os) m ≡ None
none_found q m [] none = refl
none_found q m (o ∷ os) none = by (nat_eq o.number m) (q o) refl none (none_found q m os)
  where
    by : (b c : Bool) → nat_eq o.number m ≡ b → cond b (Some o) (live_numbered os m) ≡ None → (live_numbered os m ≡ None → live_numbered (filter q os) m ≡ None)
        → live_numbered (cond c (o ∷ filter q os) (filter q os)) m ≡ None
    by true c h none deeper = cc
    by false true h none deeper = ap (λ b. cond b (Some o) (live_numbered (filter q os) m)) h ∙ deeper none
    by false false h none deeper = deeper none

still_held : (held : Positions) (x o : LiveOrder) → nat_eq x.number o.number ≡ false → IsHeld held o → IsHeld (positions_closed held x) o
still_held held x o differ is = ap (λ (p : Positions). live_numbered p.live o.number) (closed_is held x) ∙ other_found x.number o.number held.live differ ∙ is

-- the orders before the last have other numbers
others_before : (orders : List LiveOrder) (o : LiveOrder) → IsDistinct nat_eq (numbers_of (orders ++ o ∷ [])) → AllByRecursion (λ (x : LiveOrder). nat_eq x.number o.number ≡ false) orders × IsDistinct nat_eq (numbers_of orders)
unfolding IsDistinct
others_before [] o distinct = (tt, tt)
others_before (x ∷ orders) o distinct =
    let deeper = others_before orders o distinct.1 in
    let here = apart orders distinct.0 in
    ((here.1, deeper.0), (here.0, deeper.1))
  where
    apart : (orders : List LiveOrder) → AllByRecursion (λ k. nat_eq x.number k ≡ false) (numbers_of (orders ++ o ∷ [])) → AllByRecursion (λ k. nat_eq x.number k ≡ false) (numbers_of orders) × (nat_eq x.number o.number ≡ false)
    apart [] all = (tt, all.0)
    apart (y ∷ orders) all = let rest = apart orders all.1 in ((all.0, rest.0), rest.1)

held_to_the_end : (held : Positions) (orders : List LiveOrder) (o : LiveOrder) → AllByRecursion (λ (x : LiveOrder). nat_eq x.number o.number ≡ false) orders → IsHeld held o → IsHeld (all_closed orders held) o
held_to_the_end held [] o others is = is
held_to_the_end held (x ∷ orders) o others is = held_to_the_end (positions_closed held x) orders o others.1 (still_held held x o others.0 is)

pub none_closes : NoneCloses
none_closes k policy held stands sound are = stands

pub one_more_closes : OneMoreCloses
one_more_closes orders o old between new before last policy held stands sound are =
    let all : AllByRecursion (IsHeld held) orders × IsHeld held o = all_before (IsHeld held) orders o are.all_held in
    let others = others_before orders o are.differ in
    let so_far : Positions = all_closed orders held in
    let sound_so_far = all_closed_sound held orders sound in
    subst (StandsFor policy new) (sym (fold_push positions_closed held orders o))
    (last policy so_far (before policy held stands sound (record { all_held = all.0; differ = others.1 })) sound_so_far (held_to_the_end held orders o others.0 all.1)
    (closed_sound so_far o sound_so_far))

-- the orders but for those of these numbers
abbrev is_none_of : List ℕ → LiveOrder → Bool
is_none_of ns o = not (list_any (λ n. nat_eq o.number n) ns)

filter_both : {X : Type 0} (p q r : X → Bool) → ((x : X) → (p x && q x) ≡ r x) → (xs : List X) → filter q (filter p xs) ≡ filter r xs
filter_both p q r h [] = refl
filter_both {X} p q r h (x ∷ xs) = by (p x) (filter_both p q r h xs) ∙ ap (λ b. cond b (x ∷ filter r xs) (filter r xs)) (h x)
  where
    by : (b : Bool) → filter q (filter p xs) ≡ filter r xs → filter q (cond b (x ∷ filter p xs) (filter p xs)) ≡ cond (b && q x) (x ∷ filter r xs) (filter r xs)
    by true deeper = ap (λ l. cond (q x) (x ∷ l) l) deeper
    by false deeper = deeper

all_kept : {X : Type 0} (q : X → Bool) → ((x : X) → q x ≡ true) → (xs : List X) → xs ≡ filter q xs
all_kept q h [] = refl
all_kept {X} q h (x ∷ xs) = ap (λ l. x ∷ l) (all_kept q h xs) ∙ ap (λ b. cond b (x ∷ filter q xs) (filter q xs)) (sym (h x))

all_closed_are : (held : Positions) (orders : List LiveOrder) → all_closed orders held ≡ only (is_none_of (numbers_of orders)) held
all_closed_are held [] = λ i. record { live = all_kept (is_none_of []) (λ o. refl) held.live i; executions = held.executions; grants = held.grants }
all_closed_are held (o ∷ orders) =
    all_closed_are (positions_closed held o) orders
    ∙ ap (only (is_none_of (numbers_of orders))) (closed_is held o)
    ∙ (λ i. record { live = filter_both (is_other o.number) (is_none_of (numbers_of orders)) (is_none_of (numbers_of (o ∷ orders))) neither held.live i; executions = held.executions; grants = held.grants })
  where
    neither : (x : LiveOrder) → (is_other o.number x && is_none_of (numbers_of orders) x) ≡ is_none_of (numbers_of (o ∷ orders)) x
    neither x = by (nat_eq x.number o.number)
      where
        by : (b : Bool) → (not b && is_none_of (numbers_of orders) x) ≡ not (b || list_any (λ n. nat_eq x.number n) (numbers_of orders))
        by true = refl
        by false = refl

-- an order is among those that pass where it passes
module _ (e : LiveOrder → Bool) where
  none_such : (n : ℕ) (ns : List ℕ) → AllByRecursion (λ k. nat_eq n k ≡ false) ns → list_any (λ k. nat_eq n k) ns ≡ false
  none_such n [] apart = refl
  none_such n (k ∷ ns) apart = ap (λ b. b || list_any (λ k. nat_eq n k) ns) apart.0 ∙ none_such n ns apart.1

  one_more_passes : (x : LiveOrder) (os more : List LiveOrder) → AllByRecursion (λ k. nat_eq x.number k ≡ false) (numbers_of more)
      → AllByRecursion (λ (o : LiveOrder). is_none_of (numbers_of (filter e os)) o ≡ not (e o)) more
      → AllByRecursion (λ (o : LiveOrder). is_none_of (numbers_of (filter e (x ∷ os))) o ≡ not (e o)) more
  one_more_passes x os [] apart all = tt
  one_more_passes x os (o ∷ more) apart all = (by (e x), one_more_passes x os more apart.1 all.1)
    where
      by : (b : Bool) → is_none_of (numbers_of (cond b (x ∷ filter e os) (filter e os))) o ≡ not (e o)
      by true = ap (λ b. not (b || list_any (λ n. nat_eq o.number n) (numbers_of (filter e os)))) (nat_eq_equiv.symm o.number x.number ∙ apart.0) ∙ all.0
      by false = all.0

  passes_where_among : (os : List LiveOrder) → IsDistinct nat_eq (numbers_of os) → AllByRecursion (λ (o : LiveOrder). is_none_of (numbers_of (filter e os)) o ≡ not (e o)) os
  unfolding IsDistinct
  passes_where_among [] distinct = tt
  passes_where_among (x ∷ os) distinct = (by (e x) refl, one_more_passes x os os distinct.0 (passes_where_among os distinct.1))
    where
      by : (b : Bool) → e x ≡ b → is_none_of (numbers_of (cond b (x ∷ filter e os) (filter e os))) x ≡ not (e x)
      by true h = ap (λ b. not (b || list_any (λ n. nat_eq x.number n) (numbers_of (filter e os)))) (nat_eq_equiv.refl x.number) ∙ ap not (sym h)
      by false h = ap not (none_such x.number (numbers_of (filter e os)) (numbers_filtered x.number e os distinct.0) ∙ sym h)

filter_agrees : (p q : LiveOrder → Bool) (os : List LiveOrder) → AllByRecursion (λ (o : LiveOrder). p o ≡ q o) os → filter p os ≡ filter q os
filter_agrees p q [] all = refl
filter_agrees p q (o ∷ os) all = λ i. cond (all.0 i) (o ∷ filter_agrees p q os all.1 i) (filter_agrees p q os all.1 i)

pub all_are_ended : AllAreEnded
all_are_ended policy held action sound =
    let ends : LiveOrder → Bool = λ (o : LiveOrder). ends_account o.account action in
    let left = filter_agrees (is_none_of (numbers_of (ended_by action held.live))) (λ o. not (ends o)) held.live (passes_where_among ends held.live sound.numbers_differ) in
    let gone = those_go ends held.live in
    all_closed_are held (ended_by action held.live)
    ∙ (λ i. record { live = (left ∙ sym gone ∙ sym (append-nil (filter_map (becomes (turns.EndsAll action)) held.live))) i; executions = sym (append-nil held.executions) i; grants = sym (append-nil held.grants) i })

pub ended_then_accepted : EndedThenAccepted
ended_then_accepted o new_order moment old between new closes accepts grant is policy held stands sound may after =
    let mid : Positions = positions_closed held o in
    let sound_mid = closed_sound held o sound in
    let left : filter_map (becomes (turns.Adds new_order)) mid.live ≡ filter_map (becomes (turns.Replaces o.number new_order)) held.live =
    all_stay mid.live ∙ append-nil (filter_map (becomes (turns.Ends o.number)) held.live) ∙ one_ends o.number held.live ∙ sym (those_go (is_numbered o.number) held.live) in
    let same : positions_with (turns.Adds new_order) (grant ∷ []) mid ≡ positions_with (turns.Replaces o.number new_order) (grant ∷ []) held =
    (λ i. record { live = left i ++ new_order ∷ []; executions = append-nil mid.executions i; grants = append-nil held.grants i ++ grant ∷ [] }) in
    let comes : MayCome policy held new_order (grant ∷ []) = may.may_replace.may_come in
    let may_come : MayCome policy mid new_order (grant ∷ []) = subst (λ (p : Positions). MayCome policy p new_order (grant ∷ [])) (sym (closed_is held o)) (record {
      grant = comes.grant;
      is_granted = comes.is_granted;
      is_of = comes.is_of;
      is_new = none_found (is_other o.number) new_order.number held.live comes.is_new;
      is_listed = comes.is_listed;
      is_last = comes.is_last;
      is_open = comes.is_open;
      is_small = comes.is_small;
      is_cheap = comes.is_cheap;
    }) in
    subst (StandsFor policy new) same
    (accepts grant is policy mid (closes policy held stands sound may.is_held sound_mid) sound_mid may_come (subst (AreSound policy) (sym same) after))
