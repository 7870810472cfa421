-- What a turn of the live orders makes of the sums over the live orders and the fills of accounts.
use Rattle.std.proofs.{Common.{◌≡◌, ℕ, ◌+◌, ◌-◌, ◌<◌, ◌≤◌, Bool, true, false, cond, List, [], ◌∷◌, ◌++◌, map, refl, sym, ap, ◌∙◌, arith, sum_by, zero-add, true≢false}, lemmas.{Bool.{eqb-true, ltb-false, eq-eqb}, List.Sums.sum_by-cons, Option.same_Some}}
use Rattle.std.specs.{Prelude.{Option, Some, None, nat_eq, nat_lt, ◌==◌, ◌||◌, option_to_list}, Option.option_map_or, List.{filter, filter_map, cons_option, AllByRecursion, IsDistinct}, Cmp.nat_eq_equiv}
use Rattle.gx_units.specs.{Money.value, declared.names.AccountName.AccountName}
use Rattle.gx_units.proofs.{Lists_hold.{every, all_weaker}, Test_known.nothing_either_way}
use Rattle.gx_ouch.specs.declared.{letters.Liquidity.Liquidity, outbound.OrderTerms.OrderTerms}
use Rattle.gx_policy.specs.declared.policy.PolicyData.{PolicyData}
use Rattle.gx_history.specs.{declared.{live_order.LiveOrder.LiveOrder, «record».Fill.Fill}, Executions.{Execution, side_of}, Figures.{Positions, live_value, of_accounts, open_of_chosen, done_of_chosen, done_value}, Live.live_numbered, LiveOrders.shares_open, Orders.{Order, ends_account, order_numbered}, Turns.{Turn, Keeps, Adds, Sizes, Replaces, EndsAll, Fills, Rests, Ends, becomes, while_open}}
use Rattle.gx_laws.proofs.{Figures_next.{done_more, done_value_more}, Fills_executed.both_sides, LiveOrders_known.number_found, BookSides_next.becomes_same}
use Rattle.gx_laws.specs.{Changing.executed_by, Sound.{MayChange, MayFillHeld, numbers_of}}

-- the sum over those that pass
abbrev pub sum_where : {X : Type 0} → (X → Bool) → (X → ℕ) → List X → ℕ
sum_where p m [] = 0
sum_where p m (x ∷ xs) = cond (p x) (m x) 0 + sum_where p m xs

-- the sum of what a filter leaves
pub sum_of_filter : {X : Type 0} (p : X → Bool) (m : X → ℕ) (xs : List X) → sum_by m (filter p xs) ≡ sum_where p m xs
sum_of_filter p m [] = refl
sum_of_filter {X} p m (x ∷ xs) = at (p x) (sum_of_filter p m xs)
  where
    at : (b : Bool) → sum_by m (filter p xs) ≡ sum_where p m xs → sum_by m (cond b (x ∷ filter p xs) (filter p xs)) ≡ cond b (m x) 0 + sum_where p m xs
    at true deeper = sum_by-cons m x (filter p xs) ∙ ap (λ n. m x + n) deeper
    at false deeper = deeper ∙ sym (zero-add (sum_where p m xs))

-- the sum over two lists
pub sum_where-append : {X : Type 0} (p : X → Bool) (m : X → ℕ) (xs ys : List X) → sum_where p m (xs ++ ys) ≡ sum_where p m xs + sum_where p m ys
sum_where-append p m [] ys = sym (zero-add (sum_where p m ys))
sum_where-append p m (x ∷ xs) ys = let deeper = sum_where-append p m xs ys in omega (arith, deeper)

-- none that passes, nothing
pub sum_of_none : {X : Type 0} (p : X → Bool) (m : X → ℕ) (xs : List X) → AllByRecursion (λ (x : X). p x ≡ false) xs → sum_where p m xs ≡ 0
sum_of_none p m [] h = refl
sum_of_none p m (x ∷ xs) h =
    let here = ap (λ b. cond b (m x) 0) h.0 in
    let rest = sum_of_none p m xs h.1 in
    omega (arith, here, rest)

nothing_of : {X : Type 0} (p : X → Bool) (xs : List X) → sum_where p (λ x. 0) xs ≡ 0
nothing_of p [] = refl
nothing_of p (x ∷ xs) = let here = nothing_either_way (p x) in let rest = nothing_of p xs in omega (arith, here, rest)

-- a sum of sums
sum_of_both : {X : Type 0} (p : X → Bool) (m n : X → ℕ) (xs : List X) → sum_where p (λ x. m x + n x) xs ≡ sum_where p m xs + sum_where p n xs
sum_of_both p m n [] = refl
sum_of_both {X} p m n (x ∷ xs) = at (p x) (sum_of_both p m n xs)
  where
    at : (b : Bool) → sum_where p (λ x. m x + n x) xs ≡ sum_where p m xs + sum_where p n xs
        → cond b (m x + n x) 0 + sum_where p (λ x. m x + n x) xs ≡ (cond b (m x) 0 + sum_where p m xs) + (cond b (n x) 0 + sum_where p n xs)
    at true deeper = omega (arith, deeper)
    at false deeper = omega (arith, deeper)

-- the order has this number
abbrev pub is_numbered : ℕ → LiveOrder → Bool
is_numbered number o = o.number == number

-- it is the one that has this number, or has another
abbrev pub IsItIfNumbered : ℕ → LiveOrder → LiveOrder → Type 0
IsItIfNumbered number o x = is_numbered number x ≡ true → x ≡ o

others_differ : (number other : ℕ) (os : List LiveOrder) → other ≡ number → AllByRecursion (λ k. nat_eq other k ≡ false) (numbers_of os) → AllByRecursion (λ (x : LiveOrder). is_numbered number x ≡ false) os
others_differ number other [] same h = tt
others_differ number other (x ∷ os) same h =
    (nat_eq_equiv.symm x.number number ∙ ap (λ n. nat_eq n x.number) (sym same) ∙ h.0, others_differ number other os same h.1)

-- where numbers differ, the order found under a number is the only one that has it
only_one_numbered : (os : List LiveOrder) (number : ℕ) (o : LiveOrder) → IsDistinct nat_eq (numbers_of os) → live_numbered os number ≡ Some o → AllByRecursion (IsItIfNumbered number o) os
unfolding IsDistinct
only_one_numbered [] number o distinct found = tt
only_one_numbered (x ∷ os) number o distinct found = at (is_numbered number x) refl found (only_one_numbered os number o distinct.1)
  where
    at : (b : Bool) → is_numbered number x ≡ b → cond b (Some x) (live_numbered os number) ≡ Some o
        → (live_numbered os number ≡ Some o → AllByRecursion (IsItIfNumbered number o) os) → AllByRecursion (IsItIfNumbered number o) (x ∷ os)
    at true h found deeper = (
      λ _. same_Some _ _ found,
      all_weaker (λ (y : LiveOrder). is_numbered number y ≡ false) (IsItIfNumbered number o) (λ y other this. absurd (true≢false (sym this ∙ other))) os
          (others_differ number x.number os (eqb-true x.number number h) distinct.0),
    )
    at false h found deeper = (λ this. absurd (true≢false (sym this ∙ h)), deeper found)

none_numbered : (p : LiveOrder → Bool) (m : LiveOrder → ℕ) (os : List LiveOrder) (number : ℕ) → AllByRecursion (λ (x : LiveOrder). is_numbered number x ≡ false) os
    → sum_where p (λ x. cond (is_numbered number x) (m x) 0) os ≡ 0
none_numbered p m [] number h = refl
none_numbered p m (x ∷ os) number h =
    ap (λ b. cond (p x) (cond b (m x) 0) 0 + sum_where p (λ x. cond (is_numbered number x) (m x) 0) os) h.0
    ∙ ap (λ n. cond (p x) 0 0 + n) (none_numbered p m os number h.1)
    ∙ ap (λ n. n + 0) (nothing_either_way (p x))

-- the sum over the order of a number alone
sum_of_one : (p : LiveOrder → Bool) (m : LiveOrder → ℕ) (os : List LiveOrder) (number : ℕ) (o : LiveOrder) → IsDistinct nat_eq (numbers_of os) → live_numbered os number ≡ Some o
    → sum_where p (λ x. cond (is_numbered number x) (m x) 0) os ≡ cond (p o) (m o) 0
unfolding IsDistinct
sum_of_one p m [] number o distinct found = cc
sum_of_one p m (x ∷ os) number o distinct found = at (is_numbered number x) refl found (sum_of_one p m os number o distinct.1)
  where
    at : (b : Bool) → is_numbered number x ≡ b → cond b (Some x) (live_numbered os number) ≡ Some o
        → (live_numbered os number ≡ Some o → sum_where p (λ x. cond (is_numbered number x) (m x) 0) os ≡ cond (p o) (m o) 0)
        → cond (p x) (cond b (m x) 0) 0 + sum_where p (λ x. cond (is_numbered number x) (m x) 0) os ≡ cond (p o) (m o) 0
    at true h found deeper =
        let none = none_numbered p m os number (others_differ number x.number os (eqb-true x.number number h) distinct.0) in
        let here : cond (p x) (m x) 0 ≡ cond (p o) (m o) 0 = ap (λ (y : LiveOrder). cond (p y) (m y) 0) (same_Some _ _ found) in
        omega (arith, none, here)
    at false h found deeper =
        let none = nothing_either_way (p x) in
        let there = deeper found in
        omega (arith, none, there)

-- what the turn leaves open of a live order
abbrev pub left_by : Turn → LiveOrder → ℕ
left_by turn o = option_map_or shares_open (becomes turn o) 0

open_left : (o : LiveOrder) → option_map_or shares_open (while_open o) 0 ≡ shares_open o
open_left o = at (nat_lt o.done o.total) refl
  where
    at : (b : Bool) → nat_lt o.done o.total ≡ b → option_map_or shares_open (cond b (Some o) None) 0 ≡ shares_open o
    at true h = refl
    at false h = let few = ltb-false o.done o.total h in omega (arith, few)

-- changed, or as it was
left_if : (b : Bool) (o x : LiveOrder) → option_map_or shares_open (cond b (while_open x) (Some o)) 0 ≡ cond b (shares_open x) (shares_open o)
left_if true o x = open_left x
left_if false o x = refl

-- gone, or as it was
gone_if : (b : Bool) (o : LiveOrder) → option_map_or shares_open (cond b None (Some o)) 0 ≡ cond b 0 (shares_open o)
gone_if true o = refl
gone_if false o = refl

-- of one order so many shares are open no more, and of all others as many as before
pub record Loses (turn : Turn) (number : ℕ) (os : List LiveOrder) (o : LiveOrder) (lost : ℕ) : Type 0 where
  pub is_found : live_numbered os number ≡ Some o
  pub of_it : left_by turn o + lost ≡ shares_open o
  pub of_others : (x : LiveOrder) → is_numbered number x ≡ false → left_by turn x ≡ shares_open x

-- an order that is sized
pub sized_loses : (held : Positions) (number size : ℕ) (o : LiveOrder) → live_numbered held.live number ≡ Some o → size - o.done ≤ shares_open o
    → Loses (Sizes number size) number held.live o (shares_open o - (size - o.done))
sized_loses held number size o found less = record {
  is_found = found;
  of_it = let left = left_if (o.number == number) o (record o { total = size }) ∙ ap (λ b. cond b (size - o.done) (shares_open o)) (number_found held.live number o found) in omega (arith, left, less);
  of_others = λ x other. left_if (x.number == number) x (record x { total = size }) ∙ ap (λ b. cond b (size - x.done) (shares_open x)) other;
}

-- an order that ends
pub ended_loses : (held : Positions) (number : ℕ) (o : LiveOrder) → live_numbered held.live number ≡ Some o → Loses (Ends number) number held.live o (shares_open o)
ended_loses held number o found = record {
  is_found = found;
  of_it = let left = gone_if (number == o.number) o ∙ ap (λ b. cond b 0 (shares_open o)) (nat_eq_equiv.symm number o.number ∙ number_found held.live number o found) in omega (arith, left);
  of_others = λ x other. gone_if (number == x.number) x ∙ ap (λ b. cond b 0 (shares_open x)) (nat_eq_equiv.symm number x.number ∙ other);
}

-- an order that is replaced
pub replaced_loses : (held : Positions) (number : ℕ) (new o : LiveOrder) → live_numbered held.live number ≡ Some o → Loses (Replaces number new) number held.live o (shares_open o)
replaced_loses held number new o found = record {
  is_found = found;
  of_it = let left = gone_if (o.number == number) o ∙ ap (λ b. cond b 0 (shares_open o)) (number_found held.live number o found) in omega (arith, left);
  of_others = λ x other. gone_if (x.number == number) x ∙ ap (λ b. cond b 0 (shares_open x)) other;
}

each_loses : (turn : Turn) (number : ℕ) (os : List LiveOrder) (o : LiveOrder) (lost : ℕ) → IsDistinct nat_eq (numbers_of os) → (is : Loses turn number os o lost)
    → AllByRecursion (λ (x : LiveOrder). left_by turn x + cond (is_numbered number x) lost 0 ≡ shares_open x) os
each_loses turn number os o lost distinct is =
    all_weaker (IsItIfNumbered number o) (λ (x : LiveOrder). left_by turn x + cond (is_numbered number x) lost 0 ≡ shares_open x)
    (λ x one. at (is_numbered number x) x refl one) os (only_one_numbered os number o distinct is.is_found)
  where
    at : (b : Bool) (x : LiveOrder) → is_numbered number x ≡ b → (b ≡ true → x ≡ o) → left_by turn x + cond b lost 0 ≡ shares_open x
    at true x h one = ap (λ (y : LiveOrder). left_by turn y + lost) (one refl) ∙ is.of_it ∙ ap (λ (y : LiveOrder). shares_open y) (sym (one refl))
    at false x h one = let same = is.of_others x h in omega (arith, same)

-- two orders trade so many shares
each_fills : (held : Positions) (f : Fill) → IsDistinct nat_eq (numbers_of held.live) → MayFillHeld held f
    → AllByRecursion (λ (x : LiveOrder). left_by (Fills f) x + (cond (is_numbered f.taker x) f.shares 0 + cond (is_numbered f.maker x) f.shares 0) ≡ shares_open x) held.live
each_fills held f distinct may =
    all held.live (only_one_numbered held.live f.taker may.taker.order distinct may.taker.is_found) (only_one_numbered held.live f.maker may.maker.order distinct may.maker.is_found)
  where
    not_both : (x : LiveOrder) → is_numbered f.taker x ≡ true → is_numbered f.maker x ≡ true → ⊥
    not_both x a b = absurd (true≢false (sym (eq-eqb f.taker f.maker (sym (eqb-true x.number f.taker a) ∙ eqb-true x.number f.maker b)) ∙ may.they_differ))

    each : (a b : Bool) (x : LiveOrder) → (a ≡ true → x ≡ may.taker.order) → (b ≡ true → x ≡ may.maker.order) → (a ≡ true → b ≡ true → ⊥)
        → option_map_or shares_open (cond (a || b) (while_open (record x { done = x.done + f.shares })) (Some x)) 0 + (cond a f.shares 0 + cond b f.shares 0) ≡ shares_open x
    each true true x a b never = absurd (never refl refl)
    each true false x a b never =
        let same = ap (λ (y : LiveOrder). shares_open y) (a refl) in
        let left = open_left (record x { done = x.done + f.shares }) in
        let has = may.taker_has in
        omega (arith, same, left, has)
    each false true x a b never =
        let same = ap (λ (y : LiveOrder). shares_open y) (b refl) in
        let left = open_left (record x { done = x.done + f.shares }) in
        let has = may.maker_has in
        omega (arith, same, left, has)
    each false false x a b never = omega arith

    all : (os : List LiveOrder) → AllByRecursion (IsItIfNumbered f.taker may.taker.order) os → AllByRecursion (IsItIfNumbered f.maker may.maker.order) os
        → AllByRecursion (λ (x : LiveOrder). left_by (Fills f) x + (cond (is_numbered f.taker x) f.shares 0 + cond (is_numbered f.maker x) f.shares 0) ≡ shares_open x) os
    all [] a b = tt
    all (x ∷ os) a b = (each (is_numbered f.taker x) (is_numbered f.maker x) x a.0 b.0 (not_both x), all os a.1 b.1)

-- no more of it is open
abbrev pub IsNoMore : Turn → LiveOrder → Type 0
IsNoMore turn x = left_by turn x ≤ shares_open x

pub none_if_gone : (turn : Turn) (gone : LiveOrder → Bool) → ((x : LiveOrder) → becomes turn x ≡ cond (gone x) None (Some x)) → (os : List LiveOrder) → AllByRecursion (IsNoMore turn) os
none_if_gone turn gone is os = every (IsNoMore turn) (λ x. at (gone x) x (is x)) os
  where
    at : (b : Bool) (x : LiveOrder) → becomes turn x ≡ cond b None (Some x) → left_by turn x ≤ shares_open x
    at true x e = let none = ap (λ found. option_map_or shares_open found 0) e in omega (arith, none)
    at false x e = let same = ap (λ found. option_map_or shares_open found 0) e in omega (arith, same)

-- of no order more is open than before
pub none_gains : (policy : PolicyData) (held : Positions) (turn : Turn) (granted : List Order) → IsDistinct nat_eq (numbers_of held.live) → MayChange policy held turn granted
    → AllByRecursion (IsNoMore turn) held.live
none_gains policy held Keeps granted distinct may = none_if_gone Keeps (λ x. false) (λ x. refl) held.live
none_gains policy held (Adds new) granted distinct may = none_if_gone (Adds new) (λ x. false) (λ x. refl) held.live
none_gains policy held (Sizes number size) granted distinct may =
    let o : LiveOrder = may.is_there.order in
    let fewer : size - o.done < shares_open o = may.is_less in
    let lost : ℕ = shares_open o - (size - o.done) in
    all_weaker (λ (x : LiveOrder). left_by (Sizes number size) x + cond (is_numbered number x) lost 0 ≡ shares_open x) (IsNoMore (Sizes number size)) (λ x h. omega (arith, h)) held.live
    (each_loses (Sizes number size) number held.live o lost distinct (sized_loses held number size o may.is_there.is_found (omega (arith, fewer))))
none_gains policy held (Replaces number new) granted distinct may = none_if_gone (Replaces number new) (is_numbered number) (λ x. refl) held.live
none_gains policy held (EndsAll action) granted distinct may = none_if_gone (EndsAll action) (λ x. ends_account x.account action) (λ x. refl) held.live
none_gains policy held (Fills f) granted distinct may =
    all_weaker (λ (x : LiveOrder). left_by (Fills f) x + (cond (is_numbered f.taker x) f.shares 0 + cond (is_numbered f.maker x) f.shares 0) ≡ shares_open x) (IsNoMore (Fills f))
    (λ x h. omega (arith, h)) held.live (each_fills held f distinct may)
none_gains policy held (Rests number) granted distinct may = every (IsNoMore (Rests number)) (λ x. at (number == x.number) x) held.live
  where
    at : (b : Bool) (x : LiveOrder) → shares_open (cond b (record x { waits = false }) x) ≤ shares_open x
    at true x = omega arith
    at false x = omega arith
none_gains policy held (Ends number) granted distinct may = none_if_gone (Ends number) (λ x. number == x.number) (λ x. refl) held.live

-- the order is one of those chosen
abbrev pub is_chosen : (AccountName → OrderTerms → Bool) → LiveOrder → Bool
is_chosen chosen o = chosen o.account o.terms

-- all open shares of an order, weighed at its price
abbrev pub open_of : (ℕ → ℕ → ℕ) → LiveOrder → ℕ
open_of weight o = weight (shares_open o) o.terms.price

-- a figure that is the sum of what the chosen orders have open, so weighed that two parts of the shares weigh what they weigh together
pub record IsOpenSum (figure : List LiveOrder → ℕ) (chosen : AccountName → OrderTerms → Bool) (weight : ℕ → ℕ → ℕ) : Type 0 where
  pub adds : (m n price : ℕ) → weight (m + n) price ≡ weight m price + weight n price
  pub is_sum : (os : List LiveOrder) → figure os ≡ sum_where (is_chosen chosen) (open_of weight) os

module _ {figure : List LiveOrder → ℕ} {chosen : AccountName → OrderTerms → Bool} {weight : ℕ → ℕ → ℕ} (is : IsOpenSum figure chosen weight) where
  -- the sum of so many shares of each
  abbrev sum_of : (LiveOrder → ℕ) → List LiveOrder → ℕ
  sum_of shares os = sum_where (is_chosen chosen) (λ x. weight (shares x) x.terms.price) os

  -- no shares weigh nothing
  weighs_nothing : (price : ℕ) → weight 0 price ≡ 0
  weighs_nothing price = let twice = is.adds 0 0 price in omega (arith, twice)

  -- where some shares of each order are taken, the sum falls by what is taken
  sum_taken : (turn : Turn) (taken : LiveOrder → ℕ) (os : List LiveOrder) → AllByRecursion (λ (x : LiveOrder). left_by turn x + taken x ≡ shares_open x) os
      → sum_of shares_open (filter_map (becomes turn) os) + sum_of taken os ≡ sum_of shares_open os
  sum_taken turn taken [] h = refl
  sum_taken turn taken (o ∷ os) h = at (becomes turn o) refl h.0 (sum_taken turn taken os h.1)
    where
      parts : (b : Bool) (left gone whole price : ℕ) → left + gone ≡ whole → cond b (weight left price) 0 + cond b (weight gone price) 0 ≡ cond b (weight whole price) 0
      parts true left gone whole price e = sym (is.adds left gone price) ∙ ap (λ n. weight n price) e
      parts false left gone whole price e = refl

      none : (b : Bool) (price : ℕ) → cond b (weight 0 price) 0 ≡ 0
      none true price = weighs_nothing price
      none false price = refl

      at : (found : Option LiveOrder) → becomes turn o ≡ found → option_map_or shares_open found 0 + taken o ≡ shares_open o
          → sum_of shares_open (filter_map (becomes turn) os) + sum_of taken os ≡ sum_of shares_open os
          → sum_of shares_open (cons_option found (filter_map (becomes turn) os)) + sum_of taken (o ∷ os) ≡ sum_of shares_open (o ∷ os)
      at None e all deeper =
          let here = parts (is_chosen chosen o) 0 (taken o) (shares_open o) o.terms.price all in
          let gone = none (is_chosen chosen o) o.terms.price in
          omega (arith, here, gone, deeper)
      at (Some x) e all deeper =
          let same = becomes_same turn o x e in
          let here = parts (is_chosen chosen o) (shares_open x) (taken o) (shares_open o) o.terms.price all in
          let stays : cond (is_chosen chosen x) (open_of weight x) 0 ≡ cond (is_chosen chosen o) (weight (shares_open x) o.terms.price) 0 =
          (λ i. cond (chosen (same.3 i) (same.1 i)) (weight (shares_open x) (same.1 i).price) 0) in
          omega (arith, here, stays, deeper)

  -- and so does the figure
  falls_by : (turn : Turn) (taken : LiveOrder → ℕ) (os : List LiveOrder) → AllByRecursion (λ (x : LiveOrder). left_by turn x + taken x ≡ shares_open x) os
      → figure (filter_map (becomes turn) os) + sum_of taken os ≡ figure os
  falls_by turn taken os h = ap (λ n. n + sum_of taken os) (is.is_sum (filter_map (becomes turn) os)) ∙ sum_taken turn taken os h ∙ sym (is.is_sum os)

  -- so many shares of the order of a number alone
  sum_of_part : (shares number : ℕ) (o : LiveOrder) (os : List LiveOrder) → IsDistinct nat_eq (numbers_of os) → live_numbered os number ≡ Some o
      → sum_of (λ x. cond (is_numbered number x) shares 0) os ≡ cond (is_chosen chosen o) (weight shares o.terms.price) 0
  sum_of_part shares number o os distinct found =
      (λ i. sum_where (is_chosen chosen) (λ x. cut (is_numbered number x) x.terms.price i) os) ∙ sum_of_one (is_chosen chosen) (λ x. weight shares x.terms.price) os number o distinct found
    where
      cut : (b : Bool) (price : ℕ) → weight (cond b shares 0) price ≡ cond b (weight shares price) 0
      cut true price = refl
      cut false price = weighs_nothing price

  -- more orders
  pub joined : (os more : List LiveOrder) → figure (os ++ more) ≡ figure os + figure more
  joined os more = is.is_sum (os ++ more) ∙ sum_where-append (is_chosen chosen) (open_of weight) os more ∙ (λ i. sym (is.is_sum os) i + sym (is.is_sum more) i)

  -- one order more
  pub added : (os : List LiveOrder) (new : LiveOrder) → figure (os ++ new ∷ []) ≡ figure os + cond (is_chosen chosen new) (open_of weight new) 0
  added os new =
      let all = joined os (new ∷ []) in
      let one = is.is_sum (new ∷ []) in
      omega (arith, all, one)

  -- none that is chosen, nothing
  pub none_of : (os : List LiveOrder) → AllByRecursion (λ (x : LiveOrder). is_chosen chosen x ≡ false) os → figure os ≡ 0
  none_of os none = is.is_sum os ∙ sum_of_none (is_chosen chosen) (open_of weight) os none

  -- one order loses shares: what is left and what is gone
  pub lost_by : (turn : Turn) (number : ℕ) (os : List LiveOrder) (o : LiveOrder) (lost : ℕ) → IsDistinct nat_eq (numbers_of os) → Loses turn number os o lost
      → figure (filter_map (becomes turn) os) + cond (is_chosen chosen o) (weight lost o.terms.price) 0 ≡ figure os
  lost_by turn number os o lost distinct loses =
      let fall = falls_by turn (λ x. cond (is_numbered number x) lost 0) os (each_loses turn number os o lost distinct loses) in
      let one = sum_of_part lost number o os distinct loses.is_found in
      omega (arith, fall, one)

  -- two orders trade so many shares
  pub filled_by : (held : Positions) (f : Fill) → IsDistinct nat_eq (numbers_of held.live) → (may : MayFillHeld held f)
      → figure (filter_map (becomes (Fills f)) held.live)
      + (cond (is_chosen chosen may.taker.order) (weight f.shares may.taker.order.terms.price) 0 + cond (is_chosen chosen may.maker.order) (weight f.shares may.maker.order.terms.price) 0)
      ≡ figure held.live
  filled_by held f distinct may =
      let takes : LiveOrder → ℕ = λ x. cond (is_numbered f.taker x) f.shares 0 in
      let makes : LiveOrder → ℕ = λ x. cond (is_numbered f.maker x) f.shares 0 in
      let fall = falls_by (Fills f) (λ x. takes x + makes x) held.live (each_fills held f distinct may) in
      let parts : sum_of (λ x. takes x + makes x) held.live ≡ sum_of takes held.live + sum_of makes held.live =
      (λ i. sum_where (is_chosen chosen) (λ x. is.adds (takes x) (makes x) x.terms.price i) held.live)
      ∙ sum_of_both (is_chosen chosen) (λ x. weight (takes x) x.terms.price) (λ x. weight (makes x) x.terms.price) held.live in
      let first = sum_of_part f.shares f.taker may.taker.order held.live distinct may.taker.is_found in
      let second = sum_of_part f.shares f.maker may.maker.order held.live distinct may.maker.is_found in
      omega (arith, fall, parts, first, second)

  -- where each order has as much open, nothing falls
  pub stays_by : (turn : Turn) (os : List LiveOrder) → ((x : LiveOrder) → left_by turn x ≡ shares_open x) → figure (filter_map (becomes turn) os) ≡ figure os
  stays_by turn os same =
      let fall = falls_by turn (λ x. 0) os (every (λ (x : LiveOrder). left_by turn x + 0 ≡ shares_open x) (λ x. let h = same x in omega (arith, h)) os) in
      let none = (λ i. sum_where (is_chosen chosen) (λ x. weighs_nothing x.terms.price i) os) ∙ nothing_of (is_chosen chosen) os in
      omega (arith, fall, none)

  -- where none has more, nothing rises
  pub no_rise_by : (turn : Turn) (os : List LiveOrder) → AllByRecursion (IsNoMore turn) os → figure (filter_map (becomes turn) os) ≤ figure os
  no_rise_by turn os no_more =
      let fall = falls_by turn (λ x. shares_open x - left_by turn x) os
      (all_weaker (IsNoMore turn) (λ (x : LiveOrder). left_by turn x + (shares_open x - left_by turn x) ≡ shares_open x) (λ x h. omega (arith, h)) os no_more) in
      omega (arith, fall)

-- the shares themselves
abbrev pub as_shares : ℕ → ℕ → ℕ
as_shares shares price = shares

-- open shares are such a sum
pub shares_of : (chosen : AccountName → OrderTerms → Bool) → IsOpenSum (λ os. open_of_chosen os chosen) chosen as_shares
unfolding open_of_chosen
shares_of chosen = record { adds = λ m n price. refl; is_sum = λ os. sum_of_filter (is_chosen chosen) (open_of as_shares) os }

-- and their value
pub value_of : (among : AccountName → Bool) → IsOpenSum (λ os. live_value os among) (of_accounts among) value
unfolding live_value
value_of among = record { adds = λ m n price. omega arith; is_sum = λ os. sum_of_filter (is_chosen (of_accounts among)) (open_of value) os }

-- executed shares
pub done_are : (made : List Execution) (chosen : AccountName → OrderTerms → Bool) → done_of_chosen made chosen ≡ sum_where (λ (e : Execution). chosen e.order.account e.order.terms) (λ (e : Execution). e.fill.shares) made
unfolding done_of_chosen
done_are made chosen = sum_of_filter (λ (e : Execution). chosen e.order.account e.order.terms) (λ (e : Execution). e.fill.shares) made

-- executed value
pub done_value_are : (made : List Execution) (among : AccountName → Bool) → done_value made among ≡ sum_where (λ (e : Execution). among e.order.account) (λ (e : Execution). value e.fill.shares e.fill.price) made
unfolding done_value
done_value_are made among = sum_of_filter (λ (e : Execution). among e.order.account) (λ (e : Execution). value e.fill.shares e.fill.price) made

side_is : (grants : List Order) (f : Fill) (liquidity : Liquidity) (number : ℕ) (grant : Order) → order_numbered grants number ≡ Some grant
    → side_of grants f liquidity number ≡ record { fill = f; liquidity = liquidity; order = grant } ∷ []
side_is grants f liquidity number grant found = ap (λ found. map (λ (o : Order). record { fill = f; liquidity = liquidity; order = o }) (option_to_list found)) found

-- Fills: one side for the taker, one for the maker
pub sides_are : (held : Positions) (f : Fill) (may : MayFillHeld held f) → executed_by (Fills f) held.grants ≡ both_sides f may.taker.grant may.maker.grant
sides_are held f may =
    λ i. side_is held.grants f Liquidity.Removed f.taker may.taker.grant may.taker.is_granted i ++ side_is held.grants f Liquidity.Added f.maker may.maker.grant may.maker.is_granted i

-- Fills: what is executed rises on each side
pub done_shares_filled : (chosen : AccountName → OrderTerms → Bool) (held : Positions) (f : Fill) (may : MayFillHeld held f)
    → done_of_chosen (held.executions ++ executed_by (Fills f) held.grants) chosen
    ≡ done_of_chosen held.executions chosen + (cond (is_chosen chosen may.taker.order) f.shares 0 + cond (is_chosen chosen may.maker.order) f.shares 0)
done_shares_filled chosen held f may =
    let two : List Execution = both_sides f may.taker.grant may.maker.grant in
    let more = ap (λ es. done_of_chosen (held.executions ++ es) chosen) (sides_are held f may) ∙ done_more held.executions two chosen in
    let sums : done_of_chosen two chosen ≡ cond (is_chosen chosen may.taker.order) f.shares 0 + (cond (is_chosen chosen may.maker.order) f.shares 0 + 0) =
    done_are two chosen ∙ (λ i. cond (chosen (may.taker.is_of.account i) (may.taker.is_of.terms i)) f.shares 0 + (cond (chosen (may.maker.is_of.account i) (may.maker.is_of.terms i)) f.shares 0 + 0)) in
    omega (arith, more, sums)

-- Fills: and its value, at the price of the fill
pub done_value_filled : (among : AccountName → Bool) (held : Positions) (f : Fill) (may : MayFillHeld held f)
    → done_value (held.executions ++ executed_by (Fills f) held.grants) among
    ≡ done_value held.executions among + (cond (among may.taker.order.account) (value f.shares f.price) 0 + cond (among may.maker.order.account) (value f.shares f.price) 0)
done_value_filled among held f may =
    let two : List Execution = both_sides f may.taker.grant may.maker.grant in
    let more = ap (λ es. done_value (held.executions ++ es) among) (sides_are held f may) ∙ done_value_more held.executions two among in
    let sums : done_value two among ≡ cond (among may.taker.order.account) (value f.shares f.price) 0 + (cond (among may.maker.order.account) (value f.shares f.price) 0 + 0) =
    done_value_are two among ∙ (λ i. cond (among (may.taker.is_of.account i)) (value f.shares f.price) 0 + (cond (among (may.maker.is_of.account i)) (value f.shares f.price) 0 + 0)) in
    omega (arith, more, sums)
