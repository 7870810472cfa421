-- What counts of any accounts, once live orders, fills or grants changed.
use Rattle.std.proofs.{Common.{◌≡◌, ℕ, ◌+◌, ◌-◌, ◌<◌, ◌≤◌, ◌^◌, Bool, true, false, cond, ◌&&◌, not, List, [], ◌∷◌, ◌++◌, map, refl, sym, ap, ◌∙◌, arith}, lemmas.List.{append-nil, map-append, Elements.filter-append}}
use Rattle.std.specs.{Prelude.{Option, Some, None, is_none, is_some, nat_eq}, List.{IsDistinct, filter, filter_map}}
use Rattle.gx_units.specs.{Money.{value, capped_at_128_bits}, Names.same_stock, declared.names.{AccountName.AccountName, Symbol.Symbol, Token.Token}}
use Rattle.gx_history.specs.{declared.{facts.StockSide.StockSide, live_order.LiveOrder.LiveOrder}, Executions.Execution, Book.is_on, Figures.{Positions, done_of_chosen, done_shares, done_value, live_shares, live_value, of_accounts, on_side, open_of_chosen, open_value, side_done, side_live}, LiveOrders.shares_open, Orders.Order, Turns.{Turn, becomes, new_in}}
use Rattle.gx_ouch.specs.declared.outbound.OrderTerms.{OrderTerms}
use Rattle.gx_history.specs.Turns as turns
use Rattle.gx_laws.proofs.{World_next.all_stay, Sums_turn.{IsOpenSum, Loses, added, done_are, done_value_are, is_chosen, left_by, lost_by, open_of, shares_of, stays_by, sum_where, value_of}}
use Rattle.gx_laws.specs.{Changing.{executed_by, positions_with}, Sound.{SumsFit, anyone, numbers_of}}
use Rattle.gx_ledger.specs.{Changes.Change, declared.sums.Sums.Sums, Keeping.{comes, leaves}, Running.entered_as, StandsFor.{IsAccepted, Total, entered_of, enters_of, moments_of, total_of}}
use Rattle.gx_ledger.proofs.Tallies_changed.{changed_total, changes_side, totals_after}

-- a sum over some is at most that over all
at_most_all : {X : Type 0} (p : X → Bool) (m : X → ℕ) (xs : List X) → sum_where p m xs ≤ sum_where (λ x. true) m xs
at_most_all p m [] = omega arith
at_most_all p m (x ∷ xs) = by (p x) (at_most_all p m xs)
  where
    by : (b : Bool) → sum_where p m xs ≤ sum_where (λ x. true) m xs → cond b (m x) 0 + sum_where p m xs ≤ m x + sum_where (λ x. true) m xs
    by true deeper = omega (arith, deeper)
    by false deeper = omega (arith, deeper)

at_most : {figure whole : List LiveOrder → ℕ} {chosen : AccountName → OrderTerms → Bool} {weight : ℕ → ℕ → ℕ} → IsOpenSum figure chosen weight → IsOpenSum whole (of_accounts anyone) weight → (os : List LiveOrder) → figure os ≤ whole os
at_most {chosen = chosen} {weight = weight} is all os =
    let few = at_most_all (is_chosen chosen) (open_of weight) os in
    let some = is.is_sum os in
    let every = all.is_sum os in
    omega (arith, few, some, every)

-- a sum over chosen orders is at most that over all
open_fit : (os : List LiveOrder) (chosen : AccountName → OrderTerms → Bool) → open_of_chosen os chosen ≤ live_shares os anyone
open_fit os chosen = at_most (shares_of chosen) (shares_of (of_accounts anyone)) os

live_value_fit : (os : List LiveOrder) (among : AccountName → Bool) → live_value os among ≤ live_value os anyone
live_value_fit os among = at_most (value_of among) (value_of anyone) os

pub done_fit : (made : List Execution) (chosen : AccountName → OrderTerms → Bool) → done_of_chosen made chosen ≤ done_shares made anyone
done_fit made chosen =
    let few = at_most_all (λ (e : Execution). chosen e.order.account e.order.terms) (λ (e : Execution). e.fill.shares) made in
    let some = done_are made chosen in
    let all = done_are made (of_accounts anyone) in
    omega (arith, few, some, all)

pub done_value_fit : (made : List Execution) (among : AccountName → Bool) → done_value made among ≤ done_value made anyone
done_value_fit made among =
    let few = at_most_all (λ (e : Execution). among e.order.account) (λ (e : Execution). value e.fill.shares e.fill.price) made in
    let some = done_value_are made among in
    let all = done_value_are made anyone in
    omega (arith, few, some, all)

-- so many fewer, where the test says so
abbrev pub less : Bool → ℕ → ℕ → ℕ
less b n before = cond b (before - n) before

-- so many more, up to the cap
abbrev pub more : Bool → ℕ → ℕ → ℕ
more b n before = cond b (capped_at_128_bits (before + n)) before

falls : (b : Bool) (before after lost : ℕ) → after + cond b lost 0 ≡ before → less b lost before ≡ after
falls true before after lost is = omega (arith, is)
falls false before after lost is = omega (arith, is)

-- a sum that fits is not cut
rises : (b : Bool) (before after gain whole : ℕ) → after ≡ before + cond b gain 0 → after ≤ whole → whole < 2 ^ 128 → more b gain before ≡ after
rises true before after gain whole is most fits = omega (arith, is, most, fits)
rises false before after gain whole is most fits = omega (arith, is)

-- tests one after another
pub and_again : (a b c : Bool) → (a && b && c) ≡ (a && (b && c))
and_again true b c = refl
and_again false b c = refl

-- one more of those that pass
chosen_more : {X Y : Type 0} (f : X → Y) (p : X → Bool) (xs : List X) (x : X) → map f (filter p (xs ++ x ∷ [])) ≡ cond (p x) (map f (filter p xs) ++ f x ∷ []) (map f (filter p xs))
chosen_more f p xs x = ap (map f) (filter-append p xs (x ∷ [])) ∙ by (p x)
  where
    by : (b : Bool) → map f (filter p xs ++ cond b (x ∷ []) []) ≡ cond b (map f (filter p xs) ++ f x ∷ []) (map f (filter p xs))
    by true = map-append f (filter p xs) (x ∷ [])
    by false = ap (map f) (append-nil (filter p xs))

none_is : (o : Option Token) → is_none o ≡ not (is_some o)
none_is None = refl
none_is (Some t) = refl

-- an order that is on the side of its terms
pub on_its_own_side : (among : AccountName → Bool) (change : Change) (stock : Symbol) (buys : Bool)
    → is_chosen (on_side among (record { stock = stock; buys = buys })) change.order ≡ (among change.order.account && changes_side change stock buys)
on_its_own_side among change stock buys = and_again (among change.order.account) (same_stock change.order.terms.stock stock) (is_on buys change.order.terms.side)

-- positions with one more order, which was granted so
abbrev pub with_order : LiveOrder → Order → Positions → Positions
with_order o grant held = record { live = held.live ++ o ∷ []; executions = held.executions; grants = held.grants ++ grant ∷ [] }

pub order_added : (held : Positions) (o : LiveOrder) (grant : Order) → positions_with (turns.Adds o) (grant ∷ []) held ≡ with_order o grant held
order_added held o grant = λ i. record { live = all_stay held.live i ++ o ∷ []; executions = append-nil held.executions i; grants = held.grants ++ grant ∷ [] }

-- of one more order
module _ (held : Positions) (o : LiveOrder) (moment : ℕ) (replacement : Bool) (grant : Order) (is : IsAccepted o moment replacement grant) (fit : SumsFit (with_order o grant held)) (among : AccountName → Bool) where
  abbrev with_it : Positions
  with_it = with_order o grant held

  abbrev coming : Change
  coming = comes o moment replacement

  same_entered : entered_of grant ≡ entered_as o
  same_entered = ap (λ (terms : OrderTerms). record { side = terms.side; shares = terms.shares; stock = terms.stock; price = terms.price }) is.is_of.terms

  enters_are : enters_of with_it.grants among ≡ cond (among o.account) (cond replacement (enters_of held.grants among) (enters_of held.grants among ++ entered_as o ∷ [])) (enters_of held.grants among)
  enters_are =
      chosen_more entered_of (λ (x : Order). among x.account && is_none x.previous_token) held.grants grant
      ∙ (λ i. cond (among (is.is_of.account i) && (none_is grant.previous_token ∙ ap not is.replacement) i) (enters_of held.grants among ++ same_entered i ∷ []) (enters_of held.grants among))
      ∙ by (among o.account) replacement
    where
      by : (b r : Bool) → cond (b && not r) (enters_of held.grants among ++ entered_as o ∷ []) (enters_of held.grants among)
          ≡ cond b (cond r (enters_of held.grants among) (enters_of held.grants among ++ entered_as o ∷ [])) (enters_of held.grants among)
      by true true = refl
      by true false = refl
      by false r = refl

  moments_are : moments_of with_it.grants among ≡ cond (among o.account) (moments_of held.grants among ++ moment ∷ []) (moments_of held.grants among)
  moments_are =
      chosen_more (λ (x : Order). x.moment) (λ (x : Order). among x.account) held.grants grant
      ∙ (λ i. cond (among (is.is_of.account i)) (moments_of held.grants among ++ is.moment i ∷ []) (moments_of held.grants among))

  -- what counts then, field by field
  comes_so : (b : Bool) (t : Total) → cond b (changed_total coming t) t ≡ record {
    shares = record { live = more b (shares_open o) t.shares.live; done = t.shares.done };
    value = record { live = more b (open_value o) t.value.live; done = t.value.done };
    moments = cond b (t.moments ++ moment ∷ []) t.moments;
    enters = cond b (cond replacement t.enters (t.enters ++ entered_as o ∷ [])) t.enters;
    sides = λ stock buys. record { live = more (b && changes_side coming stock buys) (shares_open o) (t.sides stock buys).live; done = (t.sides stock buys).done };
  }
  comes_so false t = refl
  comes_so true t = λ i. record (changed_total coming t) { sides = λ stock buys. side (changes_side coming stock buys) (t.sides stock buys) i }
    where
      side : (c : Bool) (s : Sums) → cond c (record { live = capped_at_128_bits (s.live + shares_open o); done = s.done }) s ≡ record { live = more c (shares_open o) s.live; done = s.done }
      side true s = refl
      side false s = refl

  pub accepted_total : totals_after coming (total_of held) among ≡ total_of with_it among
  accepted_total =
      comes_so (among o.account) (total_of held among)
      ∙ (λ i. record {
        shares = record {
          live = rises (among o.account) (live_shares held.live among) (live_shares with_it.live among) (shares_open o) (live_shares with_it.live anyone) (added (shares_of (of_accounts among)) held.live o) (open_fit with_it.live (of_accounts among)) fit.live_shares i;
          done = done_shares held.executions among;
        };
        value = record {
          live = rises (among o.account) (live_value held.live among) (live_value with_it.live among) (open_value o) (live_value with_it.live anyone) (added (value_of among) held.live o) (live_value_fit with_it.live among) fit.live_value i;
          done = done_value held.executions among;
        };
        moments = sym moments_are i;
        enters = sym enters_are i;
        sides = λ stock buys. record { live = live_then stock buys i; done = side_done held.executions among (record { stock = stock; buys = buys }) };
      })
    where
      live_then : (stock : Symbol) (buys : Bool)
          → more (among o.account && changes_side coming stock buys) (shares_open o) (side_live held.live among (record { stock = stock; buys = buys })) ≡ side_live with_it.live among (record { stock = stock; buys = buys })
      live_then stock buys =
          let side : StockSide = record { stock = stock; buys = buys } in
          rises (among o.account && changes_side coming stock buys) (side_live held.live among side) (side_live with_it.live among side) (shares_open o) (live_shares with_it.live anyone)
          (added (shares_of (on_side among side)) held.live o ∙ ap (λ c. side_live held.live among side + cond c (shares_open o) 0) (on_its_own_side among coming stock buys))
          (open_fit with_it.live (on_side among side)) fit.live_shares

-- positions with some of the live orders left so
abbrev pub left_so : Turn → Positions → Positions
left_so turn held = record { live = filter_map (becomes turn) held.live; executions = held.executions; grants = held.grants }

pub none_comes : (turn : Turn) (held : Positions) → new_in turn ≡ [] → executed_by turn held.grants ≡ [] → positions_with turn [] held ≡ left_so turn held
none_comes turn held none idle = λ i. record {
  live = (ap (λ (more : List LiveOrder). filter_map (becomes turn) held.live ++ more) none ∙ append-nil (filter_map (becomes turn) held.live)) i;
  executions = (ap (λ (es : List Execution). held.executions ++ es) idle ∙ append-nil held.executions) i;
  grants = append-nil held.grants i;
}

-- where each order has as much open as before
pub same_total : (held : Positions) (turn : Turn) → ((o : LiveOrder) → left_by turn o ≡ shares_open o) → (among : AccountName → Bool) → total_of held among ≡ total_of (left_so turn held) among
same_total held turn same among = λ i. record {
  shares = record { live = sym (stays_by (shares_of (of_accounts among)) turn held.live same) i; done = done_shares held.executions among };
  value = record { live = sym (stays_by (value_of among) turn held.live same) i; done = done_value held.executions among };
  moments = moments_of held.grants among;
  enters = enters_of held.grants among;
  sides = λ stock buys. record { live = sym (stays_by (shares_of (on_side among (record { stock = stock; buys = buys }))) turn held.live same) i; done = side_done held.executions among (record { stock = stock; buys = buys }) };
}

-- what counts where an order of the accounts loses open shares, field by field
abbrev pub with_left : Bool → LiveOrder → ℕ → Total → Total
with_left b o lost t = record {
  shares = record { live = less b lost t.shares.live; done = t.shares.done };
  value = record { live = less b (value lost o.terms.price) t.value.live; done = t.value.done };
  moments = t.moments;
  enters = t.enters;
  sides = λ stock buys. record { live = less (b && changes_side (leaves o lost) stock buys) lost (t.sides stock buys).live; done = (t.sides stock buys).done };
}

pub leaves_so : (b : Bool) (o : LiveOrder) (lost : ℕ) (t : Total) → cond b (changed_total (leaves o lost) t) t ≡ with_left b o lost t
leaves_so false o lost t = refl
leaves_so true o lost t = λ i. record (changed_total (leaves o lost) t) { sides = λ stock buys. side (changes_side (leaves o lost) stock buys) (t.sides stock buys) i }
  where
    side : (c : Bool) (s : Sums) → cond c (record { live = s.live - lost; done = s.done }) s ≡ record { live = less c lost s.live; done = s.done }
    side true s = refl
    side false s = refl

-- of one order that loses open shares
pub left_total : (held : Positions) (turn : Turn) (number : ℕ) (o : LiveOrder) (lost : ℕ) → IsDistinct nat_eq (numbers_of held.live) → Loses turn number held.live o lost
    → (among : AccountName → Bool) → totals_after (leaves o lost) (total_of held) among ≡ total_of (left_so turn held) among
left_total held turn number o lost differ loses among =
    leaves_so (among o.account) o lost (total_of held among)
    ∙ (λ i. record {
      shares = record {
        live = falls (among o.account) (live_shares held.live among) (live_shares left among) lost (lost_by (shares_of (of_accounts among)) turn number held.live o lost differ loses) i;
        done = done_shares held.executions among;
      };
      value = record {
        live = falls (among o.account) (live_value held.live among) (live_value left among) (value lost o.terms.price) (lost_by (value_of among) turn number held.live o lost differ loses) i;
        done = done_value held.executions among;
      };
      moments = moments_of held.grants among;
      enters = enters_of held.grants among;
      sides = λ stock buys. record { live = live_then stock buys i; done = side_done held.executions among (record { stock = stock; buys = buys }) };
    })
  where
    left : List LiveOrder
    left = filter_map (becomes turn) held.live

    live_then : (stock : Symbol) (buys : Bool)
        → less (among o.account && changes_side (leaves o lost) stock buys) lost (side_live held.live among (record { stock = stock; buys = buys })) ≡ side_live left among (record { stock = stock; buys = buys })
    live_then stock buys =
        let side : StockSide = record { stock = stock; buys = buys } in
        falls (among o.account && changes_side (leaves o lost) stock buys) (side_live held.live among side) (side_live left among side) lost
        (ap (λ c. side_live left among side + cond c lost 0) (sym (on_its_own_side among (leaves o lost) stock buys)) ∙ lost_by (shares_of (on_side among side)) turn number held.live o lost differ loses)
