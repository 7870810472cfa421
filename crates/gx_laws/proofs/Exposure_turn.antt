-- A turn that adds no order of some accounts raises nothing that they have in all.
use Rattle.std.proofs.{Common.{◌≡◌, ℕ, ◌+◌, ◌≤◌, Bool, true, false, cond, List, [], ◌∷◌, ◌++◌, length, refl, sym, ap, ◌∙◌, arith}, Math.Path.subst, lemmas.List.{append-nil, length-append, Elements.filter-append}}
use Rattle.std.specs.{Prelude.nat_eq, List.{filter, filter_map, AllByRecursion, IsDistinct}}
use Rattle.gx_units.specs.{Money.value, declared.names.AccountName.AccountName}
use Rattle.gx_units.proofs.Lists_hold.{all_parted}
use Rattle.gx_ouch.specs.declared.outbound.OrderTerms.{OrderTerms}
use Rattle.gx_policy.specs.declared.policy.PolicyData.{PolicyData}
use Rattle.gx_history.specs.{declared.{live_order.LiveOrder.LiveOrder, «record».Fill.Fill}, Executions.Execution, Figures.{Positions, done_of_chosen, done_value, live_value, of_accounts, open_of_chosen}, Orders.Order, Turns.{Turn, Adds, EndsAll, Ends, Fills, Keeps, Replaces, Rests, Sizes, becomes, new_in, live_after}}
use Rattle.gx_laws.proofs.{Fills_executed.{both_sides, maker_side, taker_side}, SmallDays_next.new_ones, Sums_turn.{IsOpenSum, done_shares_filled, done_value_filled, filled_by, is_chosen, joined, no_rise_by, none_gains, none_of, shares_of, sides_are, sum_of_filter, sum_where-append, value_of}}
use Rattle.gx_laws.specs.{Changing.{executed_by, positions_with}, Sound.{IsLiveThere, MayChange, MayCome, MayFillHeld, numbers_of}, Exposure.{gain_of_sell, gains_of_sells, is_such}}

-- what the orders that are chosen have in all
abbrev pub shares_held : Positions → (AccountName → OrderTerms → Bool) → ℕ
shares_held held chosen = open_of_chosen held.live chosen + done_of_chosen held.executions chosen

-- and what those of these accounts are worth
abbrev pub value_held : Positions → (AccountName → Bool) → ℕ
value_held held among = live_value held.live among + done_value held.executions among

-- no order comes new that is chosen
abbrev pub AddsNone : (AccountName → OrderTerms → Bool) → Turn → Type 0
AddsNone chosen turn = AllByRecursion (λ (o : LiveOrder). is_chosen chosen o ≡ false) (new_in turn)

-- the executed shares are worth no more than at the order's own price and the gain
abbrev pub IsWorth : Execution → Type 0
IsWorth e = value e.fill.shares e.fill.price ≤ value e.fill.shares e.order.terms.price + gain_of_sell e

-- so it is for each of these
abbrev pub AreWorth : List Execution → Type 0
AreWorth made = AllByRecursion IsWorth made

-- gains add up
pub gained-append : (made more : List Execution) (among : AccountName → Bool) → gains_of_sells (made ++ more) among ≡ gains_of_sells made among + gains_of_sells more among
unfolding gains_of_sells
gained-append made more among =
    let theirs : Execution → Bool = λ e. among e.order.account in
    let all = sum_of_filter theirs gain_of_sell (made ++ more) in
    let first = sum_of_filter theirs gain_of_sell made in
    let last = sum_of_filter theirs gain_of_sell more in
    let parts = sum_where-append theirs gain_of_sell made more in
    omega (arith, all, first, last, parts)

module _ (policy : PolicyData) (held : Positions) (granted : List Order) (distinct : IsDistinct nat_eq (numbers_of held.live)) where
  -- what is open falls, where no order comes that is chosen
  open_falls : {figure : List LiveOrder → ℕ} {chosen : AccountName → OrderTerms → Bool} {weight : ℕ → ℕ → ℕ} → IsOpenSum figure chosen weight → (turn : Turn) → MayChange policy held turn granted → AddsNone chosen turn
      → figure (live_after turn held.live) ≤ figure held.live
  open_falls is turn may none =
      let both = joined is (filter_map (becomes turn) held.live) (new_in turn) in
      let fall = no_rise_by is turn held.live (none_gains policy held turn granted distinct may) in
      let new = none_of is (new_in turn) none in
      omega (arith, both, fall, new)

  -- where two are filled, by their shares
  open_fills : {figure : List LiveOrder → ℕ} {chosen : AccountName → OrderTerms → Bool} {weight : ℕ → ℕ → ℕ} → IsOpenSum figure chosen weight → (f : Fill) (may : MayFillHeld held f)
      → figure (live_after (Fills f) held.live)
      + (cond (is_chosen chosen may.taker.order) (weight f.shares may.taker.order.terms.price) 0 + cond (is_chosen chosen may.maker.order) (weight f.shares may.maker.order.terms.price) 0)
      ≡ figure held.live
  open_fills {figure} is f may =
      let same = ap figure (append-nil (filter_map (becomes (Fills f)) held.live)) in
      let fall = filled_by is held f distinct may in
      omega (arith, same, fall)

  -- nothing is executed
  same_made : (turn : Turn) → executed_by turn held.grants ≡ [] → held.executions ++ executed_by turn held.grants ≡ held.executions
  same_made turn idle = ap (λ (es : List Execution). held.executions ++ es) idle ∙ append-nil held.executions

  module _ (chosen : AccountName → OrderTerms → Bool) where
    fewer_shares : (turn : Turn) → MayChange policy held turn granted → AddsNone chosen turn → executed_by turn held.grants ≡ [] → shares_held (positions_with turn granted held) chosen ≤ shares_held held chosen
    fewer_shares turn may none idle =
        let fall = open_falls (shares_of chosen) turn may none in
        let made = ap (λ (es : List Execution). done_of_chosen es chosen) (same_made turn idle) in
        omega (arith, fall, made)

    -- no more shares, open or executed
    pub no_more_shares : (turn : Turn) → MayChange policy held turn granted → AddsNone chosen turn → shares_held (positions_with turn granted held) chosen ≤ shares_held held chosen
    no_more_shares Keeps may none = fewer_shares Keeps may none refl
    no_more_shares (Adds new) may none = fewer_shares (Adds new) may none refl
    no_more_shares (Sizes number size) may none = fewer_shares (Sizes number size) may none refl
    no_more_shares (Replaces number new) may none = fewer_shares (Replaces number new) may none refl
    no_more_shares (EndsAll action) may none = fewer_shares (EndsAll action) may none refl
    no_more_shares (Fills f) may none =
        let fall = open_fills (shares_of chosen) f may in
        let rise = done_shares_filled chosen held f may in
        omega (arith, fall, rise)
    no_more_shares (Rests number) may none = fewer_shares (Rests number) may none refl
    no_more_shares (Ends number) may none = fewer_shares (Ends number) may none refl

  module _ (among : AccountName → Bool) where
    less_value : (turn : Turn) → MayChange policy held turn granted → AddsNone (of_accounts among) turn → executed_by turn held.grants ≡ []
        → value_held (positions_with turn granted held) among + gains_of_sells held.executions among ≤ value_held held among + gains_of_sells (held.executions ++ executed_by turn held.grants) among
    less_value turn may none idle =
        let fall = open_falls (value_of among) turn may none in
        let made = ap (λ (es : List Execution). done_value es among) (same_made turn idle) in
        let gains = ap (λ (es : List Execution). gains_of_sells es among) (same_made turn idle) in
        omega (arith, fall, made, gains)

    gained_filled : (f : Fill) (may : MayFillHeld held f)
        → gains_of_sells (executed_by (Fills f) held.grants) among
        ≡ cond (among may.taker.order.account) (gain_of_sell (taker_side f may.taker.grant)) 0 + (cond (among may.maker.order.account) (gain_of_sell (maker_side f may.maker.grant)) 0 + 0)
    unfolding gains_of_sells
    gained_filled f may =
        ap (λ (es : List Execution). gains_of_sells es among) (sides_are held f may)
        ∙ sum_of_filter (λ (e : Execution). among e.order.account) gain_of_sell (both_sides f may.taker.grant may.maker.grant)
        ∙ (λ i. cond (among (may.taker.is_of.account i)) (gain_of_sell (taker_side f may.taker.grant)) 0 + (cond (among (may.maker.is_of.account i)) (gain_of_sell (maker_side f may.maker.grant)) 0 + 0))

    within : (b : Bool) (paid asked more : ℕ) → paid ≤ asked + more → cond b paid 0 ≤ cond b asked 0 + cond b more 0
    within true paid asked more h = h
    within false paid asked more h = omega arith

    -- one side, at the price of the live order
    side_worth : (f : Fill) (number : ℕ) (there : IsLiveThere held number) (gains : ℕ) → value f.shares f.price ≤ value f.shares there.grant.terms.price + gains
        → cond (among there.order.account) (value f.shares f.price) 0 ≤ cond (among there.order.account) (value f.shares there.order.terms.price) 0 + cond (among there.order.account) gains 0
    side_worth f number there gains h =
        within (among there.order.account) (value f.shares f.price) (value f.shares there.order.terms.price) gains
        (subst (λ (terms : OrderTerms). value f.shares f.price ≤ value f.shares terms.price + gains) there.is_of.terms h)

    -- no more value, open or executed, but for the gain
    pub no_more_value : (turn : Turn) → MayChange policy held turn granted → AddsNone (of_accounts among) turn → AreWorth (held.executions ++ executed_by turn held.grants)
        → value_held (positions_with turn granted held) among + gains_of_sells held.executions among ≤ value_held held among + gains_of_sells (held.executions ++ executed_by turn held.grants) among
    no_more_value Keeps may none worth = less_value Keeps may none refl
    no_more_value (Adds new) may none worth = less_value (Adds new) may none refl
    no_more_value (Sizes number size) may none worth = less_value (Sizes number size) may none refl
    no_more_value (Replaces number new) may none worth = less_value (Replaces number new) may none refl
    no_more_value (EndsAll action) may none worth = less_value (EndsAll action) may none refl
    no_more_value (Fills f) may none worth =
        let fall = open_fills (value_of among) f may in
        let rise = done_value_filled among held f may in
        let more = gained-append held.executions (executed_by (Fills f) held.grants) among in
        let gains = gained_filled f may in
        let each : AreWorth (both_sides f may.taker.grant may.maker.grant) = subst AreWorth (sides_are held f may) (all_parted IsWorth held.executions (executed_by (Fills f) held.grants) worth).1 in
        let of_taker = side_worth f f.taker may.taker (gain_of_sell (taker_side f may.taker.grant)) each.0 in
        let of_maker = side_worth f f.maker may.maker (gain_of_sell (maker_side f may.maker.grant)) each.1.0 in
        omega (arith, fall, rise, more, gains, of_taker, of_maker)
    no_more_value (Rests number) may none worth = less_value (Rests number) may none refl
    no_more_value (Ends number) may none worth = less_value (Ends number) may none refl

  -- where as many such orders are there as before, none was added
  module _ (chosen : AccountName → OrderTerms → Bool) (same : length (filter (is_such chosen) (held.grants ++ granted)) ≡ length (filter (is_such chosen) held.grants)) where
    none_granted : (grant : Order) → granted ≡ grant ∷ [] → is_such chosen grant ≡ false
    none_granted grant one =
        at (is_such chosen grant)
        (sym (length-append (filter (is_such chosen) held.grants) (filter (is_such chosen) (grant ∷ []))) ∙ sym (ap length (filter-append (is_such chosen) held.grants (grant ∷ [])))
        ∙ ap (λ (more : List Order). length (filter (is_such chosen) (held.grants ++ more))) (sym one)
        ∙ same)
      where
        at : (b : Bool) → length (filter (is_such chosen) held.grants) + length (cond {A = List Order} b (grant ∷ []) []) ≡ length (filter (is_such chosen) held.grants) → b ≡ false
        at true h = absurd (omega arith)
        at false h = refl

    not_new : (new : LiveOrder) → MayCome policy held new granted → is_chosen chosen new ≡ false
    not_new new may = (λ i. chosen (sym may.is_of.account i) (sym may.is_of.terms i)) ∙ none_granted may.grant may.is_granted

    pub adds_none : (turn : Turn) → MayChange policy held turn granted → AddsNone chosen turn
    adds_none turn may = new_ones (λ (o : LiveOrder). is_chosen chosen o ≡ false) policy held granted not_new turn may
