-- What raises no figure.
use Rattle.std.proofs.{Common.{◌≡◌, ℕ, ℤ, pos, negsuc, ◌+◌, ◌-◌, ◌≤◌, ◌+ℤ◌, ◌-ℤ◌, Bool, true, false, cond, List, [], ◌∷◌, ◌++◌, refl, sym, ap, subst, ◌∙◌, arith}, lemmas.{Int.ints, List.append-nil}}
use Rattle.std.specs.{Prelude.{Option, Some, None, option_and_then}, Option.option_map_or}
use Rattle.gx_units.specs.{Money.value, declared.names.AccountName.AccountName}
use Rattle.gx_units.proofs.Lists_hold.{all_weaker}
use Rattle.gx_ouch.specs.declared.outbound.OrderTerms.{OrderTerms}
use Rattle.gx_policy.specs.declared.policy.PolicyData.{PolicyData}
use Rattle.gx_history.specs.{declared.{facts.StockSide.StockSide, live_order.LiveOrder.LiveOrder, «record».{Fill.Fill, RecordData.RecordData, Verdict.Verdict}}, Book.is_buy, Executions.{Execution, executions, sides}, Figures.{Positions, done_of_chosen, of_accounts, on_side, open_of_chosen, other_side, positions}, Live.{live, live_numbered}, Orders.{Order, orders, orders_added}, Turns.{Turn, Fills, new_in}, Verdicts.{Follows, IsLegal}, World.{turn_by, world}}
use Rattle.gx_laws.proofs.{Orders_next.executions_next, Streams_next.legal_next, Fills_executed.{both_sides, maker_side, taker_side}, Turns_allowed.records_may_come, Positions_next.positions_go_on, SmallDays_next.new_ones, Positions_sound.positions_are_sound, Sums_turn.{is_chosen, sides_are, sum_of_filter}, Exposure_later.{GoOn, done_stays}, Exposure_turn.{AddsNone, AreWorth, gained-append, no_more_shares, no_more_value, shares_held, value_held}, Executions_worth.executions_are_worth}
use Rattle.gx_laws.specs.{Changing.executed_by, PositionLaws.{granted_after, turn_after}, Sound.{MayChange, MayFillHeld}, Exposure.{gain_of_sell, gains_of_sells, gross_value, shares_of_chosen}}
use Rattle.gx_peaks.specs.{Figures.above_zero, Touching.{gains_by, gains_of, seller}}
use Rattle.gx_peaks.proofs.{NewOrder_live.new_is_newest, Figure_sort.{Net, Shares, Sort, Value, total_of}}

laws : GoOn
laws = record { go_on = positions_go_on; may_come = records_may_come; are_sound = positions_are_sound }

-- the orders that the sort counts
abbrev pub chosen_of : Sort → AccountName → OrderTerms → Bool
chosen_of (Shares among) = of_accounts among
chosen_of (Value among) = of_accounts among
chosen_of (Net among side) = on_side among side

-- the sort counts a new order
abbrev pub counts_order : Sort → LiveOrder → Bool
counts_order s o = chosen_of s o.account o.terms

-- the sort counts what a sell of this account gains
abbrev pub counts_gain : Sort → AccountName → Bool
counts_gain (Value among) account = among account
counts_gain other account = false

-- how far a net figure is above 0, in numbers that are never below it
in_numbers : (done other live : ℕ) → above_zero ((pos done -ℤ pos other) +ℤ pos live) ≡ (done + live) - other
in_numbers done other live = by ((pos done -ℤ pos other) +ℤ pos live) refl
  where
    by : (z : ℤ) → (pos done -ℤ pos other) +ℤ pos live ≡ z → above_zero z ≡ (done + live) - other
    by (pos n) e = omega (arith, ints, e)
    by (negsuc n) e = omega (arith, ints, e)

-- ---- the gain of each side of a fill

no_gain : (among buys other : Bool) (gains : ℕ) (account : AccountName) → option_map_or (λ (a : AccountName). among) (cond buys None (Some account)) false ≡ false → buys ≡ other → cond among (cond other 0 gains) 0 ≡ 0
no_gain true true true gains account h e = refl
no_gain false true true gains account h e = refl
no_gain true false false gains account h e = cc
no_gain false false false gains account h e = refl
no_gain among true false gains account h e = cc
no_gain among false true gains account h e = cc

at_own_price : (among buys : Bool) (shares price own : ℕ) → price ≡ own → cond among (cond buys 0 (value shares (price - own))) 0 ≡ 0
at_own_price true true shares price own e = refl
at_own_price false buys shares price own e = refl
at_own_price true false shares price own e = let none : price - own ≡ 0 = omega (arith, e) in ap (value shares) none ∙ omega arith

module _ (policy : PolicyData) (records : List RecordData) (r : RecordData) (legal : IsLegal policy records) (follows : Follows policy (records, r)) where
  abbrev held : Positions
  held = positions policy records

  abbrev turn : Turn
  turn = turn_after policy records r

  abbrev granted : List Order
  granted = granted_after policy records r

  may : MayChange policy held turn granted
  may = records_may_come policy records r.step r legal follows.is_next

  -- no order comes new that is chosen
  adds_none : (chosen : AccountName → OrderTerms → Bool) → option_map_or (λ (o : LiveOrder). chosen o.account o.terms) (live_numbered (live policy (records ++ r ∷ [])) r.number) false ≡ false → AddsNone chosen turn
  adds_none chosen none =
      all_weaker (λ (o : LiveOrder). live_numbered (live policy (records ++ r ∷ [])) r.number ≡ Some o) (λ (o : LiveOrder). is_chosen chosen o ≡ false)
      (λ o is. sym (ap (λ (found : Option LiveOrder). option_map_or (λ (x : LiveOrder). chosen x.account x.terms) found false) is) ∙ none)
      (new_in turn) (new_is_newest r legal follows)

  -- no more shares
  shares_fall : (chosen : AccountName → OrderTerms → Bool) → AddsNone chosen turn → shares_of_chosen policy (records ++ r ∷ []) chosen ≤ shares_of_chosen policy records chosen
  shares_fall chosen none =
      let fall = no_more_shares policy held granted (positions_are_sound policy records legal).numbers_differ chosen turn may none in
      let after = ap (λ (p : Positions). shares_held p chosen) (positions_go_on policy records r.step r legal follows.is_next) in
      omega (arith, fall, after)

  -- what was executed is executed
  done_grows : (chosen : AccountName → OrderTerms → Bool) → done_of_chosen (executions policy records) chosen ≤ done_of_chosen (executions policy (records ++ r ∷ [])) chosen
  done_grows chosen = done_stays laws policy chosen records (r ∷ []) (legal_next r legal follows)

  -- no more net shares
  net_falls : (among : AccountName → Bool) (side : StockSide) → AddsNone (on_side among side) turn → total_of policy (Net among side) (records ++ r ∷ []) ≤ total_of policy (Net among side) records
  net_falls among side none =
      let fall = shares_fall (on_side among side) none in
      let grow = done_grows (on_side among (other_side side)) in
      let before = in_numbers (done_of_chosen (executions policy records) (on_side among side)) (done_of_chosen (executions policy records) (on_side among (other_side side))) (open_of_chosen (live policy records) (on_side among side)) in
      let after = in_numbers (done_of_chosen (executions policy (records ++ r ∷ [])) (on_side among side)) (done_of_chosen (executions policy (records ++ r ∷ [])) (on_side among (other_side side)))
      (open_of_chosen (live policy (records ++ r ∷ [])) (on_side among side)) in
      omega (arith, fall, grow, before, after)

  module _ (among : AccountName → Bool) where
    gained_by : (f : Fill) (is : MayFillHeld held f)
        → gains_of_sells (executed_by (Fills f) held.grants) among
        ≡ cond (among is.taker.order.account) (gain_of_sell (taker_side f is.taker.grant)) 0 + (cond (among is.maker.order.account) (gain_of_sell (maker_side f is.maker.grant)) 0 + 0)
    unfolding gains_of_sells
    gained_by f is =
        ap (λ (es : List Execution). gains_of_sells es among) (sides_are held f is)
        ∙ sum_of_filter (λ (e : Execution). among e.order.account) gain_of_sell (both_sides f is.taker.grant is.maker.grant)
        ∙ (λ i. cond (among (is.taker.is_of.account i)) (gain_of_sell (taker_side f is.taker.grant)) 0 + (cond (among (is.maker.is_of.account i)) (gain_of_sell (maker_side f is.maker.grant)) 0 + 0))

    none_gained : (f : Fill) (is : MayFillHeld held f) → option_map_or among (gains_by (live policy records) (Verdict.Filled f)) false ≡ false → gains_of_sells (executed_by (Fills f) held.grants) among ≡ 0
    none_gained f is none =
        let taker : cond (among is.taker.order.account) (gain_of_sell (taker_side f is.taker.grant)) 0 ≡ 0 =
        no_gain (among is.taker.order.account) (is_buy is.taker.order.terms.side) (is_buy is.taker.grant.terms.side) (value f.shares (f.price - is.taker.grant.terms.price)) is.taker.order.account
        (his (is_buy is.taker.order.terms.side) ∙ sym (ap (λ (found : Option LiveOrder). option_map_or among (option_and_then seller found) false) is.taker.is_found) ∙ none)
        (ap (λ (terms : OrderTerms). is_buy terms.side) (sym is.taker.is_of.terms)) in
        let maker : cond (among is.maker.order.account) (gain_of_sell (maker_side f is.maker.grant)) 0 ≡ 0 =
        at_own_price (among is.maker.order.account) (is_buy is.maker.grant.terms.side) f.shares f.price is.maker.grant.terms.price
        (is.at_its_price ∙ ap (λ (terms : OrderTerms). terms.price) (sym is.maker.is_of.terms)) in
        let both = gained_by f is in
        omega (arith, both, taker, maker)
      where
        his : (buys : Bool) → option_map_or (λ (a : AccountName). among is.taker.order.account) (cond buys None (Some is.taker.order.account)) false
            ≡ option_map_or among (cond {A = Option AccountName} buys None (Some is.taker.order.account)) false
        his true = refl
        his false = refl

    -- no more is gained
    gain_stays : option_map_or among (gains_of policy records r) false ≡ false → gains_of_sells (executions policy (records ++ r ∷ [])) among ≡ gains_of_sells (executions policy records) among
    gain_stays none = at r.verdict refl
      where
        idle : sides policy records r.verdict ≡ [] → gains_of_sells (executions policy (records ++ r ∷ [])) among ≡ gains_of_sells (executions policy records) among
        idle empty = ap (λ (es : List Execution). gains_of_sells es among) (executions_next policy records r ∙ ap (λ (es : List Execution). executions policy records ++ es) empty ∙ append-nil (executions policy records))

        at : (v : Verdict) → r.verdict ≡ v → gains_of_sells (executions policy (records ++ r ∷ [])) among ≡ gains_of_sells (executions policy records) among
        at Verdict.Granted e = idle (ap (sides policy records) e)
        at (Verdict.Denied rule) e = idle (ap (sides policy records) e)
        at (Verdict.Rested number) e = idle (ap (sides policy records) e)
        at (Verdict.Expired number) e = idle (ap (sides policy records) e)
        at (Verdict.Filled f) e =
            let is : MayFillHeld held f = subst (λ (t : Turn). MayChange policy held t granted) (ap (λ (v : Verdict). turn_by policy (world policy records) r v r.step) e) may in
            let none_here : gains_of_sells (sides policy records (Verdict.Filled f)) among ≡ 0 = none_gained f is (ap (λ (v : Verdict). option_map_or among (gains_by (live policy records) v) false) (sym e) ∙ none) in
            let parts = gained-append (executions policy records) (sides policy records (Verdict.Filled f)) among in
            let all = ap (λ (es : List Execution). gains_of_sells es among) (executions_next policy records r ∙ ap (λ (v : Verdict). executions policy records ++ sides policy records v) e) in
            omega (arith, none_here, parts, all)

    -- no more value
    value_falls : AddsNone (of_accounts among) turn → option_map_or among (gains_of policy records r) false ≡ false → gross_value policy (records ++ r ∷ []) among ≤ gross_value policy records among
    value_falls none no_gains =
        let goes = positions_go_on policy records r.step r legal follows.is_next in
        let made = ap (λ (p : Positions). p.executions) goes in
        let worth : AreWorth (executions policy (records ++ r ∷ [])) = executions_are_worth (legal_next r legal follows) in
        let fall = no_more_value policy held granted (positions_are_sound policy records legal).numbers_differ among turn may none (subst AreWorth made worth) in
        let after = ap (λ (p : Positions). value_held p among) goes in
        let same = ap (λ (es : List Execution). gains_of_sells es among) made in
        let gains = gain_stays no_gains in
        omega (arith, fall, after, same, gains)

  -- a figure that counts no order that is new, and no gain, does not rise
  falls : (s : Sort) → AddsNone (chosen_of s) turn → option_map_or (counts_gain s) (gains_of policy records r) false ≡ false → total_of policy s (records ++ r ∷ []) ≤ total_of policy s records
  falls (Shares among) none no_gains = shares_fall (of_accounts among) none
  falls (Value among) none no_gains = value_falls among none no_gains
  falls (Net among side) none no_gains = net_falls among side none

  -- nor one that does not count the live order of the record's number
  pub no_rise : (s : Sort) → option_map_or (counts_order s) (live_numbered (live policy (records ++ r ∷ [])) r.number) false ≡ false → option_map_or (counts_gain s) (gains_of policy records r) false ≡ false
      → total_of policy s (records ++ r ∷ []) ≤ total_of policy s records
  no_rise s none no_gains = falls s (adds_none (chosen_of s) none) no_gains

  -- nor any, where no order is granted and nothing is gained
  pub none_rises : orders_added policy (orders policy records) r ≡ [] → gains_of policy records r ≡ None → (s : Sort) → total_of policy s (records ++ r ∷ []) ≤ total_of policy s records
  none_rises none no_gains s =
      falls s
      (new_ones (λ (o : LiveOrder). is_chosen (chosen_of s) o ≡ false) policy held granted (λ new come. let no : [] ≡ come.grant ∷ [] = sym none ∙ come.is_granted in cc) turn may)
      (ap (λ (a : Option AccountName). option_map_or (counts_gain s) a false) no_gains)
