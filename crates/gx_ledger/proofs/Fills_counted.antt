-- What counts, and which prices are last, once a fill was made.
use Rattle.std.proofs.{Common.{◌≡◌, ℕ, ◌+◌, ◌-◌, ◌<◌, ◌≤◌, ◌^◌, Bool, true, false, cond, ◌&&◌, List, [], ◌∷◌, ◌++◌, map, refl, sym, ap, ◌∙◌, arith, true≢false}, Math.Path.subst, lemmas.{List.append-nil, Option.same_Some}}
use Rattle.std.specs.{Prelude.{None, ◌==◌, is_some, unwrap_or}, List.{AllByRecursion, cons_option, filter_map, last_or}}
use Rattle.gx_units.specs.{Money.{value, capped_at_128_bits}, Names.same_stock, declared.names.{AccountName.AccountName, Symbol.Symbol}}
use Rattle.gx_units.proofs.{Names_equal.stock_is, Lists_hold.{all_both, found_is}}
use Rattle.gx_ouch.specs.declared.outbound.OrderTerms.{OrderTerms}
use Rattle.gx_history.specs.{declared.{facts.StockSide.StockSide, live_order.LiveOrder.LiveOrder, «record».Fill.Fill}, Executions.Execution, Figures.{Positions, done_of_chosen, done_shares, done_value, live_shares, live_value, of_accounts, on_side, reference, side_done, side_live}, Turns.becomes}
use Rattle.gx_policy.specs.{declared.policy.{PolicyData.PolicyData, Stock.Stock}, Lists.where_true, People.stock_named}
use Rattle.gx_laws.proofs.{Figures_next.reference_more, Fills_executed.both_sides, Sums_turn.{IsOpenSum, done_shares_filled, done_value_filled, filled_by, is_chosen, shares_of, sides_are, value_of}}
use Rattle.gx_history.specs.Turns as turns
use Rattle.gx_laws.specs.{Changing.{executed_by, positions_with}, Sound.{AreSound, IsListed, MayFillHeld, SumsFit, anyone}}
use Rattle.gx_ledger.specs.{declared.sums.Sums.Sums, Keeping.{LedgerData, is_filled, data_after, prices_with, with_price}, StandsFor.{AreFilled, Fills, IsMadeIn, StandsFor, Total, enters_of, moments_of, prices_of, total_of}}
use Rattle.gx_ledger.proofs.{Ledger_next.tallies_same, Tallies_changed.{Totals, changed_total, changes_side, kept_follows, totals_after}, Totals_changed.{done_fit, done_value_fit, less, more, on_its_own_side}}

-- what counts after both sides
abbrev pub totals_filled : LiveOrder → LiveOrder → ℕ → ℕ → Totals → Totals
totals_filled taker maker shares price totals = totals_after (is_filled maker shares price) (totals_after (is_filled taker shares price) totals)

falls_twice : (b c : Bool) (before after first second : ℕ) → after + (cond b first 0 + cond c second 0) ≡ before → less c second (less b first before) ≡ after
falls_twice true true before after first second is = omega (arith, is)
falls_twice true false before after first second is = omega (arith, is)
falls_twice false true before after first second is = omega (arith, is)
falls_twice false false before after first second is = omega (arith, is)

rises_twice : (b c : Bool) (before after gain whole : ℕ) → after ≡ before + (cond b gain 0 + cond c gain 0) → after ≤ whole → whole < 2 ^ 128 → more c gain (more b gain before) ≡ after
rises_twice true true before after gain whole is most fits = omega (arith, is, most, fits)
rises_twice true false before after gain whole is most fits = omega (arith, is, most, fits)
rises_twice false true before after gain whole is most fits = omega (arith, is, most, fits)
rises_twice false false before after gain whole is most fits = omega (arith, is)

-- executed shares leave a bit
wide : {n : ℕ} → n < 2 ^ 127 → n < 2 ^ 128
wide few = omega (arith, few)

-- what counts where some open shares of an order of the accounts were executed, field by field
abbrev with_filled : Bool → LiveOrder → ℕ → ℕ → Total → Total
with_filled b o shares price t = record {
  shares = record { live = less b shares t.shares.live; done = more b shares t.shares.done };
  value = record { live = less b (value shares o.terms.price) t.value.live; done = more b (value shares price) t.value.done };
  moments = t.moments;
  enters = t.enters;
  sides = λ stock buys.
      let there : Bool = b && changes_side (is_filled o shares price) stock buys in
      record { live = less there shares (t.sides stock buys).live; done = more there shares (t.sides stock buys).done };
}

filled_one : (b : Bool) (o : LiveOrder) (shares price : ℕ) (t : Total) → cond b (changed_total (is_filled o shares price) t) t ≡ with_filled b o shares price t
filled_one false o shares price t = refl
filled_one true o shares price t = λ i. record (changed_total (is_filled o shares price) t) { sides = λ stock buys. side (changes_side (is_filled o shares price) stock buys) (t.sides stock buys) i }
  where
    side : (c : Bool) (s : Sums) → cond c (record { live = s.live - shares; done = capped_at_128_bits (s.done + shares) }) s ≡ record { live = less c shares s.live; done = more c shares s.done }
    side true s = refl
    side false s = refl

-- what counts after both sides, field by field
filled_so : (taker maker : LiveOrder) (shares price : ℕ) (totals : Totals) (among : AccountName → Bool) → totals_filled taker maker shares price totals among
    ≡ with_filled (among maker.account) maker shares price (with_filled (among taker.account) taker shares price (totals among))
filled_so taker maker shares price totals among =
    filled_one (among maker.account) maker shares price _ ∙ ap (with_filled (among maker.account) maker shares price) (filled_one (among taker.account) taker shares price (totals among))

module _ (held : Positions) (policy : PolicyData) (taker maker : LiveOrder) (shares price : ℕ) (sound : AreSound policy held) where
  abbrev f : Fill
  f = record { taker = taker.number; maker = maker.number; shares = shares; price = price }

  abbrev after : Positions
  after = record { live = filter_map (becomes (turns.Fills f)) held.live; executions = held.executions ++ executed_by (turns.Fills f) held.grants; grants = held.grants }

  pub filled_is : positions_with (turns.Fills f) [] held ≡ after
  filled_is = λ i. record { live = append-nil after.live i; executions = after.executions; grants = append-nil held.grants i }

  module _ (are : AreFilled held taker maker f) where
    abbrev may : MayFillHeld held f
    may = are.may_fill

    taker_is : may.taker.order ≡ taker
    taker_is = same_Some _ _ (sym may.taker.is_found ∙ are.taker_is_held)

    maker_is : may.maker.order ≡ maker
    maker_is = same_Some _ _ (sym may.maker.is_found ∙ are.maker_is_held)

    taker_stock : may.taker.grant.terms.stock ≡ maker.terms.stock
    taker_stock = ap (λ (terms : OrderTerms). terms.stock) may.taker.is_of.terms ∙ sym (stock_is may.maker.order.terms.stock may.taker.order.terms.stock may.of_one_stock) ∙ ap (λ (o : LiveOrder). o.terms.stock) maker_is

    maker_stock : may.maker.grant.terms.stock ≡ maker.terms.stock
    maker_stock = ap (λ (terms : OrderTerms). terms.stock) may.maker.is_of.terms ∙ ap (λ (o : LiveOrder). o.terms.stock) maker_is

    listed : is_some (stock_named policy maker.terms.stock) ≡ true
    listed = found_is (IsListed policy) (λ (o : LiveOrder). o.number == maker.number) held.live maker sound.all_listed are.maker_is_held

    module _ (sound_after : AreSound policy after) (among : AccountName → Bool) where
      abbrev b : Bool
      b = among taker.account

      abbrev c : Bool
      c = among maker.account

      fit : SumsFit after
      fit = sound_after.fit

      -- what the live orders' tests say of the orders that were handed in
      counts : {X : Type 0} (chosen : AccountName → OrderTerms → Bool) (m : Bool → Bool → OrderTerms → OrderTerms → X)
          → m (is_chosen chosen may.taker.order) (is_chosen chosen may.maker.order) may.taker.order.terms may.maker.order.terms ≡ m (is_chosen chosen taker) (is_chosen chosen maker) taker.terms maker.terms
      counts chosen m = λ i. m (is_chosen chosen (taker_is i)) (is_chosen chosen (maker_is i)) (taker_is i).terms (maker_is i).terms

      open_falls : {figure : List LiveOrder → ℕ} {chosen : AccountName → OrderTerms → Bool} {weight : ℕ → ℕ → ℕ} → IsOpenSum figure chosen weight
          → figure after.live + (cond (is_chosen chosen taker) (weight shares taker.terms.price) 0 + cond (is_chosen chosen maker) (weight shares maker.terms.price) 0) ≡ figure held.live
      open_falls {figure} {chosen} {weight} is =
          sym (counts chosen (λ p q t m. figure after.live + (cond p (weight shares t.price) 0 + cond q (weight shares m.price) 0))) ∙ filled_by is held f sound.numbers_differ may

      done_rises : (chosen : AccountName → OrderTerms → Bool)
          → done_of_chosen after.executions chosen ≡ done_of_chosen held.executions chosen + (cond (is_chosen chosen taker) shares 0 + cond (is_chosen chosen maker) shares 0)
      done_rises chosen = done_shares_filled chosen held f may ∙ counts chosen (λ p q t m. done_of_chosen held.executions chosen + (cond p shares 0 + cond q shares 0))

      paid : done_value after.executions among ≡ done_value held.executions among + (cond b (value shares price) 0 + cond c (value shares price) 0)
      paid = done_value_filled among held f may ∙ counts (of_accounts among) (λ p q t m. done_value held.executions among + (cond p (value shares price) 0 + cond q (value shares price) 0))

      module _ (stock : Symbol) (buys : Bool) where
        abbrev side : StockSide
        side = record { stock = stock; buys = buys }

        abbrev took : Bool
        took = b && changes_side (is_filled taker shares price) stock buys

        abbrev made : Bool
        made = c && changes_side (is_filled maker shares price) stock buys

        of_side : {X : Type 0} (m : Bool → Bool → X) → m (is_chosen (on_side among side) taker) (is_chosen (on_side among side) maker) ≡ m took made
        of_side m = λ i. m (on_its_own_side among (is_filled taker shares price) stock buys i) (on_its_own_side among (is_filled maker shares price) stock buys i)

        live_then : less made shares (less took shares (side_live held.live among side)) ≡ side_live after.live among side
        live_then =
            falls_twice took made (side_live held.live among side) (side_live after.live among side) shares shares
            (sym (of_side (λ p q. side_live after.live among side + (cond p shares 0 + cond q shares 0))) ∙ open_falls (shares_of (on_side among side)))

        done_then : more made shares (more took shares (side_done held.executions among side)) ≡ side_done after.executions among side
        done_then =
            rises_twice took made (side_done held.executions among side) (side_done after.executions among side) shares (done_shares after.executions anyone)
            (done_rises (on_side among side) ∙ of_side (λ p q. side_done held.executions among side + (cond p shares 0 + cond q shares 0))) (done_fit after.executions (on_side among side)) (wide fit.done_shares)

      pub filled_total : totals_filled taker maker shares price (total_of held) among ≡ total_of after among
      filled_total =
          filled_so taker maker shares price (total_of held) among
          ∙ (λ i. record {
            shares = record {
              live = falls_twice b c (live_shares held.live among) (live_shares after.live among) shares shares (open_falls (shares_of (of_accounts among))) i;
              done = rises_twice b c (done_shares held.executions among) (done_shares after.executions among) shares (done_shares after.executions anyone) (done_rises (of_accounts among)) (done_fit after.executions (of_accounts among)) (wide fit.done_shares) i;
            };
            value = record {
              live = falls_twice b c (live_value held.live among) (live_value after.live among) (value shares taker.terms.price) (value shares maker.terms.price) (open_falls (value_of among)) i;
              done = rises_twice b c (done_value held.executions among) (done_value after.executions among) (value shares price) (done_value after.executions anyone) paid (done_value_fit after.executions among) fit.done_value i;
            };
            moments = moments_of held.grants among;
            enters = enters_of held.grants among;
            sides = λ stock buys. record { live = live_then stock buys i; done = done_then stock buys i };
          })

    -- the last price of any stock
    price_then : (stock : Symbol) → reference policy after.executions stock ≡ cond (same_stock maker.terms.stock stock) price (reference policy held.executions stock)
    price_then stock =
        ap (λ (es : List Execution). reference policy (held.executions ++ es) stock) (sides_are held f may)
        ∙ reference_more policy held.executions (both_sides f may.taker.grant may.maker.grant) stock
        ∙ (λ i. unwrap_or (last_or None (cons_option (where_true (same_stock (taker_stock i) stock) price) (cons_option (where_true (same_stock (maker_stock i) stock) price) []))) (reference policy held.executions stock))
        ∙ both (same_stock maker.terms.stock stock)
      where
        both : (b : Bool) → unwrap_or (last_or None (cons_option (where_true b price) (cons_option (where_true b price) []))) (reference policy held.executions stock) ≡ cond b price (reference policy held.executions stock)
        both true = refl
        both false = refl

    pub filled_prices : prices_with maker.terms.stock price (prices_of policy held) ≡ prices_of policy after
    filled_prices = each policy.stocks
      where
        each : (stocks : List Stock) → prices_with maker.terms.stock price (map (λ (s : Stock). (s.name, reference policy held.executions s.name)) stocks) ≡ map (λ (s : Stock). (s.name, reference policy after.executions s.name)) stocks
        each [] = refl
        each (s ∷ stocks) = λ i. (s.name, sym (price_then s.name) i) ∷ each stocks i

    -- and no fill was made in a stock that is not listed
    pub filled_unlisted : (stock : Symbol) → is_some (stock_named policy stock) ≡ false → reference policy held.executions stock ≡ 0 → reference policy after.executions stock ≡ 0
    filled_unlisted stock other before = price_then stock ∙ by (same_stock maker.terms.stock stock) refl
      where
        by : (b : Bool) → same_stock maker.terms.stock stock ≡ b → cond b price (reference policy held.executions stock) ≡ 0
        by true h = absurd (true≢false (sym listed ∙ ap (λ name. is_some (stock_named policy name)) (stock_is maker.terms.stock stock h) ∙ other))
        by false h = before

    -- both sides of the fill are in a listed stock
    filled_made : AllByRecursion (IsMadeIn policy) held.executions → AllByRecursion (IsMadeIn policy) after.executions
    filled_made all =
        let theirs : AllByRecursion (IsMadeIn policy) (both_sides f may.taker.grant may.maker.grant) =
        (ap (λ (stock : Symbol). is_some (stock_named policy stock)) taker_stock ∙ listed, (ap (λ (stock : Symbol). is_some (stock_named policy stock)) maker_stock ∙ listed, tt)) in
        all_both (IsMadeIn policy) held.executions (executed_by (turns.Fills f) held.grants) all (subst (AllByRecursion (IsMadeIn policy)) (sym (sides_are held f may)) theirs)

pub fill_carries : (taker maker : LiveOrder) (shares price : ℕ) (k : LedgerData)
    → Fills taker maker shares price k (with_price maker.terms.stock price (data_after (is_filled maker shares price) (data_after (is_filled taker shares price) k)))
fill_carries taker maker shares price k policy held stands sound are sound_then =
    let between : LedgerData = data_after (is_filled taker shares price) k in
    let first = kept_follows policy k (total_of held) (is_filled taker shares price) stands.accounts_differ stands.tallies in
    let both = kept_follows policy between (totals_after (is_filled taker shares price) (total_of held)) (is_filled maker shares price) stands.accounts_differ first in
    let then_is = filled_is held policy taker maker shares price sound in
    subst (StandsFor policy (with_price maker.terms.stock price (data_after (is_filled maker shares price) between))) (sym then_is) (record {
      accounts = stands.accounts;
      accounts_differ = stands.accounts_differ;
      unlisted = λ stock other. filled_unlisted held policy taker maker shares price sound are stock other (stands.unlisted stock other);
      all_made = filled_made held policy taker maker shares price sound are stands.all_made;
      prices = ap (prices_with maker.terms.stock price) stands.prices ∙ filled_prices held policy taker maker shares price sound are;
      tallies = both ∙ tallies_same policy k _ _ (filled_total held policy taker maker shares price sound are (subst (AreSound policy) then_is sound_then));
    })
