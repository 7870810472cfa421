-- What was executed is worth no more than at the order's own price, but for what a sell got above it.
use Rattle.std.proofs.{Common.{◌≡◌, ℕ, ◌+◌, ◌-◌, ◌≤◌, Bool, true, false, cond, leb, List, [], ◌∷◌, ◌++◌, refl, sym, ap, ◌∙◌, arith}, Math.{Path.subst, Nat.mul-le-mul_left}, lemmas.{Bool.leb-true, List.append-nil}}
use Rattle.std.specs.Prelude.{Some}
use Rattle.gx_units.specs.Money.{value}
use Rattle.gx_units.proofs.Lists_hold.{all_both}
use Rattle.gx_policy.specs.declared.policy.PolicyData.{PolicyData}
use Rattle.gx_history.specs.{declared.{«record».{Fill.Fill, RecordData.RecordData, Step.Step, Verdict.Verdict}, live_order.LiveOrder.LiveOrder}, Book.is_buy, Executions.{executions, sides}, Requests.is_judged, Verdicts.{Follows, IsLegal, next}}
use Rattle.gx_ouch.specs.declared.outbound.OrderTerms.{OrderTerms}
use Rattle.gx_laws.proofs.{Requests_judged.{asked_is_judged, legal_keeps}, Orders_next.{executions_next, executions_none}, Streams_next.{legal_next, legal_none}, Fills_executed.{IsFill, both_sides, is_fill, sides_are}, Runs_orderly.legal_is_orderly, Exposure_turn.{AreWorth, IsWorth}}

-- a buy at or below its own price, or a sell at any
worth_by : (b : Bool) (shares price own : ℕ) → (b ≡ true → price ≤ own) → value shares price ≤ value shares own + cond b 0 (value shares (price - own))
worth_by true shares price own h = let more = mul-le-mul_left shares (h refl) in omega (arith, more)
worth_by false shares price own h =
    let above : price ≤ own + (price - own) = omega arith in
    let more = mul-le-mul_left shares above in
    omega (arith, more)

taker_pays : (b : Bool) (own other : ℕ) → elim b as (λ _. Bool) [ true ↦ leb other own | false ↦ leb own other ] ≡ true → b ≡ true → other ≤ own
taker_pays true own other h e = leb-true other own h
taker_pays false own other h e = cc

-- the side of the order that was granted on these terms
side_is_worth : (f : Fill) (terms of_grant : OrderTerms) → of_grant ≡ terms → (is_buy terms.side ≡ true → f.price ≤ terms.price)
    → value f.shares f.price ≤ value f.shares of_grant.price + cond (is_buy of_grant.side) 0 (value f.shares (f.price - of_grant.price))
side_is_worth f terms of_grant same pays =
    subst (λ (t : OrderTerms). value f.shares f.price ≤ value f.shares t.price + cond (is_buy t.side) 0 (value f.shares (f.price - t.price))) (sym same) (worth_by (is_buy terms.side) f.shares f.price terms.price pays)

fill_is_worth : {policy : PolicyData} {before : List RecordData} (r : RecordData) (f : Fill) (is : IsFill policy before r f)
    → AreWorth (both_sides f is.taker_waits.known.of.order is.maker_rests.known.of.order)
fill_is_worth r f is =
    let price : f.price ≡ is.may.maker.terms.price = ap (λ (g : Fill). g.price) is.may.is_theirs in
    let of_taker : is_buy is.may.taker.terms.side ≡ true → f.price ≤ is.may.taker.terms.price =
    λ e. let most = taker_pays (is_buy is.may.taker.terms.side) is.may.taker.terms.price is.may.maker.terms.price is.may.cross e in omega (arith, most, price) in (
      side_is_worth f is.may.taker.terms is.taker_waits.known.of.order.terms (ap (λ (o : LiveOrder). o.terms) is.taker_waits.known.of.is_it) of_taker,
      (side_is_worth f is.may.maker.terms is.maker_rests.known.of.order.terms (ap (λ (o : LiveOrder). o.terms) is.maker_rests.known.of.is_it) (λ e. omega (arith, price)), tt),
    )

-- of each execution of a legal history
pub executions_are_worth : {policy : PolicyData} {history : List RecordData} → IsLegal policy history → AreWorth (executions policy history)
executions_are_worth {policy} legal =
    (legal_keeps (λ (h : List RecordData). IsLegal policy h × AreWorth (executions policy h)) (legal_none policy, subst AreWorth (sym (executions_none policy)) tt)
    (λ h r kept follows. (legal_next r kept.0 follows, one_more h r kept.0 kept.1 follows)) legal).1
  where
    as_before : (h : List RecordData) (r : RecordData) → AreWorth (executions policy h) → sides policy h r.verdict ≡ [] → AreWorth (executions policy (h ++ r ∷ []))
    as_before h r worth none = subst AreWorth (sym (executions_next policy h r ∙ ap (λ es. executions policy h ++ es) none ∙ append-nil (executions policy h))) worth

    by_fill : (h : List RecordData) (r : RecordData) (f : Fill) (step : Step) → IsLegal policy h → AreWorth (executions policy h) → next policy h step ≡ Some r → r.verdict ≡ Verdict.Filled f
        → AreWorth (executions policy (h ++ r ∷ []))
    by_fill h r f (Step.Asked a) legal worth left fills = let judged : false ≡ true = ap is_judged (sym fills) ∙ asked_is_judged policy h a r left in cc
    by_fill h r f (Step.Matching handed) legal worth left fills =
        let is : IsFill policy h r f = is_fill handed r f (legal_is_orderly legal) left fills in
        subst AreWorth (sym (executions_next policy h r ∙ ap (λ es. executions policy h ++ es) (sides_are r f is)))
        (all_both IsWorth (executions policy h) (both_sides f is.taker_waits.known.of.order is.maker_rests.known.of.order) worth (fill_is_worth r f is))

    one_more : (h : List RecordData) (r : RecordData) → IsLegal policy h → AreWorth (executions policy h) → Follows policy (h, r) → AreWorth (executions policy (h ++ r ∷ []))
    one_more h r legal worth follows = at r.verdict refl
      where
        at : (v : Verdict) → r.verdict ≡ v → AreWorth (executions policy (h ++ r ∷ []))
        at Verdict.Granted e = as_before h r worth (ap (sides policy h) e)
        at (Verdict.Denied rule) e = as_before h r worth (ap (sides policy h) e)
        at (Verdict.Filled f) e = by_fill h r f r.step legal worth follows.is_next e
        at (Verdict.Rested number) e = as_before h r worth (ap (sides policy h) e)
        at (Verdict.Expired number) e = as_before h r worth (ap (sides policy h) e)
