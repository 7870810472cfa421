-- A fill is between two live orders that have its shares open.
use Rattle.std.proofs.{Common.{◌≡◌, ℕ, ◌-◌, ◌<◌, ◌≤◌, List, ◌∙◌, ap, sym, arith}, Math.Path.subst, lemmas.Bool.{ltb-true, ne_eqb}}
use Rattle.std.specs.Prelude.{Some, min}
use Rattle.gx_policy.specs.declared.policy.PolicyData.{PolicyData}
use Rattle.gx_history.specs.{declared.{live_order.LiveOrder.LiveOrder, «record».{Fill.Fill, RecordData.RecordData, Step.Step, Verdict.Verdict}}, Live.{live_numbered, live}, LiveOrders.shares_open, Matched.IsFair, Matching.fill_with, Verdicts.{IsLegal, next}}
use Rattle.gx_laws.proofs.{Fills_executed.{IsFill, is_fill, taker_is_not_maker}, NamedOrders_only.IsOfKnown, Runs_orderly.legal_is_orderly}

some_open : {policy : PolicyData} {history : List RecordData} (o : LiveOrder) → IsOfKnown policy history o → 0 < shares_open o
some_open o known = at (subst (λ (p : LiveOrder). p.done < p.total) known.is_it (ltb-true _ _ known.has_some))
  where
    at : o.done < o.total → 0 < o.total - o.done
    at h = omega arith

least : (a b : ℕ) → 0 < a → 0 < b → (0 < min a b) × (min a b ≤ a) × (min a b ≤ b)
least a b h k = (omega arith, omega arith, omega arith)

pub fills_are_fair : (policy : PolicyData) (history : List RecordData) (handed : ℕ) (r : RecordData) (f : Fill) → IsLegal policy history
    → next policy history (Step.Matching handed) ≡ Some r → r.verdict ≡ Verdict.Filled f → IsFair policy history f
fills_are_fair policy history handed r f legal left fills =
    let is : IsFill policy history r f = is_fill handed r f (legal_is_orderly legal) left fills in
    let theirs : Fill = fill_with is.may.taker is.may.maker in
    let few : theirs.shares ≡ f.shares = ap (λ (x : Fill). x.shares) (sym is.may.is_theirs) in
    let parts : (0 < theirs.shares) × (theirs.shares ≤ shares_open is.may.taker) × (theirs.shares ≤ shares_open is.may.maker) =
    least (shares_open is.may.taker) (shares_open is.may.maker) (some_open is.may.taker is.taker_waits.known.of) (some_open is.may.maker is.maker_rests.known.of) in
    record {
      taker = is.may.taker;
      maker = is.may.maker;
      taker_lives = ap (live_numbered (live policy history)) is.of_taker ∙ is.taker_waits.known.is_found;
      maker_lives = ap (live_numbered (live policy history)) is.of_maker ∙ is.maker_rests.known.is_found;
      they_differ = ne_eqb f.taker f.maker (λ equal.
          taker_is_not_maker policy history is.may.taker is.may.maker is.taker_waits.has_not_rested is.maker_rests.has_come_to_rest (sym is.of_taker ∙ equal ∙ is.of_maker));
      other_side = is.maker_rests.there;
      at_its_price = ap (λ (x : Fill). x.price) is.may.is_theirs;
      some_shares = subst (λ (n : ℕ). 0 < n) few parts.0;
      taker_has_them = subst (λ (n : ℕ). n ≤ shares_open is.may.taker) few parts.1;
      maker_has_them = subst (λ (n : ℕ). n ≤ shares_open is.may.maker) few parts.2;
    }
