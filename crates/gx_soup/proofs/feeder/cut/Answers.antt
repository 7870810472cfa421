use Rattle.std.proofs.Common.{sym, ◌∙◌, arith}
use Rattle.gx_soup.proofs.{Feeder_call.{cut_at_short, cut_at_fault, cut_behind, cut_end, cut_within}, Rest_bounds.rest_bounded}
use Rattle.gx_soup.proofs.feeder.cut.Goals as goal

pub returns-in-Short-clause-packets : goal.returns-in-Short-clause-packets
returns-in-Short-clause-packets c = cut_at_short _ _ _ c.loop-used.invariant.told _ (sym c.in-Short.is ∙ c.in_ok-put_front.ensures.told) c.in_ok-put_front.ensures.put

pub returns-in-Faulty-clause-packets : goal.returns-in-Faulty-clause-packets
returns-in-Faulty-clause-packets c = cut_at_fault _ _ _ c.loop-used.invariant.told _ _ (sym c.in-Faulty.is ∙ c.in_ok-put_front.ensures.told) c.in_ok-put_front.ensures.put

pub returns-in-Short-clause-bounded : goal.returns-in-Short-clause-bounded
returns-in-Short-clause-bounded c =
    rest_bounded _ _ _ _ (cut_at_short _ _ _ c.loop-used.invariant.told _ (sym c.in-Short.is ∙ c.in_ok-put_front.ensures.told) c.in_ok-put_front.ensures.put) (λ i. omega (arith, c.type_inv.bytes i))

pub returns-in-Faulty-clause-bounded : goal.returns-in-Faulty-clause-bounded
returns-in-Faulty-clause-bounded c =
    rest_bounded _ _ _ _ (cut_at_fault _ _ _ c.loop-used.invariant.told _ _ (sym c.in-Faulty.is ∙ c.in_ok-put_front.ensures.told) c.in_ok-put_front.ensures.put) (λ i. omega (arith, c.type_inv.bytes i))

pub returns-clause-bounded : goal.returns-clause-bounded
returns-clause-bounded c = rest_bounded _ _ _ _ (cut_end _ _ _ c.loop-used.invariant.told c.loop-used-test.false) (λ i. omega (arith, c.type_inv.bytes i))

pub overflow_add-used : goal.overflow_add-used
overflow_add-used c =
    let takes = cut_within _ _ _ c.loop-used.invariant.told _ (sym c.in-Whole.is ∙ c.in_ok-put_front.ensures.told) in
    omega (arith, takes.1)

pub loop-used-smaller : goal.loop-used-smaller
loop-used-smaller c =
    let takes = cut_within _ _ _ c.loop-used.invariant.told _ (sym c.in-Whole.is ∙ c.in_ok-put_front.ensures.told) in
    omega (arith, takes.0, takes.1, c.loop-used.invariant.within)

pub loop-used-preserved : goal.loop-used-preserved
loop-used-preserved c =
    let is_whole = sym c.in-Whole.is ∙ c.in_ok-put_front.ensures.told in
    let takes = cut_within _ _ _ c.loop-used.invariant.told _ is_whole in
    record {
      within = omega (arith, takes.1, c.loop-used.invariant.within);
      told = cut_behind _ _ _ c.loop-used.invariant.told _ _ is_whole c.in_ok-put_front.ensures.put;
    }

pub returns-clause-packets : goal.returns-clause-packets
returns-clause-packets c = cut_end _ _ _ c.loop-used.invariant.told c.loop-used-test.false
