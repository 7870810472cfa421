use Rattle.std.proofs.Common.{arith, sym, ap, ◌∙◌, ◌-◌}
use Rattle.gx_ledger.proofs.{Moments_latest.{one_more_recent, recent_from}, moments.recent_in_turn.Goals.{then-loop-left-test+else-is_recent, else-loop-left-test}}
use Rattle.gx_ledger.proofs.moments.recent_in_turn.Goals as goal

pub loop-left-init : goal.loop-left-init
loop-left-init c = record { len = c.len-len.ensures.len; within = omega arith; passed = λ k from to. absurd (omega (arith, from, to, c.len-len.ensures.len)) }

pub loop-left-preserved : goal.loop-left-preserved
loop-left-preserved c =
    let kept = c.loop-left.invariant in
    record {
      len = kept.len;
      within = omega (arith, kept.within);
      passed =
          one_more_recent c.args.ring.now.items c.args.window c.args.moment c.loop-left.left c.loop-left-test.true (omega (arith, kept.within, kept.len))
          (sym c.is_recent.ensures ∙ c.if-is_recent.true) kept.passed;
    }

pub returns : goal.returns
returns c =
    let kept = c.loop-left.invariant in
    let moments = c.args.ring.now.items in
    ap (λ n. n - c.loop-left.left) kept.len
    ∙ recent_from moments c.args.window c.args.moment c.loop-left.left (omega (arith, kept.within, kept.len)) kept.passed
    (elim c.loop-left-test.branch [
      | then-loop-left-test+else-is_recent w ↦ λ some. sym w.is_recent.ensures ∙ w.if-is_recent.false
      | else-loop-left-test w ↦ λ some. absurd (omega (arith, some, w.loop-left-test.false))
    ])
