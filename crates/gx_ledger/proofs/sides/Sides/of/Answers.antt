use Rattle.std.proofs.Common.{◌∙◌, ◌<◌, arith, length, refl}
use Rattle.gx_policy.specs.declared.policy.Stock.{Stock}
use Rattle.gx_ledger.specs.Running.{no_sides}
use Rattle.gx_ledger.proofs.Entries_changed.{next_value}
use Rattle.gx_ledger.proofs.sides.Sides.of.Goals as goal

pub loop-stock-preserved : goal.loop-stock-preserved
loop-stock-preserved c =
    let within : c.loop-stock.stock-index < length c.args.stocks.now = omega (arith, c.loop-stock-test.true) in
    c.in_ok-insert.ensures.entries ∙ next_value (λ (s : Stock). no_sides) c.args.stocks.now c.loop-stock.sums.entries c.loop-stock.stock-index _ _ c.requires within c.loop-stock.invariant refl
