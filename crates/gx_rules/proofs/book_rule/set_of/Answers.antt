use Rattle.std.proofs.Common.{◌∙◌, length, ◌<◌, arith, refl}
use Rattle.gx_rules.proofs.Entries_next.{next_stock}
use Rattle.gx_rules.proofs.book_rule.set_of.Goals as goal

pub loop-stock-preserved : goal.loop-stock-preserved
loop-stock-preserved c =
    let within : c.loop-stock.stock-index < length c.args.stocks.now = omega (arith, c.loop-stock-test.true) in
    c.in_ok-insert.ensures.keys ∙ next_stock c.args.stocks.now c.loop-stock.set.keys c.loop-stock.stock-index _ _ c.requires within c.loop-stock.invariant refl
