use Rattle.std.proofs.{Common.rules, lemmas.Fn.filter_same}
use Rattle.gx_orders.specs.Tables.{is_live_of}
use Rattle.gx_orders.proofs.numbers.sweep.Goals as goal

pub returns : goal.returns
returns c = filter_same _ (is_live_of c.args.account c.args.table.now) _ (λ x b f' t. search rules) _ _ c.retain.ensures.filtered
