use Rattle.gx_policy.specs.Kinds.{with_stocks}
use Rattle.std.proofs.Common.{◌∙◌, ap, sym}
use Rattle.std.specs.List.{list_any}
use Rattle.gx_units.specs.Names.{same_stock}
use Rattle.gx_history.specs.InForce.{without_stock}
use Rattle.gx_rules.proofs.{Entries_next.remove_is_removing, Stocks_apart.changed_stocks}
use Rattle.gx_rules.proofs.book_rule.BookRule.unrestrict.Goals as goal

pub returns-clause-kind : goal.returns-clause-kind
returns-clause-kind c =
    ap (λ stocks. with_stocks (λ listed. stocks) c.args.self.now.kind) (c.shift_remove.ensures.keys ∙ remove_is_removing c.args.self.now.stocks.keys c.args.stock (ap (list_any (same_stock c.args.stock)) (sym c.shift_remove.ensures.keys) ∙ c.shift_remove.ensures.updates.1))
    ∙ changed_stocks (without_stock c.args.stock) c.args.self.now.stocks.keys c.args.self.now.kind
