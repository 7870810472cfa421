use Rattle.gx_policy.specs.Kinds.{with_stocks}
use Rattle.std.proofs.Common.{◌∙◌, ap}
use Rattle.gx_history.specs.InForce.{with_stock}
use Rattle.gx_rules.proofs.{Entries_next.insert_is_adding, Stocks_apart.changed_stocks}
use Rattle.gx_rules.proofs.book_rule.BookRule.restrict.Goals as goal

pub returns-clause-kind : goal.returns-clause-kind
returns-clause-kind c =
    ap (λ stocks. with_stocks (λ listed. stocks) c.args.self.now.kind) (c.in_ok-insert.ensures.keys ∙ insert_is_adding c.args.self.now.stocks.keys c.args.stock)
    ∙ changed_stocks (with_stock c.args.stock) c.args.self.now.stocks.keys c.args.self.now.kind
