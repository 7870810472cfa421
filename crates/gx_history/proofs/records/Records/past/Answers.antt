use Rattle.std.proofs.{Common.{◌≡◌, drop, ap, sym, ◌∙◌}, Math.Path.subst, lemmas.List.drop-map}
use Rattle.gx_history.specs.Rows.{AllShowable, record_in, records_in}
use Rattle.gx_history.proofs.Rows_table.{showable_past}
use Rattle.gx_history.proofs.records.Records.past.Goals as goal

-- the rows behind so many stand for the records behind so many
behind : (c : goal.After-past) → drop c.args.count (records_in c.self.inside.details.now.lists c.self.inside.rows.now) ≡ records_in c.self.inside.details.now.lists c.past.result.now
behind c =
    drop-map (record_in c.self.inside.details.now.lists) c.args.count c.self.inside.rows.now
    ∙ ap (records_in c.self.inside.details.now.lists) (sym c.past.ensures)

pub invariant_of-result : goal.invariant_of-result
invariant_of-result c = subst AllShowable (behind c) (showable_past (records_in c.self.inside.details.now.lists c.self.inside.rows.now) c.args.count c.self.invariant)

pub returns : goal.returns
returns c = sym (behind c) ∙ ap (drop c.args.count) c.self.view_is
