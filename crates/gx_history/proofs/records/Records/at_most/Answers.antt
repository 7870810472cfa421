use Rattle.std.proofs.{Common.{◌≡◌, take, ap, sym, ◌∙◌}, Math.Path.subst, lemmas.List.take-map}
use Rattle.gx_history.specs.Rows.{AllShowable, record_in, records_in}
use Rattle.gx_history.proofs.Rows_table.{showable_taken}
use Rattle.gx_history.proofs.records.Records.at_most.Goals as goal

-- the first of the rows stand for the first of the records
first : (c : goal.After-at_most) → take c.args.most (records_in c.self.inside.details.now.lists c.self.inside.rows.now) ≡ records_in c.self.inside.details.now.lists c.at_most.result.now
first c =
    take-map (record_in c.self.inside.details.now.lists) c.args.most c.self.inside.rows.now
    ∙ ap (records_in c.self.inside.details.now.lists) (sym c.at_most.ensures)

pub invariant_of-result : goal.invariant_of-result
invariant_of-result c = subst AllShowable (first c) (showable_taken (records_in c.self.inside.details.now.lists c.self.inside.rows.now) c.args.most c.self.invariant)

pub returns : goal.returns
returns c = sym (first c) ∙ ap (take c.args.most) c.self.view_is
