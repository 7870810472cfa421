use Rattle.std.proofs.Common.{◌++◌, ◌∷◌, [], ◌∙◌, arith}
use Rattle.gx_history.proofs.Rows_table.{AddsOne, kept_then, pushed}
use Rattle.gx_history.proofs.history.History.push_reserved.Goals as goal

-- the record as it stands behind the row
adds : (c : goal.After-push_reserved) → AddsOne c.self.inside.details c.put-event.new.self c.self.inside.rows.items c.push_reserved.new.self.items c.as_content-left.result.now c.put-event.result
adds c = record {
  there = c.self.invariant.there;
  lists = c.put-event.ensures.lists;
  last = c.push_reserved.ensures.items;
  step = c.put-event.ensures.step;
  verdict = c.put-event.ensures.verdict;
  is_there = c.put-event.ensures.there;
}

pub invariant_of-self : goal.invariant_of-self
invariant_of-self c =
    kept_then c.self.inside.details c.put-event.new.self c.self.inside.rows.items c.push_reserved.new.self.items c.as_content-left.result.now c.put-event.result _ _ _ _ c.self.invariant (adds c) c.as_content-left.ensures.showable
    (omega (arith, c.self.invariant.room, c.put-event.ensures.reserved, c.push_reserved.ensures.len, c.push_reserved.ensures.capacity))

pub returns-clause-records : goal.returns-clause-records
returns-clause-records c =
    pushed c.self.inside.details c.put-event.new.self c.self.inside.rows.items c.push_reserved.new.self.items c.as_content-left.result.now c.put-event.result (adds c)
    ∙ (λ i. (c.self.view_is i).records ++ c.as_content-left.ensures.same i ∷ [])
