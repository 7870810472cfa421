use Rattle.std.proofs.Common.{◌≡◌, [], drop}
use Rattle.serde_json.specs.View.{items_view}
use Rattle.gx_page_reader.specs.States.{limits_behind}
use Rattle.gx_page_reader.proofs.state.limits_in.Given as goal

abbrev pub invariant-loop-row : goal.invariant-loop-row
invariant-loop-row l = limits_behind l.limits.items (items_view (drop l.row-index l.rows)) ≡ limits_behind [] (items_view l.rows)
