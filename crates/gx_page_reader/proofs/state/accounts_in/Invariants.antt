use Rattle.std.proofs.Common.{◌≡◌, [], drop}
use Rattle.serde_json.specs.View.{items_view}
use Rattle.gx_page_reader.specs.States.{accounts_behind}
use Rattle.gx_page_reader.proofs.state.accounts_in.Given as goal

abbrev pub invariant-loop-row : goal.invariant-loop-row
invariant-loop-row l = accounts_behind l.names.items (items_view (drop l.row-index l.rows)) ≡ accounts_behind [] (items_view l.rows)
