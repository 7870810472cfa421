use Rattle.std.proofs.Common.{◌∙◌}
use Rattle.gx_board.proofs.Replica_next.{none_behind}
use Rattle.gx_board.proofs.board.Board.view.Goals as goal

pub view_behind-requires-in-Ok : goal.view_behind-requires-in-Ok
view_behind-requires-in-Ok g c = record {
  replica = none_behind g.D.Door.policy (g.D.Door.observed c.self.inside.pass).front c.in-Ok.replica (c.in-Ok.ensures.policy ∙ c.requires.policy) c.in-Ok.ensures.records;
}
