use Rattle.std.proofs.Common.{◌≡◌}
use mathlib.Core.List.{IsPrefix}
use Rattle.gx_pass.specs.Views.{mine}
use Rattle.gx_board.specs.Replicas.{IsReplica}
use Rattle.gx_board.proofs.board.view_behind.Given as goal

abbrev pub invariant-loop : goal.invariant-loop
invariant-loop g l = record {
  next : (goal.iterator-loop g).can_next l.iterator';
  finite : (goal.iterator-loop g).is_finite l.iterator';
  front : IsPrefix (g.D.Door.observed l.fn.pass).front (g.D.Door.observed l.pass).front;
  own : mine (g.D.Door.observed l.pass) ≡ mine (g.D.Door.observed l.fn.pass);
  replica : IsReplica g.D.Door.policy (g.D.Door.observed l.pass).front l.replica;
}
