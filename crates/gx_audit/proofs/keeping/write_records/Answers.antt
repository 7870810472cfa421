use Rattle.std.proofs.Common.{◌∙◌, refl, arith}
use Rattle.gx_units.proofs.Results_hold.{on_err}
use Rattle.gx_audit.proofs.Audit_next.{none_written, piece_cut, piece_written}
use Rattle.gx_audit.proofs.keeping.write_records.Goals as goal

pub loop-done-init : goal.loop-done-init
loop-done-init g c = record {
  within = omega arith;
  text = none_written c.args.version _;
  kept = refl;
}

pub loop-done-preserved : goal.loop-done-preserved
loop-done-preserved g c = record {
  within = omega arith;
  text = piece_written c.args.version _ _ _ c.args.records.now _ c.loop-done.done _ _ c.part.ensures (omega arith) c.loop-done.invariant.text c.in_ok-write_piece.ensures.written;
  kept = c.in_ok-write_piece.ensures.kept ∙ c.loop-done.invariant.kept;
}

pub returns-in_err-write_piece-clause-front : goal.returns-in_err-write_piece-clause-front
returns-in_err-write_piece-clause-front g c =
    on_err c.from_residual.result _
    (piece_cut c.args.version _ _ _ c.args.records.now _ c.loop-done.done _ c.part.ensures c.loop-done.invariant.text c.in_err-write_piece.ensures.front)
