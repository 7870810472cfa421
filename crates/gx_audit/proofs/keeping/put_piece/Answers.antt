use Rattle.std.proofs.{Common.{◌∙◌, sym, arith}, lemmas.Option.get_or_from_slice_get}
use Rattle.gx_audit_bytes.proofs.Records_next.{bytes_on, no_bytes}
use Rattle.gx_audit.proofs.keeping.put_piece.Goals as goal

pub loop-place-init : goal.loop-place-init
loop-place-init c = record {
  bytes = c.clear.ensures ∙ sym (no_bytes c.args.version);
  size = search;
}

pub loop-place-preserved : goal.loop-place-preserved
loop-place-preserved c = record {
  bytes =
      bytes_on c.args.version c.args.piece.now c.loop-place.place c.at.result c.at.result c.loop-place.bytes.items c.put.new.bytes.items
      (omega (arith, c.loop-place-test.true, c.len-place-end.ensures)) (sym (get_or_from_slice_get c.args.piece.now c.loop-place.place c.at.result c.at.result c.at.ensures)) c.loop-place.invariant.bytes c.put.ensures.bytes;
  size = c.put.ensures.length ∙ omega arith;
}
