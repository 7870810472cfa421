use Rattle.std.proofs.{Common.{◌++◌, ◌∙◌, ap, arith, subst, sym}, lemmas.List.{append-nil, take_all}}
use Rattle.gx_audit_bytes.specs.Audits.{all_bytes, AreShown}
use Rattle.gx_audit_bytes.proofs.Records_next.{bytes_behind, no_bytes, shown_on}
use Rattle.gx_audit_bytes.proofs.records.put_record_bytes.Goals as goal

pub loop-given-init : goal.loop-given-init
loop-given-init c = record {
  bytes = sym (ap (λ bs. c.args.bytes.now.items ++ bs) (no_bytes c.args.version) ∙ append-nil c.args.bytes.now.items);
  shown = tt;
  len = omega arith;
  room = omega arith;
}

pub loop-given-preserved : goal.loop-given-preserved
loop-given-preserved c = record {
  bytes =
      bytes_behind c.args.version c.args.records.now c.loop-given.given-index c.given-item.result c.given-item.result c.args.bytes.now.items c.loop-given.bytes.items c.put.new.bytes.items
      c.loop-given-test.true c.given-item.is c.loop-given.invariant.bytes c.put.ensures.bytes;
  shown =
      shown_on c.args.version c.args.records.now c.loop-given.given-index c.given-item.result c.given-item.result
      c.loop-given-test.true c.given-item.is c.loop-given.invariant.shown c.put.ensures.shown;
  len = omega (arith, c.put.ensures.len, c.loop-given.invariant.len);
  room = omega (arith, c.put.ensures.room, c.loop-given.invariant.room);
}

pub returns : goal.returns
returns c =
    let all = take_all c.loop-given.given-index c.args.records.now c.loop-given-test.false in
    record {
      bytes = c.loop-given.invariant.bytes ∙ ap (λ rs. c.args.bytes.now.items ++ all_bytes c.args.version rs) all;
      shown = subst (AreShown c.args.version) all c.loop-given.invariant.shown;
      room = c.loop-given.invariant.room;
    }
