use Rattle.gx_digest.proofs.Digest_next.{next_item, nothing}
use Rattle.gx_digest.proofs.writing.write_items.Goals as goal

pub loop-item-init : goal.loop-item-init
loop-item-init g c = nothing g.T.Written.text c.args.hasher.now

pub loop-item-preserved : goal.loop-item-preserved
loop-item-preserved g c =
    next_item g.T.Written.text c.args.hasher.now c.loop-item.hasher c.write_item.new.hasher c.args.items.now c.loop-item.item-index c.item-item.result c.item-item.result
    c.loop-item-test.true c.item-item.is c.loop-item.invariant c.write_item.ensures
