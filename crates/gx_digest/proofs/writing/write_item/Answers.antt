use Rattle.std.proofs.Common.{[], ◌∷◌, sym, subst}
use Rattle.gx_digest.specs.Hashing.{TakesIn}
use Rattle.gx_digest.proofs.Digest_next.{two, one_item}
use Rattle.gx_digest.proofs.writing.write_item.Goals as goal

pub returns : goal.returns
returns g c =
    let text = g.T.Written.text in
    subst (TakesIn c.args.hasher.now c.write.new.hasher) (sym (one_item text c.args.item.now))
    (two c.args.hasher.now c.put.new.hasher c.write.new.hasher (44 ∷ []) (text c.args.item.now) c.put.ensures c.write.ensures)
