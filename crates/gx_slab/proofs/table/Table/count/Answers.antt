use Rattle.std.proofs.{Common.arith, lemmas.List.Sums.{count_by-le-length, length-filter}}
use Rattle.gx_slab.specs.Slabs.{is_open}
use Rattle.gx_slab.proofs.table.Table.count.Goals as goal

-- no more are live than there are rows
pub returns-clause-few : goal.returns-clause-few
returns-clause-few c =
    omega (arith, c.self.invariant.counted, length-filter is_open c.self.inside.rows.items, count_by-le-length is_open c.self.inside.rows.items, c.self.inside.rows.ok, c.self.inside.rows.small)
