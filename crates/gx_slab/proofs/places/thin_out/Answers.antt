use Rattle.std.proofs.Common.{◌∙◌, ap}
use Rattle.gx_slab.specs.Slabs.{open_ones}
use Rattle.gx_slab.proofs.Order_written.{open_twice}
use Rattle.gx_slab.proofs.places.thin_out.Goals as goal

pub returns-clause-shown : goal.returns-clause-shown
returns-clause-shown c = ap open_ones c.sweep.ensures.left ∙ open_twice c.args.rows.now.items
