use Rattle.std.proofs.Common.{rules}
use Rattle.gx_ledger.specs.Cells.{spread_key}
use Rattle.gx_ledger.proofs.enters.spread.Goals as goal

pub returns : goal.returns
unfolding spread_key
returns c = search rules
