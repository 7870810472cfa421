use Rattle.std.proofs.Common.{◌≡◌, map, take}
use Rattle.gx_overview.specs.Rules.{listing_row}
use Rattle.gx_overview.proofs.rules.listing_rows_of.Given as goal

abbrev pub invariant-loop-stock : goal.invariant-loop-stock
invariant-loop-stock g l = l.rows.items ≡ map (listing_row (g.G.AccessGate.state l.gate).policy (g.G.AccessGate.state l.gate).records l.rule) (take l.stock-index l.stocks)
