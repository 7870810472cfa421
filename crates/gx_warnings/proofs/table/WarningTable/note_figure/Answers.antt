use Rattle.gx_warnings.proofs.Table_next.{read_so}
use Rattle.gx_warnings.proofs.table.WarningTable.note_figure.Goals as goal
use Rattle.gx_units.proofs.Results_hold.{ok_then}

pub returns : goal.returns
returns g c =
    let policy = (g.G.AccessGate.state c.args.gate.now).policy in
    let records = (g.G.AccessGate.state c.args.gate.now).records in
    record {
      noted =
          ok_then c.note_shares.result
          (read_so policy c.policy.result.now records c.args.shares.now c.args.self.now.entries.entries c.note_shares.new.self.entries.entries c.args.figure c.used.result c.in-Some.used c.key_of-key.result
          c.reading-now.result c.policy.ensures c.used.ensures c.in-Some.is c.key_of-key.ensures c.reading-now.ensures)
          c.note_shares.ensures.noted;
    }
