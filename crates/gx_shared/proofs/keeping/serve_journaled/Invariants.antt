use Rattle.gx_shared.proofs.keeping.serve_journaled.Given as goal
use Rattle.gx_shared.specs.Permits.{all_parts}

-- the table and the ledger of lines that were just made, and the gate's policy
abbrev pub ghosts-serve_named-N-GateName : goal.ghosts-serve_named-N-GateName
ghosts-serve_named-N-GateName g a = record { table = a.blank; policy = (g.G.AccessGate.state a.gate).policy; lines = a.ledgers.lines }

-- the ledger of records that was just made
abbrev pub ghosts-serve_named-N-Ledger : goal.ghosts-serve_named-N-Ledger
ghosts-serve_named-N-Ledger g a = record { name = a.ledgers.records; parts = all_parts }

-- what the device holds, how many of the gate's records are there, and in which version
abbrev pub ghosts-serve_named-J-JournalName : goal.ghosts-serve_named-J-JournalName
ghosts-serve_named-J-JournalName g a = record { begun = g.W.Write.contents a.device; count = a.count; earlier = (g.G.AccessGate.state a.gate).records; version = a.version }
