use Rattle.gx_shared.proofs.serving.serve.Given as goal
use Rattle.gx_shared.specs.Permits.{all_parts}

-- the table and the ledger of lines that were just made, and the policy handed in
abbrev pub ghosts-serve_named-N-GateName : goal.ghosts-serve_named-N-GateName
ghosts-serve_named-N-GateName g a = record { table = a.blank; policy = a.policy.now; lines = a.ledgers.lines }

-- the ledger of records that was just made
abbrev pub ghosts-serve_named-N-Ledger : goal.ghosts-serve_named-N-Ledger
ghosts-serve_named-N-Ledger g a = record { name = a.ledgers.records; parts = all_parts }
