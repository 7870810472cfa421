use Rattle.gate_cases.proofs.shared_case.report_shared.Given as goal
use Rattle.gx_shared.specs.Permits.{all_parts}

-- the gate is of the policy and of the table that it is given
abbrev pub ghosts-report_shared_over-N-GateName : goal.ghosts-report_shared_over-N-GateName
ghosts-report_shared_over-N-GateName g a = record { table = a.blank; policy = a.policy.now; lines = a.ledgers.lines }

-- and of the ledger
abbrev pub ghosts-report_shared_over-N-Ledger : goal.ghosts-report_shared_over-N-Ledger
ghosts-report_shared_over-N-Ledger g a = record { name = a.ledgers.records; parts = all_parts }
