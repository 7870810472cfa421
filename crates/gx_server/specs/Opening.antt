-- On which policy a gate opens, and what is told of a policy file.
use Rattle.std.specs.Prelude.{◌≡◌, ℕ, List, Option, Some, None, Result, Ok, Err}
use Rattle.gx_policy.specs.{declared.policy.PolicyData.PolicyData, Samples.sample}
use Rattle.gx_policyvalues.specs.declared.fault.FaultKind.{FaultKind}
use Rattle.gx_policyfile.specs.Policies.{means}
use Rattle.gx_connection.specs.declared.fault.PipeFault.{PipeFault}
use Rattle.gx_server.specs.{declared.program_fault.ProgramFault.{ProgramFault, TheVariants.{Pipe, Policy}}, Policies.policy_line}

-- the policy to open on: what the file means, or else the sample policy
abbrev pub policy_for : Option (List ℕ) → Result PolicyData FaultKind
policy_for (Some bytes) = means bytes
policy_for None = Ok sample

-- What is meant has this fault; where memory ran out nothing is said.
abbrev pub IsFaultOf : {X : Type 0} → Result X FaultKind → ProgramFault → Type 0
IsFaultOf meant (Policy fault) = meant ≡ Err fault.kind
IsFaultOf meant (Pipe PipeFault.OutOfMemory) = Unit {0}
IsFaultOf meant other = ⊥

-- what is told of the policy that is meant by a file of this version
abbrev pub line_for : Result ℕ FaultKind → Result PolicyData FaultKind → Result (List ℕ) FaultKind
line_for (Ok version) (Ok policy) = Ok (policy_line version policy)
line_for (Ok version) (Err kind) = Err kind
line_for (Err kind) meant = Err kind
