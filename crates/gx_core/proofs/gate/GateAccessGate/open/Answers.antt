use Rattle.gx_core.proofs.Gate_next.{keep_none}
use Rattle.gx_core.proofs.gate.GateAccessGate.open.Goals as goal

pub invariant_of-result : goal.invariant_of-result
invariant_of-result c =
    keep_none {policy = c.in_ok-policy.policy} c.in-Ok.history.records c.in-Ok.history.reserved c.in-Ok-new.state c.in-Ok.ensures.records
    c.in-Ok.ensures.enough (record { in_force = c.in-Ok-new.ensures.in_force; told = c.in-Ok-new.ensures.kept })
