use Rattle.std.proofs.Common.{◌≡◌, take}
use Rattle.gx_gate_state.proofs.Readers_next.{sent_users}
use Rattle.gx_gate_state.proofs.state.send_to_readers.Given as goal

abbrev pub invariant-loop-user : goal.invariant-loop-user
invariant-loop-user l = (l.streams ≡ sent_users l.fn.policy l.fn.people (take l.user-index l.user-items) l.fn.streams) × (l.user-items ≡ l.fn.policy.users)
