use Rattle.std.proofs.Common.{◌≡◌, IsTrue, map, take}
use Rattle.gx_policy.specs.Soundness.{is_sound}
use Rattle.gx_trading_status.proofs.Status_table.{entry_off}
use Rattle.gx_trading_status.proofs.status.no_lines.Given as goal

abbrev pub invariant-loop-user : goal.invariant-loop-user
invariant-loop-user l = (l.lines.entries ≡ map entry_off (take l.user-index l.user-items)) × (l.user-items ≡ l.fn.policy.users) × IsTrue (is_sound l.fn.policy)
