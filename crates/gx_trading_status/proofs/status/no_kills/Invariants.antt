use Rattle.std.proofs.Common.{◌≡◌, IsTrue, map, take}
use Rattle.gx_policy.specs.Soundness.{is_sound}
use Rattle.gx_trading_status.proofs.Status_table.{entry_unkilled}
use Rattle.gx_trading_status.proofs.status.no_kills.Given as goal

abbrev pub invariant-loop-account : goal.invariant-loop-account
invariant-loop-account l = (l.kills.entries ≡ map entry_unkilled (take l.account-index l.account-items)) × (l.account-items ≡ l.fn.policy.accounts) × IsTrue (is_sound l.fn.policy)
