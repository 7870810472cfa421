use Rattle.gx_laws.proofs.{KilledAccounts_denied.granted_is_not_killed, KilledAccounts_empty.{killed_are_not_live, killed_have_no_orders}, Kills_lifted.kill_ends_by_lift}
use Rattle.gx_laws.proofs.effects.killed_accounts_do_not_trade.Goals as goal

pub returns : goal.returns
returns c = record { none_placed = granted_is_not_killed; none_live = killed_are_not_live; no_orders = killed_have_no_orders; until_lifted = kill_ends_by_lift }
