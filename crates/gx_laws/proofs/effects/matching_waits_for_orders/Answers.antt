use Rattle.gx_laws.proofs.{Runs_legal.idle_where_none_waits, Matches_allowed.idle_where_empty}
use Rattle.gx_laws.proofs.effects.matching_waits_for_orders.Goals as goal

pub returns : goal.returns
returns c = record { idle = idle_where_none_waits; nothing = idle_where_empty }
