-- How a day goes on once all its connections are gone.
use Rattle.std.specs.Prelude.{List}
use mathlib.Core.List.{IsPrefix}
use Rattle.gx_policy.specs.declared.policy.PolicyData.{PolicyData}
use Rattle.gx_history.specs.declared.record.RecordData.{RecordData}
use Rattle.gx_door.specs.Acts.{gate_at}
use Rattle.gx_leaving.specs.Logouts.{AddsLogouts, NobodyIsOn}

-- the later day begins with these records, and behind them with the logouts of all who were on, at the moment of the last
-- of these records
pub record GoesOn (policy : PolicyData) (records later : List RecordData) : Type 0 where
  pub earlier : List RecordData
  pub logouts : AddsLogouts 0 records earlier
  pub nobody_on : NobodyIsOn (gate_at policy earlier)
  pub front : IsPrefix earlier later
