use Rattle.gx_laws.proofs.RunningSums_kept.{net_shares_are_kept, none_asked_none_on_side}
use Rattle.gx_laws.proofs.exposure.net_rules_are_kept.Goals as goal

pub returns : goal.returns
returns c = record { shares = net_shares_are_kept; none = none_asked_none_on_side }
