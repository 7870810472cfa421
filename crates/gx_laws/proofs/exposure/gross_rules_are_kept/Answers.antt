use Rattle.gx_laws.proofs.RunningSums_kept.{gross_shares_are_kept, gross_values_are_kept, none_asked_none_held}
use Rattle.gx_laws.proofs.exposure.gross_rules_are_kept.Goals as goal

pub returns : goal.returns
returns c = record { shares = gross_shares_are_kept; values = gross_values_are_kept; none = none_asked_none_held }
