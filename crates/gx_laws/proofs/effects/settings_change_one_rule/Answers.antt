use Rattle.gx_laws.proofs.World_kinds.{restricts_change_one_rule, set_limits_change_one_rule, unrestricts_change_one_rule}
use Rattle.gx_laws.proofs.effects.settings_change_one_rule.Goals as goal

pub returns : goal.returns
returns c = record { limits = set_limits_change_one_rule; restricts = restricts_change_one_rule; unrestricts = unrestricts_change_one_rule }
