use Rattle.gx_rules.proofs.Settings_changed.{names_stay, scopes_stay}
use Rattle.gx_rules.proofs.laws.a_setting_changes_no_name.Goals as goal

pub returns : goal.returns
returns c = λ name change rules. (names_stay name change rules, scopes_stay name change rules)
