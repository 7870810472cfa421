-- The text of the sample policy means the sample policy, as computed.
use Rattle.std.proofs.Common.{◌≡◌, refl, Ok}
use Rattle.gx_policyfile.specs.{declared.samples.TheConstants.SAMPLE, Policies.{account, stock, accounts, stocks, users, rules, policy, means}, Version.version, Place.is_taken, Users.{user, role, powers}, Rules.{rule, rule_name, kind, kinds_of_version}, Known.{with_account, with_stock, known_account, known_accounts, known_stocks, scope}}
use Rattle.gx_policyvalues.specs.Parsing.{tree}
use Rattle.std.specs.Str.{is_utf8, chars}
use Rattle.toml.proofs.OnLiterals.{toml_on_literals}
use Rattle.gx_policy.specs.{RuleNames.{rules_before, rules_behind}, Samples.sample}

pub sample_is_read : means SAMPLE.now ≡ Ok sample
unfolding toml_on_literals is_utf8 chars account stock accounts stocks users rules policy tree means version is_taken user role powers rule rule_name kind kinds_of_version with_account with_stock known_account known_accounts known_stocks scope rules_before rules_behind
sample_is_read = refl
