use Rattle.std.proofs.Common.{ap, ◌∙◌}
use Rattle.std.specs.Option.{option_map_or}
use Rattle.toml.specs.View.{view}
use Rattle.gx_policytext.specs.Shallow.{all_members, is_field}
use Rattle.gx_policytext.proofs.Values_depth.{all_members_view}
use Rattle.gx_policytext.proofs.shallow.is_entry.Goals as goal

pub returns-in-Some : goal.returns-in-Some
returns-in-Some c = c.are_fields.ensures ∙ all_members_view is_field _ ∙ ap (λ o. option_map_or (all_members is_field) o (is_field (view c.args.value.now))) c.in-Some.ensures
