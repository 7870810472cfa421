use Rattle.std.proofs.Common.{ap, ◌∙◌}
use Rattle.std.specs.{List.list_all, Option.option_map_or}
use Rattle.toml.specs.View.{view}
use Rattle.gx_policytext.specs.Shallow.{all_items, is_entry, is_plain}
use Rattle.gx_policytext.proofs.Values_depth.{all_items_view}
use Rattle.gx_policytext.proofs.shallow.is_shallow.Goals as goal

pub returns-in-Some : goal.returns-in-Some
returns-in-Some c = c.are_entries.ensures ∙ ap (λ vs. list_all (λ v. is_entry (view v)) vs) c.as_slice.ensures.value ∙ all_items_view is_entry _ ∙ ap (λ o. option_map_or (all_items is_entry) o (is_plain (view c.args.value.now))) c.in-Some.ensures
