use Rattle.std.proofs.Common.{◌∙◌}
use Rattle.gx_policyvalues.proofs.Keys_view.{has_only_view}
use Rattle.gx_policyvalues.proofs.field.has_only.Goals as goal

pub returns : goal.returns
returns c = c.are_keys.ensures ∙ has_only_view c.args.keys.now c.args.entry.now.entries
