use Rattle.std.proofs.Common.{not}
use Rattle.gx_units.specs.Spelling.{is_visible}
use Rattle.gx_script_text.proofs.SixteenBytes_masks.{lowest_set, none_set}
use Rattle.gx_script_text.proofs.lanes.before_hidden.Goals as goal

pub returns-then-hidden-eq0 : goal.returns-then-hidden-eq0
returns-then-hidden-eq0 c = none_set (λ byte. not (is_visible byte)) c.args.bytes _ c.requires c.hidden-hidden.ensures c.if-hidden-eq0.true

pub returns-else-hidden-eq0 : goal.returns-else-hidden-eq0
returns-else-hidden-eq0 c = lowest_set (λ byte. not (is_visible byte)) c.args.bytes _ c.requires c.hidden-hidden.ensures c.if-hidden-eq0.false
