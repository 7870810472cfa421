use Rattle.gx_units.specs.Spelling.{is_space}
use Rattle.gx_script_text.proofs.SixteenBytes_masks.{lowest_set, none_set, space_mask}
use Rattle.gx_script_text.proofs.lanes.before_space.Goals as goal

pub returns-then-spaces-eq0 : goal.returns-then-spaces-eq0
returns-then-spaces-eq0 c = none_set is_space c.args.bytes _ c.requires (space_mask c.args.bytes c.requires) c.if-spaces-eq0.true

pub returns-else-spaces-eq0 : goal.returns-else-spaces-eq0
returns-else-spaces-eq0 c = lowest_set is_space c.args.bytes _ c.requires (space_mask c.args.bytes c.requires) c.if-spaces-eq0.false
