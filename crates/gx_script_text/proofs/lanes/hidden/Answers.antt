use Rattle.gx_script_text.proofs.SixteenBytes_masks.{hidden_mask}
use Rattle.gx_script_text.proofs.lanes.hidden.Goals as goal

pub returns : goal.returns
returns c = hidden_mask c.args.bytes c.requires
