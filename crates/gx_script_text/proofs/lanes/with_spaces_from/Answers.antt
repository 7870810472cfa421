use Rattle.gx_script_text.proofs.SixteenBytes_masks.{spaced_from}
use Rattle.gx_script_text.proofs.lanes.with_spaces_from.Goals as goal

pub returns : goal.returns
returns c = spaced_from c.args.end c.args.bytes c.requires.long c.requires.within
