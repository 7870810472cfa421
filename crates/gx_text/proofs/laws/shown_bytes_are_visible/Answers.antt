use Rattle.gx_text.proofs.Shown_visible.{json_is_printed, shown_is_visible}
use Rattle.gx_text.proofs.laws.shown_bytes_are_visible.Goals as goal

pub returns : goal.returns
returns c = record { text = shown_is_visible; json = json_is_printed }
