use Rattle.gx_lines.proofs.Names_visible.{names_are_visible, json_names_are_printed}
use Rattle.gx_lines.proofs.laws.names_are_visible.Goals as goal

pub returns : goal.returns
returns c = record {
  text = names_are_visible c.shown_bytes_are_visible.ensures.text;
  json = json_names_are_printed c.shown_bytes_are_visible.ensures.json;
}
