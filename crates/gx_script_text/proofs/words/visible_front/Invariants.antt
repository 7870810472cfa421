use Rattle.std.proofs.Common.{◌≡◌, IsTrue, take}
use Rattle.std.specs.List.{list_all}
use Rattle.gx_units.specs.Spelling.{padded_to, is_visible}
use Rattle.gx_script_text.proofs.words.visible_front.Given as goal

abbrev pub invariant-loop-end : goal.invariant-loop-end
invariant-loop-end g l = record {
  visible : IsTrue (list_all is_visible (take l.end l.text));
  front : l.front ≡ padded_to g.row.N (take l.end l.text);
}
