use Rattle.std.proofs.Common.{IsTrue, take}
use Rattle.gx_script_text.specs.Words.{has_no_space}
use Rattle.gx_script_text.proofs.words.end_by_bytes.Given as goal

abbrev pub invariant-loop-end : goal.invariant-loop-end
invariant-loop-end l = IsTrue (has_no_space (take l.end l.text))
