use Rattle.std.proofs.Common.{◌≡◌, ◌++◌, flat_map, take}
use Rattle.gx_text.specs.Shown.{shown_byte}
use Rattle.gx_text.proofs.shown.append_shown.Given as goal

abbrev pub invariant-loop-byte : goal.invariant-loop-byte
invariant-loop-byte l = l.text.items ≡ l.initial.text.items ++ flat_map shown_byte (take l.byte-index l.bytes)
