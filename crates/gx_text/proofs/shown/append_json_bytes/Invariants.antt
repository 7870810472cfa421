use Rattle.std.proofs.Common.{◌≡◌, ◌++◌, flat_map, take}
use Rattle.gx_text.specs.Shown.{json_byte}
use Rattle.gx_text.proofs.shown.append_json_bytes.Given as goal

abbrev pub invariant-loop-byte : goal.invariant-loop-byte
invariant-loop-byte l = l.text.items ≡ l.initial.text.items ++ flat_map json_byte (take l.byte-index l.bytes)
