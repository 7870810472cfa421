use Rattle.std.proofs.Common.{◌≡◌, take}
use Rattle.gx_overview.specs.Commands.{granted_commands}
use Rattle.gx_overview.proofs.commands.granted_commands.Given as goal

abbrev pub invariant-loop-place : goal.invariant-loop-place
invariant-loop-place l = l.commands.items ≡ granted_commands (take l.place l.records)
