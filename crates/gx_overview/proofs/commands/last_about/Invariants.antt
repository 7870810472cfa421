use Rattle.std.proofs.Common.{◌≡◌, take}
use Rattle.gx_overview.specs.Commands.{last_of}
use Rattle.gx_overview.proofs.commands.last_about.Given as goal

abbrev pub invariant-loop-command : goal.invariant-loop-command
invariant-loop-command l = l.last ≡ last_of (take l.command-index l.commands) l.subject
