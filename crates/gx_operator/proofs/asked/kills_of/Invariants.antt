use Rattle.std.proofs.Common.{◌≡◌, ◌++◌, drop}
use Rattle.gx_operator.specs.Asking.{kills_of}
use Rattle.gx_operator.proofs.asked.kills_of.Given as goal

abbrev pub invariant-loop-account : goal.invariant-loop-account
invariant-loop-account l = l.kills.items ++ kills_of l.next (drop l.account-index l.accounts) ≡ kills_of l.number l.accounts
