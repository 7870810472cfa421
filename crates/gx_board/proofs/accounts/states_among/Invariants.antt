use Rattle.std.proofs.Common.{◌≡◌, map, take}
use Rattle.std.specs.Prelude.{filter}
use Rattle.gx_policy.specs.declared.policy.Account.{Account}
use Rattle.gx_board.specs.{Accounts.account_state, Sight.is_shown}
use Rattle.gx_board.proofs.accounts.states_among.Given as goal

abbrev pub invariant-loop-account : goal.invariant-loop-account
invariant-loop-account g l =
    let seen = g.G.AccessGate.state l.gate in
    l.states.items ≡ map (account_state seen.policy seen.records) (filter (λ (a : Account). is_shown seen.policy seen.records l.viewer a.name) (take l.account-index l.accounts))
