use Rattle.std.proofs.{Common.{◌≡◌, ◌∙◌, ap, map, refl, take, true}, lemmas.List.take_all}
use Rattle.std.specs.Prelude.{None}
use Rattle.gx_units.specs.Names.{same_account}
use Rattle.gx_units.proofs.Names_equal.{same_account_flip}
use Rattle.gx_policy.specs.{Lists.are_distinct, declared.policy.Account.Account}
use Rattle.gx_trading_status.specs.{InForce.without_kill, View.kills_of}
use Rattle.gx_laws.proofs.Names_differ.{accounts_differ}
use Rattle.gx_trading_status.proofs.Status_table.{added_next, kills_begin}
use Rattle.gx_trading_status.proofs.status.no_kills.Goals as goal

-- one more account
pub loop-account-preserved : goal.loop-account-preserved
loop-account-preserved c =
    let before = c.loop-account.invariant in
    let accounts = c.accounts-account-items.result.now in
    let differ : are_distinct (λ (a b : Account). same_account a.name b.name) accounts ≡ true =
    ap (are_distinct (λ (a b : Account). same_account a.name b.name)) before.1 ∙ accounts_differ c.args.policy.now before.2
    in (
      c.in_ok-insert.ensures.entries
          ∙ added_next same_account same_account_flip (λ (a : Account). a.name) None c.loop-account.kills.entries accounts c.loop-account.account-index _ _
          differ before.0 c.loop-account-test.true refl,
      before.1,
      before.2,
    )

-- each account of the policy
pub returns : goal.returns
returns c =
    let before = c.loop-account.invariant in
    ap kills_of before.0
    ∙ kills_begin (take c.loop-account.account-index c.accounts-account-items.result.now)
    ∙ ap (map without_kill) (take_all c.loop-account.account-index c.accounts-account-items.result.now c.loop-account-test.false ∙ before.1)
