use Rattle.std.proofs.Common.{◌∙◌, ◌<◌, arith, length, refl}
use Rattle.gx_rules.proofs.AccountRules_table.{next_account}
use Rattle.gx_rules.proofs.rule_places.places_by_account.Goals as goal

pub loop-account-preserved : goal.loop-account-preserved
loop-account-preserved c =
    let within : c.loop-account.account-index < length c.args.accounts.now = omega (arith, c.loop-account-test.true) in
    c.in_ok-insert.ensures.entries
    ∙ next_account c.args.rules.now c.args.accounts.now c.loop-account.table.entries c.loop-account.account-index _ _ _ c.requires within c.loop-account.invariant c.in_ok-of.ensures refl
