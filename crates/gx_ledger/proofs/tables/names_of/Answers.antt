use Rattle.std.proofs.Common.{◌∙◌, ◌<◌, arith, length, refl}
use Rattle.gx_ledger.proofs.Entries_changed.{next_name}
use Rattle.gx_ledger.proofs.tables.names_of.Goals as goal

pub loop-account-preserved : goal.loop-account-preserved
loop-account-preserved c =
    let within : c.loop-account.account-index < length c.args.accounts.now = omega (arith, c.loop-account-test.true) in
    c.in_ok-insert.ensures.keys ∙ next_name c.args.accounts.now c.loop-account.names.keys c.loop-account.account-index _ _ c.requires within c.loop-account.invariant refl
