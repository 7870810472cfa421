use Rattle.std.proofs.Common.{◌∙◌, ◌<◌, arith, length, refl}
use Rattle.gx_ledger.specs.{Accounts.account_names, Counts.places_counting}
use Rattle.gx_ledger.proofs.Tallies_told.{his_places, next_account}
use Rattle.gx_ledger.proofs.tally_places.counting_by_account.Goals as goal

pub loop-account-preserved : goal.loop-account-preserved
loop-account-preserved c =
    let within : c.loop-account.account-index < length c.args.accounts.now = omega (arith, c.loop-account-test.true) in
    c.in_ok-push.ensures.items
    ∙ next_account (places_counting (account_names c.args.accounts.now) c.args.tallies.now) c.args.accounts.now c.loop-account.places.items c.loop-account.account-index _ _ _ within c.loop-account.invariant
    (his_places (account_names c.args.accounts.now) c.args.names.now.keys c.args.tallies.now _ c.get_index_of-own.result _ c.in_ok-of.ensures c.get_index_of-own.ensures.index c.requires) refl
