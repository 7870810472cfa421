use Rattle.std.proofs.{Common.{length, find, refl, sym, ap, ◌∙◌}, lemmas.{Bool.ltb-true, Option.slice_get_read}}
use Rattle.gx_units.specs.Names.{same_account}
use Rattle.gx_policy.specs.{declared.policy.Account.Account, Soundness.accounts_differ}
use Rattle.gx_laws.proofs.Names_differ.{accounts_differ as accounts_apart}
use Rattle.gx_gate_state.proofs.AccountNames_only.{found_near}
use Rattle.gx_gate_state.proofs.listed.account_near.Goals as goal

pub returns-in-Some : goal.returns-in-Some
returns-in-Some c =
    let accounts = c.accounts-accounts.result.now in
    let found = c.in-Some.ensures.lookup in
    found_near accounts c.args.near c.args.name c.in-Some.there.now (ap accounts_differ c.accounts-accounts.ensures ∙ accounts_apart c.args.policy.now c.rules.ensures.sound)
    (slice_get_read accounts (length accounts) c.args.near c.in-Some.there.now refl (ltb-true c.args.near (length accounts) (sym found.0)) found.1) (sym c.if-eq.ensures)
    ∙ ap (find (λ (a : Account). same_account a.name c.args.name)) c.accounts-accounts.ensures
