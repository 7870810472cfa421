use Rattle.std.proofs.Common.{◌≡◌, ◌∙◌, ap, sym, subst, map}
use Rattle.gx_policy.specs.{declared.policy.PolicyData.PolicyData, Soundness.{accounts_differ, stocks_differ}}
use Rattle.gx_laws.proofs.Names_differ.{accounts_differ as accounts_apart}
use Rattle.gx_laws.specs.Changing.{no_positions}
use Rattle.gx_ledger.specs.{Counts.places_counting, Accounts.account_names, Keeping.{LedgerData, reference_prices}, StandsFor.StandsFor, Tallies.new_tally, contracts.ledger.Ledger.the_view}
use Rattle.gx_ledger.proofs.Ledger_first.{opened_stands, sound_stocks}
use Rattle.gx_ledger.proofs.ledger.Ledger.new.Goals as goal

pub names_of-requires : goal.names_of-requires
names_of-requires c = ap accounts_differ c.accounts.ensures ∙ accounts_apart c.args.policy.now c.rules-rules.ensures.sound

pub first_tallies-requires : goal.first_tallies-requires
first_tallies-requires c = record {
  named = c.in_ok-accounts.ensures ∙ ap account_names (c.accounts.ensures ∙ sym c.accounts-3.ensures);
  differ = ap stocks_differ c.stocks.ensures ∙ sound_stocks c.args.policy.now c.rules-rules.ensures.sound;
}

pub first_prices-requires : goal.first_prices-requires
first_prices-requires c = ap stocks_differ c.stocks-2.ensures ∙ sound_stocks c.args.policy.now c.rules-rules.ensures.sound

pub returns : goal.returns
returns c =
    let policy : PolicyData = c.args.policy.now in
    let opened : LedgerData = record { accounts = account_names policy.accounts; prices = reference_prices policy.stocks; tallies = map (new_tally policy.accounts policy.stocks) policy.rules } in
    let new_is : the_view (record { accounts = c.in_ok-accounts.accounts; prices = c.in_ok-prices.prices; tallies = c.in_ok-tallies.tallies; counting = c.in_ok-counting.counting }) ≡ opened = λ i. record {
      accounts = (c.in_ok-accounts.ensures ∙ ap account_names c.accounts.ensures) i;
      prices = (c.in_ok-prices.ensures ∙ ap reference_prices c.stocks-2.ensures) i;
      tallies = (c.in_ok-tallies.ensures ∙ (λ j. map (new_tally (c.accounts-3.ensures j) (c.stocks.ensures j)) (c.rules-rules.ensures.same j))) i;
    } in
    record { stands = subst (λ k. StandsFor policy k no_positions) (sym new_is) (opened_stands policy c.rules-rules.ensures.sound) }

pub counting_by_account-requires : goal.counting_by_account-requires
counting_by_account-requires c = c.in_ok-accounts.ensures ∙ ap account_names (c.accounts.ensures ∙ sym c.accounts-4.ensures)

pub invariant_of-result : goal.invariant_of-result
invariant_of-result c =
    c.in_ok-counting.ensures
    ∙ (λ i. map (places_counting (names_are i) (c.as_slice.ensures.value i)) (names_are i))
  where
    names_are : account_names c.accounts-4.result.now ≡ c.in_ok-accounts.accounts.keys
    names_are = ap account_names (c.accounts-4.ensures ∙ sym c.accounts.ensures) ∙ sym c.in_ok-accounts.ensures
