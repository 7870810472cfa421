-- How a ledger goes on standing for live orders, fills and grants.
use Rattle.std.proofs.{Common.{◌≡◌, ℕ, ◌-◌, Bool, [], map, refl, sym, ◌∙◌, arith}, Math.Path.subst}
use Rattle.gx_units.specs.declared.names.AccountName.{AccountName}
use Rattle.gx_history.specs.{declared.live_order.LiveOrder.LiveOrder, Figures.Positions, LiveOrders.shares_open, Turns.{Ends, Sizes, Turn, new_in}}
use Rattle.gx_policy.specs.declared.policy.PolicyData.{PolicyData}
use Rattle.gx_laws.specs.{Changing.{executed_by, positions_with}, Sound.AreSound}
use Rattle.gx_laws.proofs.Sums_turn.{Loses, ended_loses, left_by, sized_loses}
use Rattle.gx_ledger.specs.{Keeping.{LedgerData, comes, data_after, leaves}, StandsFor.{Accepts, Closes, Cuts, StandsFor, tally_of, total_of}}
use Rattle.gx_ledger.proofs.{Tallies_changed.{Totals, kept_follows}, Totals_changed.{accepted_total, left_total, none_comes, order_added, same_total, with_order}}

-- the tallies are those of other totals, where these agree
pub tallies_same : (policy : PolicyData) (k : LedgerData) (first second : Totals) → ((among : AccountName → Bool) → first among ≡ second among)
    → map (tally_of policy.stocks k.accounts first) policy.rules ≡ map (tally_of policy.stocks k.accounts second) policy.rules
tallies_same policy k first second same = λ i. map (tally_of policy.stocks k.accounts (λ among. same among i)) policy.rules

pub accept_carries : (o : LiveOrder) (moment : ℕ) (replacement : Bool) (k : LedgerData) → Accepts o moment replacement k (data_after (comes o moment replacement) k)
accept_carries o moment replacement k grant is policy held stands sound may after =
    let sound_with : AreSound policy (with_order o grant held) = subst (AreSound policy) (order_added held o grant) after in
    subst (StandsFor policy (data_after (comes o moment replacement) k)) (sym (order_added held o grant)) (record {
      accounts = stands.accounts;
      accounts_differ = stands.accounts_differ;
      prices = stands.prices;
      unlisted = stands.unlisted;
      all_made = stands.all_made;
      tallies =
          kept_follows policy k (total_of held) (comes o moment replacement) stands.accounts_differ stands.tallies
          ∙ tallies_same policy k _ _ (accepted_total held o moment replacement grant is sound_with.fit);
    })

-- a turn that leaves each order what it has open needs no call
pub stays_for : {policy : PolicyData} (k : LedgerData) (held : Positions) (turn : Turn) → new_in turn ≡ [] → executed_by turn held.grants ≡ [] → ((o : LiveOrder) → left_by turn o ≡ shares_open o)
    → StandsFor policy k held → StandsFor policy k (positions_with turn [] held)
stays_for {policy} k held turn none idle same stands = subst (StandsFor policy k) (sym (none_comes turn held none idle)) (record {
  accounts = stands.accounts;
  accounts_differ = stands.accounts_differ;
  prices = stands.prices;
  unlisted = stands.unlisted;
  all_made = stands.all_made;
  tallies = stands.tallies ∙ tallies_same policy k _ _ (same_total held turn same);
})

-- one order loses open shares
loss_carries : (o : LiveOrder) (lost : ℕ) (k : LedgerData) {policy : PolicyData} (held : Positions) (turn : Turn) (number : ℕ) → StandsFor policy k held → AreSound policy held → Loses turn number held.live o lost
    → new_in turn ≡ [] → executed_by turn held.grants ≡ [] → StandsFor policy (data_after (leaves o lost) k) (positions_with turn [] held)
loss_carries o lost k {policy} held turn number stands sound loses none idle =
    subst (StandsFor policy (data_after (leaves o lost) k)) (sym (none_comes turn held none idle)) (record {
      accounts = stands.accounts;
      accounts_differ = stands.accounts_differ;
      prices = stands.prices;
      unlisted = stands.unlisted;
      all_made = stands.all_made;
      tallies =
          kept_follows policy k (total_of held) (leaves o lost) stands.accounts_differ stands.tallies
          ∙ tallies_same policy k _ _ (left_total held turn number o lost sound.numbers_differ loses);
    })

pub cut_carries : (o : LiveOrder) (shares : ℕ) (k : LedgerData) → Cuts o shares k (data_after (leaves o shares) k)
cut_carries o shares k size policy held stands sound cut after = loss_carries o shares k held (Sizes o.number size) o.number stands sound loses refl refl
  where
    lost : shares_open o - (size - o.done) ≡ shares
    lost = let whole = cut.is_less in omega (arith, whole)

    loses : Loses (Sizes o.number size) o.number held.live o shares
    loses = subst (Loses (Sizes o.number size) o.number held.live o) lost (sized_loses held o.number size o cut.is_held (let whole = cut.is_less in omega (arith, whole)))

pub close_carries : (o : LiveOrder) (k : LedgerData) → Closes o k (data_after (leaves o (shares_open o)) k)
close_carries o k policy held stands sound is after = loss_carries o (shares_open o) k held (Ends o.number) o.number stands sound (ended_loses held o.number o is) refl refl
