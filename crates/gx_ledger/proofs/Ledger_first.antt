-- A ledger before any order.
use Rattle.std.proofs.{Common.{◌≡◌, ℕ, ◌-◌, Bool, true, false, cond, ◌&&◌, ◌||◌, not, List, [], ◌∷◌, map, refl, sym, ap, ◌∙◌}, lemmas.Bool.{and_parts, not-true}}
use Rattle.std.specs.{Prelude.{Option, Some, None, is_some}, Option.option_map_or, List.{AllByRecursion, find, list_any}, Cmp.Lexicographic.nat_list_eq_equiv}
use Rattle.circular_buffer.specs.Buffer.{buffer}
use Rattle.gx_units.specs.{Names.{same_account, same_stock}, declared.names.AccountName.AccountName}
use Rattle.gx_units.proofs.Test_known.{left_false, right_false}
use Rattle.gx_policy.specs.{declared.policy.{Account.Account, Count.Count, FileRule.FileRule, PolicyData.PolicyData, Scope.Scope, Stock.Stock}, Lists.are_distinct, People.{covers, stock_named}, Soundness.{is_sound, accounts_differ, stocks_differ}}
use Rattle.gx_history.specs.{declared.facts.StockSide.StockSide, Figures.{of_accounts, on_side, reference}}
use Rattle.gx_laws.proofs.{Names_differ.accounts_differ as accounts_apart, Figures_next.{done_none, done_value_none, reference_none}, Sums_turn.{none_of, shares_of, value_of}}
use Rattle.gx_laws.specs.Changing.{no_positions}
use Rattle.gx_ledger.specs.{declared.{figure_kind.FigureKind.FigureKind, group.Group.Group}, Accounts.account_names, Keeping.reference_prices, Running.first_sides, StandsFor.{StandsFor, group_of, members_of, prices_of, ring, shares_among, side_sums_of, sides_of, tally_of, total_of, value_among}, Tallies.{asks_of, count_of, new_group, new_groups, new_tally, seats_for, tells_reference}}
use Rattle.gx_ledger.proofs.Grants_counted.{none_left}

-- no two stocks of the policy have one name
pub sound_stocks : (policy : PolicyData) → is_sound policy ≡ true → stocks_differ policy.stocks ≡ true
unfolding is_sound
sound_stocks policy h =
    let of_names = (and_parts _ _ (and_parts _ _ (and_parts _ _ (and_parts _ _ (and_parts _ _ (and_parts _ _ h).0).0).0).0).0).1 in
    (and_parts _ _ (and_parts _ _ (and_parts _ _ of_names).0).0).1

-- names of accounts that differ
pub distinct_names : (accounts : List Account) → accounts_differ accounts ≡ true → are_distinct same_account (account_names accounts) ≡ true
distinct_names [] h = refl
distinct_names (a ∷ accounts) h =
    (λ i. not (any_name accounts i) && distinct_names accounts (and_parts (not (list_any (λ (b : Account). same_account a.name b.name) accounts)) (accounts_differ accounts) h).1 i)
    ∙ ap (λ b. not b && true) (not-true _ (and_parts _ _ h).0)
  where
    any_name : (others : List Account) → list_any (same_account a.name) (account_names others) ≡ list_any (λ (b : Account). same_account a.name b.name) others
    any_name [] = refl
    any_name (b ∷ others) = ap (λ t. same_account a.name b.name || t) (any_name others)

-- the stock is found under its name
abbrev IsFoundIn : List Stock → Stock → Type 0
IsFoundIn stocks s = find (λ (t : Stock). same_stock t.name s.name) stocks ≡ Some s

later_found : (x : Stock) (stocks ys : List Stock) → list_any (λ (y : Stock). same_stock x.name y.name) ys ≡ false → AllByRecursion (IsFoundIn stocks) ys → AllByRecursion (IsFoundIn (x ∷ stocks)) ys
later_found x stocks [] none all = tt
later_found x stocks (y ∷ ys) none all = (
  ap (λ b. cond b (Some x) (find (λ (t : Stock). same_stock t.name y.name) stocks)) (left_false (same_stock x.name y.name) (list_any (λ (y : Stock). same_stock x.name y.name) ys) none) ∙ all.0,
  later_found x stocks ys (right_false (same_stock x.name y.name) (list_any (λ (y : Stock). same_stock x.name y.name) ys) none) all.1,
)

all_found : (stocks : List Stock) → stocks_differ stocks ≡ true → AllByRecursion (IsFoundIn stocks) stocks
all_found [] h = tt
all_found (x ∷ stocks) h = (
  ap (λ b. cond b (Some x) (find (λ (t : Stock). same_stock t.name x.name) stocks)) (nat_list_eq_equiv.refl x.name.bytes),
  later_found x stocks stocks (not-true _ (and_parts _ _ h).0)
      (all_found stocks (and_parts (not (list_any (λ (y : Stock). same_stock x.name y.name) stocks)) (stocks_differ stocks) h).1),
)

-- each stock's first price is the file's
first_prices : (policy : PolicyData) → stocks_differ policy.stocks ≡ true → reference_prices policy.stocks ≡ prices_of policy no_positions
first_prices policy h = each policy.stocks (all_found policy.stocks h)
  where
    each : (stocks : List Stock) → AllByRecursion (IsFoundIn policy.stocks) stocks → reference_prices stocks ≡ map (λ (s : Stock). (s.name, reference policy [] s.name)) stocks
    each [] all = refl
    each (s ∷ stocks) all = λ i. (s.name, sym (reference_none policy s.name ∙ ap (λ found. option_map_or (λ (s : Stock). s.reference) found 0) all.0) i) ∷ each stocks all.1 i

no_side_is : (among : AccountName → Bool) (side : StockSide) → record { live = 0; done = 0 } ≡ side_sums_of no_positions among side.stock side.buys
no_side_is among side = λ i. record { live = sym (none_of (shares_of (on_side among side)) [] tt) i; done = sym (done_none (on_side among side)) i }

no_shares : (among : AccountName → Bool) → record { live = 0; done = 0 } ≡ shares_among no_positions among
no_shares among = λ i. record { live = sym (none_of (shares_of (of_accounts among)) [] tt) i; done = sym (done_none (of_accounts among)) i }

no_value : (among : AccountName → Bool) → record { live = 0; done = 0 } ≡ value_among no_positions among
no_value among = λ i. record { live = sym (none_of (value_of among) [] tt) i; done = sym (done_value_none among) i }

no_ring : {X : Type 0} (n : ℕ) → ring {X = X} n [] ≡ buffer [] n
no_ring n = ap (λ items. buffer items n) (none_left (0 - n))

no_stock_is : (among : AccountName → Bool) (stocks : List Stock) → first_sides stocks ≡ sides_of (side_sums_of no_positions among) stocks
no_stock_is among stocks = λ i. map
    (λ (s : Stock). (s.name, record { buys = no_side_is among (record { stock = s.name; buys = true }) i; sells = no_side_is among (record { stock = s.name; buys = false }) i })) stocks

new_group_is : (stocks : List Stock) (asked : FigureKind) (among : AccountName → Bool) → new_group asked stocks ≡ group_of stocks asked (total_of no_positions among)
new_group_is stocks FigureKind.Shares among = ap Group.Shares (no_shares among)
new_group_is stocks FigureKind.Value among = ap Group.Value (no_value among)
new_group_is stocks FigureKind.Sides among = ap Group.Sides (no_stock_is among stocks)
new_group_is stocks (FigureKind.Recent rate) among = ap (Group.Recent rate.window) (sym (no_ring rate.limit))
new_group_is stocks (FigureKind.Alike repeat) among = ap Group.Enters (sym (no_ring repeat.span))
new_group_is stocks FigureKind.Reference among = refl
new_group_is stocks FigureKind.Nothing among = refl

new_groups_are : (stocks : List Stock) (count : Option Count) (asked : FigureKind) (scope : Scope) (accounts : List Account)
    → new_groups count asked accounts stocks ≡ map (λ (among : AccountName → Bool). group_of stocks asked (total_of no_positions among)) (members_of count scope (account_names accounts))
new_groups_are stocks None asked scope accounts = refl
new_groups_are stocks (Some Count.Together) asked scope accounts = ap (λ g. g ∷ []) (new_group_is stocks asked (covers scope))
new_groups_are stocks (Some Count.Each) asked scope [] = refl
new_groups_are stocks (Some Count.Each) asked scope (a ∷ accounts) =
    λ i. new_group_is stocks asked (λ account. covers scope account && same_account a.name account) i ∷ new_groups_are stocks (Some Count.Each) asked scope accounts i

new_tallies_are : (stocks : List Stock) (accounts : List Account) (rules : List FileRule) → map (new_tally accounts stocks) rules ≡ map (tally_of stocks (account_names accounts) (total_of no_positions)) rules
new_tallies_are stocks accounts [] = refl
new_tallies_are stocks accounts (rule ∷ rules) =
    λ i. record {
      scope = rule.scope;
      tells_reference = tells_reference rule.kind;
      count = count_of rule.kind;
      seats = seats_for rule.scope (count_of rule.kind) (account_names accounts);
      groups = new_groups_are stocks (count_of rule.kind) (asks_of rule.kind) rule.scope accounts i;
    } ∷ new_tallies_are stocks accounts rules i

-- a new ledger stands for nothing
pub opened_stands : (policy : PolicyData) → is_sound policy ≡ true
    → StandsFor policy (record { accounts = account_names policy.accounts; prices = reference_prices policy.stocks; tallies = map (new_tally policy.accounts policy.stocks) policy.rules }) no_positions
opened_stands policy sound = record {
  accounts = refl;
  accounts_differ = distinct_names policy.accounts (accounts_apart policy sound);
  prices = first_prices policy (sound_stocks policy sound);
  unlisted = λ stock other. reference_none policy stock ∙ none_named (stock_named policy stock) other;
  all_made = tt;
  tallies = new_tallies_are policy.stocks policy.accounts policy.rules;
}
  where
    none_named : (found : Option Stock) → is_some found ≡ false → option_map_or (λ (s : Stock). s.reference) found 0 ≡ 0
    none_named None other = refl
    none_named (Some s) other = cc
