-- The sums that a ledger gives are those of what it stands for.
use Rattle.std.proofs.{Common.{◌≡◌, ℕ, suc, Bool, true, false, cond, ◌&&◌, List, [], ◌∷◌, map, refl, ap, ◌∙◌}, lemmas.Option.slice_get-map}
use Rattle.std.specs.{Prelude.{Option, Some, None, is_some, find, option_and_then, option_map, slice_get}, List.AllByRecursion}
use Rattle.gx_units.specs.{Names.same_account, declared.names.AccountName.AccountName}
use Rattle.gx_units.proofs.Names_equal.{same_account_flip}
use Rattle.gx_policy.specs.{declared.policy.{Account.Account, Count.Count, FileRule.FileRule, PolicyData.PolicyData}, People.{account_named, covers}}
use Rattle.gx_history.specs.{declared.facts.StockSide.StockSide, Figures.{Positions, counts_account}}
use Rattle.gx_laws.specs.Sound.{AreSound}
use Rattle.gx_ledger.specs.{declared.{group.Group.Group, figure_kind.FigureKind.FigureKind, tally.Tally.Tally}, Accounts.{account_names, account_place}, Keeping.LedgerData, Standing.{GivesGross, GivesNet, counted_with, gross_in_group, gross_sums_of, group_with, net_in_group, net_sums_of, tally_gross, tally_net}, StandsFor.{IsMadeIn, StandsFor, group_of, members_of, tally_of, total_of}, Tallies.{asks_of, count_of, group_in, place_in}}
use Rattle.gx_ledger.proofs.{Figures_given.{group_found, live_answers, net_answers}, Tallies_changed.place-cons}

still_there : (o : Option ℕ) → is_some (option_map suc o) ≡ is_some o
still_there None = refl
still_there (Some n) = refl

-- an account has a place where the policy has it
known_place : (account : AccountName) (accounts : List Account)
    → is_some (account_place (account_names accounts) account) ≡ is_some (find (λ (a : Account). same_account a.name account) accounts)
known_place account [] = refl
known_place account (a ∷ accounts) =
    ap (λ (o : Option ℕ). is_some o) (place-cons account a.name (account_names accounts))
    ∙ by (same_account account a.name) (known_place account accounts)
    ∙ ap (λ b. is_some (cond b (Some a) (find (λ (a : Account). same_account a.name account) accounts))) (same_account_flip account a.name)
  where
    by : (b : Bool) → is_some (account_place (account_names accounts) account) ≡ is_some (find (λ (a : Account). same_account a.name account) accounts)
        → is_some (cond b (Some 0) (option_map suc (account_place (account_names accounts) account))) ≡ is_some (cond b (Some a) (find (λ (a : Account). same_account a.name account) accounts))
    by true others = refl
    by false others = still_there (account_place (account_names accounts) account) ∙ others

module _ (policy : PolicyData) (held : Positions) (account : AccountName) (rule : FileRule) where
  abbrev names : List AccountName
  names = account_names policy.accounts

  abbrev group : (AccountName → Bool) → Group
  group among = group_of policy.stocks (asks_of rule.kind) (total_of held among)

  abbrev tally : Tally
  tally = tally_of policy.stocks names (total_of held) rule

  -- the group that the account is counted in
  group_is : group_with tally account (account_place names account) ≡ option_map group (counted_with policy account rule)
  group_is =
      ap (λ b. cond (b && covers rule.scope account) (group_in tally (account_place names account)) None) (known_place account policy.accounts)
      ∙ by (is_some (account_named policy account)) refl (covers rule.scope account) refl
    where
      counted : is_some (account_named policy account) ≡ true → covers rule.scope account ≡ true → (count : Option Count)
          → option_and_then (slice_get (map group (members_of count rule.scope names))) (place_in count (account_place names account))
          ≡ option_map group (option_map (λ (c : Count). counts_account c rule.scope account) count)
      counted known inside None = refl
      counted known inside (Some count) = group_found policy held (asks_of rule.kind) account rule.scope count known inside

      by : (known : Bool) → is_some (account_named policy account) ≡ known → (inside : Bool) → covers rule.scope account ≡ inside
          → cond (known && inside) (group_in tally (account_place names account)) None
          ≡ option_map group (cond (known && inside) (option_map (λ (c : Count). counts_account c rule.scope account) (count_of rule.kind)) None)
      by true known true inside = counted known inside (count_of rule.kind)
      by true known false inside = refl
      by false known true inside = refl
      by false known false inside = refl

  gross_is : tally_gross tally account (account_place names account) ≡ option_and_then (gross_sums_of (asks_of rule.kind) held) (counted_with policy account rule)
  gross_is = ap (option_and_then gross_in_group) group_is ∙ by (asks_of rule.kind) (counted_with policy account rule)
    where
      by : (asked : FigureKind) (found : Option (AccountName → Bool))
          → option_and_then gross_in_group (option_map (λ among. group_of policy.stocks asked (total_of held among)) found) ≡ option_and_then (gross_sums_of asked held) found
      by asked None = refl
      by FigureKind.Shares (Some among) = refl
      by FigureKind.Value (Some among) = refl
      by FigureKind.Sides (Some among) = refl
      by FigureKind.Nothing (Some among) = refl
      by FigureKind.Reference (Some among) = refl
      by (FigureKind.Recent rate) (Some among) = refl
      by (FigureKind.Alike repeat) (Some among) = refl

  net_is : (side : StockSide) → AreSound policy held → AllByRecursion (IsMadeIn policy) held.executions → tally_net tally account (account_place names account) side
      ≡ option_and_then (net_sums_of (asks_of rule.kind) held side) (counted_with policy account rule)
  net_is side sound all_made = ap (option_and_then (net_in_group side)) group_is ∙ by (asks_of rule.kind) (counted_with policy account rule)
    where
      by : (asked : FigureKind) (found : Option (AccountName → Bool))
          → option_and_then (net_in_group side) (option_map (λ among. group_of policy.stocks asked (total_of held among)) found) ≡ option_and_then (net_sums_of asked held side) found
      by asked None = refl
      by FigureKind.Sides (Some among) = λ i. Some (record {
        done = net_answers policy held among sound all_made (Some side) i;
        live = live_answers policy held among sound all_made (Some side) i;
      })
      by FigureKind.Shares (Some among) = refl
      by FigureKind.Value (Some among) = refl
      by FigureKind.Nothing (Some among) = refl
      by FigureKind.Reference (Some among) = refl
      by (FigureKind.Recent rate) (Some among) = refl
      by (FigureKind.Alike repeat) (Some among) = refl

-- of the rule at a place
at_place : {X : Type 0} (f : Tally → Option X) (t : FileRule → Tally) (g : FileRule → Option X) → ((rule : FileRule) → f (t rule) ≡ g rule) → (rules : List FileRule) (place : ℕ)
    → option_and_then f (slice_get (map t rules) place) ≡ option_and_then g (slice_get rules place)
at_place f t g same rules place = ap (option_and_then f) (slice_get-map t rules place) ∙ by (slice_get rules place)
  where
    by : (found : Option FileRule) → option_and_then f (option_map t found) ≡ option_and_then g found
    by None = refl
    by (Some rule) = same rule

-- the tallies are those of the policy's rules
tallies_are : (k : LedgerData) {policy : PolicyData} (held : Positions) → StandsFor policy k held
    → k.tallies ≡ map (tally_of policy.stocks (account_names policy.accounts) (total_of held)) policy.rules
tallies_are k {policy} held stands = stands.tallies ∙ ap (λ accounts. map (tally_of policy.stocks accounts (total_of held)) policy.rules) stands.accounts

pub gross_answer : (k : LedgerData) (place : ℕ) (account : AccountName)
    → GivesGross k place account (option_and_then (λ (t : Tally). tally_gross t account (account_place k.accounts account)) (slice_get k.tallies place))
gross_answer k place account policy held stands =
    (λ i. option_and_then (λ (t : Tally). tally_gross t account (account_place (stands.accounts i) account)) (slice_get (tallies_are k held stands i) place))
    ∙ at_place (λ (t : Tally). tally_gross t account (account_place (account_names policy.accounts) account)) (tally_of policy.stocks (account_names policy.accounts) (total_of held))
    (λ (rule : FileRule). option_and_then (gross_sums_of (asks_of rule.kind) held) (counted_with policy account rule)) (gross_is policy held account) policy.rules place

pub net_answer : (k : LedgerData) (place : ℕ) (account : AccountName) (side : StockSide)
    → GivesNet k place account side (option_and_then (λ (t : Tally). tally_net t account (account_place k.accounts account) side) (slice_get k.tallies place))
net_answer k place account side policy held stands sound =
    (λ i. option_and_then (λ (t : Tally). tally_net t account (account_place (stands.accounts i) account) side) (slice_get (tallies_are k held stands i) place))
    ∙ at_place (λ (t : Tally). tally_net t account (account_place (account_names policy.accounts) account) side) (tally_of policy.stocks (account_names policy.accounts) (total_of held))
    (λ (rule : FileRule). option_and_then (net_sums_of (asks_of rule.kind) held side) (counted_with policy account rule)) (λ rule. net_is policy held account rule side sound stands.all_made) policy.rules place
