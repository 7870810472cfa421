-- What a ledger tells of what stands: what the accounts have that a rule counts together with one of them.
use Rattle.std.specs.Prelude.{ℕ, ◌≡◌, ◌&&◌, Bool, Option, Some, None, is_some, option_map, option_and_then, slice_get, if◌then◌else◌}
use Rattle.gx_units.specs.declared.names.AccountName.{AccountName}
use Rattle.gx_policy.specs.{declared.policy.{FileRule.FileRule, PolicyData.PolicyData}, People.{account_named, covers}}
use Rattle.gx_history.specs.{declared.facts.StockSide.StockSide, Figures.{Positions, counts_account, net_done, side_live}}
use Rattle.gx_laws.specs.Sound.{AreSound}
use Rattle.gx_ledger.specs.{declared.{figure_kind.FigureKind.FigureKind, group.Group.Group, sums.{Sums.Sums, NetSums.NetSums}, tally.Tally.Tally}, Keeping.LedgerData, StandsFor.{StandsFor, shares_among, value_among}, Tallies.{asks_of, count_of, group_in, net_sums_in}}

-- the accounts that the rule counts together with this one of the policy: it alone, or all of the scope. None where the
-- rule counts nothing, or is not for the account
abbrev pub counted_with : PolicyData → AccountName → FileRule → Option (AccountName → Bool)
counted_with policy account rule =
    if is_some (account_named policy account) && covers rule.scope account
    then option_map (λ count. counts_account count rule.scope account) (count_of rule.kind)
    else None

-- what these accounts have open and executed, in what a gross rule counts
abbrev pub gross_sums_of : FigureKind → Positions → (AccountName → Bool) → Option Sums
gross_sums_of FigureKind.Shares held among = Some (shares_among held among)
gross_sums_of FigureKind.Value held among = Some (value_among held among)
gross_sums_of FigureKind.Sides held among = None
gross_sums_of (FigureKind.Recent rate) held among = None
gross_sums_of (FigureKind.Alike repeat) held among = None
gross_sums_of FigureKind.Reference held among = None
gross_sums_of FigureKind.Nothing held among = None

-- what these accounts executed on the side of the stock, less what they did on the other, and what they have open there, for
-- a rule that looks at sides
abbrev pub net_sums_of : FigureKind → Positions → StockSide → (AccountName → Bool) → Option NetSums
net_sums_of FigureKind.Sides held side among = Some (record { done = net_done held.executions among side; live = side_live held.live among side })
net_sums_of FigureKind.Shares held side among = None
net_sums_of FigureKind.Value held side among = None
net_sums_of (FigureKind.Recent rate) held side among = None
net_sums_of (FigureKind.Alike repeat) held side among = None
net_sums_of FigureKind.Reference held side among = None
net_sums_of FigureKind.Nothing held side among = None

-- Over all live orders and fills that the ledger stands for, this is what the accounts have that the gross rule at this
-- place in the file counts together with this one.
abbrev pub GivesGross : LedgerData → ℕ → AccountName → Option Sums → Type 0
GivesGross k place account given = (policy : PolicyData) (held : Positions) → StandsFor policy k held
    → given ≡ option_and_then (λ (rule : FileRule). option_and_then (gross_sums_of (asks_of rule.kind) held) (counted_with policy account rule)) (slice_get policy.rules place)

-- And this is what they have on the side of the stock, of a rule that looks at sides.
abbrev pub GivesNet : LedgerData → ℕ → AccountName → StockSide → Option NetSums → Type 0
GivesNet k place account side given = (policy : PolicyData) (held : Positions) → StandsFor policy k held → AreSound policy held
    → given ≡ option_and_then (λ (rule : FileRule). option_and_then (net_sums_of (asks_of rule.kind) held side) (counted_with policy account rule)) (slice_get policy.rules place)

-- the group that a tally counts the account in, which has this place in the policy
abbrev pub group_with : Tally → AccountName → Option ℕ → Option Group
group_with t account place = if is_some place && covers t.scope account then group_in t place else None

-- the sums that a group of a gross rule keeps
abbrev pub gross_in_group : Group → Option Sums
gross_in_group (Group.Shares sums) = Some sums
gross_in_group (Group.Value sums) = Some sums
gross_in_group (Group.Sides sides) = None
gross_in_group (Group.Recent window moments) = None
gross_in_group (Group.Enters enters) = None
gross_in_group Group.Nothing = None

abbrev pub tally_gross : Tally → AccountName → Option ℕ → Option Sums
tally_gross t account place = option_and_then gross_in_group (group_with t account place)

-- what a group has on the side of the stock, where it looks at sides
abbrev pub net_in_group : StockSide → Group → Option NetSums
net_in_group side (Group.Sides sides) = Some (net_sums_in sides side)
net_in_group side (Group.Shares sums) = None
net_in_group side (Group.Value sums) = None
net_in_group side (Group.Recent window moments) = None
net_in_group side (Group.Enters enters) = None
net_in_group side Group.Nothing = None

abbrev pub tally_net : Tally → AccountName → Option ℕ → StockSide → Option NetSums
tally_net t account place side = option_and_then (net_in_group side) (group_with t account place)
