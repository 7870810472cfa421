-- What each rule of the file counts, and the figures that it asks for.
use Rattle.gx_policy.specs.{declared.{kinds.ExposureLimit.ExposureLimit, policy.{Account.Account, Count.Count, FileRule.FileRule, RuleKind.RuleKind, Scope.Scope, Stock.Stock}}, People.covers}
use Rattle.std.specs.{Option.option_map_or, Prelude.{ℕ, zero, suc, pos, Bool, true, false, not, ◌&&◌, List, [], ◌∷◌, map, slice_get, Option, Some, None, is_some, option_and_then, unwrap_or, if◌then◌else◌}}
use Rattle.circular_buffer.specs.Buffer.{buffer}
use Rattle.gx_units.specs.declared.names.{AccountName.AccountName, Symbol.Symbol}
use Rattle.gx_history.specs.{declared.facts.{RuleFigures.RuleFigures, StockSide.StockSide}, Figures.no_figures}
use Rattle.gx_ledger.specs.{Changes.Change, declared.{figure_kind.FigureKind.FigureKind, group.Group.Group, sides.StockSums.StockSums, sums.NetSums.NetSums, tally.{Tally.Tally, FigureQuery.FigureQuery}}, Accounts.{account_names, account_place}, Running.{changed_group, count_alike, first_sides, net_of, on_its_side, recent_in, sides_at}}

-- what a rule of this kind asks for
abbrev pub asks_of : RuleKind → FigureKind
asks_of (RuleKind.Listed kind stocks) = FigureKind.Nothing
asks_of (RuleKind.Plain kind) = FigureKind.Nothing
asks_of (RuleKind.Order kind limit) = FigureKind.Reference
asks_of (RuleKind.Exposure ExposureLimit.GrossShares limit count) = FigureKind.Shares
asks_of (RuleKind.Exposure ExposureLimit.GrossValue limit count) = FigureKind.Value
asks_of (RuleKind.Exposure ExposureLimit.NetShares limit count) = FigureKind.Sides
asks_of (RuleKind.Rate rate count) = FigureKind.Recent rate
asks_of (RuleKind.Repeat repeat count) = FigureKind.Alike repeat

-- whose orders count together
abbrev pub count_of : RuleKind → Option Count
count_of (RuleKind.Exposure kind limit count) = Some count
count_of (RuleKind.Rate rate count) = Some count
count_of (RuleKind.Repeat repeat count) = Some count
count_of (RuleKind.Listed kind stocks) = None
count_of (RuleKind.Plain kind) = None
count_of (RuleKind.Order kind limit) = None

-- a rule asks for the last price where its kind does
abbrev pub tells_reference : RuleKind → Bool
tells_reference (RuleKind.Order kind limit) = true
tells_reference (RuleKind.Listed kind stocks) = false
tells_reference (RuleKind.Plain kind) = false
tells_reference (RuleKind.Exposure kind limit count) = false
tells_reference (RuleKind.Rate rate count) = false
tells_reference (RuleKind.Repeat repeat count) = false

-- a group before any order: a rate looks back on as many moments as its limit, a repeat on as many Enters as its span
abbrev pub new_group : FigureKind → List Stock → Group
new_group FigureKind.Shares stocks = Group.Shares (record { live = 0; done = 0 })
new_group FigureKind.Value stocks = Group.Value (record { live = 0; done = 0 })
new_group FigureKind.Sides stocks = Group.Sides (first_sides stocks)
new_group (FigureKind.Recent rate) stocks = Group.Recent rate.window (buffer [] rate.limit)
new_group (FigureKind.Alike repeat) stocks = Group.Enters (buffer [] repeat.span)
new_group FigureKind.Reference stocks = Group.Nothing
new_group FigureKind.Nothing stocks = Group.Nothing

-- one group for each account, or one for all in scope
abbrev pub new_groups : Option Count → FigureKind → List Account → List Stock → List Group
new_groups None a accounts stocks = []
new_groups (Some Count.Each) a accounts stocks = map (λ (account : Account). new_group a stocks) accounts
new_groups (Some Count.Together) a accounts stocks = new_group a stocks ∷ []

-- the place of the group of an account in scope, which has this place in the policy
abbrev pub place_in : Option Count → Option ℕ → Option ℕ
place_in None place = None
place_in (Some Count.Each) place = place
place_in (Some Count.Together) place = Some 0

-- the same where figures are asked for: in the scope of a rule that counts nothing there is a place, and no group stands there
abbrev pub seat_in : Option Count → Option ℕ → Option ℕ
seat_in None place = Some 0
seat_in (Some count) place = place_in (Some count) place

-- the same of any account
abbrev pub seat_for : Scope → Option Count → AccountName → Option ℕ → Option ℕ
seat_for scope count account place = if covers scope account then seat_in count place else None

-- for each of these accounts the place of its group
abbrev pub seats_for : Scope → Option Count → List AccountName → List (Option ℕ)
seats_for scope count names = map (λ (name : AccountName). seat_for scope count name (account_place names name)) names

-- what the rule counts, before any order
abbrev pub new_tally : List Account → List Stock → FileRule → Tally
new_tally accounts stocks rule = record {
  scope = rule.scope;
  tells_reference = tells_reference rule.kind;
  count = count_of rule.kind;
  seats = seats_for rule.scope (count_of rule.kind) (account_names accounts);
  groups = new_groups (count_of rule.kind) (asks_of rule.kind) accounts stocks;
}

-- the list, its item at this place changed
abbrev pub changed_at : {X : Type 0} → ℕ → (X → X) → List X → List X
changed_at n change [] = []
changed_at zero change (x ∷ xs) = change x ∷ xs
changed_at (suc n) change (x ∷ xs) = x ∷ changed_at n change xs

-- the list, its item at this place changed, if there is a place
abbrev pub changed_in : {X : Type 0} → Option ℕ → (X → X) → List X → List X
changed_in None change xs = xs
changed_in (Some n) change xs = changed_at n change xs

-- what the rule counts after the change of an order of an account that has this place in the policy
abbrev pub tally_after : Change → Option ℕ → Tally → Tally
tally_after change place t =
    record t { groups = if covers t.scope change.order.account then changed_in (place_in t.count place) (changed_group change) t.groups else t.groups }

-- the group of an account in scope, which has this place in the policy
abbrev pub group_in : Tally → Option ℕ → Option Group
group_in t place = option_and_then (slice_get t.groups) (place_in t.count place)

-- the place of the group of the account at this place of the policy
abbrev pub seat_of : Tally → Option ℕ → Option ℕ
seat_of t place = option_and_then (λ p. unwrap_or (slice_get t.seats p) None) place

-- the group that counts the account which asks
abbrev pub group_asked : FigureQuery → Tally → Option Group
group_asked w t = option_and_then (slice_get t.groups) (seat_of t w.place)

-- what was executed on the side of the stock, less what was on the other, and the open shares there
abbrev pub net_sums_in : List (Symbol × StockSums) → StockSide → NetSums
net_sums_in sides side = record {
  done = net_of (on_its_side side.buys (sides_at sides side.stock)).done (on_its_side (not side.buys) (sides_at sides side.stock)).done;
  live = (on_its_side side.buys (sides_at sides side.stock)).live;
}

-- the figures of a group
abbrev pub figures_of_group : FigureQuery → Group → RuleFigures
figures_of_group w (Group.Shares sums) = record no_figures { live_shares = sums.live; done_shares = sums.done; replaced_shares = w.replaced_shares }
figures_of_group w (Group.Value sums) = record no_figures { live_value = sums.live; done_value = sums.done; replaced_value = w.replaced_value }
figures_of_group w (Group.Sides sides) =
    record no_figures {
      net_done = option_map_or (λ side. (net_sums_in sides side).done) w.side (pos 0);
      side_live = option_map_or (λ side. (net_sums_in sides side).live) w.side 0;
      replaced_shares = w.replaced_shares;
    }
figures_of_group w (Group.Recent window moments) = record no_figures { recent = recent_in moments.items window w.moment }
figures_of_group w (Group.Enters enters) = record no_figures { equal_recent = option_map_or (count_alike enters.items) w.entered 0 }
figures_of_group w Group.Nothing = no_figures

-- the figures that the rule asks for
abbrev pub tally_figures : FigureQuery → Tally → RuleFigures
tally_figures w t =
    record (option_map_or (figures_of_group w) (group_asked w t) no_figures) { reference = if t.tells_reference && is_some (seat_of t w.place) then w.reference else 0 }
