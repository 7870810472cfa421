-- What is kept of the figures behind the records of a day.
use Rattle.std.specs.{Prelude.{◌≡◌, ℕ, ◌⊎◌, IsTrue, List, [], ◌∷◌, ◌++◌, Option, Some, None, is_some, slice_get, if◌then◌else◌}, Option.option_map_or, Map.{keys_of, lookup}}
use Rattle.gx_units.specs.{declared.names.{AccountName.AccountName, RuleId.RuleId}, Names.same_rule}
use Rattle.gx_policy.specs.{declared.policy.{FileRule.FileRule, PolicyData.PolicyData}, People.rule_in}
use Rattle.gx_history.specs.{declared.{facts.StockSide.StockSide, live_order.LiveOrder.LiveOrder, «record».RecordData.RecordData}, Book.is_buy}
use Rattle.gx_records.specs.State.{limit_in_force}
use Rattle.gx_peaks.specs.{declared.{figure.Figure.Figure, key.PeakKey.PeakKey, peak.Peak.Peak, peaks.Peaks.Peaks, table.{HeldPeak.HeldPeak, PeakTable.PeakTable}}, Figures.{amount, is_counted, used_of}, Keys.{key_of, same_key}, Peaks.IsPeakOf, Raising.{reading_of, taken_in, peak_at_zero}, Touching.gains_of}

-- what is kept under the key
abbrev pub held_under : PeakTable → PeakKey → Option HeldPeak
held_under table key = lookup (same_key key) table.peaks.entries

-- the peak that is kept under the key; where none is, that of a figure that was 0 all the time
abbrev pub peak_under : PolicyData → PeakTable → PeakKey → Peak
peak_under policy table key = option_map_or (λ (held : HeldPeak). held.peak) (held_under table key) (peak_at_zero (limit_in_force policy [] key.rule))

-- the table keeps the figure's peak over these records
abbrev pub IsHeld : PolicyData → List RecordData → PeakTable → Figure → Type 0
IsHeld policy records table figure = IsPeakOf policy figure.rule (amount policy figure) records (peak_under policy table (key_of policy figure))

-- the two figures are one, and there is such a rule for the account of the second
pub record IsSame (policy : PolicyData) (figure other : Figure) : Type 0 where
  pub is_counted : IsTrue (is_counted policy other)
  pub same_key : key_of policy figure ≡ key_of policy other

-- the figure of the account that was asked for under the key
abbrev pub figure_at : PeakKey → HeldPeak → Figure
figure_at key held = record { rule = key.rule; account = held.account; side = key.side }

-- what is kept under a key is of a figure of that key
pub record IsKeptUnder (policy : PolicyData) (key : PeakKey) (figure : Figure) : Type 0 where
  pub is_counted : IsTrue (is_counted policy figure)
  pub has_key : key_of policy figure ≡ key

-- and so it is under each key
abbrev pub AreTheirs : PolicyData → PeakTable → Type 0
AreTheirs policy table = (key : PeakKey) (held : HeldPeak) → held_under table key ≡ Some held → IsKeptUnder policy key (figure_at key held)

-- the table keeps the peak of each figure over these records
pub record AreHeld (policy : PolicyData) (records : List RecordData) (table : PeakTable) : Type 0 where
  pub peaks : (figure : Figure) → IsTrue (is_counted policy figure) → IsHeld policy records table figure
  pub theirs : AreTheirs policy table

-- these are the peaks over these records
abbrev pub AreOver : PolicyData → List RecordData → Peaks → Type 0
AreOver policy records peaks = AreHeld policy records peaks.table

-- and whose sell the record that comes next fills is known
pub record IsExpecting (policy : PolicyData) (records : List RecordData) (next : RecordData) (peaks : Peaks) : Type 0 where
  pub held : AreOver policy records peaks
  pub seller : peaks.seller ≡ gains_of policy records next

-- ---- one figure is noted

-- what is kept of the figure once it is read to be this behind the records
abbrev pub peak_after : PolicyData → List RecordData → Figure → ℕ → PeakTable → HeldPeak
peak_after policy records figure used table = record {
  account = figure.account;
  peak = taken_in (reading_of policy records figure.rule used) (peak_under policy table (key_of policy figure));
}

-- under the figure's key stands what is read of it, under the others what stood there; nothing is changed where it is not counted
pub record IsNoted (policy : PolicyData) (records : List RecordData) (figure : Figure) (old new : PeakTable) : Type 0 where
  pub put : (used : ℕ) → used_of policy figure records ≡ Some used → (key : PeakKey)
      → held_under new key ≡ (if same_key (key_of policy figure) key then Some (peak_after policy records figure used old) else held_under old key)
  pub not_counted : used_of policy figure records ≡ None → new ≡ old
  pub keys : IsTrue (is_some (held_under old (key_of policy figure))) → keys_of new.peaks.entries ≡ keys_of old.peaks.entries

-- ---- from the records but the last to all of them

-- the peak is that over the earlier records, or over all
abbrev pub Lags : PolicyData → List RecordData → List RecordData → PeakTable → Figure → Type 0
Lags policy earlier records table figure = IsHeld policy earlier table figure ⊎ IsHeld policy records table figure

-- no peak goes back, and those of these figures are over all records then
pub record Advances (policy : PolicyData) (earlier records : List RecordData) (reached : Figure → Type 0) (old new : PeakTable) : Type 0 where
  pub goes : (figure : Figure) → IsTrue (is_counted policy figure) → Lags policy earlier records old figure → Lags policy earlier records new figure
  pub stays : (figure : Figure) → IsTrue (is_counted policy figure) → IsHeld policy records old figure → IsHeld policy records new figure
  pub done : (figure : Figure) → IsTrue (is_counted policy figure) → reached figure → Lags policy earlier records old figure → IsHeld policy records new figure
  pub theirs : AreTheirs policy old → AreTheirs policy new

-- behind any last record
abbrev pub AdvancesTo : PolicyData → List RecordData → (Figure → Type 0) → PeakTable → PeakTable → Type 0
AdvancesTo policy records reached old new =
    (earlier : List RecordData) (r : RecordData) → records ≡ earlier ++ r ∷ [] → Advances policy earlier records reached old new

-- the figure is the account's under the same rule, on this side of a stock or on none
abbrev pub IsOfAccount : PolicyData → AccountName → Option StockSide → Figure → Type 0
IsOfAccount policy account side figure = IsSame policy figure (record { rule = figure.rule; account = account; side = side })

-- so it is, and this is that rule
pub record IsUnder (policy : PolicyData) (rule : FileRule) (account : AccountName) (side : Option StockSide) (figure : Figure) : Type 0 where
  pub is_rule : rule_in policy.rules figure.rule ≡ Some rule
  pub of_account : IsOfAccount policy account side figure

-- the side of the stock that the order is on
abbrev pub stock_side_of : LiveOrder → StockSide
stock_side_of o = record { stock = o.terms.stock; buys = is_buy o.terms.side }

-- the figure is one that counts the order, if there is one
abbrev pub IsOfOrder : PolicyData → Option LiveOrder → Figure → Type 0
IsOfOrder policy None figure = ⊥
IsOfOrder policy (Some o) figure = IsOfAccount policy o.account None figure ⊎ IsOfAccount policy o.account (Some (stock_side_of o)) figure

-- the figure is one on no side of the account, if there is one
abbrev pub IsOfSeller : PolicyData → Option AccountName → Figure → Type 0
IsOfSeller policy None figure = ⊥
IsOfSeller policy (Some account) figure = IsOfAccount policy account None figure

-- the figure is of the rule of this name, and something is kept of it
pub record IsOfRule (policy : PolicyData) (rule : RuleId) (table : PeakTable) (figure : Figure) : Type 0 where
  pub of_rule : IsTrue (same_rule rule figure.rule)
  pub is_kept : IsTrue (is_some (held_under table (key_of policy figure)))

-- if there is one
abbrev pub IsOfSetting : PolicyData → Option RuleId → PeakTable → Figure → Type 0
IsOfSetting policy None table figure = ⊥
IsOfSetting policy (Some rule) table figure = IsOfRule policy rule table figure

-- the figure is of the rule of this name, and its key stands at this place
pub record IsOfPlace (policy : PolicyData) (rule : RuleId) (table : PeakTable) (place : ℕ) (figure : Figure) : Type 0 where
  pub of_rule : IsTrue (same_rule rule figure.rule)
  pub stands : slice_get (keys_of table.peaks.entries) place ≡ Some (key_of policy figure)
