-- The figures that a record can raise, and those whose limit it sets.
use Rattle.std.specs.{Prelude.{◌==◌, ◌&&◌, List, [], ◌∷◌, ◌++◌, Option, Some, None, map, if◌then◌else◌}, List.{filter, flat_map}}
use Rattle.gx_units.specs.{Names.same_rule, declared.names.{AccountName.AccountName, RuleId.RuleId}}
use Rattle.gx_policy.specs.declared.policy.{FileRule.FileRule, PolicyData.PolicyData}
use Rattle.gx_history.specs.{declared.{facts.StockSide.StockSide, live_order.LiveOrder.LiveOrder, «record».RecordData.RecordData}, Live.{live, live_numbered}}
use Rattle.gx_peaks.specs.{declared.figure.Figure.Figure, Figures.counts, Noting.stock_side_of, Touching.set_in}
use Rattle.gx_warnings.specs.declared.{mark.Mark.Mark, warning.Warning.Warning}

-- the rule's figure of the account, on this side of a stock or on none
abbrev pub figure_under : AccountName → Option StockSide → FileRule → Figure
figure_under account side rule = record { rule = rule.name; account = account; side = side }

-- the figures that these rules count there
abbrev pub figures_among : AccountName → Option StockSide → List FileRule → List Figure
figures_among account side rules = map (figure_under account side) (filter (λ (rule : FileRule). counts rule account side) rules)

-- those that count an order, if there is one
abbrev pub figures_of_order : PolicyData → Option LiveOrder → List Figure
figures_of_order policy None = []
figures_of_order policy (Some o) = figures_among o.account None policy.rules ++ figures_among o.account (Some (stock_side_of o)) policy.rules

-- those that count what the account gains, if there is one
abbrev pub figures_of_gain : PolicyData → Option AccountName → List Figure
figures_of_gain policy None = []
figures_of_gain policy (Some account) = figures_among account None policy.rules

-- the figure of an entry that stands for a first use, if it is one of the rule
abbrev pub set_figure : RuleId → (Mark × Warning) → List Figure
set_figure rule entry = if entry.0.share == 0 && same_rule entry.1.figure.rule rule then entry.1.figure ∷ [] else []

-- all such figures
abbrev pub figures_under : RuleId → List (Mark × Warning) → List Figure
figures_under rule entries = flat_map (set_figure rule) entries

-- those of the rule whose limit is set, if one is
abbrev pub figures_of_setting : Option RuleId → List (Mark × Warning) → List Figure
figures_of_setting None entries = []
figures_of_setting (Some rule) entries = figures_under rule entries

-- all that this record, the last one, can have moved to a share of their limits
abbrev pub warnings_after : PolicyData → List RecordData → RecordData → Option AccountName → List (Mark × Warning) → List Figure
warnings_after policy records r seller entries =
    (figures_of_order policy (live_numbered (live policy records) r.number) ++ figures_of_gain policy seller) ++ figures_of_setting (set_in r) entries
