-- The figures that are told for one request.
use Rattle.std.specs.{Option.option_map_or, Prelude.{ℕ, List, slice_get}}
use Rattle.gx_history.specs.{declared.facts.RuleFigures.RuleFigures, Figures.no_figures}
use Rattle.gx_ledger.specs.{declared.tally.{Tally.Tally, FigureQuery.FigureQuery}, Tallies.tally_figures}

-- what each rule of the file counts, and what is asked for
pub record Asking : Type 0 where
  pub tallies : List Tally
  pub wanted : FigureQuery

-- the figures of the rule at this place in the file
abbrev pub figures_at : Asking → ℕ → RuleFigures
figures_at asked place = option_map_or (tally_figures asked.wanted) (slice_get asked.tallies place) no_figures
