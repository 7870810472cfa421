-- What the table becomes once figures are read.
use Rattle.std.specs.{Prelude.{ℕ, ◌||◌, not, List, [], ◌∷◌, ◌++◌, fold, is_some, if◌then◌else◌}, Option.option_map_or, Map.lookup}
use Rattle.gx_policy.specs.declared.policy.PolicyData.{PolicyData}
use Rattle.gx_history.specs.declared.record.RecordData.{RecordData}
use Rattle.gx_peaks.specs.{declared.{figure.Figure.Figure, key.PeakKey.PeakKey, peak.Reading.Reading}, Figures.used_of, Keys.key_of, Raising.reading_of}
use Rattle.gx_warnings.specs.{declared.{mark.Mark.Mark, warning.Warning.Warning}, Marks.same_mark, Warnings.passes}

-- with the warning, where it is due and none is kept under its mark
abbrev pub with_warning : List (Mark × Warning) → Mark → Warning → List (Mark × Warning)
with_warning entries mark w =
    if not (passes w.share w.reading.used w.reading.limit) || is_some (lookup (same_mark mark) entries) then entries else entries ++ (mark, w) ∷ []

-- with that of a share of a figure
abbrev pub with_share : PeakKey → Figure → Reading → List (Mark × Warning) → ℕ → List (Mark × Warning)
with_share key figure now entries share = with_warning entries (record { key = key; share = share }) (record { figure = figure; share = share; reading = now })

-- with those of a figure behind these records
abbrev pub with_figure : PolicyData → List RecordData → List ℕ → List (Mark × Warning) → Figure → List (Mark × Warning)
with_figure policy records shares entries figure =
    option_map_or (λ (used : ℕ). fold (with_share (key_of policy figure) figure (reading_of policy records figure.rule used)) entries shares)
    (used_of policy figure records) entries

-- with those of all these figures
abbrev pub with_figure_warnings : PolicyData → List RecordData → List ℕ → List (Mark × Warning) → List Figure → List (Mark × Warning)
with_figure_warnings policy records shares entries figures = fold (with_figure policy records shares) entries figures
