-- The highest line of one more record.
use Rattle.std.proofs.{Common.{◌≡◌, max, List, [], ◌∷◌, ◌++◌, fold, map, ap, ◌∙◌}, lemmas.List.{Sums.fold-append, map-append}}
use Rattle.gx_history.specs.declared.record.RecordData.{RecordData}
use Rattle.gx_pass.specs.Views.{highest_line, line_in}

pub highest_more : (records : List RecordData) (r : RecordData) → highest_line (records ++ r ∷ []) ≡ max (highest_line records) (line_in r)
highest_more records r = ap (fold max 0) (map-append line_in records (r ∷ [])) ∙ fold-append max 0 (map line_in records) (line_in r ∷ [])
