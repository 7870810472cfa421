-- What one more denial changes in the table of denials.
use Rattle.std.specs.{Prelude.{◌+◌, List, count_by, map, Option, unwrap_or}, Option.option_map_or, Map.lookup}
use Rattle.indexmap.specs.IndexMap.{insert_entry}
use Rattle.gx_policy.specs.{declared.policy.PolicyData.PolicyData, Lists.once}
use Rattle.gx_history.specs.declared.record.RecordData.{RecordData}
use Rattle.gx_overview.specs.Accounts.{capped_count}
use Rattle.gx_activity.specs.{declared.denials.{Denial.Denial, DenialRow.DenialRow}, Denials.{denials, same_denial}}

-- before it came
abbrev pub never : Denial → DenialRow
never d = record { denial = d; count = 0 }

-- once it came once more
abbrev pub once_more : DenialRow → DenialRow
once_more row = record { denial = row.denial; count = capped_count (row.count + 1) }

-- the rows by what they are of, once this came
abbrev pub counted_once : List (Denial × DenialRow) → Denial → List (Denial × DenialRow)
counted_once entries d = insert_entry same_denial entries d (once_more (unwrap_or (lookup (same_denial d) entries) (never d)))

-- and once this came, or none did
abbrev pub counted_in : List (Denial × DenialRow) → Option Denial → List (Denial × DenialRow)
counted_in entries found = option_map_or (counted_once entries) found entries

-- how often it came, where a count stops at 64 bits
abbrev pub so_often : List Denial → Denial → DenialRow
so_often came d = record { denial = d; count = capped_count (count_by (λ (x : Denial). same_denial x d) came) }

-- the rows by what they are of
abbrev pub table_of : List Denial → List (Denial × DenialRow)
table_of came = map {B = Denial × DenialRow} (λ (d : Denial). (d, so_often came d)) (once same_denial (map (λ (d : Denial). d) came))

-- of the denials that the records show
abbrev pub denial_table : PolicyData → List RecordData → List (Denial × DenialRow)
denial_table policy records = table_of (denials policy records)
