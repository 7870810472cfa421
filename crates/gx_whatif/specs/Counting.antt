-- What one more change makes of the counts.
use Rattle.std.specs.{Prelude.{◌+◌, List, count_by, fold, map, unwrap_or}, Map.lookup}
use Rattle.indexmap.specs.IndexMap.{insert_entry}
use Rattle.gx_policy.specs.{Lists.once}
use Rattle.gx_overview.specs.Accounts.{capped_count}
use Rattle.gx_whatif.specs.{declared.{heading.{Heading.Heading, HeadingRow.HeadingRow}}, Headings.{same_heading}}

-- before it came
abbrev pub heading_uncounted : Heading → HeadingRow
heading_uncounted h = record { heading = h; count = 0 }

-- once it came once more
abbrev pub heading_once_more : HeadingRow → HeadingRow
heading_once_more row = record { heading = row.heading; count = capped_count (row.count + 1) }

-- the rows by their headings, once this came
abbrev pub heading_counted : List (Heading × HeadingRow) → Heading → List (Heading × HeadingRow)
heading_counted entries h = insert_entry same_heading entries h (heading_once_more (unwrap_or (lookup (same_heading h) entries) (heading_uncounted h)))

-- once these came
abbrev pub counted_each : List (Heading × HeadingRow) → List Heading → List (Heading × HeadingRow)
counted_each entries came = fold heading_counted entries came

-- how often it came, where a count stops at 64 bits
abbrev pub heading_count : List Heading → Heading → HeadingRow
heading_count came h = record { heading = h; count = capped_count (count_by (λ (x : Heading). same_heading x h) came) }

-- the rows by their headings, of these
abbrev pub heading_table : List Heading → List (Heading × HeadingRow)
heading_table came = map {B = Heading × HeadingRow} (λ (h : Heading). (h, heading_count came h)) (once same_heading (map (λ (h : Heading). h) came))
