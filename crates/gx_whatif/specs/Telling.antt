-- A comparison in words and as JSON.
use Rattle.std.specs.Prelude.{ℕ, List, [], ◌∷◌, ◌++◌, codes, decimal, flat_map, length, Option, Some, None}
use Rattle.gx_history.specs.declared.record.Verdict.{Verdict}
use Rattle.gx_json.specs.Parts.{first_member, member}
use Rattle.gx_script_text.specs.Printing.{line_end, verdict_text}
use Rattle.gx_text.specs.Shown.{json_name, json_string, shown_name}
use Rattle.gx_whatif.specs.declared.{change.VerdictChange.VerdictChange, heading.{Heading.Heading, HeadingRow.HeadingRow}}

-- a verdict in words; a step that leaves no record has none
abbrev pub told_text : Option Verdict → List ℕ
told_text None = codes "no record"
told_text (Some verdict) = verdict_text verdict

-- the line of the first change, if there is one
abbrev pub first_line : List VerdictChange → List ℕ
first_line [] = []
first_line (c ∷ more) = codes "first " ++ decimal c.number ++ codes ": " ++ verdict_text c.recorded ++ codes " -> " ++ told_text c.told ++ line_end

-- a heading in words
abbrev pub heading_text : Heading → List ℕ
heading_text (Heading.DeniedNow rule) = codes "denied now by " ++ shown_name rule.bytes
heading_text (Heading.DeniedNoMore rule) = codes "denied no more by " ++ shown_name rule.bytes
heading_text (Heading.OfAccount account) = codes "account " ++ shown_name account.bytes
heading_text Heading.OfNoAccount = codes "no account"

-- the line of a heading
abbrev pub heading_line : HeadingRow → List ℕ
heading_line row = heading_text row.heading ++ codes ": " ++ decimal row.count ++ line_end

-- how many of how many records change, the first of them, and a line for each heading
abbrev pub whatif_text : ℕ → List VerdictChange → List HeadingRow → List ℕ
whatif_text count found rows = codes "changed " ++ decimal (length found) ++ codes " of " ++ decimal count ++ line_end ++ first_line found ++ flat_map heading_line rows

-- a verdict as a string, or null where there is none
abbrev pub told_json : Option Verdict → List ℕ
told_json None = codes "null"
told_json (Some verdict) = json_string (verdict_text verdict)

-- the first change as an object, or null
abbrev pub first_json : List VerdictChange → List ℕ
first_json [] = codes "null"
first_json (c ∷ more) =
    first_member (codes "record") (decimal c.number) ++ member (codes "recorded") (told_json (Some c.recorded)) ++ member (codes "told") (told_json c.told) ++ codes "}"

-- a heading as the first member of an object
abbrev pub heading_member : Heading → List ℕ
heading_member (Heading.DeniedNow rule) = first_member (codes "denied_now_by") (json_name rule.bytes)
heading_member (Heading.DeniedNoMore rule) = first_member (codes "denied_no_more_by") (json_name rule.bytes)
heading_member (Heading.OfAccount account) = first_member (codes "account") (json_name account.bytes)
heading_member Heading.OfNoAccount = first_member (codes "account") (codes "null")

-- a heading and its count as an object
abbrev pub heading_json : HeadingRow → List ℕ
heading_json row = heading_member row.heading ++ member (codes "count") (decimal row.count) ++ codes "}"

-- the objects of the rows, with commas between them
abbrev pub rows_json : List HeadingRow → List ℕ
rows_json [] = []
rows_json (row ∷ rows) = heading_json row ++ flat_map (λ (other : HeadingRow). codes "," ++ heading_json other) rows

-- what stands in the braces of the whole
abbrev pub whatif_members : ℕ → List VerdictChange → List HeadingRow → List ℕ
whatif_members count found rows =
    first_member (codes "records") (decimal count) ++ member (codes "changed") (decimal (length found)) ++ member (codes "first") (first_json found)
    ++ member (codes "counts") (codes "[" ++ rows_json rows ++ codes "]")

-- the whole as one object, on a line
abbrev pub whatif_json : ℕ → List VerdictChange → List HeadingRow → List ℕ
whatif_json count found rows = whatif_members count found rows ++ (codes "}" ++ line_end)
