-- What is so of every name that is shown.
use Rattle.std.specs.{Prelude.{ℕ, List, IsTrue}, List.list_all}
use Rattle.gx_units.specs.Spelling.{is_visible}
use Rattle.gx_text.specs.{Laws.are_bytes, Shown.{is_printed, shown_name, json_name}}

-- bytes, as a field has them
abbrev pub IsBytes : List ℕ → Type 0
IsBytes field = IsTrue (are_bytes field)

-- whatever bytes a field has, what is shown of it are visible characters alone: no end of a line, no control sequence
abbrev pub NamesAreVisible : Type 0
NamesAreVisible = (field : List ℕ) → IsBytes field → IsTrue (list_all is_visible (shown_name field))

-- in JSON spaces too
abbrev pub JsonNamesArePrinted : Type 0
JsonNamesArePrinted = (field : List ℕ) → IsBytes field → IsTrue (list_all is_printed (json_name field))
