-- How a text is made of its lines.
use Rattle.std.specs.{Prelude.{ℕ, Bool, not, ◌&&◌, ◌==◌, List, [], ◌∷◌, ◌++◌}, List.{flat_map, list_all}}
use Rattle.gx_script_run.specs.Scripting.{Cut}

-- a line and its LF
abbrev pub with_line_end : List ℕ → List ℕ
with_line_end line = line ++ 10 ∷ []

-- LF
abbrev pub is_end : ℕ → Bool
is_end byte = byte == 10

-- no LF stands in a line
abbrev pub has_no_end : List ℕ → Bool
has_no_end line = list_all (λ byte. not (byte == 10)) line

-- the lines with their LFs, and what is behind them
abbrev pub joined_lines : Cut → List ℕ
joined_lines cut = flat_map with_line_end cut.whole ++ cut.rest

abbrev pub are_lines : Cut → Bool
are_lines cut = list_all has_no_end cut.whole && has_no_end cut.rest
