-- What is shown of a name is visible, since what is shown of any bytes is.
use Rattle.std.proofs.{Common.{◌≡◌, ℕ, Bool, true, false, cond, List, [], ◌∷◌, refl}, lemmas.Bool.{and_parts, and_from}}
use Rattle.std.specs.Prelude.{nat_lt}
use Rattle.gx_units.specs.Spelling.{is_blank, without_right_spaces}
use Rattle.gx_text.specs.Laws.{are_bytes, JsonIsPrinted, ShownIsVisible}
use Rattle.gx_lines.specs.NameLaws.{IsBytes, NamesAreVisible, JsonNamesArePrinted}

kept_by : (blank : Bool) (c : ℕ) (rest : List ℕ) → nat_lt c 256 ≡ true → IsBytes rest → IsBytes (cond blank [] (c ∷ rest))
kept_by true c rest byte bytes = refl
kept_by false c rest byte bytes = and_from _ _ byte bytes

pub kept : (field : List ℕ) → IsBytes field → IsBytes (without_right_spaces field)
kept [] h = refl
kept (c ∷ cs) h =
    let parts = and_parts (nat_lt c 256) (are_bytes cs) h in
    kept_by (is_blank (c ∷ cs)) c (without_right_spaces cs) parts.0 (kept cs parts.1)

pub names_are_visible : ShownIsVisible → NamesAreVisible
names_are_visible seen field h = seen (without_right_spaces field) (kept field h)

pub json_names_are_printed : JsonIsPrinted → JsonNamesArePrinted
json_names_are_printed printed field h = printed (without_right_spaces field) (kept field h)
