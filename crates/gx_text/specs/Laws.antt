-- What the definitions say of all bytes that a peer may choose.
use Rattle.std.specs.{Prelude.{ℕ, ◌≡◌, ◌==◌, nat_lt, Bool, true, false, IsTrue, List, [], ◌∷◌, ◌++◌, drop, Option, Some, None, if◌then◌else◌}, List.list_all}
use Rattle.gx_units.specs.Spelling.{is_visible}
use Rattle.gx_text.specs.Shown.{is_printed, json_string, shown_text}

abbrev pub are_bytes : List ℕ → Bool
are_bytes bytes = list_all (λ byte. nat_lt byte 256) bytes

-- only characters that are seen are shown: no space, no end of a line, no control character
abbrev pub ShownIsVisible : Type 0
ShownIsVisible = (bytes : List ℕ) → IsTrue (are_bytes bytes) → IsTrue (list_all is_visible (shown_text bytes))

-- in JSON spaces too
abbrev pub JsonIsPrinted : Type 0
JsonIsPrinted = (bytes : List ℕ) → IsTrue (are_bytes bytes) → IsTrue (list_all is_printed (json_string bytes))

-- what a reader of JSON finds behind a string whose first quote he has read: he stops at the next quote, but takes a byte that
-- stands behind a `\` as it is
abbrev pub behind_string : Bool → List ℕ → Option (List ℕ)
behind_string escaped [] = None
behind_string true (byte ∷ bytes) = behind_string false bytes
behind_string false (byte ∷ bytes) = if byte == 34 then Some bytes else behind_string (byte == 92) bytes

-- a string ends at its own last quote, whatever bytes are in it
abbrev pub StringsEnd : Type 0
StringsEnd = (bytes rest : List ℕ) → behind_string false (drop 1 (json_string bytes ++ rest)) ≡ Some rest
