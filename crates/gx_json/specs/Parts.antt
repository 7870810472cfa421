-- Numbers, names and moments as members of a JSON object.
use Rattle.std.specs.{Prelude.{ℕ, ℤ, Bool, List, ◌++◌, Option, Some, None, codes, decimal, if◌then◌else◌}, Fmt.signed_decimal}
use Rattle.gx_text.specs.{Moments.moment_text, declared.moments.Decimals.Decimals}

-- a member behind others
abbrev pub member : List ℕ → List ℕ → List ℕ
member key value = codes ",\"" ++ key ++ codes "\":" ++ value

-- the first member of an object
abbrev pub first_member : List ℕ → List ℕ → List ℕ
first_member key value = codes "{\"" ++ key ++ codes "\":" ++ value

abbrev pub bool_text : Bool → List ℕ
bool_text value = if value then codes "true" else codes "false"

-- a moment of the day, as "10:29:43.698373412"
abbrev pub time_text : ℕ → List ℕ
time_text moment = codes "\"" ++ moment_text Decimals.Nine moment ++ codes "\""

abbrev pub number_or_null : Option ℕ → List ℕ
number_or_null None = codes "null"
number_or_null (Some n) = decimal n

abbrev pub integer_or_null : Option ℤ → List ℕ
integer_or_null None = codes "null"
integer_or_null (Some n) = signed_decimal n
