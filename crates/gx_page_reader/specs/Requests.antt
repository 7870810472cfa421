-- The request of a user for what the page shows.
use Rattle.std.specs.Prelude.{ℕ, List, [], ◌∷◌, ◌++◌, codes}
use Rattle.http1.specs.{Fields.Header, Head.request_text}
use Rattle.base64.specs.{Engines.standard, GeneralPurpose.encode_of}
use Rattle.gx_units.specs.{Spelling.without_right_spaces, declared.names.{UserName.UserName, Password.Password}}

-- the user and his password, with a colon between them
abbrev pub name_and_password : UserName → Password → List ℕ
name_and_password user password = without_right_spaces user.bytes ++ 58 ∷ [] ++ without_right_spaces password.bytes

-- the same in base64, behind the word Basic
abbrev pub basic_value : UserName → Password → List ℕ
basic_value user password = codes "Basic " ++ encode_of standard (name_and_password user password)

-- the fields; this value says who asks
abbrev pub fields_of : List ℕ → List Header
fields_of value = (codes "Host", codes "localhost") ∷ (codes "Authorization", value) ∷ (codes "Connection", codes "close") ∷ []

-- the request, by HTTP/1.1
abbrev pub request_bytes : UserName → Password → List ℕ
request_bytes user password = request_text (codes "GET") (codes "/state.json") 1 (fields_of (basic_value user password))
