-- How fixed fields spell names: spaces fill them up, and some are compared in one case of letters.
use Rattle.std.specs.{Prelude.{ℕ, Bool, ◌&&◌, nat_le, ◌==◌, ◌-◌, List, [], ◌∷◌, ◌++◌, length, replicate, if◌then◌else◌}, List.list_all, Str.str_to_ascii_uppercase}
use Rattle.gx_units.specs.declared.names.{UserName.UserName, Password.Password, SessionName.SessionName}

abbrev pub is_space : ℕ → Bool
is_space byte = byte == 32

-- a character that is seen: one of `!` to `~`
abbrev pub is_visible : ℕ → Bool
is_visible byte = nat_le 33 byte && nat_le byte 126

-- nothing but spaces
abbrev pub is_blank : List ℕ → Bool
is_blank bytes = list_all is_space bytes

-- spaces behind the text, up to n bytes: an alpha field, left-justified
abbrev pub padded_to : ℕ → List ℕ → List ℕ
padded_to n text = text ++ replicate (n - length text) 32

-- spaces in front of the text, up to n bytes: a SoupBinTCP session or number, right-justified
abbrev pub padded_left : ℕ → List ℕ → List ℕ
padded_left n text = replicate (n - length text) 32 ++ text

-- the text without the spaces on its left
abbrev pub without_left_spaces : List ℕ → List ℕ
without_left_spaces [] = []
without_left_spaces (c ∷ cs) = if is_space c then without_left_spaces cs else c ∷ cs

-- the text without the spaces on its right
abbrev pub without_right_spaces : List ℕ → List ℕ
without_right_spaces [] = []
without_right_spaces (c ∷ cs) = if is_blank (c ∷ cs) then [] else c ∷ without_right_spaces cs

-- the text without the spaces around it
abbrev pub trimmed_text : List ℕ → List ℕ
trimmed_text text = without_right_spaces (without_left_spaces text)

-- User names and passwords are compared in upper case.
abbrev pub folded_user : UserName → UserName
folded_user name = record { bytes = str_to_ascii_uppercase name.bytes }

abbrev pub folded_password : Password → Password
folded_password given = record { bytes = str_to_ascii_uppercase given.bytes }

-- Session names are compared without the spaces around them.
abbrev pub folded_session : SessionName → SessionName
folded_session name = record { bytes = padded_to 10 (trimmed_text name.bytes) }
