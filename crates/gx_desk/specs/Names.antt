-- Names as officers write them, and the types of commands.
use Rattle.std.specs.{Prelude.{ℕ, Bool, List, codes}, Str.str_eq_ignore_ascii_case}
use Rattle.gx_units.specs.declared.names.UserName.{UserName}
use Rattle.gx_desk.specs.declared.{WrittenName.WrittenName, Action.Action}

-- the user is written so, in either case of letters
abbrev pub is_written : WrittenName → UserName → Bool
is_written written user = str_eq_ignore_ascii_case written.bytes user.bytes

-- K, L, M, R, N, G, V and Z
abbrev pub command_type : Action → ℕ
command_type (Action.Kill account) = 75
command_type (Action.Lift account) = 76
command_type (Action.SetLimit rule limit) = 77
command_type (Action.Restrict rule stock) = 82
command_type (Action.Unrestrict rule stock) = 78
command_type (Action.Grant reader account) = 71
command_type (Action.Revoke reader account) = 86
command_type Action.CloseDay = 90

-- the word of a command, in scripts, on lines and in the log
abbrev pub command_word : Action → List ℕ
command_word (Action.Kill account) = codes "kill"
command_word (Action.Lift account) = codes "lift"
command_word (Action.SetLimit rule limit) = codes "limit"
command_word (Action.Restrict rule stock) = codes "restrict"
command_word (Action.Unrestrict rule stock) = codes "unrestrict"
command_word (Action.Grant reader account) = codes "grant"
command_word (Action.Revoke reader account) = codes "revoke"
command_word Action.CloseDay = codes "close"
