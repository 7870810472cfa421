-- The readers whom commands name.
use Rattle.std.specs.{Prelude.{◌&&◌, List, Option, Some}, List.find}
use Rattle.gx_desk.specs.{Names.is_written, declared.WrittenName.WrittenName}
use Rattle.gx_policy.specs.{declared.policy.User.User, People.is_reader}

-- the reader whom an officer names, in the policy's own spelling
abbrev pub reader_in : List User → WrittenName → Option User
reader_in users written = find (λ (u : User). is_written written u.name && is_reader (Some u.role)) users
