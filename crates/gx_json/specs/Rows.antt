-- What stands of a user, and a command that was granted, as JSON objects.
use Rattle.std.specs.Prelude.{ℕ, List, ◌++◌, Option, Some, None, codes, decimal}
use Rattle.gx_text.specs.Shown.{json_name}
use Rattle.gx_overview.specs.declared.{commands.GrantedCommand.GrantedCommand, day.UserRow.UserRow}
use Rattle.gx_json.specs.Parts.{first_member, member, number_or_null, time_text}

-- who gave a command, when, and by which record
abbrev pub command_text : Option GrantedCommand → List ℕ
command_text None = codes "null"
command_text (Some c) = first_member (codes "officer") (json_name c.officer.bytes) ++ member (codes "at") (time_text c.moment) ++ member (codes "record") (decimal c.number) ++ codes "}"

-- a user, and the line that he is logged in on
abbrev pub user_json : UserRow → List ℕ
user_json row = first_member (codes "user") (json_name row.user.bytes) ++ member (codes "line") (number_or_null row.line) ++ codes "}"
