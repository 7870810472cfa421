-- A view as one JSON object.
use Rattle.std.specs.Prelude.{ℕ, List, ◌++◌, ◌-◌, codes, decimal}
use Rattle.gx_board.specs.declared.{counts.Counts.Counts, view.BoardView.BoardView}
use Rattle.gx_overview.specs.declared.day.DayRow.{DayRow}
use Rattle.gx_json.specs.{Parts.{bool_text, first_member, member, time_text}, Rows.user_json}
use Rattle.gx_status.specs.{Listings.array_text, Rows.{account_json, denied_json, gross_json, limit_json, net_json, record_json}}

-- how far the day is, and how many records are left
unfoldable pub day_numbers : DayRow → List ℕ
day_numbers day = first_member (codes "record") (decimal day.records) ++ member (codes "left") (decimal day.left)

-- how many lines are left behind this one
unfoldable pub lines_member : ℕ → List ℕ
lines_member line = member (codes "lines_left") (decimal (65535 - line))

-- the moment of its last record, and whether it is closed
unfoldable pub day_end_members : DayRow → List ℕ
day_end_members day = member (codes "at") (time_text day.moment) ++ member (codes "closed") (bool_text day.is_closed)

-- what the records say in numbers
unfoldable pub count_members : Counts → List ℕ
count_members counts = member (codes "granted") (decimal counts.granted) ++ member (codes "denied") (decimal counts.denied) ++ member (codes "fills") (decimal counts.fills)

-- what stands of accounts and of rules
unfoldable pub standing_members : BoardView → List ℕ
standing_members v = member (codes "accounts") (array_text account_json v.accounts.items) ++ member (codes "limits") (array_text limit_json v.limits.items)

-- what is used of limits
unfoldable pub use_members : BoardView → List ℕ
use_members v = member (codes "gross") (array_text gross_json v.gross.items) ++ member (codes "net") (array_text net_json v.net.items)

-- what was denied, by each rule and at last
unfoldable pub denial_members : BoardView → List ℕ
denial_members v = member (codes "rules") (array_text denied_json v.denied.items) ++ member (codes "denials") (array_text record_json v.denials.items)

-- what officers asked for at last, and who is logged in
unfoldable pub people_members : BoardView → List ℕ
people_members v = member (codes "commands") (array_text record_json v.commands.items) ++ member (codes "users") (array_text user_json v.users.items)

-- all but the brace at its end, so that a server may put its own members behind
abbrev pub view_members : BoardView → List ℕ
view_members v =
    day_numbers v.day ++ lines_member v.counts.highest_line ++ day_end_members v.day ++ count_members v.counts ++ standing_members v ++ use_members v ++ denial_members v ++ people_members v
