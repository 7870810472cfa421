-- The line of the log that tells what a command ended.
use Rattle.std.specs.Prelude.{ℕ, List, ◌++◌, codes, decimal}
use Rattle.gx_text.specs.{declared.{form.Form.{Form, TheVariants.{Text, Json}}, moments.Decimals.TheVariants.{Nine, Six}}, Moments.moment_text, Shown.shown_name}
use Rattle.gx_units.specs.declared.names.UserName.{UserName}
use Rattle.gx_door.specs.declared.ended.EndedTotals.{EndedTotals}
use Rattle.gx_events.specs.Fields.{event_field, event_key, name_field, number_field}
use Rattle.gx_serve.specs.declared.announcing.{EndedBy.EndedBy, EndedOrders.EndedOrders}

-- the command, in words
abbrev pub ending_words : EndedBy → List ℕ
ending_words (EndedBy.Kill account) = codes "Kill of " ++ shown_name account.bytes
ending_words EndedBy.CloseDay = codes "Close Day"

-- the value of the event_key `command`
abbrev pub command_field : List ℕ → List ℕ
command_field word = event_key (codes "command") ++ codes "\"" ++ word ++ codes "\""

-- the command as fields of a JSON object
unfoldable pub command_fields : EndedBy → List ℕ
command_fields (EndedBy.Kill account) = command_field (codes "kill") ++ name_field (codes "account") account.bytes
command_fields EndedBy.CloseDay = command_field (codes "close")

-- who gave which command by which record, and how many orders and shares it ended
abbrev pub ended_text : EndedOrders → List ℕ
ended_text e =
    ending_words e.by ++ codes " by " ++ shown_name e.officer.bytes ++ codes " (record " ++ decimal e.number ++ codes ") ended "
    ++ decimal e.ended.orders ++ codes " orders, " ++ decimal e.ended.shares ++ codes " shares"

unfoldable pub officer_fields : UserName → List ℕ
officer_fields officer = event_field (codes "orders_ended") ++ name_field (codes "user") officer.bytes

unfoldable pub sum_fields : EndedTotals → List ℕ
sum_fields ended = number_field (codes "orders") ended.orders ++ number_field (codes "shares") ended.shares

abbrev pub ended_fields : EndedOrders → List ℕ
ended_fields e = officer_fields e.officer ++ command_fields e.by ++ sum_fields e.ended ++ number_field (codes "record") e.number

-- at the moment of the record
unfoldable pub ended_line : Form → EndedOrders → List ℕ
ended_line Text e = moment_text Six e.moment ++ codes " " ++ ended_text e ++ codes "\n"
ended_line Json e = codes "{\"at\":\"" ++ moment_text Nine e.moment ++ codes "\"" ++ ended_fields e ++ codes "}\n"
