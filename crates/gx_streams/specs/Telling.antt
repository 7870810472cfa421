-- What the streams show, and what each user is told by a day's records.
use Rattle.std.specs.Prelude.{List, [], ◌++◌, map, filter, fold, if◌then◌else◌}
use Rattle.gx_units.specs.{Names.same_user, declared.names.UserName.UserName}
use Rattle.gx_ouch.specs.declared.{letters.CancelReason.CancelReason, outbound.Outbound.Outbound}
use Rattle.gx_desk.specs.declared.Action.{Action}
use Rattle.gx_policy.specs.declared.policy.{PolicyData.PolicyData, User.User}
use Rattle.gx_history.specs.{declared.{«record».RecordData.RecordData, report.{Message.Message, Report.Report}, live_order.LiveOrder.LiveOrder}, LiveOrders.shares_open, Orders.ends_account, Streams.{report_of, stream}}
use Rattle.gx_streams.specs.{Kept.{UserList, with_reserved_last}, Streams.{AllStreams, on_list_of}}

-- a user's reports
pub record UserReports : Type 0 where
  pub user : UserName
  pub reports : List Report

-- a user's list without the places
abbrev pub shown_list : UserList Report → UserReports
shown_list l = record { user = l.user; reports = l.kept.items }

-- the streams without the places
unfoldable pub shown_streams : AllStreams → List UserReports
shown_streams streams = map shown_list streams.lists

-- all that the records tell the user
abbrev pub reports_of_user : PolicyData → List RecordData → User → UserReports
reports_of_user policy history u = record { user = u.name; reports = stream policy history u.name }

-- all that the records tell each of the policy's users
unfoldable pub reports_after : PolicyData → List RecordData → List UserReports
reports_after policy history = map (reports_of_user policy history) policy.users

-- the user's reports, and then these
abbrev pub with_more : (UserName → List Report) → UserReports → UserReports
with_more more t = record { user = t.user; reports = t.reports ++ more t.user }

-- each user's reports, and then what he is told now
abbrev pub each_with_more : (UserName → List Report) → List UserReports → List UserReports
each_with_more more lists = map (with_more more) lists

-- these reports for one user, and none for any other
abbrev pub only_to : UserName → List Report → UserName → List Report
only_to receiver reports user = if same_user receiver user then reports else []

-- one user's reports followed by these, and every other's as they were
abbrev pub with_reports_to : UserName → List Report → List UserReports → List UserReports
with_reports_to receiver reports lists = each_with_more (only_to receiver reports) lists

-- of what is owed to many, what is owed to this user
abbrev pub reports_to : List (UserName × Report) → UserName → List Report
reports_to owed user = map (λ (o : UserName × Report). o.1) (filter (λ (o : UserName × Report). same_user o.0 user) owed)

-- a report told to its user, in a place that was kept
abbrev pub with_report : AllStreams → (UserName × Report) → AllStreams
with_report streams o = on_list_of o.0 (with_reserved_last o.1) streams

-- each told to its user in turn, in a place that was kept
abbrev pub with_all_reports : List (UserName × Report) → AllStreams → AllStreams
with_all_reports owed streams = fold with_report streams owed

-- a message of the record, owed to the user
abbrev pub report_to : RecordData → (UserName × Message) → UserName × Report
report_to r o = (o.0, report_of r o.1)

-- Canceled, with the user who is told so
abbrev pub end_message : LiveOrder → UserName × Message
end_message o = (o.user, Message.Order (Outbound.Canceled (record { token = o.token; decrement = shares_open o; reason = CancelReason.Supervisory })))

-- what a command owes for those of the live orders that it ends
abbrev pub end_messages : List LiveOrder → Action → List (UserName × Message)
end_messages found action = map end_message (filter (λ (o : LiveOrder). ends_account o.account action) found)
