-- What a granted command owes: of live orders that it ends, of the end of the day, and its answer; and which orders it leaves.
use Rattle.std.specs.{Prelude.{ℕ, ◌≤◌, Bool, List, [], ◌∷◌, ◌++◌, Some, length, map}, List.filter}
use Rattle.gx_units.specs.declared.names.UserName.{UserName}
use Rattle.gx_ouch.specs.declared.{letters.EventCode.EventCode, outbound.Outbound.Outbound}
use Rattle.gx_desk.specs.{Names.command_type, declared.{Action.Action, AnswerCode.AnswerCode, Command.Command}}
use Rattle.gx_policy.specs.{declared.policy.{PolicyData.PolicyData, User.User}, People.is_trader}
use Rattle.gx_history.specs.{declared.{«record».RecordData.RecordData, report.{Message.Message, Report.Report}, live_order.LiveOrder.LiveOrder}, Orders.ends_account, Streams.lift_code}
use Rattle.gx_trading_status.specs.StatusData.{TradingStatusData, killed_in}
use Rattle.gx_streams.specs.{Kept.reserved_in, Streams.AllStreams, Telling.{end_message, reports_to, with_all_reports}}
use Rattle.gx_gate_state.specs.declared.next_record.NextRecord.{NextRecord}

-- the command ends the order
abbrev pub is_ended : Action → LiveOrder → Bool
is_ended action o = ends_account o.account action

-- the report that the order has ended, for its user
abbrev pub end_report : ℕ → LiveOrder → UserName × Report
end_report moment o = (o.user, record { timestamp = moment; message = (end_message o).1 })

-- for each live order that the command ends, by number
abbrev pub end_reports : Action → ℕ → List LiveOrder → List (UserName × Report)
end_reports action moment live = map (end_report moment) (filter (is_ended action) live)

-- the user trades for an account
abbrev pub trades : User → Bool
trades u = is_trader (Some u.role)

-- System Event: the day has ended
abbrev pub day_end_message : Message
day_end_message = Message.Order (Outbound.SystemEvent EventCode.EndOfDay)

-- the end of the day, for the user
abbrev pub day_end_report : ℕ → User → UserName × Report
day_end_report moment u = (u.name, record { timestamp = moment; message = day_end_message })

-- for each of them who trades
abbrev pub day_end_reports : ℕ → List User → List (UserName × Report)
day_end_reports moment users = map (day_end_report moment) (filter trades users)

-- where the command closes the day
abbrev pub close_reports : Action → ℕ → List User → List (UserName × Report)
close_reports Action.CloseDay moment users = day_end_reports moment users
close_reports other moment users = []

-- the code of the answer to a granted action, by the day that it leaves
abbrev pub code_by : TradingStatusData → Action → AnswerCode
code_by status (Action.Lift account) = lift_code (killed_in status account)
code_by status other = AnswerCode.Done

-- Answer: what becomes of an officer's command, with the number of its record
abbrev pub answer_message : RecordData → Command → AnswerCode → Message
answer_message r c code = Message.Answer (record { tag = c.tag; command_type = command_type c.action; code = code; record_number = r.number })

-- the answer, for the officer
abbrev pub answer_report : RecordData → UserName → Command → AnswerCode → UserName × Report
answer_report r officer c code = (officer, record { timestamp = r.moment; message = answer_message r c code })

-- all that the record of a granted command owes: its answer comes last
abbrev pub command_reports : PolicyData → RecordData → UserName → Command → AnswerCode → List LiveOrder → List (UserName × Report)
command_reports policy r officer c code live =
    end_reports c.action r.moment live ++ (close_reports c.action r.moment policy.users ++ answer_report r officer c code ∷ [])

-- where this is the next record
abbrev pub next_reports : NextRecord → UserName → Command → AnswerCode → List LiveOrder → List (UserName × Report)
next_reports n officer c code live = command_reports n.policy.now n.data.now officer c code live

-- each user has a place for each report that is for him
abbrev pub HaveReservedFor : List (UserName × Report) → AllStreams → Type 0
HaveReservedFor owed streams = (user : UserName) → length (reports_to owed user) ≤ reserved_in streams.lists user

-- the orders that end told to their users, in reserved slots
abbrev pub with_end_reports : Action → ℕ → List LiveOrder → AllStreams → AllStreams
with_end_reports action moment live streams = with_all_reports (end_reports action moment live) streams

-- the end of the day told to those who trade
abbrev pub with_day_end_reports : ℕ → List User → AllStreams → AllStreams
with_day_end_reports moment users streams = with_all_reports (day_end_reports moment users) streams

-- where the command closes the day
abbrev pub with_close_reports : Action → ℕ → List User → AllStreams → AllStreams
with_close_reports action moment users streams = with_all_reports (close_reports action moment users) streams

-- all that the next record owes told
abbrev pub with_next_reports : NextRecord → UserName → Command → AnswerCode → List LiveOrder → AllStreams → AllStreams
with_next_reports n officer c code live streams = with_all_reports (next_reports n officer c code live) streams
