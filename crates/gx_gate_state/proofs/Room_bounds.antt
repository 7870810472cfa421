-- The room of users: reports that are told take it from places, and nobody loses any.
use Rattle.std.proofs.{Common.{◌≡◌, ℕ, ◌+◌, ◌≤◌, arith, true, false, Bool, List, [], ◌∷◌, ◌++◌, length, length-append, ◌∙◌, ap, sym, cond, map}, Math.Path.subst}
use Rattle.std.specs.{Prelude.{Option, Some, None}, Option.option_map_or}
use Rattle.gx_units.specs.{Names.same_user, declared.names.UserName.UserName}
use Rattle.gx_desk.specs.declared.Action.{Action}
use Rattle.gx_policy.specs.declared.policy.{PolicyData.PolicyData, User.User}
use Rattle.gx_history.specs.{declared.{«record».RecordData.RecordData, report.{Message.Message, Report.Report}}, Readers.reader_in, Streams.{reports_of, stream}, Verdicts.IsLegal}
use Rattle.gx_laws.proofs.Streams_next.{stream_next}
use Rattle.gx_streams.specs.{declared.fill.ReportedFill.ReportedFill, Kept.{UserList, list_of, on_user, with_reserved_last}, Streams.{AllStreams, has_own_stream, on_list_of, reports_in, with_fill, with_fill_reports}, Telling.{shown_streams, reports_after, with_all_reports, with_report}}
use Rattle.gx_streams.proofs.UserLists_found.{reports_are}
use Rattle.gx_gate_state.specs.{State.{HaveReservedWithRecord, HaveNoFewer, HaveReservedReports, KeepRoom, KnowsUsers, with_message}, Settings.{sent_on, sent_to}}

-- the room of a list
abbrev room_of : Option (UserList Report) → ℕ
room_of found = length (option_map_or (λ (l : UserList Report). l.kept.items) found []) + option_map_or (λ (l : UserList Report). l.kept.reserved) found 0

-- a report in a place that was kept takes no room from anybody
one_told : (user other : UserName) (report : Report) (ls : List (UserList Report)) → room_of (list_of ls other) ≤ room_of (list_of (on_user user (with_reserved_last report) ls) other)
one_told user other report [] = omega arith
one_told user other report (l ∷ ls) = at (same_user user l.user) (one_told user other report ls)
  where
    changed : UserList Report
    changed = record { user = l.user; kept = with_reserved_last report l.kept }

    rest : Option (UserList Report)
    rest = list_of (on_user user (with_reserved_last report) ls) other

    more : length l.kept.items + l.kept.reserved ≤ length changed.kept.items + changed.kept.reserved
    more = omega (arith, length-append l.kept.items (report ∷ []))

    told : (b : Bool) → room_of (list_of ls other) ≤ room_of rest → room_of (cond b (Some l) (list_of ls other)) ≤ room_of (cond b (Some changed) rest)
    told true h = more
    told false h = h

    same : (b : Bool) → room_of (list_of ls other) ≤ room_of rest → room_of (cond b (Some l) (list_of ls other)) ≤ room_of (cond b (Some l) rest)
    same true h = omega arith
    same false h = h

    at : (c : Bool) → room_of (list_of ls other) ≤ room_of rest → room_of (list_of (l ∷ ls) other) ≤ room_of (list_of ((cond c changed l) ∷ on_user user (with_reserved_last report) ls) other)
    at true h = told (same_user other l.user) h
    at false h = same (same_user other l.user) h

pub no_room_lost : (streams : AllStreams) → KeepRoom streams streams
no_room_lost streams = record { room = λ user. omega arith }

pub one_keeps_room : (streams : AllStreams) (user : UserName) (report : Report) → KeepRoom streams (on_list_of user (with_reserved_last report) streams)
one_keeps_room streams user report = record { room = λ other. one_told user other report streams.lists }

pub both_keep_room : (before between after : AllStreams) → KeepRoom before between → KeepRoom between after → KeepRoom before after
both_keep_room before between after first second = record { room = λ user. omega (arith, first.room user, second.room user) }

pub all_keep_room : (owed : List (UserName × Report)) (streams : AllStreams) → KeepRoom streams (with_all_reports owed streams)
all_keep_room [] streams = no_room_lost streams
all_keep_room (o ∷ owed) streams =
    both_keep_room streams (with_report streams o) (with_all_reports owed (with_report streams o)) (one_keeps_room streams o.0 o.1) (all_keep_room owed (with_report streams o))

pub told_keeps_room : (user : UserName) (moment : ℕ) (message : Option Message) (streams : AllStreams) → KeepRoom streams (with_message user moment message streams)
told_keeps_room user moment None streams = no_room_lost streams
told_keeps_room user moment (Some message) streams = one_keeps_room streams user (record { timestamp = moment; message = message })

-- and so it is with the streams that come of it
pub telling_keeps_room : (before after : AllStreams) (user : UserName) (moment : ℕ) (message : Option Message) → after ≡ with_message user moment message before → KeepRoom before after
telling_keeps_room before after user moment message is = subst (KeepRoom before) (sym is) (told_keeps_room user moment message before)

pub telling_all_keeps_room : (before after : AllStreams) (owed : List (UserName × Report)) → after ≡ with_all_reports owed before → KeepRoom before after
telling_all_keeps_room before after owed is = subst (KeepRoom before) (sym is) (all_keep_room owed before)

-- and with those of a command that changes whose fills a reader gets
pub sent_keeps_room : (policy : PolicyData) (people now : List User) (before after : AllStreams) (action : Action) → after ≡ sent_on policy people now before action → KeepRoom before after
sent_keeps_room policy people now before after action is = subst (KeepRoom before) (sym is) (by action)
  where
    to : (found : Option User) → KeepRoom before (sent_to policy now before found)
    to None = no_room_lost before
    to (Some u) = record { room = λ user. omega arith }

    by : (action : Action) → KeepRoom before (sent_on policy people now before action)
    by (Action.Grant written account) = to (reader_in people written)
    by (Action.Revoke written account) = to (reader_in people written)
    by (Action.SetLimit rule limit) = no_room_lost before
    by (Action.Restrict rule stock) = no_room_lost before
    by (Action.Unrestrict rule stock) = no_room_lost before
    by (Action.Kill account) = no_room_lost before
    by (Action.Lift account) = no_room_lost before
    by Action.CloseDay = no_room_lost before

-- a fill takes nobody's places
fill_takes_none : (f : ReportedFill) (streams : AllStreams) → HaveNoFewer streams (with_fill f streams)
fill_takes_none f streams user = at streams.lists
  where
    spare_of : Option (UserList Report) → ℕ
    spare_of found = option_map_or (λ (l : UserList Report). l.kept.reserved) found 0

    told : UserList Report → UserList Report
    told l = with_fill_reports streams.readers f l

    at : (ls : List (UserList Report)) → spare_of (list_of ls user) ≤ spare_of (list_of (map told ls) user)
    at [] = omega arith
    at (l ∷ ls) = by (same_user user l.user) (at ls)
      where
        by : (b : Bool) → spare_of (list_of ls user) ≤ spare_of (list_of (map told ls) user)
            → spare_of (cond b (Some l) (list_of ls user)) ≤ spare_of (cond b (Some (told l)) (list_of (map told ls) user))
        by true h = omega arith
        by false h = h

pub filling_takes_none : (before after : AllStreams) (f : ReportedFill) → after ≡ with_fill f before → HaveNoFewer before after
filling_takes_none before after f is = subst (HaveNoFewer before) (sym is) (fill_takes_none f before)

-- after what the record owes was told, there are still the reserved places behind it
pub places_behind : {policy : PolicyData} {history : List RecordData} (r : RecordData) (placed after : AllStreams) → IsLegal policy history → IsLegal policy (history ++ r ∷ [])
    → KnowsUsers policy placed → KnowsUsers policy after → shown_streams placed ≡ reports_after policy history → shown_streams after ≡ reports_after policy (history ++ r ∷ [])
    → KeepRoom placed after → HaveReservedWithRecord policy history r placed → HaveReservedReports policy (history ++ r ∷ []) after
places_behind {policy} {history} r placed after legal legal_then knows knows_then shows shows_then keep have = record {
  kept = λ user told.
      let there : has_own_stream placed user ≡ true = knows user ∙ sym (knows_then user) ∙ told in
      let was : length (reports_in placed user) ≡ length (stream policy history user) = ap length (reports_are policy history placed legal shows user) in
      let is : length (reports_in after user) ≡ length (stream policy history user ++ reports_of policy user (history, r)) =
      ap length (reports_are policy (history ++ r ∷ []) after legal_then shows_then user ∙ stream_next policy history r user) in
      omega (arith, have.all user there, keep.room user, was, is, length-append (stream policy history user) (reports_of policy user (history, r)));
}

-- where nothing was told, they are the same
pub places_still : {policy : PolicyData} {history : List RecordData} (placed after : AllStreams) → IsLegal policy history
    → KnowsUsers policy placed → KnowsUsers policy after → shown_streams placed ≡ reports_after policy history → shown_streams after ≡ reports_after policy history
    → KeepRoom placed after → HaveReservedReports policy history placed → HaveReservedReports policy history after
places_still {policy} {history} placed after legal knows knows_then shows shows_then keep have = record {
  kept = λ user told.
      let there : has_own_stream placed user ≡ true = knows user ∙ sym (knows_then user) ∙ told in
      omega (
        arith,
        have.kept user there,
        keep.room user,
        ap length (reports_are policy history placed legal shows user),
        ap length (reports_are policy history after legal shows_then user),
      );
}
