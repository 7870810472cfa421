-- What the streams show, beside what a day's records tell each user.
use Rattle.std.specs.{Prelude.{◌≡◌, ◌-◌, ◌<◌, ◌≤◌, ℕ, max, IsTrue, IsFalse, is_some, length, take, List, [], ◌∷◌, ◌++◌, map, filter, None, ◌&&◌, not, false}, List.AllByRecursion}
use Rattle.gx_units.specs.{Names.same_user, declared.names.UserName.UserName}
use Rattle.gx_desk.specs.declared.Action.{Action}
use Rattle.gx_policy.specs.{declared.policy.PolicyData.PolicyData, Lists.slice, People.{is_reader, role_in, user_in}}
use Rattle.gx_history.specs.{declared.{«record».RecordData.RecordData, report.{Message.Message, Report.Report}, live_order.LiveOrder.LiveOrder}, Live.live, Orders.ends_account, Streams.{copies, ended_of, report_of, reports_of, stream, to_user}, Verdicts.IsLegal, Requests.is_fill}
use Rattle.gx_streams.specs.{Kept.{ReservedList, reserved_in, with_reserved_last, with_last, with_reserved}, Recorded.{IsRecorded, house_of}, declared.fill.ReportedFill.ReportedFill, Sending.{AreSent, IsMadeBy, KnowsReaders}, Streams.{AllStreams, empty_streams, has_own_stream, on_list_of, reports_in, fill_reports, with_fill}, Telling.{each_with_more, end_messages, report_to, reports_to, shown_streams, reports_after, with_reports_to, with_all_reports, with_report}}

-- the record owes messages to one user alone
abbrev pub OwesTo : PolicyData → List RecordData → RecordData → UserName → List Message → Type 0
OwesTo policy history r receiver owed = (user : UserName) → reports_of policy user (history, r) ≡ map (report_of r) (to_user receiver user owed)

-- the record owes these messages, each to its user
abbrev pub OwesAll : PolicyData → List RecordData → RecordData → List (UserName × Message) → Type 0
OwesAll policy history r owed = (user : UserName) → reports_of policy user (history, r) ≡ reports_to (map (report_to r) owed) user

-- the record owes nobody anything
abbrev pub OwesNothing : PolicyData → List RecordData → RecordData → Type 0
OwesNothing policy history r = (user : UserName) → reports_of policy user (history, r) ≡ []

-- before any record nobody is told anything
abbrev pub FirstNothingIsTold : Type 0
FirstNothingIsTold = (policy : PolicyData) → shown_streams (empty_streams policy) ≡ reports_after policy []

-- one more record tells each user what it owes him, and takes nothing back
abbrev pub TellingGoesOn : Type 0
TellingGoesOn = (policy : PolicyData) (history : List RecordData) (r : RecordData)
    → reports_after policy (history ++ r ∷ []) ≡ each_with_more (λ user. reports_of policy user (history, r)) (reports_after policy history)

-- a record that owes messages to one user alone tells him these
abbrev pub OneIsTold : Type 0
OneIsTold = (policy : PolicyData) (history : List RecordData) (r : RecordData) (receiver : UserName) (owed : List Message)
    → OwesTo policy history r receiver owed
    → reports_after policy (history ++ r ∷ []) ≡ with_reports_to receiver (map (report_of r) owed) (reports_after policy history)

-- a record that owes messages to many tells each his own
abbrev pub AllAreTold : Type 0
AllAreTold = (policy : PolicyData) (history : List RecordData) (r : RecordData) (owed : List (UserName × Message))
    → OwesAll policy history r owed
    → reports_after policy (history ++ r ∷ []) ≡ each_with_more (reports_to (map (report_to r) owed)) (reports_after policy history)

-- a record that owes nothing tells nobody anything
abbrev pub NobodyIsTold : Type 0
NobodyIsTold = (policy : PolicyData) (history : List RecordData) (r : RecordData)
    → OwesNothing policy history r → reports_after policy (history ++ r ∷ []) ≡ reports_after policy history

-- what a command owes for the orders that it ends is owed to their users, in the order of the list
abbrev pub EndedAreOwed : Type 0
EndedAreOwed = (found : List LiveOrder) (r : RecordData) (action : Action) (user : UserName)
    → map (report_of r) (ended_of found action user) ≡ reports_to (map (report_to r) (end_messages found action)) user

-- to each user as many messages as he has live orders that end
abbrev pub EndedAreCounted : Type 0
EndedAreCounted = (found : List LiveOrder) (r : RecordData) (action : Action) (user : UserName)
    → length (reports_to (map (report_to r) (end_messages found action)) user)
    ≡ length (filter (λ (o : LiveOrder). same_user o.user user && ends_account o.account action) found)

-- a report put last, in a place of its own, is shown last
abbrev pub LastIsShown : Type 0
LastIsShown = (streams : AllStreams) (user : UserName) (report : Report)
    → shown_streams (on_list_of user (with_last report) streams) ≡ with_reports_to user (report ∷ []) (shown_streams streams)

-- and so is one in a place that was kept
abbrev pub KeptLastIsShown : Type 0
KeptLastIsShown = (streams : AllStreams) (user : UserName) (report : Report)
    → shown_streams (on_list_of user (with_reserved_last report) streams) ≡ with_reports_to user (report ∷ []) (shown_streams streams)

-- places are not shown
abbrev pub PlacesAreNotShown : Type 0
PlacesAreNotShown = (streams : AllStreams) (user : UserName) (places : ℕ)
    → shown_streams (on_list_of user (with_reserved places) streams) ≡ shown_streams streams

-- reports told in turn are shown each behind those of its user
abbrev pub AllOwedAreShown : Type 0
AllOwedAreShown = (streams : AllStreams) (owed : List (UserName × Report))
    → shown_streams (with_all_reports owed streams) ≡ each_with_more (reports_to owed) (shown_streams streams)

-- one more that is owed is told behind the others
abbrev pub OwedGoOn : Type 0
OwedGoOn = (streams : AllStreams) (owed : List (UserName × Report)) (o : UserName × Report)
    → with_all_reports (owed ++ o ∷ []) streams ≡ with_report (with_all_reports owed streams) o

-- the streams after these records are those before them, with messages for one user alone
abbrev pub TellsOne : PolicyData → List RecordData → List RecordData → RecordData → UserName → List Message → Type 0
TellsOne policy before after r receiver told =
    (user : UserName) → stream policy after user ≡ stream policy before user ++ map (report_of r) (to_user receiver user told)

-- with these messages, each for its user
abbrev pub TellsAll : PolicyData → List RecordData → List RecordData → RecordData → List (UserName × Message) → Type 0
TellsAll policy before after r told = (user : UserName) → stream policy after user ≡ stream policy before user ++ reports_to (map (report_to r) told) user

-- with nothing more
abbrev pub TellsNobody : PolicyData → List RecordData → List RecordData → Type 0
TellsNobody policy before after = (user : UserName) → stream policy after user ≡ stream policy before user

-- a record tells what it owes
abbrev pub OneOwedIsTold : Type 0
OneOwedIsTold = (policy : PolicyData) (history : List RecordData) (r : RecordData) (receiver : UserName) (owed : List Message)
    → OwesTo policy history r receiver owed → TellsOne policy history (history ++ r ∷ []) r receiver owed

-- to each user
abbrev pub AllOwedAreTold : Type 0
AllOwedAreTold = (policy : PolicyData) (history : List RecordData) (r : RecordData) (owed : List (UserName × Message))
    → OwesAll policy history r owed → TellsAll policy history (history ++ r ∷ []) r owed

-- and nothing else
abbrev pub NothingOwedIsTold : Type 0
NothingOwedIsTold = (policy : PolicyData) (history : List RecordData) (r : RecordData)
    → OwesNothing policy history r → TellsNobody policy history (history ++ r ∷ [])

-- no messages for one user are none for anybody
abbrev pub NoneForOneIsNone : Type 0
NoneForOneIsNone = (policy : PolicyData) (before after : List RecordData) (r : RecordData) (receiver : UserName)
    → TellsOne policy before after r receiver [] → TellsNobody policy before after

-- messages for one user are messages each for its user
abbrev pub OneIsAmongAll : Type 0
OneIsAmongAll = (policy : PolicyData) (before after : List RecordData) (r : RecordData) (receiver : UserName) (told : List Message)
    → TellsOne policy before after r receiver told → TellsAll policy before after r (map (λ (m : Message). (receiver, m)) told)

-- and so are those for one user, and then for another
abbrev pub TwoAreAmongAll : Type 0
TwoAreAmongAll = (policy : PolicyData) (before after : List RecordData) (r : RecordData) (first second : UserName) (one other : Message)
    → ((user : UserName)
    → stream policy after user ≡ stream policy before user ++ map (report_of r) (to_user first user (one ∷ []) ++ to_user second user (other ∷ [])))
    → TellsAll policy before after r ((first, one) ∷ (second, other) ∷ [])

-- a command that ends orders, and is not answered, tells this to their users
abbrev pub EndedAreTold : Type 0
EndedAreTold = (policy : PolicyData) (before after : List RecordData) (r : RecordData) (action : Action) (officer : UserName)
    → ((user : UserName)
    → stream policy after user ≡ stream policy before user ++ map (report_of r) (ended_of (live policy before) action user ++ to_user officer user []))
    → TellsAll policy before after r (end_messages (live policy before) action)

-- and one that is answered tells this first
abbrev pub EndedAndAnswerAreTold : Type 0
EndedAndAnswerAreTold = (policy : PolicyData) (before after : List RecordData) (r : RecordData) (action : Action) (officer : UserName) (answers : List Message)
    → ((user : UserName)
    → stream policy after user ≡ stream policy before user ++ map (report_of r) (ended_of (live policy before) action user ++ to_user officer user answers))
    → TellsAll policy before after r (end_messages (live policy before) action ++ map (λ (m : Message). (officer, m)) answers)

-- where what is shown is what was told, and one message is told to one user: so it is once that is put in his reserved place
abbrev pub StaysToldByOne : Type 0
StaysToldByOne = (policy : PolicyData) (before after : List RecordData) (r : RecordData) (streams : AllStreams) (receiver : UserName) (message : Message)
    → shown_streams streams ≡ reports_after policy before → TellsOne policy before after r receiver (message ∷ [])
    → shown_streams (on_list_of receiver (with_reserved_last (report_of r message)) streams) ≡ reports_after policy after

-- where messages are told to many: once each is put in its user's reserved place, in turn
abbrev pub StaysToldByAll : Type 0
StaysToldByAll = (policy : PolicyData) (before after : List RecordData) (r : RecordData) (streams : AllStreams) (told : List (UserName × Message))
    → shown_streams streams ≡ reports_after policy before → TellsAll policy before after r told
    → shown_streams (with_all_reports (map (report_to r) told) streams) ≡ reports_after policy after

-- and where nobody is told anything: at once
abbrev pub StaysToldByNone : Type 0
StaysToldByNone = (policy : PolicyData) (before after : List RecordData) (streams : AllStreams)
    → shown_streams streams ≡ reports_after policy before → TellsNobody policy before after → shown_streams streams ≡ reports_after policy after

-- no change of a list changes who is told
abbrev pub UsersStay : Type 0
UsersStay = (streams : AllStreams) (user : UserName) (change : ReservedList Report → ReservedList Report) (other : UserName)
    → has_own_stream (on_list_of user change streams) other ≡ has_own_stream streams other

-- a change of one user's list leaves the places of all others
abbrev pub OthersKeepPlaces : Type 0
OthersKeepPlaces = (streams : AllStreams) (user : UserName) (change : ReservedList Report → ReservedList Report) (other : UserName)
    → IsFalse (same_user user other) → reserved_in (on_list_of user change streams).lists other ≡ reserved_in streams.lists other

-- a report in a place of its own takes none
abbrev pub NoPlaceIsTaken : Type 0
NoPlaceIsTaken = (streams : AllStreams) (user : UserName) (report : Report) (other : UserName)
    → reserved_in (on_list_of user (with_last report) streams).lists other ≡ reserved_in streams.lists other

-- a report in a reserved place takes one of its user
abbrev pub OnePlaceIsTaken : Type 0
OnePlaceIsTaken = (streams : AllStreams) (user : UserName) (report : Report)
    → reserved_in (on_list_of user (with_reserved_last report) streams).lists user ≡ reserved_in streams.lists user - 1

-- at least as many places are reserved as were asked for
abbrev pub PlacesAreKept : Type 0
PlacesAreKept = (streams : AllStreams) (user : UserName) (places : ℕ)
    → IsTrue (has_own_stream streams user) → reserved_in (on_list_of user (with_reserved places) streams).lists user ≡ max (reserved_in streams.lists user) places

-- reports told in turn take as many places of each user as are for him
abbrev pub OwedTakePlaces : Type 0
OwedTakePlaces = (streams : AllStreams) (owed : List (UserName × Report)) (user : UserName)
    → reserved_in (with_all_reports owed streams).lists user ≡ reserved_in streams.lists user - length (reports_to owed user)

-- where a user has a place for each that is for him, there is one when its turn comes
abbrev pub EachHasAPlace : Type 0
EachHasAPlace = (streams : AllStreams) (before : List (UserName × Report)) (o : UserName × Report) (behind : List (UserName × Report))
    → length (reports_to (before ++ o ∷ behind) o.0) ≤ reserved_in streams.lists o.0 → 0 < reserved_in (with_all_reports before streams).lists o.0

-- nobody whom the policy does not know is told anything
abbrev pub OnlyKnownAreTold : Type 0
OnlyKnownAreTold = (policy : PolicyData) (history : List RecordData) (user : UserName)
    → IsLegal policy history → user_in policy.users user ≡ None → stream policy history user ≡ []

-- where what is shown is what was told, the reports of any user, known or not, are his stream
abbrev pub ReportsAreStreams : Type 0
ReportsAreStreams = (policy : PolicyData) (history : List RecordData) (streams : AllStreams)
    → IsLegal policy history → shown_streams streams ≡ reports_after policy history
    → (user : UserName) → reports_in streams user ≡ stream policy history user

-- and who is told is known to the policy, and no reader
abbrev pub KnownAreThePolicys : Type 0
KnownAreThePolicys = (policy : PolicyData) (history : List RecordData) (streams : AllStreams)
    → shown_streams streams ≡ reports_after policy history → KnowsReaders policy streams
    → (user : UserName) → has_own_stream streams user ≡ (is_some (user_in policy.users user) && not (is_reader (role_in policy.users user)))

-- a fill is shown last of each whom it tells
abbrev pub FillsAreShown : Type 0
FillsAreShown = (streams : AllStreams) (f : ReportedFill) → shown_streams (with_fill f streams) ≡ each_with_more (fill_reports streams.readers f) (shown_streams streams)

-- where what is shown is what was told, and each reader gets the fills of the accounts that are his: so it is once the record's fill is told
abbrev pub StaysToldByFill : Type 0
StaysToldByFill = (policy : PolicyData) (history : List RecordData) (r : RecordData) (streams : AllStreams) (f : ReportedFill)
    → length policy.accounts ≤ 64 → shown_streams streams ≡ reports_after policy history → AreSent policy history streams → IsMadeBy policy history r f
    → shown_streams (with_fill f streams) ≡ reports_after policy (history ++ r ∷ [])

-- in a legal day each Accepted that a user is told is what the record of its order tells
abbrev pub AcceptedAreRecorded : Type 0
AcceptedAreRecorded = (policy : PolicyData) (history : List RecordData) (user : UserName)
    → IsLegal policy history → AllByRecursion (IsRecorded (house_of policy user) history) (stream policy history user)

-- and so is each of a part of what he is told
abbrev pub PartsAreRecorded : Type 0
PartsAreRecorded = (policy : PolicyData) (history : List RecordData) (user : UserName) (from most : ℕ)
    → IsLegal policy history → AllByRecursion (IsRecorded (house_of policy user) history) (slice (stream policy history user) from most)

-- a reader is told exactly the drop copies of the fills of accounts then his
abbrev pub ReadersAreSentCopies : Type 0
ReadersAreSentCopies = (policy : PolicyData) (history : List RecordData) (reader : UserName)
    → IsLegal policy history → IsTrue (is_reader (role_in policy.users reader)) → stream policy history reader ≡ copies policy history reader

-- and a record that makes no fill, as a Grant or a Revoke, tells him nothing and takes nothing back
abbrev pub FillsAloneAreSent : Type 0
FillsAloneAreSent = (policy : PolicyData) (history : List RecordData) (r : RecordData) (reader : UserName)
    → is_fill r.verdict ≡ false → copies policy (history ++ r ∷ []) reader ≡ copies policy history reader

-- nor does any later record, a fill among them, change what he was told: more comes behind it
abbrev pub SentIsKept : Type 0
SentIsKept = (policy : PolicyData) (history later : List RecordData) (reader : UserName)
    → take (length (copies policy history reader)) (copies policy (history ++ later) reader) ≡ copies policy history reader
