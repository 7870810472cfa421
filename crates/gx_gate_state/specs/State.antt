-- What a gate's state is after these records.
use Rattle.std.specs.{Prelude.{◌≡◌, ℕ, ◌+◌, ◌≤◌, IsTrue, List, [], ◌∷◌, ◌++◌, length, Option, Some, None, is_some, ◌&&◌, not, if◌then◌else◌}, List.{filter, AllByRecursion}}
use Rattle.gx_units.specs.declared.names.UserName.{UserName}
use Rattle.gx_policy.specs.{declared.policy.{User.User, PolicyData.PolicyData}, People.{is_officer, is_reader, role_in, user_in}}
use Rattle.gx_history.specs.{declared.{moves.Move.Move, «record».{Asked.Asked, Step.Step, RecordData.RecordData}, report.Message.Message, live_order.LiveOrder.LiveOrder}, Masks.mask_by, InForce.rules_in_force, Streams.reports_of, Requests.asked_of, Verdicts.{FitsDay, IsLegal, next}, World.Does, LiveOrders.is_of_user, Reserved.{is_never_refused, reserved_reports}}
use Rattle.gx_trading_status.specs.InForce.{status_in_force}
use Rattle.gx_orders.specs.InForce.{orders_in_force}
use Rattle.gx_people.specs.Entitled.{people_in_force, sees}
use Rattle.gx_matching.specs.BookInForce.{book_in_force}
use Rattle.gx_streams.specs.{Telling.{shown_streams, reports_after}, Kept.{reserved_in, with_reserved_last}, Streams.{AllStreams, ReaderMask, has_own_stream, mask_in, on_list_of, reports_in}}
use Rattle.gx_gate_state.specs.{declared.{state.GateState.GateState, next_record.NextRecord.NextRecord}, Ledgers.StandsForDay}

-- the accounts that the user sees among these people, if he is a reader
abbrev pub mask_for : PolicyData → List User → UserName → Option ℕ
mask_for policy people user = if is_reader (role_in policy.users user) then Some (mask_by (sees people user) policy.accounts) else None

-- each reader gets the fills of the accounts that he sees
abbrev pub AreSentTo : PolicyData → List User → List ReaderMask → Type 0
AreSentTo policy people readers = (user : UserName) → mask_in readers user ≡ mask_for policy people user

-- each table is what its definition says of the records
pub record AreInForce (policy : PolicyData) (history : List RecordData) (k : GateState) : Type 0 where
  pub people : k.people ≡ people_in_force policy history
  pub rules : k.rules ≡ rules_in_force policy history
  pub status : k.status ≡ status_in_force policy history
  pub orders : k.orders ≡ orders_in_force policy history
  pub book : k.book ≡ book_in_force policy history
  pub ledger : StandsForDay policy k.ledger history
  pub streams : shown_streams k.streams ≡ reports_after policy history
  pub sent : AreSentTo policy k.people k.streams.readers

-- and after one more record
abbrev pub AreInForceAfter : PolicyData → List RecordData → RecordData → GateState → Type 0
AreInForceAfter policy history r k = AreInForce policy (history ++ r ∷ []) k

-- the users who are told report by report are the policy's, but for its readers
abbrev pub KnowsUsers : PolicyData → AllStreams → Type 0
KnowsUsers policy streams = (user : UserName) → has_own_stream streams user ≡ (is_some (user_in policy.users user) && not (is_reader (role_in policy.users user)))

-- the same users are told
abbrev pub KnowTheSame : AllStreams → AllStreams → Type 0
KnowTheSame before after = (user : UserName) → has_own_stream after user ≡ has_own_stream before user

-- nobody has fewer places than before
abbrev pub HaveNoFewer : AllStreams → AllStreams → Type 0
HaveNoFewer before after = (user : UserName) → reserved_in before.lists user ≤ reserved_in after.lists user

-- the user has so many places, if he is told report by report
abbrev pub HasReserved : UserName → ℕ → AllStreams → Type 0
HasReserved user places streams = IsTrue (has_own_stream streams user) → places ≤ reserved_in streams.lists user

-- how many of the live orders are the user's
abbrev pub count_of_user : List LiveOrder → UserName → ℕ
count_of_user live user = length (filter (is_of_user user) live)

-- the most accounts that there can be for the user to kill
abbrev pub kills_at_most : List User → PolicyData → UserName → ℕ
kills_at_most people policy user = if is_officer (role_in people user) then length policy.accounts else 0

-- so many places are enough for the user, whatever one record tells him and leaves to be kept for him
abbrev pub enough_of : List LiveOrder → List User → PolicyData → UserName → ℕ
enough_of live people policy user = count_of_user live user + kills_at_most people policy user + 2

-- the user, if he is known, has them
abbrev pub HasEnough : List LiveOrder → List User → PolicyData → AllStreams → UserName → Type 0
HasEnough live people policy streams user = HasReserved user (enough_of live people policy user) streams

-- each of these has them
abbrev pub HaveEnough : List LiveOrder → List User → PolicyData → AllStreams → List User → Type 0
HaveEnough live people policy streams users = AllByRecursion (λ (u : User). HasEnough live people policy streams u.name) users

-- what the user was told, and the places for more
abbrev pub room_in : AllStreams → UserName → ℕ
room_in streams user = length (reports_in streams user) + reserved_in streams.lists user

-- nobody has less room than before
pub record KeepRoom (before after : AllStreams) : Type 0 where
  pub room : (user : UserName) → room_in before user ≤ room_in after user

-- each user who is known has the places that are reserved for him
pub record HaveReservedReports (policy : PolicyData) (history : List RecordData) (streams : AllStreams) : Type 0 where
  pub kept : (user : UserName) → HasReserved user (reserved_reports policy history user) streams

-- beside a place for each report that the record owes him, he has those that are kept behind it
pub record HaveReservedWithRecord (policy : PolicyData) (history : List RecordData) (r : RecordData) (streams : AllStreams) : Type 0 where
  pub all : (user : UserName) → HasReserved user (length (reports_of policy user (history, r)) + reserved_reports policy (history ++ r ∷ []) user) streams

-- a report put last in the user's stream, in a reserved slot, if there is one
abbrev pub with_message : UserName → ℕ → Option Message → AllStreams → AllStreams
with_message user moment None streams = streams
with_message user moment (Some message) streams = on_list_of user (with_reserved_last (record { timestamp = moment; message = message })) streams

-- each user whom the record tells has a place for each of its reports
abbrev pub HaveReservedForRecord : PolicyData → List RecordData → RecordData → AllStreams → Type 0
HaveReservedForRecord policy history r streams = (user : UserName) → length (reports_of policy user (history, r)) ≤ reserved_in streams.lists user

-- after a legal day with what is in force, the record is next, and does so
pub record Takes (policy : PolicyData) (history : List RecordData) (m : Move) (r : RecordData) (k : GateState) : Type 0 where
  pub does : Does policy history r m
  pub fits : FitsDay r
  pub in_force : AreInForce policy history k

-- the request leaves it
pub record TakesAsked (policy : PolicyData) (history : List RecordData) (a : Asked) (r : RecordData) (k : GateState) : Type 0 where
  pub legal : IsLegal policy history
  pub fits : FitsDay r
  pub left : next policy history (Step.Asked a) ≡ Some r
  pub in_force : AreInForce policy history k

-- the record is next, after a legal day with what is in force
abbrev pub IsNext : NextRecord → GateState → Type 0
IsNext n k = Takes n.policy.now n.history.now.records n.moves.now n.data.now k

-- it is the request's
abbrev pub IsRequestOf : Asked → NextRecord → Type 0
IsRequestOf a n = n.data.now.step ≡ Step.Asked a

-- it is a matching step's
abbrev pub IsMatch : NextRecord → Type 0
IsMatch n = asked_of n.data.now.step ≡ None

-- the record has its places
abbrev pub IsReserved : NextRecord → GateState → Type 0
IsReserved n k = HaveReservedForRecord n.policy.now n.history.now.records n.data.now k.streams

-- the state is what is in force before the record
abbrev pub AreBefore : NextRecord → GateState → Type 0
AreBefore n k = AreInForce n.policy.now n.history.now.records k

-- after it
abbrev pub AreAfter : NextRecord → GateState → Type 0
AreAfter n k = AreInForceAfter n.policy.now n.history.now.records n.data.now k

-- it has those that are kept behind it too
abbrev pub IsReservedWhole : NextRecord → GateState → Type 0
IsReservedWhole n k = HaveReservedWithRecord n.policy.now n.history.now.records n.data.now k.streams

-- the reserved places before the record
abbrev pub HaveReservedBefore : NextRecord → GateState → Type 0
HaveReservedBefore n k = HaveReservedReports n.policy.now n.history.now.records k.streams

-- and after it
abbrev pub HaveReservedAfter : NextRecord → GateState → Type 0
HaveReservedAfter n k = HaveReservedReports n.policy.now (n.history.now.records ++ n.data.now ∷ []) k.streams

-- the request is a granted Kill or Logout
abbrev pub IsNeverRefused : Asked → NextRecord → Type 0
IsNeverRefused a n = IsTrue (is_never_refused a.request n.data.now.verdict)
