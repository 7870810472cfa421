-- What a record makes of the state, by what it does.
use Rattle.std.proofs.{Common.{◌≡◌, ℕ, ◌<◌, arith, List, [], ◌∷◌, ◌++◌, length, refl, ◌∙◌, ap, sym, cond, map}, Math.Path.subst, lemmas.List.{append-nil, append_cancel_left}}
use Rattle.std.specs.{Prelude.{Option, Some, None, IfSome, option_and_then, option_to_list}, Option.option_map_or}
use Rattle.gx_units.specs.{Names.same_user, declared.names.{AccountName.AccountName, UserName.UserName}}
use Rattle.gx_units.proofs.Names_equal.{user_is_itself}
use Rattle.gx_desk.specs.declared.{Action.Action, Command.Command}
use Rattle.gx_policy.specs.{declared.{policy.{FileRule.FileRule, PolicyData.PolicyData, User.User}, rule_name.RuleName.RuleName}, People.account_of}
use Rattle.gx_history.specs.{declared.{live_order.LiveOrder.LiveOrder, moves.Move.Move, «record».{Asked.Asked, Fill.Fill, RecordData.RecordData, Request.Request, Step.Step, Verdict.Verdict}, report.Message.Message}, InForce.rules_in_force, Live.{live, live_under}, LiveOrders.replacement_order, Requests.{action_of, asked_of, granted_action, is_granted}, Streams.{canceled_of, replaced_of, report_of, reports_of, reports_of_denial, stream, to_user}, Turns.new_order, Verdicts.next, World.{Does, World, accepted_of, move_asked, move_by, world_after_move, world}}
use Rattle.gx_ouch.specs.declared.letters.CancelReason.{CancelReason}
use Rattle.gx_laws.proofs.{InForce_next.{rules_in_force_next, rules_with}, Streams_next.stream_next, Moves_known.{IsAskedMove, IsMatchMove, asked_does, match_does, world_does}}
use Rattle.gx_trading_status.specs.{StatusData.{TradingStatusData, at_moment}, InForce.{status_in_force, status_moved}}
use Rattle.gx_trading_status.proofs.Status_next.{day_next}
use Rattle.gx_orders.specs.{Changes.orders_moved, LiveOrders.OrdersData}
use Rattle.gx_orders.proofs.Orders_next.{orders_next}
use Rattle.gx_matching.specs.Changes.{book_moved, cut_from}
use Rattle.gx_matching.proofs.Book_next.{books_next}
use Rattle.gx_people.specs.Entitled.{users_after, people_in_force}
use Rattle.gx_people.proofs.Users_laws.{next_users}
use Rattle.gx_streams.specs.{Kept.reserved_in, Laws.{TellsNobody, TellsOne}, Streams.{AllStreams, ReaderMask, mask_in}, Telling.{shown_streams, reports_after}}
use Rattle.gx_streams.proofs.{Reports_told.{stays_by_none, stays_by_one}, Copies_only.nothing_to}
use Rattle.gx_gate_state.specs.{declared.state.GateState.GateState, State.{AreInForceAfter, AreSentTo, HaveReservedForRecord, Takes, TakesAsked, mask_for, with_message}, Ledgers.StandsForDay}
use Rattle.gx_gate_state.proofs.Ledger_next.{quiet_figured}

-- who sees the same accounts, by the same masks, gets their fills
pub still_sent : (policy : PolicyData) (before now : List User) (had has : List ReaderMask) → now ≡ before → has ≡ had → AreSentTo policy before had → AreSentTo policy now has
still_sent policy before now had has people readers sent user =
    ap (λ (rs : List ReaderMask). mask_in rs user) readers ∙ sent user ∙ sym (ap (λ (us : List User). mask_for policy us user) people)

-- what is told changes no mask
told_keeps_masks : (user : UserName) (moment : ℕ) (found : Option Message) (streams : AllStreams) → (with_message user moment found streams).readers ≡ streams.readers
told_keeps_masks user moment None streams = refl
told_keeps_masks user moment (Some message) streams = refl

-- what is done, as it is known
pub takes_so : {policy : PolicyData} {history : List RecordData} (m n : Move) (r : RecordData) (k : GateState) → m ≡ n → Takes policy history m r k → Takes policy history n r k
takes_so {policy} {history} m n r k same t = subst (λ (x : Move). Takes policy history x r k) same t

pub day_so : (r : RecordData) (m n : Move) (before now : TradingStatusData) → m ≡ n → now ≡ at_moment r.moment (status_moved m before) → now ≡ at_moment r.moment (status_moved n before)
day_so r m n before now same is = is ∙ ap (λ (x : Move). at_moment r.moment (status_moved x before)) same

-- by a request
pub asked_takes : {policy : PolicyData} {history : List RecordData} (a : Asked) (m : Move) (r : RecordData) (k : GateState) → r.step ≡ Step.Asked a → Takes policy history m r k → TakesAsked policy history a r k
asked_takes {policy} {history} a m r k asks t = record { legal = t.does.legal; fits = t.fits; left = ap (next policy history) (sym asks) ∙ t.does.is_next; in_force = t.in_force }

-- what a request does is one of these
pub no_other_move : {policy : PolicyData} {history : List RecordData} (a : Asked) (m : Move) (r : RecordData) → Does policy history r m → r.step ≡ Step.Asked a
    → ((b : Asked) (rule : RuleName) → m ≡ Move.Denies b rule → ⊥) → ((user : UserName) (line : Option ℕ) → m ≡ Move.PutsOn user line → ⊥) → ((new : LiveOrder) → m ≡ Move.Adds new → ⊥)
    → ((cut : LiveOrder) (size : ℕ) → m ≡ Move.Sizes cut size → ⊥) → ((old new : LiveOrder) → m ≡ Move.Replaces old new → ⊥) → ((officer : UserName) (c : Command) → m ≡ Move.Commands officer c → ⊥) → ⊥
no_other_move a m r d asks no_denial no_line no_enter no_cancel no_replace no_command = by m (asked_does r a m d asks) no_denial no_line no_enter no_cancel no_replace no_command
  where
    by : (m : Move) → IsAskedMove m
        → ((b : Asked) (rule : RuleName) → m ≡ Move.Denies b rule → ⊥) → ((user : UserName) (line : Option ℕ) → m ≡ Move.PutsOn user line → ⊥) → ((new : LiveOrder) → m ≡ Move.Adds new → ⊥)
        → ((cut : LiveOrder) (size : ℕ) → m ≡ Move.Sizes cut size → ⊥) → ((old new : LiveOrder) → m ≡ Move.Replaces old new → ⊥) → ((officer : UserName) (c : Command) → m ≡ Move.Commands officer c → ⊥) → ⊥
    by Move.Nothing is no_denial no_line no_enter no_cancel no_replace no_command = is
    by (Move.Denies b rule) is no_denial no_line no_enter no_cancel no_replace no_command = no_denial b rule refl
    by (Move.PutsOn user line) is no_denial no_line no_enter no_cancel no_replace no_command = no_line user line refl
    by (Move.Adds new) is no_denial no_line no_enter no_cancel no_replace no_command = no_enter new refl
    by (Move.Sizes cut size) is no_denial no_line no_enter no_cancel no_replace no_command = no_cancel cut size refl
    by (Move.Replaces old new) is no_denial no_line no_enter no_cancel no_replace no_command = no_replace old new refl
    by (Move.Commands officer c) is no_denial no_line no_enter no_cancel no_replace no_command = no_command officer c refl
    by (Move.Fills f) is no_denial no_line no_enter no_cancel no_replace no_command = is
    by (Move.Rests number) is no_denial no_line no_enter no_cancel no_replace no_command = is
    by (Move.Expires number) is no_denial no_line no_enter no_cancel no_replace no_command = is

-- and what a matching step does one of these
pub no_other_match : {policy : PolicyData} {history : List RecordData} (m : Move) (r : RecordData) → Does policy history r m → asked_of r.step ≡ None
    → ((f : Fill) → m ≡ Move.Fills f → ⊥) → ((number : ℕ) → m ≡ Move.Rests number → ⊥) → ((number : ℕ) → m ≡ Move.Expires number → ⊥) → ⊥
no_other_match m r d none no_fill no_rest no_end = by m (match_does r m d none) no_fill no_rest no_end
  where
    by : (m : Move) → IsMatchMove m → ((f : Fill) → m ≡ Move.Fills f → ⊥) → ((number : ℕ) → m ≡ Move.Rests number → ⊥) → ((number : ℕ) → m ≡ Move.Expires number → ⊥) → ⊥
    by Move.Nothing is no_fill no_rest no_end = is
    by (Move.Denies a rule) is no_fill no_rest no_end = is
    by (Move.PutsOn user line) is no_fill no_rest no_end = is
    by (Move.Adds new) is no_fill no_rest no_end = is
    by (Move.Sizes cut size) is no_fill no_rest no_end = is
    by (Move.Replaces old new) is no_fill no_rest no_end = is
    by (Move.Commands officer c) is no_fill no_rest no_end = is
    by (Move.Fills f) is no_fill no_rest no_end = no_fill f refl
    by (Move.Rests number) is no_fill no_rest no_end = no_rest number refl
    by (Move.Expires number) is no_fill no_rest no_end = no_end number refl

-- the command that is granted, if one is
abbrev pub action_in : Move → Option Action
action_in (Move.Commands officer c) = Some c.action
action_in other = None

-- what is done to people and to rules
abbrev pub people_moved : Move → List User → List User
people_moved m users = option_map_or (users_after users) (action_in m) users

abbrev pub rules_moved : Move → List FileRule → List FileRule
rules_moved m rules = rules_with rules (action_in m)

action_by : (policy : PolicyData) (w : World) (r : RecordData) (v : Verdict) (s : Step) → option_and_then (λ (x : Asked). action_of x.request) (cond (is_granted v) (asked_of s) None) ≡ action_in (move_by policy w r v s)
action_by policy w r Verdict.Granted (Step.Asked a) = by a.request
  where
    by : (q : Request) → action_of q ≡ action_in (move_asked policy w r a q)
    by (Request.Login m) = refl
    by Request.Logout = refl
    by (Request.Unreadable m) = refl
    by (Request.Enter m) = at (account_of policy a.user)
      where
        at : (found : Option AccountName) → None ≡ action_in (option_map_or (λ (account : AccountName). Move.Adds (new_order policy r a.user account m)) found Move.Nothing)
        at None = refl
        at (Some account) = refl
    by (Request.Replace m) = at (live_under w.live a.user m.existing_token)
      where
        at : (found : Option LiveOrder) → None ≡ action_in (option_map_or (λ (old : LiveOrder). Move.Replaces old (replacement_order r m old)) found Move.Nothing)
        at None = refl
        at (Some old) = refl
    by (Request.Cancel m) = at (live_under w.live a.user m.token)
      where
        at : (found : Option LiveOrder) → None ≡ action_in (option_map_or (λ (cut : LiveOrder). Move.Sizes cut m.shares) found Move.Nothing)
        at None = refl
        at (Some cut) = refl
    by (Request.Command c) = refl
action_by policy w r Verdict.Granted (Step.Matching handed) = refl
action_by policy w r (Verdict.Denied rule) (Step.Asked a) = refl
action_by policy w r (Verdict.Denied rule) (Step.Matching handed) = refl
action_by policy w r (Verdict.Filled f) s = refl
action_by policy w r (Verdict.Rested number) s = refl
action_by policy w r (Verdict.Expired number) s = refl

action_does : {policy : PolicyData} {history : List RecordData} (r : RecordData) (m : Move) → Does policy history r m → granted_action r ≡ action_in m
action_does {policy} {history} r m d = action_by policy (world policy history) r r.verdict r.step ∙ ap action_in d.moves

-- all that is kept goes on by what is done
pub goes_on : {policy : PolicyData} {history : List RecordData} (m : Move) (r : RecordData) (before k : GateState) → Takes policy history m r before
    → k.people ≡ people_moved m before.people → k.rules ≡ rules_moved m before.rules → k.status ≡ at_moment r.moment (status_moved m before.status)
    → k.orders ≡ orders_moved m before.orders → k.book ≡ book_moved m before.orders.live before.book
    → StandsForDay policy k.ledger (history ++ r ∷ []) → shown_streams k.streams ≡ reports_after policy (history ++ r ∷ []) → AreSentTo policy k.people k.streams.readers
    → AreInForceAfter policy history r k
goes_on {policy} {history} m r before k t people_are rules_are day_is orders_are book_is figured streams_are sent =
    let acts : granted_action r ≡ action_in m = action_does r m t.does in
    record {
      people = people_are ∙ ap (people_moved m) t.in_force.people
          ∙ sym (next_users policy history r ∙ ap (λ (found : Option Action). option_map_or (users_after (people_in_force policy history)) found (people_in_force policy history)) acts);
      rules = rules_are ∙ ap (rules_moved m) t.in_force.rules ∙ sym (rules_in_force_next policy history r ∙ ap (rules_with (rules_in_force policy history)) acts);
      status = day_is ∙ ap (λ (status : TradingStatusData). at_moment r.moment (status_moved m status)) t.in_force.status
          ∙ sym (day_next policy history r ∙ ap (λ (x : Move). at_moment r.moment (status_moved x (status_in_force policy history))) t.does.moves);
      orders = orders_are ∙ ap (orders_moved m) t.in_force.orders ∙ sym (orders_next policy history r m t.does);
      book = book_is ∙ ap (λ (d : OrdersData). book_moved m d.live before.book) t.in_force.orders ∙ ap (book_moved m (live policy history)) t.in_force.book ∙ sym (books_next policy history r m t.does);
      ledger = figured;
      streams = streams_are;
      sent = sent;
    }

-- ---- what is told

-- what each user is told
pub told_by : {policy : PolicyData} {history : List RecordData} (m : Move) (r : RecordData) (user : UserName) → Does policy history r m
    → stream policy (history ++ r ∷ []) user ≡ (world_after_move policy r m (world policy history)).streams user
told_by m r user d = ap (λ (w : World). w.streams user) (world_does r m d)

pub tells_nobody : (policy : PolicyData) (history : List RecordData) (r : RecordData) (receiver : UserName)
    → TellsOne policy history (history ++ r ∷ []) r receiver [] → TellsNobody policy history (history ++ r ∷ [])
tells_nobody policy history r receiver tells user =
    tells user
    ∙ ap (λ (told : List Message). stream policy history user ++ map (report_of r) told) (nothing_to (same_user receiver user))
    ∙ append-nil (stream policy history user)

-- whoever is told one message has a place for it
pub has_place : (policy : PolicyData) (history : List RecordData) (r : RecordData) (streams : AllStreams) (receiver : UserName) (message : Message)
    → HaveReservedForRecord policy history r streams → TellsOne policy history (history ++ r ∷ []) r receiver (message ∷ []) → 0 < reserved_in streams.lists receiver
has_place policy history r streams receiver message places tells =
    let owed : reports_of policy receiver (history, r) ≡ map (report_of r) (to_user receiver receiver (message ∷ [])) =
    append_cancel_left (stream policy history receiver) _ _ (sym (stream_next policy history r receiver) ∙ tells receiver) in
    let one : length (reports_of policy receiver (history, r)) ≡ 1 =
    ap length owed ∙ ap (λ b. length (map (report_of r) (cond b (message ∷ []) []))) (user_is_itself receiver) in
    omega (arith, places receiver, one)

-- who is told one thing, or nothing, is told it in his place
pub one_goes_on : {policy : PolicyData} {history : List RecordData} (m : Move) (r : RecordData) (before k : GateState) (receiver : UserName) (found : Option Message) → Takes policy history m r before
    → TellsOne policy history (history ++ r ∷ []) r receiver (option_to_list found)
    → k.people ≡ before.people → before.people ≡ people_moved m before.people → k.rules ≡ rules_moved m before.rules → k.status ≡ at_moment r.moment (status_moved m before.status)
    → k.orders ≡ orders_moved m before.orders → k.book ≡ book_moved m before.orders.live before.book
    → StandsForDay policy k.ledger (history ++ r ∷ []) → k.streams ≡ with_message receiver r.moment found before.streams
    → AreInForceAfter policy history r k
one_goes_on {policy} {history} m r before k receiver found t tells people_are people_stay rules_are day_is orders_are book_is figured streams_are =
    goes_on m r before k t (people_are ∙ people_stay) rules_are day_is orders_are book_is figured
    (ap shown_streams streams_are ∙ told found tells)
    (still_sent policy before.people k.people before.streams.readers k.streams.readers people_are
    (ap (λ (s : AllStreams). s.readers) streams_are ∙ told_keeps_masks receiver r.moment found before.streams) t.in_force.sent)
  where
    told : (x : Option Message) → TellsOne policy history (history ++ r ∷ []) r receiver (option_to_list x) → shown_streams (with_message receiver r.moment x before.streams) ≡ reports_after policy (history ++ r ∷ [])
    told None tells = stays_by_none policy history (history ++ r ∷ []) before.streams t.in_force.streams (tells_nobody policy history r receiver tells)
    told (Some message) tells = stays_by_one policy history (history ++ r ∷ []) r before.streams receiver message t.in_force.streams tells

-- a denial
pub denial_tells : {policy : PolicyData} {history : List RecordData} (a : Asked) (r : RecordData) (rule : RuleName) (found : Option Message)
    → Does policy history r (Move.Denies a rule) → option_to_list found ≡ reports_of_denial policy r rule a.request → TellsOne policy history (history ++ r ∷ []) r a.user (option_to_list found)
denial_tells {policy} {history} a r rule found d is user =
    told_by (Move.Denies a rule) r user d ∙ ap (λ (told : List Message). stream policy history user ++ map (report_of r) (to_user a.user user told)) (sym is)

-- who is told of it has a place
pub denied_place : {policy : PolicyData} {history : List RecordData} (a : Asked) (r : RecordData) (rule : RuleName) (k : GateState) (found : Option Message)
    → Takes policy history (Move.Denies a rule) r k → HaveReservedForRecord policy history r k.streams → option_to_list found ≡ reports_of_denial policy r rule a.request
    → IfSome found (λ (message : Message). 0 < reserved_in k.streams.lists a.user)
denied_place a r rule k None t places is = tt
denied_place {policy} {history} a r rule k (Some message) t places is =
    has_place policy history r k.streams a.user message places (denial_tells a r rule (Some message) t.does is)

-- an Enter
pub enter_tells : {policy : PolicyData} {history : List RecordData} (r : RecordData) (new : LiveOrder) → Does policy history r (Move.Adds new) → TellsOne policy history (history ++ r ∷ []) r new.user (accepted_of new)
enter_tells r new d user = told_by (Move.Adds new) r user d

-- a Cancel
abbrev pub told_of_cut : LiveOrder → ℕ → List Message
told_of_cut o size = canceled_of CancelReason.UserRequested (cut_from o size) o

pub cancel_tells : {policy : PolicyData} {history : List RecordData} (r : RecordData) (cut : LiveOrder) (size : ℕ) → Does policy history r (Move.Sizes cut size)
    → TellsOne policy history (history ++ r ∷ []) r cut.user (told_of_cut cut size)
cancel_tells r cut size d user = told_by (Move.Sizes cut size) r user d

-- a Replace
pub replace_tells : {policy : PolicyData} {history : List RecordData} (r : RecordData) (old new : LiveOrder) → Does policy history r (Move.Replaces old new)
    → TellsOne policy history (history ++ r ∷ []) r old.user (replaced_of old new)
replace_tells r old new d user = told_by (Move.Replaces old new) r user d

-- a Login or a Logout tells nobody
pub line_goes_on : {policy : PolicyData} {history : List RecordData} (user : UserName) (line : Option ℕ) (r : RecordData) (before k : GateState) → Takes policy history (Move.PutsOn user line) r before
    → k.people ≡ before.people → k.rules ≡ before.rules → k.status ≡ at_moment r.moment (status_moved (Move.PutsOn user line) before.status)
    → k.orders ≡ before.orders → k.book ≡ before.book → k.ledger ≡ before.ledger → k.streams ≡ before.streams
    → AreInForceAfter policy history r k
line_goes_on {policy} {history} user line r before k t people_are rules_are day_is orders_are book_is ledger_is streams_are =
    goes_on (Move.PutsOn user line) r before k t people_are rules_are day_is orders_are book_is
    (quiet_figured (Move.PutsOn user line) r before k.ledger t tt ledger_is)
    (ap shown_streams streams_are ∙ stays_by_none policy history (history ++ r ∷ []) before.streams t.in_force.streams (λ other. told_by (Move.PutsOn user line) r other t.does))
    (still_sent policy before.people k.people before.streams.readers k.streams.readers people_are (ap (λ (s : AllStreams). s.readers) streams_are) t.in_force.sent)
