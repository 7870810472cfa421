-- A user who is on is logged in on line 1 of the gate, wherever a run stops; so no gate denies his Logout.
use Rattle.std.proofs.Common.{◌≡◌, ℕ, max, Bool, true, false, cond, List, [], ◌∷◌, ◌++◌, Option, Some, None, refl, sym, ap, ◌∙◌, append_assoc, append-nil}
use Rattle.std.specs.{Prelude.{fold, option_map, option_and_then, unwrap_or}, List.AllByRecursion, Option.{option_map_or, option_or}}
use Rattle.gx_units.specs.{Spelling.folded_user, declared.names.{SessionName.SessionName, UserName.UserName}}
use Rattle.gx_units.proofs.Names_equal.{user_is_itself}
use Rattle.gx_desk.specs.{declared.Command.Command, Reading.command_of}
use Rattle.gx_ouch.specs.{declared.inbound.Inbound.Inbound, Reading.inbound_of}
use Rattle.gx_soup.specs.{declared.packet.{LoginRequest.LoginRequest, ClientPacket.ClientPacket}, Packets.packets_of}
use Rattle.gx_policy.specs.{declared.policy.PolicyData.PolicyData, Lists.where_true}
use Rattle.gx_history.specs.{declared.record.{Asked.Asked, RecordData.RecordData, Request.Request, Step.Step, Verdict.Verdict}, InForce.{is_closed, line_by, line_of, login_or_logout_of}, Payloads.{asked_by as meant_by, request_of, unreadable_request}, Requests.{asked_of, is_granted}, Verdicts.verdict}
use Rattle.gx_laws.proofs.{Logouts_granted.logouts_are_granted, InForce_next.line_of_next, Orders_added.granted_is, Matches_end.settled_adds}
use Rattle.gx_access_gate.specs.{Gates.GateData, Asking.{request_on_line_1, gate_after_step}, Logins.login_answered, Matches.{settled_gate, IsSettling}, declared.outcome.LoginAnswer.LoginAnswer}
use Rattle.gx_connection.specs.{declared.connection.Connection.Connection, Serving.IsOnLine, Steps.{login_asked_at, login_told}, Transcript.{Run, on_event, first_told, logged_in, run_of_login, run_of_matching, run_of_sending, run_of_pull, connection_after_tick, run_on_packet, run_opened, run_of}}
use Rattle.gx_session.specs.{declared.session.Phase.{Phase, TheVariants.{Fresh, Waiting, On, Abandoned, Done}}, Events.is_over, Table.turn}
use Rattle.gx_session.specs.Happenings as happens
use Rattle.gx_connection.proofs.{Connection_keeps.{all_keep, handled_by, taken}, Sent_next.{left_of, left_is, rejects, never}}

-- No rule forbids the Logout of a user who is on this line.
pub logout_is_granted : (policy : PolicyData) (history : List RecordData) (user : UserName) (moment : ℕ) → line_of history (folded_user user) ≡ Some 1
    → verdict policy history (request_on_line_1 user Request.Logout moment) ≡ Verdict.Granted
logout_is_granted policy history user moment on = logouts_are_granted policy history 1 (folded_user user) moment on

-- What changes no line.

stays : (history : List RecordData) (r : RecordData) (user : UserName) → login_or_logout_of user r ≡ None → line_of (history ++ r ∷ []) user ≡ line_of history user
stays history r user e = line_of_next history r user ∙ ap (λ (m : Option (Option ℕ)). unwrap_or m (line_of history user)) e

abbrev put_by : UserName → Option Asked → Option (Option ℕ)
put_by user found = option_and_then (λ (a : Asked). line_by user a a.request) found

puts_nowhere : (user : UserName) (a : Asked) (b : Bool) → line_by user a a.request ≡ None → put_by user (cond b (Some a) None) ≡ None
puts_nowhere user a true h = h
puts_nowhere user a false h = refl

none_put : (user : UserName) (b : Bool) → put_by user (cond b None None) ≡ None
none_put user true = refl
none_put user false = refl

-- a payload is no Login and no Logout
means_no_line : (user : UserName) (a : Asked) (payload : List ℕ) (found : Option Inbound) (command : Option Command)
    → line_by user a (unwrap_or (option_or (option_map meant_by found) (option_map Request.Command command)) (unreadable_request payload)) ≡ None
means_no_line user a payload (Some (Inbound.Enter m)) command = refl
means_no_line user a payload None (Some c) = refl
means_no_line user a payload found command = refl

payload_puts_nowhere : (user : UserName) (a : Asked) (payload : List ℕ) → line_by user a (request_of payload) ≡ None
unfolding request_of
payload_puts_nowhere user a payload = means_no_line user a payload (inbound_of payload) (command_of payload)

after_step_is : (gate : GateData) (a : Asked) (user : UserName) → line_of (gate_after_step gate a).records user ≡ line_of (gate.records ++ left_of gate a ∷ []) user
after_step_is gate a user = ap (λ (found : Option RecordData). line_of (option_map_or (λ (r : RecordData). gate.records ++ r ∷ []) found gate.records) user) (left_is gate a)

payload_keeps : (gate : GateData) (user asker : UserName) (payload : List ℕ) (moment : ℕ)
    → line_of (gate_after_step gate (request_on_line_1 asker (request_of payload) moment)).records user ≡ line_of gate.records user
unfolding left_of
payload_keeps gate user asker payload moment =
    let a : Asked = request_on_line_1 asker (request_of payload) moment in
    after_step_is gate a user
    ∙ stays gate.records (left_of gate a) user
    (puts_nowhere user a (is_granted (verdict gate.policy gate.records a)) (payload_puts_nowhere user a payload))

match_puts_nowhere : (user : UserName) (moment : ℕ) (r : RecordData) → r.step ≡ Step.Matching moment → login_or_logout_of user r ≡ None
match_puts_nowhere user moment r e =
    ap (λ (s : Step). put_by user (cond (is_granted r.verdict) (asked_of s) None)) e ∙ none_put user (is_granted r.verdict)

matches_keep : (user : UserName) (moment : ℕ) (more : List RecordData) (history : List RecordData) → AllByRecursion (λ (r : RecordData). r.step ≡ Step.Matching moment) more
    → line_of (history ++ more) user ≡ line_of history user
matches_keep user moment [] history h = ap (λ (rs : List RecordData). line_of rs user) (append-nil history)
matches_keep user moment (r ∷ more) history h =
    ap (λ (rs : List RecordData). line_of rs user) (sym (append_assoc history (r ∷ []) more))
    ∙ matches_keep user moment more (history ++ r ∷ []) h.1
    ∙ stays history r user (match_puts_nowhere user moment r h.0)

settled_keeps_line : (gate : GateData) (user : UserName) (moment : ℕ) → line_of (settled_gate gate moment).records user ≡ line_of gate.records user
settled_keeps_line gate user moment =
    let adds = settled_adds gate.policy gate.records moment in
    ap (λ (rs : List RecordData). line_of rs user) adds.goes_on ∙ matches_keep user moment adds.more gate.records adds.are_matches

-- some of the matching steps
pub settling_keeps : (gate now : GateData) (c : Connection) (moment : ℕ) → IsSettling gate moment now → IsOnLine gate c → IsOnLine now c
settling_keeps gate now c moment s on = λ h.
    ap (λ (rs : List RecordData). line_of rs (folded_user c.user)) s.adds.goes_on ∙ matches_keep (folded_user c.user) moment s.adds.more gate.records s.adds.are_matches ∙ on h

-- A login that is accepted.

granted_login : (gate : GateData) (moment : ℕ) (login : LoginRequest) → verdict gate.policy gate.records (login_asked_at gate moment login) ≡ Verdict.Granted
    → line_of (gate_after_step gate (login_asked_at gate moment login)).records (folded_user login.user) ≡ Some 1
unfolding left_of
granted_login gate moment login granted =
    let a : Asked = login_asked_at gate moment login in
    after_step_is gate a (folded_user login.user)
    ∙ line_of_next gate.records (left_of gate a) a.user
    ∙ ap (λ (found : Option Asked). unwrap_or (put_by a.user found) (line_of gate.records a.user)) (granted_is (left_of gate a) a refl granted)
    ∙ ap (λ b. unwrap_or (where_true b (Some a.line)) (line_of gate.records a.user)) (user_is_itself a.user)

accepted_by : (gate : GateData) (moment : ℕ) (login : LoginRequest) (name : SessionName) (from : ℕ) (v : Verdict)
    → verdict gate.policy gate.records (login_asked_at gate moment login) ≡ v
    → login_answered gate.policy (gate_after_step gate (login_asked_at gate moment login)).records (folded_user login.user) login.wanted v ≡ LoginAnswer.Accepted name from
    → line_of (gate_after_step gate (login_asked_at gate moment login)).records (folded_user login.user) ≡ Some 1
accepted_by gate moment login name from Verdict.Granted granted e = granted_login gate moment login granted
accepted_by gate moment login name from (Verdict.Denied rule) denied e =
    let r = rejects gate.policy (gate_after_step gate (login_asked_at gate moment login)).records (folded_user login.user) login.wanted rule in
    never _ r.0 name from r.1 e
accepted_by gate moment login name from other v e = cc

accepted_line : (gate : GateData) (moment : ℕ) (login : LoginRequest) (name : SessionName) (from : ℕ) → login_told gate moment login ≡ LoginAnswer.Accepted name from
    → line_of (gate_after_step gate (login_asked_at gate moment login)).records (folded_user login.user) ≡ Some 1
unfolding login_told
accepted_line gate moment login name from e = accepted_by gate moment login name from _ refl e

-- What a packet, its matching steps and its reports keep.

abbrev RunIsOnLine : Run → Type 0
RunIsOnLine run = IsOnLine run.gate run.connection

login_keeps : (gate : GateData) (heard spoke : ℕ) (login : LoginRequest) (coming moment : ℕ) (answer : LoginAnswer) → login_told gate moment login ≡ answer
    → RunIsOnLine (on_event (gate_after_step gate (login_asked_at gate moment login)) (record { session = record { phase = Waiting; heard = heard; sent = spoke }; user = login.user; next = first_told answer; coming = coming }) (happens.Answered answer) moment)
unfolding on_event turn
login_keeps gate heard spoke login coming moment (LoginAnswer.Accepted name from) e = λ h. accepted_line gate moment login name from e
login_keeps gate heard spoke login coming moment (LoginAnswer.Rejected reason) e = λ h. cc

row_keeps_by : (gate : GateData) (phase : Phase) (heard spoke : ℕ) (user : UserName) (number coming moment : ℕ) (packet : ClientPacket)
    → let c : Connection = record { session = record { phase = phase; heard = heard; sent = spoke }; user = user; next = number; coming = coming } in
    IsOnLine gate c → RunIsOnLine (run_of_login gate c packet moment)
unfolding run_of_login on_event turn logged_in
row_keeps_by gate Fresh heard spoke user number coming moment (ClientPacket.Login login) on = login_keeps gate (max heard moment) spoke login coming moment _ refl
row_keeps_by gate On heard spoke user number coming moment (ClientPacket.Data payload) on = λ h. payload_keeps gate (folded_user user) user payload moment ∙ on refl
row_keeps_by gate On heard spoke user number coming moment ClientPacket.Heartbeat on = on
row_keeps_by gate On heard spoke user number coming moment ClientPacket.Debug on = on
row_keeps_by gate Waiting heard spoke user number coming moment (ClientPacket.Login login) on = λ h. cc
row_keeps_by gate Abandoned heard spoke user number coming moment (ClientPacket.Login login) on = λ h. cc
row_keeps_by gate Done heard spoke user number coming moment (ClientPacket.Login login) on = λ h. cc
row_keeps_by gate phase heard spoke user number coming moment packet on = λ h. cc

pub row_keeps : (gate : GateData) (c : Connection) (packet : ClientPacket) (moment : ℕ) → IsOnLine gate c → RunIsOnLine (run_of_login gate (connection_after_tick c) packet moment)
row_keeps gate c packet moment on = row_keeps_by gate c.session.phase c.session.heard c.session.sent c.user c.next (connection_after_tick c).coming moment packet on

pub match_keeps : (gate : GateData) (c : Connection) (moment : ℕ) → IsOnLine gate c → RunIsOnLine (run_of_matching gate c moment)
unfolding run_of_matching
match_keeps gate c moment on = λ h. at (is_over c.session.phase) ∙ on h
  where
    at : (b : Bool) → line_of (cond b gate (settled_gate gate moment)).records (folded_user c.user) ≡ line_of gate.records (folded_user c.user)
    at true = refl
    at false = settled_keeps_line gate (folded_user c.user) moment

reports_keep : (gate : GateData) (heard spoke : ℕ) (user : UserName) (number coming moment count : ℕ) (closed : Bool)
    → let c : Connection = record { session = record { phase = On; heard = heard; sent = spoke }; user = user; next = number; coming = coming } in
    IsOnLine gate c → RunIsOnLine (on_event gate c (happens.Pulled count closed) moment)
unfolding on_event turn
reports_keep gate heard spoke user number coming moment count true on = λ h. cc
reports_keep gate heard spoke user number coming moment count false on = on

pull_keeps_by : (gate : GateData) (phase : Phase) (heard spoke : ℕ) (user : UserName) (number coming moment : ℕ)
    → let c : Connection = record { session = record { phase = phase; heard = heard; sent = spoke }; user = user; next = number; coming = coming } in
    IsOnLine gate c → RunIsOnLine (run_of_pull gate c moment)
unfolding run_of_pull run_of_sending
pull_keeps_by gate On heard spoke user number coming moment on = reports_keep gate heard spoke user _ coming moment _ (is_closed gate.records) on
pull_keeps_by gate phase heard spoke user number coming moment on = on

pub pull_keeps : (gate : GateData) (c : Connection) (moment : ℕ) → IsOnLine gate c → RunIsOnLine (run_of_pull gate c moment)
pull_keeps gate c moment on = pull_keeps_by gate c.session.phase c.session.heard c.session.sent c.user c.next c.coming moment on

taken_keeps : (gate : GateData) (c : Connection) (packet : ClientPacket) → IsOnLine gate c → RunIsOnLine (taken gate c packet)
taken_keeps gate c packet on =
    let row = run_of_login gate (connection_after_tick c) packet c.coming in
    let met = run_of_matching row.gate row.connection c.coming in
    pull_keeps met.gate met.connection c.coming (match_keeps row.gate row.connection c.coming (row_keeps gate c packet c.coming on))

packet_keeps : (run : Run) (packet : ClientPacket) → RunIsOnLine run → RunIsOnLine (run_on_packet run packet)
packet_keeps run packet on = handled_by RunIsOnLine run.gate run.connection packet (λ over. on) (λ goes. taken_keeps run.gate run.connection packet on)

pub packets_keep : (packets : List ClientPacket) (run : Run) → RunIsOnLine run → RunIsOnLine (fold run_on_packet run packets)
packets_keep packets run on = all_keep RunIsOnLine packet_keeps packets run on

pub nobody_is_on : (gate : GateData) (first : ℕ) → RunIsOnLine (run_opened gate first)
nobody_is_on gate first = λ h. cc

pub run_keeps : (gate : GateData) (first : ℕ) (bytes : List ℕ) → RunIsOnLine (run_of gate first bytes)
unfolding run_of
run_keeps gate first bytes = packets_keep (packets_of bytes).packets (run_opened gate first) (nobody_is_on gate first)
