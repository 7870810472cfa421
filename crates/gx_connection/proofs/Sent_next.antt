-- What a connection was sent: the session table keeps it from packet to packet.
use Rattle.std.proofs.{Common.{◌≡◌, ℕ, ◌+◌, ◌-◌, ◌≤◌, max, Bool, true, false, cond, ◌==◌, nat_le, List, [], ◌∷◌, ◌++◌, length, drop, Option, None, Some, refl, sym, ap, ◌∙◌, subst, append-nil, append_assoc, arith, length-append, length-drop}, lemmas.{Bool.{Decides.nat_tests, not-false, leb-true, and_parts}, List.{drop-append-le, drop_at}}}
use Rattle.std.specs.{List.{flat_map, AllByRecursion}, Option.option_map_or}
use Rattle.gx_units.specs.{Spelling.folded_user, declared.names.{LoginRejection.LoginRejection, SessionName.SessionName, UserName.UserName}}
use Rattle.gx_units.proofs.Lists_hold.{all_both}
use Rattle.gx_soup.specs.{declared.packet.{LoginRequest.LoginRequest, ClientPacket.ClientPacket, ServerPacket.ServerPacket}, Writing.server_bytes, Packets.packets_of}
use Rattle.gx_policy.specs.declared.{policy.PolicyData.PolicyData, rule_name.RuleName.{RuleName, TheVariants.{L3}}}
use Rattle.gx_history.specs.{declared.{«record».{Asked.Asked, RecordData.RecordData, Step.Step, Verdict.Verdict}, report.Report.Report}, Asking.facts, Logins.first_wanted, Payloads.request_of, Requests.asked_of, Rules.forbids, Streams.{stream, reports_of}, Verdicts.{next, verdict, facts_now, moment_of}, InForce.is_closed}
use Rattle.gx_laws.proofs.{Requests_judged.{left_by_request, is_no_bar}, Streams_next.stream_next, Matches_end.settled_adds}
use Rattle.gx_access_gate.specs.{Gates.GateData, Matches.settled_gate, Logins.login_answered, declared.outcome.LoginAnswer.LoginAnswer, Asking.{request_on_line_1, gate_after_step}}
use Rattle.gx_connection.specs.{declared.connection.Connection.Connection, Serving.{reports_owed, IsServed, HasOnlyMatched, Serves}, Steps.{login_asked_at, login_told}, Transcript.{Run, with_text, on_event, first_told, logged_in, run_of_login, run_of_sending, run_of_matching, run_of_pull, run_of_packet, run_on_packet, run_opened, run_of, later}}
use Rattle.gx_session.specs.{declared.session.Phase.{Phase, TheVariants.{Fresh, Waiting, On, Abandoned}}, Table.turn, Sending.{report_packet, reports_text}}
use Rattle.gx_session.specs.Happenings as happens
use Rattle.gx_connection.proofs.Connection_keeps.{all_keep}

-- reports that come one after the other are spelled one after the other
spelled_on : (xs ys : List Report) → flat_map report_packet (xs ++ ys) ≡ flat_map report_packet xs ++ flat_map report_packet ys
spelled_on [] ys = refl
spelled_on (x ∷ xs) ys =
    ap (λ rest. report_packet x ++ rest) (spelled_on xs ys) ∙ sym (append_assoc (report_packet x) (flat_map report_packet xs) (flat_map report_packet ys))

-- the record that a request leaves
unfoldable pub left_of : GateData → Asked → RecordData
left_of gate a = record {
  number = length gate.records + 1;
  moment = moment_of gate.records (Step.Asked a);
  step = Step.Asked a;
  verdict = verdict gate.policy gate.records a;
}

pub left_is : (gate : GateData) (a : Asked) → next gate.policy gate.records (Step.Asked a) ≡ Some (left_of gate a)
unfolding left_of
left_is gate a = left_by_request gate.policy gate.records a

-- a step's record adds reports behind those that are there
stream_on : (gate : GateData) (a : Asked) (user : UserName) → (more : List Report) × (reports_owed (gate_after_step gate a) user ≡ reports_owed gate user ++ more)
stream_on gate a user = (
  reports_of gate.policy (folded_user user) (gate.records, left_of gate a),
  ap (λ (o : Option RecordData). stream gate.policy (option_map_or (λ (x : RecordData). gate.records ++ x ∷ []) o gate.records) (folded_user user)) (left_is gate a)
      ∙ stream_next gate.policy gate.records (left_of gate a) (folded_user user),
)

-- records add reports behind those that are there
stream_grows : (policy : PolicyData) (history more : List RecordData) (user : UserName) → (reports : List Report) × (stream policy (history ++ more) user ≡ stream policy history user ++ reports)
stream_grows policy history [] user = ([], ap (λ h. stream policy h user) (append-nil history) ∙ sym (append-nil (stream policy history user)))
stream_grows policy history (r ∷ more) user =
    let rest = stream_grows policy (history ++ r ∷ []) more user in
    let news = reports_of policy user (history, r) in (
      news ++ rest.0,
      ap (λ h. stream policy h user) (sym (append_assoc history (r ∷ []) more))
          ∙ (rest.1 ∙ (ap (λ s. s ++ rest.0) (stream_next policy history r user) ∙ append_assoc (stream policy history user) news rest.0)),
    )

-- matching steps add reports behind those that are there
settled_on : (gate : GateData) (moment : ℕ) (user : UserName) → (more : List Report) × (reports_owed (settled_gate gate moment) user ≡ reports_owed gate user ++ more)
settled_on gate moment user =
    let adds = settled_adds gate.policy gate.records moment in
    let grown = stream_grows gate.policy gate.records adds.more (folded_user user) in
    (grown.0, ap (λ h. stream gate.policy h (folded_user user)) adds.goes_on ∙ grown.1)

-- and so do a step and the matching steps that follow it
step_settled_on : (gate : GateData) (a : Asked) (moment : ℕ) (user : UserName) → (more : List Report) × (reports_owed (settled_gate (gate_after_step gate a) moment) user ≡ reports_owed gate user ++ more)
step_settled_on gate a moment user =
    let one = stream_on gate a user in
    let rest = settled_on (gate_after_step gate a) moment user in
    (one.0 ++ rest.0, rest.1 ∙ (ap (λ s. s ++ rest.0) one.1 ∙ append_assoc (reports_owed gate user) one.0 rest.0))

-- matching steps ask for nothing
ask_nothing : (moment : ℕ) (rs : List RecordData) → AllByRecursion (λ (r : RecordData). r.step ≡ Step.Matching moment) rs → AllByRecursion (λ (r : RecordData). asked_of r.step ≡ None) rs
ask_nothing moment [] h = tt
ask_nothing moment (r ∷ rs) h = (ap asked_of h.0, ask_nothing moment rs h.1)

only_matched : (before gate : GateData) (moment : ℕ) → HasOnlyMatched before gate → HasOnlyMatched before (settled_gate gate moment)
only_matched before gate moment h =
    let adds = settled_adds gate.policy gate.records moment in
    record {
      policy_kept = h.policy_kept;
      more = h.more ++ adds.more;
      goes_on = adds.goes_on ∙ (ap (λ (rs : List RecordData). rs ++ adds.more) h.goes_on ∙ append_assoc before.records h.more adds.more);
      are_matches = all_both (λ (r : RecordData). asked_of r.step ≡ None) h.more adds.more h.are_matches (ask_nothing moment adds.more adds.are_matches);
    }

-- what was sent, once more reports were sent behind it
served_more : (gate gate' : GateData) (text : List ℕ) (user : UserName) (next : ℕ) (more : List Report) → IsServed gate text user next
    → gate'.policy ≡ gate.policy → reports_owed gate' user ≡ reports_owed gate user ++ more
    → IsServed gate' (text ++ ([] ++ flat_map report_packet (drop (next - 1) (reports_owed gate' user)))) user (max 1 next + length (drop (next - 1) (reports_owed gate' user)))
served_more gate gate' text user next more h p e =
    let old = reports_owed gate user in
    let now = reports_owed gate' user in
    let front = server_bytes (ServerPacket.Accepted gate.policy.session h.from) in
    let first : length old ≡ next - 1 = omega (arith, h.follows) in
    let reach : h.from - 1 ≤ length old = omega (arith, h.is_available) in
    let news : drop (next - 1) now ≡ more = ap (drop (next - 1)) e ∙ drop_at old more (next - 1) first in
    let kept : drop (h.from - 1) now ≡ drop (h.from - 1) old ++ more = ap (drop (h.from - 1)) e ∙ drop-append-le (h.from - 1) old more reach in
    let longer : length now ≡ length old + length more = ap length e ∙ length-append old more in
    record {
      from = h.from;
      sent =
          ap (λ t. t ++ flat_map report_packet (drop (next - 1) now)) h.sent
          ∙ (ap (λ ms. (front ++ flat_map report_packet (drop (h.from - 1) old)) ++ flat_map report_packet ms) news
          ∙ (append_assoc front (flat_map report_packet (drop (h.from - 1) old)) (flat_map report_packet more)
          ∙ (ap (λ t. front ++ t) (sym (spelled_on (drop (h.from - 1) old) more))
          ∙ (ap (λ ms. front ++ flat_map report_packet ms) (sym kept)
          ∙ ap (λ (q : PolicyData). server_bytes (ServerPacket.Accepted q.session h.from) ++ flat_map report_packet (drop (h.from - 1) now)) (sym p)))));
      counts_from_one = h.counts_from_one;
      is_available = omega (arith, longer, h.is_available);
      follows = omega (arith, longer, h.follows, ap length news);
    }

-- the first reports, behind Login Accepted
served_first : (gate : GateData) (text : List ℕ) (user : UserName) (name : SessionName) (from : ℕ) → text ≡ [] → name ≡ gate.policy.session → 1 ≤ from
    → from ≤ length (reports_owed gate user) + 1
    → IsServed gate (text ++ (server_bytes (ServerPacket.Accepted name from) ++ flat_map report_packet (drop (from - 1) (reports_owed gate user)))) user (max 1 from + length (drop (from - 1) (reports_owed gate user)))
served_first gate text user name from none named one there = record {
  from = from;
  sent =
      ap (λ t. t ++ (server_bytes (ServerPacket.Accepted name from) ++ flat_map report_packet (drop (from - 1) (reports_owed gate user)))) none
      ∙ ap (λ n. server_bytes (ServerPacket.Accepted n from) ++ flat_map report_packet (drop (from - 1) (reports_owed gate user))) named;
  counts_from_one = one;
  is_available = there;
  follows = omega (arith, length-drop (from - 1) (reports_owed gate user));
}

no_bar : (gate : GateData) (a : Asked) → verdict gate.policy gate.records a ≡ Verdict.Granted → forbids L3 (facts_now gate.policy gate.records a) a.request ≡ false
unfolding left_of
no_bar gate a granted = is_no_bar gate.policy gate.records a (left_of gate a) (left_is gate a) granted L3

-- a login that is granted asked for a report that is there, or for the next one
number_is_there : (gate : GateData) (moment : ℕ) (login : LoginRequest) → verdict gate.policy gate.records (login_asked_at gate moment login) ≡ Verdict.Granted
    → nat_le login.wanted (length (reports_owed gate login.user) + 1) ≡ true
unfolding facts
number_is_there gate moment login granted =
    (and_parts _ _ (not-false _ (no_bar gate (login_asked_at gate moment login) granted))).1

first_within : (wanted old now : ℕ) → (none : Bool) → (wanted == 0) ≡ none → wanted ≤ old + 1 → old ≤ now
    → (1 ≤ cond none (max 1 now) wanted) × (cond none (max 1 now) wanted ≤ now + 1)
first_within wanted old now true e w o = (omega arith, omega arith)
first_within wanted old now false e w o = (grind (arith, nat_tests), omega arith)

-- an answer that accepts comes of a granted login alone
pub rejects : (policy : PolicyData) (history : List RecordData) (user : UserName) (wanted : ℕ) (rule : RuleName)
    → (reason : LoginRejection) × (login_answered policy history user wanted (Verdict.Denied rule) ≡ LoginAnswer.Rejected reason)
rejects policy history user wanted L3 = (LoginRejection.SessionNotAvailable, refl)
rejects policy history user wanted other = (LoginRejection.NotAuthorized, refl)

pub never : {P : Type 0} (answer : LoginAnswer) (reason : LoginRejection) (name : SessionName) (from : ℕ) → answer ≡ LoginAnswer.Rejected reason → answer ≡ LoginAnswer.Accepted name from → P
never answer reason name from e f = cc

record IsAcceptance (gate : GateData) (moment : ℕ) (login : LoginRequest) (name : SessionName) (from : ℕ) : Type 0 where
  named : name ≡ gate.policy.session
  counts_from_one : 1 ≤ from
  is_there : from ≤ length (reports_owed (gate_after_step gate (login_asked_at gate moment login)) login.user) + 1

accepted_by : (gate : GateData) (moment : ℕ) (login : LoginRequest) (name : SessionName) (from : ℕ) (v : Verdict)
    → verdict gate.policy gate.records (login_asked_at gate moment login) ≡ v
    → login_answered gate.policy (gate_after_step gate (login_asked_at gate moment login)).records (folded_user login.user) login.wanted v ≡ LoginAnswer.Accepted name from
    → IsAcceptance gate moment login name from
accepted_by gate moment login name from Verdict.Granted granted e =
    let a = login_asked_at gate moment login in
    let now = reports_owed (gate_after_step gate a) login.user in
    let more = stream_on gate a login.user in
    let there = leb-true login.wanted (length (reports_owed gate login.user) + 1) (number_is_there gate moment login granted) in
    let longer : length now ≡ length (reports_owed gate login.user) + length more.0 = ap length more.1 ∙ length-append (reports_owed gate login.user) more.0 in
    let bounds = first_within login.wanted (length (reports_owed gate login.user)) (length now) (login.wanted == 0) refl there (omega (arith, longer)) in
    let same : first_wanted (length now) login.wanted ≡ from = cc in
    record { named = cc; counts_from_one = omega (arith, same, bounds.0); is_there = omega (arith, same, bounds.1) }
accepted_by gate moment login name from (Verdict.Denied rule) denied e =
    let r = rejects gate.policy (gate_after_step gate (login_asked_at gate moment login)).records (folded_user login.user) login.wanted rule in
    never _ r.0 name from r.1 e
accepted_by gate moment login name from other v e = cc

accepted_is : (gate : GateData) (moment : ℕ) (login : LoginRequest) (name : SessionName) (from : ℕ) → login_told gate moment login ≡ LoginAnswer.Accepted name from
    → IsAcceptance gate moment login name from
unfolding login_told
accepted_is gate moment login name from e = accepted_by gate moment login name from _ refl e

-- what a run was sent
abbrev ServesRun : GateData → Run → Type 0
ServesRun before run = Serves before run.gate run.text run.connection.user run.connection.next run.connection.session.phase

-- once reports are sent, the session goes on, or, where the day is closed, is over
after_reports : (before gate : GateData) (text : List ℕ) (heard spoke : ℕ) (user : UserName) (next coming moment count : ℕ) (closed : Bool) → IsServed gate text user next
    → ServesRun before (with_text text (on_event gate (record { session = record { phase = On; heard = heard; sent = spoke }; user = user; next = next; coming = coming }) (happens.Pulled count closed) moment))
unfolding on_event turn
after_reports before gate text heard spoke user next coming moment count true h = tt
after_reports before gate text heard spoke user next coming moment count false h = subst (λ t. IsServed gate t user next) (sym (append-nil text)) h

-- all reports that are there are sent behind what was
after_pull : (before gate : GateData) (text front : List ℕ) (heard spoke : ℕ) (user : UserName) (next coming moment : ℕ)
    → IsServed gate (text ++ (front ++ flat_map report_packet (drop (next - 1) (reports_owed gate user)))) user (max 1 next + length (drop (next - 1) (reports_owed gate user)))
    → let c : Connection = record { session = record { phase = On; heard = heard; sent = spoke }; user = user; next = next; coming = coming } in
    ServesRun before (with_text text (with_text front (run_of_pull gate c moment)))
unfolding run_of_pull run_of_sending
after_pull before gate text front heard spoke user next coming moment h =
    let news = drop (next - 1) (reports_owed gate user) in
    let c : Connection = record { session = record { phase = On; heard = heard; sent = spoke }; user = user; next = max 1 next + length news; coming = coming } in
    let last = on_event gate c (happens.Pulled (length news) (is_closed gate.records)) moment in
    let e : (text ++ (front ++ reports_text news)) ++ last.text ≡ text ++ (front ++ (reports_text news ++ last.text)) =
    append_assoc text (front ++ reports_text news) last.text ∙ ap (λ t. text ++ t) (append_assoc front (reports_text news) last.text) in
    subst (λ t. Serves before last.gate t last.connection.user last.connection.next last.connection.session.phase) e
    (after_reports before gate (text ++ (front ++ reports_text news)) heard spoke user (max 1 next + length news) coming moment (length news) (is_closed gate.records) h)

abbrev login_run : GateData → ℕ → ℕ → LoginRequest → ℕ → ℕ → LoginAnswer → Run
login_run gate heard spoke login coming moment answer =
    on_event gate (record { session = record { phase = Waiting; heard = heard; sent = spoke }; user = login.user; next = first_told answer; coming = coming }) (happens.Answered answer) moment

after_login : (before gate : GateData) (text : List ℕ) (heard spoke : ℕ) (login : LoginRequest) (coming moment : ℕ) → text ≡ [] → (answer : LoginAnswer)
    → login_told gate moment login ≡ answer
    → let run = login_run (gate_after_step gate (login_asked_at gate moment login)) heard spoke login coming moment answer in
    ServesRun before (with_text text (with_text run.text (run_of_pull (run_of_matching run.gate run.connection moment).gate run.connection moment)))
unfolding on_event turn run_of_matching run_of_pull
after_login before gate text heard spoke login coming moment none (LoginAnswer.Accepted name from) e =
    let asks = login_asked_at gate moment login in
    let now = settled_gate (gate_after_step gate asks) moment in
    let k = accepted_is gate moment login name from e in
    let more = settled_on (gate_after_step gate asks) moment login.user in
    let longer : length (reports_owed now login.user) ≡ length (reports_owed (gate_after_step gate asks) login.user) + length more.0 = ap length more.1 ∙ length-append (reports_owed (gate_after_step gate asks) login.user) more.0 in
    after_pull before now text (server_bytes (ServerPacket.Accepted name from)) heard (max spoke moment) login.user from coming moment
    (served_first now text login.user name from none k.named k.counts_from_one (omega (arith, longer, k.is_there)))
after_login before gate text heard spoke login coming moment none (LoginAnswer.Rejected reason) e = tt

-- what was sent by one packet more
serves_next : (before gate : GateData) (text : List ℕ) (phase : Phase) (heard spoke : ℕ) (user : UserName) (number coming : ℕ) (packet : ClientPacket) → Serves before gate text user number phase
    → ServesRun before (run_on_packet (record { gate = gate; connection = record { session = record { phase = phase; heard = heard; sent = spoke }; user = user; next = number; coming = coming }; text = text }) packet)
unfolding run_of_packet run_of_login on_event turn logged_in run_of_matching run_of_pull
serves_next before gate text Fresh heard spoke user number coming (ClientPacket.Login login) h =
    after_login before gate text (max heard coming) spoke login (later coming) coming h.1 _ refl
serves_next before gate text Fresh heard spoke user number coming ClientPacket.Heartbeat h = (only_matched before gate coming h.0, append-nil text ∙ h.1)
serves_next before gate text Fresh heard spoke user number coming ClientPacket.Debug h = (only_matched before gate coming h.0, append-nil text ∙ h.1)
serves_next before gate text On heard spoke user number coming (ClientPacket.Data payload) h =
    let a = request_on_line_1 user (request_of payload) coming in
    let more = step_settled_on gate a coming user in
    after_pull before (settled_gate (gate_after_step gate a) coming) text [] (max heard coming) spoke user number (later coming) coming
    (served_more gate (settled_gate (gate_after_step gate a) coming) text user number more.0 h refl more.1)
serves_next before gate text On heard spoke user number coming ClientPacket.Heartbeat h =
    let more = settled_on gate coming user in
    after_pull before (settled_gate gate coming) text [] (max heard coming) spoke user number (later coming) coming
    (served_more gate (settled_gate gate coming) text user number more.0 h refl more.1)
serves_next before gate text On heard spoke user number coming ClientPacket.Debug h =
    let more = settled_on gate coming user in
    after_pull before (settled_gate gate coming) text [] (max heard coming) spoke user number (later coming) coming
    (served_more gate (settled_gate gate coming) text user number more.0 h refl more.1)
serves_next before gate text Waiting heard spoke user number coming packet h = absurd h
serves_next before gate text Abandoned heard spoke user number coming packet h = absurd h
serves_next before gate text phase heard spoke user number coming packet h = tt

run_serves : (gate : GateData) (first : ℕ) (bytes : List ℕ) → ServesRun gate (run_of gate first bytes)
unfolding run_of
run_serves gate first bytes =
    let nothing : HasOnlyMatched gate gate = record { policy_kept = refl; more = []; goes_on = sym (append-nil gate.records); are_matches = tt } in
    all_keep (ServesRun gate) (λ run packet h. let c = run.connection in serves_next gate run.gate run.text c.session.phase c.session.heard c.session.sent c.user c.next c.coming packet h) (packets_of bytes).packets (run_opened gate first) (nothing, refl)

pub served_in : (gate : GateData) (first : ℕ) (bytes : List ℕ) (phase : Phase) → (run_of gate first bytes).connection.session.phase ≡ phase
    → let run = run_of gate first bytes in Serves gate run.gate run.text run.connection.user run.connection.next phase
served_in gate first bytes phase e =
    let run = run_of gate first bytes in
    let P : Phase → Type 0 = λ x. Serves gate run.gate run.text run.connection.user run.connection.next x in
    subst P e (run_serves gate first bytes)
