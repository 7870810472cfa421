-- What an event, a login, a packet and a pull leave, whole or given up.
use Rattle.gx_devices.specs.{declared.fault.WriteFault.WriteFault, Devices.IsFront, Stopping.{AreFewer, IsOfSending, Mark}}
use Rattle.std.proofs.{Common.{◌≡◌, ℕ, ◌+◌, ◌-◌, ◌<◌, inl, inr, max, pred, nat_lt, Bool, true, false, ◌&&◌, cond, is_some, List, [], ◌∷◌, ◌++◌, length, take, drop, Option, Some, None, refl, sym, ap, ◌∙◌, subst, arith, length-drop}, lemmas.Bool.Decides.nat_tests, KnownBytes.{Appends-nil, Appends-trans}}
use Rattle.std.specs.Io.KnownBytes.{Appends}
use Rattle.gx_units.specs.{Spelling.folded_user, declared.names.UserName.UserName}
use Rattle.gx_soup.specs.declared.packet.{LoginRequest.LoginRequest, ClientPacket.ClientPacket}
use Rattle.gx_history.specs.{declared.{«record».{Request.Request, RecordData.RecordData}, report.Report.Report}, InForce.is_closed, Streams.stream}
use Rattle.gx_policy.specs.Lists.{slice}
use Rattle.gx_access_gate.specs.{Gates.GateData, Reports.ends_before, declared.outcome.{LoginAnswer.LoginAnswer, StepFault.StepFault}, Asking.{request_on_line_1, gate_after_step}}
use Rattle.gx_connection.specs.{declared.{connection.Connection.Connection, fault.PipeFault.PipeFault}, Serving.IsOnLine, Faults.{fault_of_send, fault_of_step, IsToldFull}, Piping.{RunState, mark, cause_of, Refused, logout_of, IsRunOf, IsTaken, IsUnwritten, IsGivenUp, IsTurnGivenUp, GivesAll, reported_of, pulled_of, pull_marks, IsRunThere, PipeStopsIn}, Steps.{login_asked_at, login_told}, Transcript.{Run, run_at, and_then, with_text, nothing_written, gate_after_act, on_event, first_told, logged_in, with_login, run_of_login, run_of_sending, unsent_reports, run_of_pull}}
use Rattle.gx_session.specs.{declared.{event.{Control.Control, Next.Next, Reply.Reply}, session.Phase.{Phase, TheVariants.{Fresh, Waiting, On}}}, Events.{asks_step, is_phase_on, login_in}, Happenings.Happening, Table.{SessionData, row_in, turn}, Sending.{control_bytes, control_text, reports_text}}
use Rattle.gx_devices.proofs.Run_stopped.{fewer_then, first_same}
use Rattle.gx_devices.proofs.Run_pieces as pieces
use Rattle.gx_connection.proofs.{Records_next.{event_adds, answer_on, login_adds}, Line_kept.pull_keeps, Step_call.of_step}
use Rattle.gx_session.specs.Happenings as happens
use Rattle.gx_units.proofs.{Test_known.and_true, Lists_found.all_taken}

-- Rows of the table.

row_answered : (p : Phase) (a : LoginAnswer) (silent quiet : Bool) → p ≡ Waiting → asks_step (row_in p (happens.Answered a) silent quiet).reply.next ≡ false
row_answered Waiting (LoginAnswer.Accepted name next) silent quiet h = refl
row_answered Waiting (LoginAnswer.Rejected reason) silent quiet h = refl
row_answered p a silent quiet h = cc

answer_asks_nothing : (session : SessionData) (a : LoginAnswer) (moment : ℕ) → session.phase ≡ Waiting → asks_step (turn session (happens.Answered a) moment).reply.next ≡ false
unfolding turn
answer_asks_nothing session a moment h = row_answered session.phase a _ _ h

row_packet : (p : Phase) (packet : ClientPacket) (silent quiet : Bool) → (row_in p (happens.Packet packet) silent quiet).reply.send ≡ None
row_packet Fresh (ClientPacket.Login login) silent quiet = refl
row_packet On (ClientPacket.Login login) silent quiet = refl
row_packet p packet silent quiet = refl

pub packet_is_silent : (session : SessionData) (packet : ClientPacket) (moment : ℕ) → (turn session (happens.Packet packet) moment).reply.send ≡ None
unfolding turn
packet_is_silent session packet moment = row_packet session.phase packet _ _

-- a login is asked for by one who is not on, and then waits
record WaitsFor (before after : Phase) : Type 0 where
  fresh : is_phase_on before ≡ false
  waiting : after ≡ Waiting

row_login : (p : Phase) (packet : ClientPacket) (silent quiet : Bool) → (row_in p (happens.Packet packet) silent quiet).reply.next ≡ Next.Login → WaitsFor p (row_in p (happens.Packet packet) silent quiet).phase
row_login Fresh (ClientPacket.Login login) silent quiet h = record { fresh = refl; waiting = refl }
row_login On (ClientPacket.Login login) silent quiet h = cc
row_login p packet silent quiet h = cc

login_waits : (session : SessionData) (packet : ClientPacket) (moment : ℕ) → (turn session (happens.Packet packet) moment).reply.next ≡ Next.Login → WaitsFor session.phase (turn session (happens.Packet packet) moment).session.phase
unfolding turn
login_waits session packet moment h = row_login session.phase packet _ _ h

-- Text behind text.

pub taken_behind : (text : List ℕ) (run : Run) (now : GateData) (state : Connection) (output mid left : Option (List ℕ)) → Appends output mid text → IsTaken run now state mid left → IsTaken (with_text text run) now state output left
taken_behind text run now state output mid left w t = record { gate = t.gate; connection = t.connection; text = Appends-trans output mid left text run.text w t.text }

-- a run that a growth stopped where it stood
pub pauses : (run : Run) (marks : List (Mark RecordData RunState)) (now : GateData) (state : Connection) (output : Option (List ℕ)) → now ≡ run.gate → state ≡ run.connection → PipeStopsIn run marks PipeFault.OutOfMemory now state output output
pauses run marks now state output same still = pieces.pauses Refused (IsRunThere now state run) (mark run) marks output (record { gate = same; logout = ap logout_of still; line = λ h. h })

-- what was written, where sending failed
sending : (fault : WriteFault) (text : List ℕ) (output left : Option (List ℕ)) → IsFront output left text → (fault ≡ WriteFault.OutOfMemory → Appends output left []) → (f : IsFront output left text) × IsOfSending (cause_of (fault_of_send fault)) (f.front ≡ [])
sending WriteFault.OutOfMemory text output left f none = (record { front = []; rest = text; written = none refl; whole = refl }, refl)
sending WriteFault.WriteFailed text output left f none = (f, tt)

-- a packet of the session's own was not sent
pub unwritten : (run : Run) (fault : WriteFault) (now : GateData) (state : Connection) (output left : Option (List ℕ)) → now ≡ run.gate → logout_of state ≡ logout_of run.connection → IsFront output left run.text
    → (fault ≡ WriteFault.OutOfMemory → Appends output left []) → IsUnwritten run (fault_of_send fault) now state output left
unwritten run fault now state output left g l f none = let s = sending fault run.text output left f none in record { gate = g; logout = l; text = s.0; sending = s.1 }

pub turn_unwritten : (gate : GateData) (c : Connection) (event : Happening) (moment : ℕ) (reply : Reply) (session : SessionData) (control : Control) (fault : WriteFault) (now : GateData) (output left : Option (List ℕ)) → reply ≡ (turn c.session event moment).reply → session ≡ (turn c.session event moment).session
    → reply.send ≡ Some control → now ≡ gate_after_act gate c.user moment reply.next → IsFront output left (control_bytes control) → (fault ≡ WriteFault.OutOfMemory → Appends output left [])
    → IsTurnGivenUp gate c event moment (fault_of_send fault) now (record c { session = session }) output left
unfolding on_event
turn_unwritten gate c event moment reply session control fault now output left r s sends acts f none =
    let run_of_sending : (turn c.session event moment).reply.send ≡ Some control = ap (λ (x : Reply). x.send) (sym r) ∙ sends in
    inr (
      ap is_some run_of_sending,
      unwritten (on_event gate c event moment) fault now (record c { session = session }) output left (acts ∙ ap (λ (x : Reply). gate_after_act gate c.user moment x.next) r)
          (ap (λ (x : SessionData). logout_of (record c { session = x })) s) (subst (λ (x : Option Control). IsFront output left (control_text x)) (sym run_of_sending) f) none,
    )

-- A login.

logged_in_is : (gate gate' : GateData) (c : Connection) (login : LoginRequest) (moment : ℕ) (answer : LoginAnswer) (next : ℕ) → gate' ≡ gate_after_step gate (login_asked_at gate moment login) → answer ≡ login_told gate moment login → next ≡ first_told answer → logged_in gate c login moment ≡ on_event gate' (record c { user = login.user; next = next }) (happens.Answered answer) moment
unfolding logged_in
logged_in_is gate gate' c login moment answer next g a n =
    ap (λ (x : LoginAnswer). on_event (gate_after_step gate (login_asked_at gate moment login)) (record c { user = login.user; next = first_told x }) (happens.Answered x) moment) (sym a)
    ∙ (ap (λ x. on_event x (record c { user = login.user; next = first_told answer }) (happens.Answered answer) moment) (sym g)
    ∙ ap (λ k. on_event gate' (record c { user = login.user; next = k }) (happens.Answered answer) moment) (sym n))

pub log_in_cut : (gate gate' : GateData) (c : Connection) (login : LoginRequest) (moment : ℕ) (answer : LoginAnswer) (next : ℕ) → c.session.phase ≡ Waiting → gate' ≡ gate_after_step gate (login_asked_at gate moment login) → answer ≡ login_told gate moment login → next ≡ first_told answer → (fault : PipeFault) (now : GateData) (state : Connection) (output left : Option (List ℕ)) → IsTurnGivenUp gate' (record c { user = login.user; next = next }) (happens.Answered answer) moment fault now state output left → IsGivenUp gate c (logged_in gate c login moment) fault now state output left
log_in_cut gate gate' c login moment answer next waiting g a n fault now state output left (inl h) =
    let quiet = answer_asks_nothing c.session answer moment waiting in
    let asks = h.0 in
    cc
log_in_cut gate gate' c login moment answer next waiting g a n fault now state output left (inr h) =
    inr (subst (λ r. IsUnwritten r fault now state output left) (sym (logged_in_is gate gate' c login moment answer next g a n)) h.1)

-- a login whose step was refused
pub login_undone : (gate now : GateData) (c : Connection) (login : LoginRequest) (moment : ℕ) (fault : PipeFault) (output : Option (List ℕ)) → now ≡ gate → Refused (cause_of fault) gate.records
    → IsGivenUp gate c (logged_in gate c login moment) fault now c output output
login_undone gate now c login moment fault output same cause = inl (login_adds gate c moment login, record { gate_is = same; logout = refl; cause = cause; written = Appends-nil output })

-- A packet.

pub packet_cut : (gate : GateData) (c : Connection) (packet : ClientPacket) (moment : ℕ) (fault : PipeFault) (now : GateData) (state : Connection) (output left : Option (List ℕ)) → IsTurnGivenUp gate c (happens.Packet packet) moment fault now state output left → IsGivenUp gate c (run_of_login gate c packet moment) fault now state output left
packet_cut gate c packet moment fault now state output left (inl h) = inl (fewer_then _ _ _ (event_adds gate c (happens.Packet packet) moment h.0) (answer_on gate c packet moment), h.1)
packet_cut gate c packet moment fault now state output left (inr h) =
    let quiet = packet_is_silent c.session packet moment in
    let sends = h.0 in
    let clash : is_some {T = Control} None ≡ true = ap is_some (sym quiet) ∙ sends in
    cc

-- a message of a user who is on
pub message_taken : (gate now : GateData) (c state : Connection) (packet : ClientPacket) (payload : List ℕ) (moment : ℕ) (output : Option (List ℕ)) → packet ≡ ClientPacket.Data payload → IsRunOf (on_event gate c (happens.Packet (ClientPacket.Data payload)) moment) now state → IsTaken (run_of_login gate c packet moment) now state output output
unfolding run_of_login on_event
message_taken gate now c state packet payload moment output is run =
    subst (λ (p : ClientPacket). IsTaken (run_of_login gate c p moment) now state output output) (sym is) (record {
      gate = run.gate;
      connection = run.connection;
      text = subst (λ (s : Option Control). Appends output output (control_text s ++ [])) (sym (packet_is_silent c.session (ClientPacket.Data payload) moment)) (Appends-nil output);
    })

pub message_cut : (gate now : GateData) (c state : Connection) (packet : ClientPacket) (payload : List ℕ) (moment : ℕ) (fault : StepFault) (output : Option (List ℕ)) → packet ≡ ClientPacket.Data payload → asks_step (turn c.session (happens.Packet (ClientPacket.Data payload)) moment).reply.next ≡ true → (now ≡ gate) × (state ≡ c) → IsToldFull now fault → IsGivenUp gate c (run_of_login gate c packet moment) (fault_of_step fault) now state output output
message_cut gate now c state packet payload moment fault output is asks same full =
    subst (λ (p : ClientPacket). IsGivenUp gate c (run_of_login gate c p moment) (fault_of_step fault) now state output output) (sym is)
    (packet_cut gate c (ClientPacket.Data payload) moment (fault_of_step fault) now state output output
    (inl (asks, record { gate_is = same.0; logout = ap logout_of same.1; cause = of_step gate now fault same.0 full; written = Appends-nil output })))

-- what the session makes of a message, its reply known
pub message_run : (gate now : GateData) (c : Connection) (payload : List ℕ) (moment : ℕ) (request : Request) (session : SessionData) → (turn c.session (happens.Packet (ClientPacket.Data payload)) moment).reply ≡ record { send = None; next = Next.Act request } → session ≡ (turn c.session (happens.Packet (ClientPacket.Data payload)) moment).session → now ≡ gate_after_act gate c.user moment (Next.Act request) → IsRunOf (on_event gate c (happens.Packet (ClientPacket.Data payload)) moment) now (record c { session = session })
unfolding on_event
message_run gate now c payload moment request session r s g = record {
  gate = g ∙ sym (ap (λ (x : Reply). gate_after_act gate c.user moment x.next) r);
  connection = ap (λ (x : SessionData). record c { session = x }) s;
}

-- reports were pulled, and more may come
pub pull_goes_on : (gate : GateData) (c : Connection) (count : ℕ) (ended : Bool) (moment : ℕ) (session : SessionData) (output : Option (List ℕ)) → ended ≡ false → (turn c.session (happens.Pulled count false) moment).reply ≡ record { send = None; next = Next.Idle } → session ≡ (turn c.session (happens.Pulled count false) moment).session → IsTaken (on_event gate c (happens.Pulled count ended) moment) gate (record c { session = session }) output output
unfolding on_event
pull_goes_on gate c count true moment session output e r s = cc
pull_goes_on gate c count false moment session output e r s = record {
  gate = sym (ap (λ (x : Reply). gate_after_act gate c.user moment x.next) r);
  connection = ap (λ (x : SessionData). record c { session = x }) s;
  text = subst (λ (x : Reply). Appends output output (control_text x.send)) (sym r) (Appends-nil output);
}

pub login_is_waiting : (gate : GateData) (c : Connection) (packet : ClientPacket) (moment : ℕ) (next : Next) (now : GateData) (state : Connection) (output left : Option (List ℕ)) → next ≡ (turn c.session (happens.Packet packet) moment).reply.next → next ≡ Next.Login → IsTaken (on_event gate c (happens.Packet packet) moment) now state output left → state.session.phase ≡ Waiting
unfolding on_event
login_is_waiting gate c packet moment next now state output left n is t =
    ap (λ (x : Connection). x.session.phase) t.connection ∙ (login_waits c.session packet moment (sym n ∙ is)).waiting

-- A packet that asks for a login.

module _ (gate : GateData) (c : Connection) (packet : ClientPacket) (moment : ℕ) (login : LoginRequest) (now : GateData) (state : Connection) (output mid : Option (List ℕ)) (asks : (turn c.session (happens.Packet packet) moment).reply.next ≡ Next.Login) (is : packet ≡ ClientPacket.Login login) (told : IsTaken (on_event gate c (happens.Packet packet) moment) now state output mid) where
  same_gate : now ≡ gate
  unfolding on_event
  same_gate = told.gate ∙ ap (λ n. acted_by n) asks
    where
      acted_by : Next → GateData
      acted_by n = gate_after_act gate c.user moment n

  nothing_sent : Appends output mid []
  unfolding on_event
  nothing_sent = subst (λ s. Appends output mid (control_text s)) (packet_is_silent c.session packet moment) told.text

  before_is_out : logout_of c ≡ None
  before_is_out = ap (λ b. cond b (Some (request_on_line_1 c.user Request.Logout c.session.heard)) None) (login_waits c.session packet moment asks).fresh

  after_is_out : logout_of state ≡ None
  unfolding on_event
  after_is_out =
      ap logout_of told.connection
      ∙ ap (λ p. cond (is_phase_on p) (Some (request_on_line_1 c.user Request.Logout (turn c.session (happens.Packet packet) moment).session.heard)) None) (login_waits c.session packet moment asks).waiting

  answered_is : run_of_login gate c packet moment ≡ logged_in now state login moment
  unfolding run_of_login on_event
  answered_is =
      ap (λ s. with_text (control_text s) (with_login (on_event gate c (happens.Packet packet) moment).gate (on_event gate c (happens.Packet packet) moment).connection moment (login_in packet (turn c.session (happens.Packet packet) moment).reply.next))) (packet_is_silent c.session packet moment)
      ∙ (ap (λ n. with_login (on_event gate c (happens.Packet packet) moment).gate (on_event gate c (happens.Packet packet) moment).connection moment (login_in packet n)) asks
      ∙ (ap (λ p. with_login (on_event gate c (happens.Packet packet) moment).gate (on_event gate c (happens.Packet packet) moment).connection moment (login_in p Next.Login)) is
      ∙ (ap (λ x. logged_in x (on_event gate c (happens.Packet packet) moment).connection login moment) (sym told.gate)
      ∙ ap (λ x. logged_in now x login moment) (sym told.connection))))

  pub login_cut : (fault : PipeFault) (then : GateData) (after : Connection) (left : Option (List ℕ)) → IsGivenUp now state (logged_in now state login moment) fault then after mid left → IsGivenUp gate c (run_of_login gate c packet moment) fault then after output left
  login_cut fault then after left (inl h) =
      let u = h.1 in
      let fewer : AreFewer gate.records (run_of_login gate c packet moment).gate.records =
      subst (λ (r : Run). AreFewer gate.records r.gate.records) (sym answered_is) (subst (λ (g : GateData). AreFewer g.records (logged_in now state login moment).gate.records) same_gate h.0) in
      inl (fewer, record { gate_is = u.gate_is ∙ same_gate; logout = u.logout ∙ (after_is_out ∙ sym before_is_out); cause = subst (λ (g : GateData). Refused (cause_of fault) g.records) same_gate u.cause; written = Appends-trans output mid left [] [] nothing_sent u.written })
  login_cut fault then after left (inr u) =
      inr (subst (λ r. IsUnwritten r fault then after output left) (sym answered_is) (record { gate = u.gate; logout = u.logout; text = record { front = u.text.front; rest = u.text.rest; written = Appends-trans output mid left [] u.text.front nothing_sent u.text.written; whole = u.text.whole }; sending = u.sending }))

-- A pull.

first_of : (next : ℕ) → pred (max 1 next) ≡ next - 1
first_of next = grind arith

past_all : (n next : ℕ) → nat_lt n (max 1 next + (n - (next - 1))) ≡ true
past_all n next = grind (arith, nat_tests)

-- fewer than were asked for are all
pub gives_all : (gate : GateData) (c : Connection) (user : UserName) (reports : List Report) (next : ℕ) (ended : Bool) (most : ℕ) → user ≡ folded_user c.user → reports ≡ slice (stream gate.policy gate.records user) c.next most → length reports < most → next ≡ max 1 c.next + length reports → ended ≡ ends_before gate user next → GivesAll gate c reports next ended
gives_all gate c user reports next ended most u given few n e =
    let owed = stream gate.policy gate.records user in
    let place : slice owed c.next most ≡ take most (drop (c.next - 1) owed) = ap (λ k. take most (drop k owed)) (first_of c.next) in
    let IsFew : List Report → Type 0 = λ xs. length xs < most in
    let taken : length (take most (drop (c.next - 1) owed)) < most = subst IsFew (given ∙ place) few in
    let all : reports ≡ drop (c.next - 1) owed = given ∙ (place ∙ all_taken (drop (c.next - 1) owed) most taken) in
    let left : length reports ≡ length owed - (c.next - 1) = ap length all ∙ length-drop (c.next - 1) owed in
    let past : nat_lt (length owed) next ≡ true = ap (nat_lt (length owed)) (n ∙ ap (λ k. max 1 c.next + k) left) ∙ past_all (length owed) c.next in
    record {
      reports_are = all ∙ ap (λ x. drop (c.next - 1) (stream gate.policy gate.records x)) u;
      next_is = n;
      ended_is = e ∙ (ap (λ b. is_closed gate.records && b) past ∙ and_true (is_closed gate.records));
    }

module _ (gate : GateData) (c : Connection) (moment : ℕ) (reports : List Report) (count next : ℕ) (ended : Bool) (on : is_phase_on c.session.phase ≡ true) (all : GivesAll gate c reports next ended) (counted : count ≡ length reports) where
  abbrev pub turned : Run
  turned = on_event gate (record c { next = next }) (happens.Pulled count ended) moment

  pulled_is : run_of_pull gate c moment ≡ with_text (reports_text reports) turned
  unfolding run_of_pull run_of_sending
  pulled_is =
      ap (λ b. cond b (run_of_sending gate c (unsent_reports gate c) moment) (nothing_written gate c)) on
      ∙ (ap (λ xs. run_of_sending gate c xs moment) (sym all.reports_are)
      ∙ (ap (λ k. with_text (reports_text reports) (on_event gate (record c { next = k }) (happens.Pulled (length reports) (is_closed gate.records)) moment)) (sym all.next_is)
      ∙ (ap (λ b. with_text (reports_text reports) (on_event gate (record c { next = next }) (happens.Pulled (length reports) b) moment)) (sym all.ended_is)
      ∙ ap (λ n. with_text (reports_text reports) (on_event gate (record c { next = next }) (happens.Pulled n ended) moment)) (sym counted))))

  pub pull_done : (now : GateData) (state : Connection) (output mid left : Option (List ℕ)) → Appends output mid (reports_text reports) → IsTaken turned now state mid left → IsTaken (run_of_pull gate c moment) now state output left
  pull_done now state output mid left w t =
      subst (λ r. IsTaken r now state output left) (sym pulled_is) (taken_behind (reports_text reports) turned now state output mid left w t)

  module _ (text : List ℕ) (more : List (Mark RecordData RunState)) where
    abbrev here : Run
    here = run_at gate c text

    abbrev behind : Run
    behind = run_at gate (record c { next = next }) (text ++ reports_text reports)

    -- the marks are these
    marks_are : pull_marks here moment ≡ mark behind ∷ mark (and_then behind (λ g k. on_event g k (happens.Pulled count ended) moment)) ∷ []
    marks_are =
        ap (λ b. cond b (mark (reported_of here) ∷ mark (pulled_of (reported_of here) (length (unsent_reports gate c)) moment) ∷ []) []) on
        ∙ ap (λ xs. marks_by (reports_text xs) (max 1 c.next + length xs) (length xs) (is_closed gate.records)) (sym all.reports_are)
        ∙ ap (λ n. marks_by (reports_text reports) n (length reports) (is_closed gate.records)) (sym all.next_is)
        ∙ ap (λ b. marks_by (reports_text reports) next (length reports) b) (sym all.ended_is)
        ∙ ap (λ n. marks_by (reports_text reports) next n ended) (sym counted)
      where
        marks_by : List ℕ → ℕ → ℕ → Bool → List (Mark RecordData RunState)
        marks_by told number n closed =
            let run = run_at gate (record c { next = number }) (text ++ told) in
            mark run ∷ mark (and_then run (λ g k. on_event g k (happens.Pulled n closed) moment)) ∷ []

    stops_there : (fault : PipeFault) (now : GateData) (state : Connection) (output left : Option (List ℕ))
        → PipeStopsIn here ((mark behind ∷ mark (and_then behind (λ g k. on_event g k (happens.Pulled count ended) moment)) ∷ []) ++ more) fault now state output left
        → PipeStopsIn here (pull_marks here moment ++ more) fault now state output left
    stops_there fault now state output left h = subst (λ ms. PipeStopsIn here (ms ++ more) fault now state output left) (sym marks_are) h

    pub pull_unsent : (fault : WriteFault) (output left : Option (List ℕ)) → IsFront output left (reports_text reports) → (fault ≡ WriteFault.OutOfMemory → Appends output left [])
        → PipeStopsIn here (pull_marks here moment ++ more) (fault_of_send fault) gate c output left
    pull_unsent fault output left f none =
        let s = sending fault (reports_text reports) output left f none in
        stops_there (fault_of_send fault) gate c output left
        (pieces.unsent Refused (IsRunThere gate c here) (cause_of (fault_of_send fault)) (mark here) (mark behind) _ output left (reports_text reports) s.0 refl s.1 (record { gate = refl; logout = refl; line = λ h. h }))

    pub pull_unturned : (fault : PipeFault) (now : GateData) (state : Connection) (output mid left : Option (List ℕ)) → Appends output mid (reports_text reports) → IsTurnGivenUp gate (record c { next = next }) (happens.Pulled count ended) moment fault now state mid left
        → PipeStopsIn here (pull_marks here moment ++ more) fault now state output left
    pull_unturned fault now state output mid left w (inl h) = stops_there fault now state output left
        (pieces.behind Refused (IsRunThere now state here) (cause_of fault) (mark here) (mark behind) _ output left (IsRunThere now state here) mid (reports_text reports) (λ m k. k) refl w
        (pieces.refused Refused (IsRunThere now state here) (cause_of fault) (mark behind) _ _ mid left (mark behind) h.1.cause
        (record { made = first_same gate.records gate.records refl; left = event_adds gate (record c { next = next }) (happens.Pulled count ended) moment h.0; text = refl; known = refl })
        (record { gate = h.1.gate_is; logout = h.1.logout; line = λ k. k }) h.1.written))
    pull_unturned fault now state output mid left w (inr h) = stops_there fault now state output left
        (pieces.behind Refused (IsRunThere now state here) (cause_of fault) (mark here) (mark behind) _ output left (IsRunThere now state here) mid (reports_text reports) (λ m k. k) refl w
        (pieces.unsent Refused (IsRunThere now state here) (cause_of fault) (mark behind) (mark (and_then behind (λ g k. on_event g k (happens.Pulled count ended) moment))) _ mid left turned.text h.1.text refl h.1.sending
        (record { gate = h.1.gate; logout = h.1.logout; line = λ k. subst (λ (r : Run). IsOnLine r.gate r.connection) pulled_is (pull_keeps gate c moment k) })))

-- a growth that no step asked for
pub pull_pauses : (gate : GateData) (c : Connection) (moment : ℕ) (output : Option (List ℕ)) (text : List ℕ) (more : List (Mark RecordData RunState))
    → PipeStopsIn (run_at gate c text) (pull_marks (run_at gate c text) moment ++ more) PipeFault.OutOfMemory gate c output output
pull_pauses gate c moment output text more = pauses (run_at gate c text) (pull_marks (run_at gate c text) moment ++ more) gate c output refl refl
