-- How a user who is on is logged out where a run stopped.
use Rattle.std.proofs.Common.{◌≡◌, ℕ, ◌⊎◌, inl, inr, Bool, true, false, cond, List, refl, sym, ap, ◌∙◌, Some, None, Result, Ok, Err, OnOk, OnErr}
use Rattle.gx_history.specs.{Reserved.is_never_refused, declared.«record».Request.Request}
use Rattle.gx_devices.specs.Pieces.{Flow}
use Rattle.gx_access_gate.specs.{Gates.GateData, Asking.request_on_line_1}
use Rattle.gx_units.specs.declared.names.UserName.{UserName}
use Rattle.gx_connection.specs.{declared.{connection.Connection.Connection, fault.PipeFault.PipeFault}, Piping.{gate_at, is_never_refused_in, logout_of, IsLeaving, IsPipeCutShort, IsAfterFault}, Serving.IsOnLine, Transcript.{nothing_written, gate_after_act, gate_after_asked, step_of, on_event, run_of, run_to_its_end}}
use Rattle.gx_session.specs.{declared.{event.{Next.Next, Reply.Reply}, session.Phase.{Phase, TheVariants.{Fresh, On}}}, Events.{asks_step, is_phase_on}, Happenings.Happening, Table.{SessionData, row_in, turn}}
use Rattle.gx_session.specs.Happenings as happens
use Rattle.gx_connection.proofs.Line_kept.{logout_is_granted, run_keeps}

row_leaves : (p : Phase) (e : Happening) (silent quiet : Bool) → IsLeaving e → (row_in p e silent quiet).reply.next ≡ (row_in p happens.End silent quiet).reply.next
row_leaves p happens.End silent quiet k = refl
row_leaves Fresh (happens.Refused fault) silent quiet k = refl
row_leaves Fresh happens.Fault silent quiet k = refl
row_leaves p (happens.Refused fault) silent quiet k = refl
row_leaves p happens.Fault silent quiet k = refl
row_leaves p e silent quiet k = absurd k

-- a fault of the input, its end and a refused step ask for the same
pub leaves_as_at_the_end : (gate : GateData) (c : Connection) (e : Happening) (reply : Reply) (moment : ℕ) → IsLeaving e → moment ≡ c.session.heard → reply ≡ (turn c.session e moment).reply
    → gate_after_act gate c.user moment reply.next ≡ (run_to_its_end (nothing_written gate c)).gate
unfolding run_to_its_end on_event turn
leaves_as_at_the_end gate c e reply moment k m r =
    ap (gate_after_act gate c.user moment) (ap (λ (x : Reply). x.next) r ∙ row_leaves c.session.phase e _ _ k)
    ∙ ap (λ h. (on_event gate c happens.End h).gate) m

-- a user who is on is logged out, and nobody else
abbrev AsksAtTheEnd : Phase → Next → Type 0
AsksAtTheEnd p next = ((next ≡ Next.Logout) × (is_phase_on p ≡ true)) ⊎ ((asks_step next ≡ false) × (is_phase_on p ≡ false))

row_asks : (p : Phase) (silent quiet : Bool) → AsksAtTheEnd p (row_in p happens.End silent quiet).reply.next
row_asks On silent quiet = inl (refl, refl)
row_asks p silent quiet = inr (refl, refl)

end_asks : (session : SessionData) (moment : ℕ) → AsksAtTheEnd session.phase (turn session happens.End moment).reply.next
unfolding turn
end_asks session moment = row_asks session.phase _ _

no_step : (user : UserName) (moment : ℕ) (next : Next) → asks_step next ≡ false → step_of user moment next ≡ None
no_step user moment (Next.Act request) h = cc
no_step user moment Next.Logout h = cc
no_step user moment next h = refl

logout_when_on : (c : Connection) → is_phase_on c.session.phase ≡ true → logout_of c ≡ Some (request_on_line_1 c.user Request.Logout c.session.heard)
logout_when_on c on = ap (λ b. cond b (Some (request_on_line_1 c.user Request.Logout c.session.heard)) None) on

no_logout : (c : Connection) → is_phase_on c.session.phase ≡ false → logout_of c ≡ None
no_logout c off = ap (λ b. cond b (Some (request_on_line_1 c.user Request.Logout c.session.heard)) None) off

-- what the session asks for at the end is that logout
step_at_the_end : (c : Connection) (next : Next) → AsksAtTheEnd c.session.phase next → step_of c.user c.session.heard next ≡ logout_of c
step_at_the_end c next (inl asks) = ap (step_of c.user c.session.heard) asks.0 ∙ sym (logout_when_on c asks.1)
step_at_the_end c next (inr asks) = no_step c.user c.session.heard next asks.0 ∙ sym (no_logout c asks.1)

-- of a logout that was refused
pub refused_as_at_the_end : (gate : GateData) (c : Connection) (e : Happening) (reply : Reply) (moment : ℕ) → IsLeaving e → moment ≡ c.session.heard → reply ≡ (turn c.session e moment).reply
    → is_never_refused_in gate (step_of c.user moment reply.next) ≡ false → is_never_refused_in gate (logout_of c) ≡ false
unfolding turn
refused_as_at_the_end gate c e reply moment k m r not =
    ap (is_never_refused_in gate) (sym (step_at_the_end c (turn c.session happens.End moment).reply.next (end_asks c.session moment)))
    ∙ ap (λ h. is_never_refused_in gate (step_of c.user h (turn c.session happens.End moment).reply.next)) (sym m)
    ∙ ap (λ x. is_never_refused_in gate (step_of c.user moment x)) (sym (ap (λ (x : Reply). x.next) r ∙ row_leaves c.session.phase e _ _ k))
    ∙ not

-- the logout of a user who is on is never refused
never_refused_when_on : (gate : GateData) (c : Connection) → IsOnLine gate c → is_phase_on c.session.phase ≡ true → is_never_refused_in gate (logout_of c) ≡ true
never_refused_when_on gate c line on =
    ap (is_never_refused_in gate) (logout_when_on c on)
    ∙ ap (is_never_refused Request.Logout) (logout_is_granted gate.policy gate.records c.user c.session.heard (line on))

pub run_may_leave : (gate : GateData) (first : ℕ) (bytes : List ℕ) → (run_of gate first bytes).connection.session.phase ≡ On
    → is_never_refused_in (run_of gate first bytes).gate (logout_of (run_of gate first bytes).connection) ≡ true
run_may_leave gate first bytes on =
    let run = run_of gate first bytes in
    never_refused_when_on run.gate run.connection (run_keeps gate first bytes) (ap is_phase_on on)

-- a logout that was refused is none of a user who is on line 1
pub not_refused : {Q : Type 0} (gate : GateData) (c : Connection) → IsOnLine gate c → is_phase_on c.session.phase ≡ true → is_never_refused_in gate (logout_of c) ≡ false → Q
not_refused gate c line on not = let clash : true ≡ false = sym (never_refused_when_on gate c line on) ∙ not in cc

-- so at the end of its input a connection is not cut short by the logout
pub never_cut : (flow : Flow) (before : GateData) (first : ℕ) (fault : PipeFault) (now : GateData) (state : Connection) (gate : GateData) (c : Connection) → IsOnLine gate c → is_phase_on c.session.phase ≡ true → is_never_refused_in gate (logout_of c) ≡ false
    → IsPipeCutShort flow before first fault now state
never_cut flow before first fault now state gate c line on not = not_refused gate c line on not

is_on_at : (p : Phase) (next : Next) → AsksAtTheEnd p next → asks_step next ≡ true → is_phase_on p ≡ true
is_on_at p next (inl asks) h = asks.1
is_on_at p next (inr asks) h = let clash : true ≡ false = sym h ∙ asks.0 in cc

-- a step is asked for where a user is on
pub asks_as_at_the_end : (c : Connection) (e : Happening) (reply : Reply) (moment : ℕ) → IsLeaving e → reply ≡ (turn c.session e moment).reply → asks_step reply.next ≡ true → is_phase_on c.session.phase ≡ true
unfolding turn
asks_as_at_the_end c e reply moment k r asks =
    is_on_at c.session.phase (turn c.session happens.End moment).reply.next (end_asks c.session moment)
    (ap asks_step (sym (ap (λ (x : Reply). x.next) r ∙ row_leaves c.session.phase e _ _ k)) ∙ asks)

-- a user who is on where the run stopped, as the connection has it
on_there : (now : GateData) (state c : Connection) (gate : GateData) → now ≡ gate → logout_of state ≡ logout_of c → IsOnLine gate c → is_phase_on state.session.phase ≡ true → is_never_refused_in now (logout_of state) ≡ true
on_there now state c gate same out line on = by (is_phase_on c.session.phase) refl
  where
    by : (b : Bool) → is_phase_on c.session.phase ≡ b → is_never_refused_in now (logout_of state) ≡ true
    by true there = ap (λ g. is_never_refused_in g (logout_of state)) same ∙ ap (is_never_refused_in gate) out ∙ never_refused_when_on gate c line there
    by false off =
        let clash : Some (request_on_line_1 state.user Request.Logout state.session.heard) ≡ None = sym (logout_when_on state on) ∙ out ∙ no_logout c off in
        cc

-- the first packets bring nobody on who is not on line 1
pub line_there : (flow : Flow) (before : GateData) (first : ℕ) (fault : PipeFault) (now : GateData) (state : Connection) → (f : IsPipeCutShort flow before first fault now state)
    → IsOnLine (gate_at f.broken.cut.stop) f.broken.cut.stop.known.connection
line_there flow before first fault now state f = f.broken.cut.there.line (run_keeps before first f.bytes)

pub after_either : {T E : Type 0} (flow : Flow) (before : GateData) (first : ℕ) (now after : GateData) (state state' : Connection) (fault : PipeFault) (r : Result T E) → IsPipeCutShort flow before first fault now state → OnOk r (after ≡ (run_to_its_end (nothing_written now state)).gate)
    → OnErr r (is_phase_on state.session.phase ≡ true) → OnErr r (is_never_refused_in now (logout_of state) ≡ false) → IsAfterFault flow before first after fault
unfolding run_to_its_end on_event
after_either flow before first now after state state' fault (Ok x) f ok on not =
    record { now = now; state = state; cut = f; logged_out = ok ∙ ap (gate_after_asked now) (step_at_the_end state (turn state.session happens.End state.session.heard).reply.next (end_asks state.session state.session.heard)) }
after_either flow before first now after state state' fault (Err x) f ok on not =
    let stop = f.broken.cut.stop in
    let clash : true ≡ false = sym (on_there now state stop.known.connection (gate_at stop) f.broken.cut.there.gate f.broken.cut.there.logout (line_there flow before first fault now state f) on) ∙ not in
    cc
