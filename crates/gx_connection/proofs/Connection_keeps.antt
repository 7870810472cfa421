-- What each step of a gate keeps, and all matching steps, a connection keeps; and what each packet keeps, all do.
use Rattle.std.proofs.Common.{◌≡◌, ℕ, Bool, true, false, cond, List, [], ◌∷◌, Option, None, Some, refl}
use Rattle.std.specs.Prelude.{fold}
use Rattle.gx_units.specs.declared.names.UserName.{UserName}
use Rattle.gx_soup.specs.declared.packet.{LoginRequest.LoginRequest, ClientPacket.ClientPacket}
use Rattle.gx_history.specs.declared.record.Asked.{Asked}
use Rattle.gx_access_gate.specs.{Gates.GateData, Asking.gate_after_step, Matches.settled_gate}
use Rattle.gx_connection.specs.{declared.connection.Connection.Connection, Steps.login_asked_at, Transcript.{Run, nothing_written, and_then, gate_after_act, on_event, logged_in, with_login, run_of_login, run_of_matching, unsent_reports, run_of_sending, run_of_pull, connection_after_tick, run_of_packet, run_on_packet}}
use Rattle.gx_session.specs.{declared.event.Next.Next, Events.{is_phase_on, is_over, login_in}, Happenings.Happening, Table.turn}
use Rattle.gx_session.specs.Happenings as happens

module _ (P : GateData → Type 0) (step : (gate : GateData) (a : Asked) → P gate → P (gate_after_step gate a)) (settle : (gate : GateData) (moment : ℕ) → P gate → P (settled_gate gate moment)) where
  act_keeps : (gate : GateData) (user : UserName) (moment : ℕ) (next : Next) → P gate → P (gate_after_act gate user moment next)
  act_keeps gate user moment (Next.Act request) p = step gate _ p
  act_keeps gate user moment Next.Logout p = step gate _ p
  act_keeps gate user moment next p = p

  pub event_keeps : (gate : GateData) (c : Connection) (e : Happening) (moment : ℕ) → P gate → P (on_event gate c e moment).gate
  unfolding on_event
  event_keeps gate c e moment p = act_keeps gate c.user moment (turn c.session e moment).reply.next p

  -- a login comes behind the packet that asks for it
  pub answer_keeps : (gate : GateData) (c : Connection) (packet : ClientPacket) (moment : ℕ) → P (on_event gate c (happens.Packet packet) moment).gate → P (run_of_login gate c packet moment).gate
  unfolding run_of_login logged_in
  answer_keeps gate c packet moment p = by told.gate told.connection (login_in packet (turn c.session (happens.Packet packet) moment).reply.next) p
    where
      told : Run
      told = on_event gate c (happens.Packet packet) moment

      by : (g : GateData) (k : Connection) (login : Option LoginRequest) → P g → P (with_login g k moment login).gate
      by g k None q = q
      by g k (Some login) q = event_keeps (gate_after_step g (login_asked_at g moment login)) _ _ moment (step g (login_asked_at g moment login) q)

  pub row_keeps : (gate : GateData) (c : Connection) (packet : ClientPacket) (moment : ℕ) → P gate → P (run_of_login gate c packet moment).gate
  row_keeps gate c packet moment p = answer_keeps gate c packet moment (event_keeps gate c (happens.Packet packet) moment p)

  pub match_keeps : (gate : GateData) (c : Connection) (moment : ℕ) → P gate → P (run_of_matching gate c moment).gate
  unfolding run_of_matching
  match_keeps gate c moment p = elim (is_over c.session.phase) as (λ b. P (cond b gate (settled_gate gate moment))) [ true ↦ p | false ↦ settle gate moment p ]

  pub pull_keeps : (gate : GateData) (c : Connection) (moment : ℕ) → P gate → P (run_of_pull gate c moment).gate
  unfolding run_of_pull run_of_sending
  pull_keeps gate c moment p = elim (is_phase_on c.session.phase) as (λ b. P (cond b (run_of_sending gate c (unsent_reports gate c) moment) (nothing_written gate c)).gate) [ true ↦ event_keeps gate _ _ moment p | false ↦ p ]

-- all that a packet leads to, while the session is not over
abbrev pub taken : GateData → Connection → ClientPacket → Run
taken gate c packet =
    and_then (run_of_login gate (connection_after_tick c) packet c.coming) (λ g k. and_then (run_of_matching g k c.coming) (λ g l. run_of_pull g l c.coming))

pub handled_by : (P : Run → Type 0) (gate : GateData) (c : Connection) (packet : ClientPacket) → (is_over c.session.phase ≡ true → P (nothing_written gate c)) → (is_over c.session.phase ≡ false → P (taken gate c packet)) → P (run_of_packet gate c packet)
unfolding run_of_packet
handled_by P gate c packet over goes = at (is_over c.session.phase) refl
  where
    at : (b : Bool) → is_over c.session.phase ≡ b → P (cond b (nothing_written gate c) (taken gate c packet))
    at true e = over e
    at false e = goes e

pub all_keep : (P : Run → Type 0) → ((run : Run) (packet : ClientPacket) → P run → P (run_on_packet run packet)) → (packets : List ClientPacket) (run : Run) → P run → P (fold run_on_packet run packets)
all_keep P next [] run p = p
all_keep P next (packet ∷ packets) run p = all_keep P next packets (run_on_packet run packet) (next run packet p)
