-- What a connection was sent, in other words than the session table's.
use Rattle.std.specs.{Prelude.{◌≡◌, ℕ, ◌+◌, ◌-◌, ◌≤◌, None, Some, IsTrue, List, [], ◌++◌, length, drop}, List.AllByRecursion}
use Rattle.gx_units.specs.{Spelling.folded_user, declared.names.UserName.UserName}
use Rattle.gx_soup.specs.{declared.packet.ServerPacket.ServerPacket, Writing.server_bytes}
use Rattle.gx_history.specs.{declared.{«record».RecordData.RecordData, report.Report.Report}, InForce.line_of, Requests.asked_of, Streams.stream}
use Rattle.gx_access_gate.specs.Gates.{GateData}
use Rattle.gx_connection.specs.{declared.connection.Connection.Connection, Transcript.Run}
use Rattle.gx_session.specs.{declared.session.Phase.{Phase, TheVariants.{Fresh, Waiting, On, Abandoned, Done}}, Sending.reports_text, Events.is_phase_on}

-- the user's stream
abbrev pub reports_owed : GateData → UserName → List Report
reports_owed gate user = stream gate.policy gate.records (folded_user user)

-- Login Accepted with a number, and then the reports of the stream from that number on, each once and in order;
-- none that is there is left out, and the next number is the one after them
pub record IsServed (gate : GateData) (text : List ℕ) (user : UserName) (next : ℕ) : Type 0 where
  pub from : ℕ
  pub sent : text ≡ server_bytes (ServerPacket.Accepted gate.policy.session from) ++ reports_text (drop (from - 1) (reports_owed gate user))
  pub counts_from_one : 1 ≤ from
  pub is_available : from ≤ length (reports_owed gate user) + 1
  pub follows : next ≡ length (reports_owed gate user) + 1

-- the policy is the same, and the records after those of before are all of matching steps
pub record HasOnlyMatched (before now : GateData) : Type 0 where
  pub policy_kept : now.policy ≡ before.policy
  pub more : List RecordData
  pub goes_on : now.records ≡ before.records ++ more
  pub are_matches : AllByRecursion (λ (r : RecordData). asked_of r.step ≡ None) more

-- by how far the session has come: nothing is written, and no step but matching steps made, before a login is answered
abbrev pub Serves : GateData → GateData → List ℕ → UserName → ℕ → Phase → Type 0
Serves before gate text user next Fresh = HasOnlyMatched before gate × (text ≡ [])
Serves before gate text user next Waiting = ⊥
Serves before gate text user next On = IsServed gate text user next
Serves before gate text user next Abandoned = ⊥
Serves before gate text user next Done = Unit {0}

-- no step was made but matching steps, and nothing written
abbrev pub IsSilent : GateData → Run → Type 0
IsSilent before run = HasOnlyMatched before run.gate × (run.text ≡ [])

-- the user of the run was sent his stream from the number that he asked for
abbrev pub WasServed : Run → Type 0
WasServed run = IsServed run.gate run.text run.connection.user run.connection.next

-- where a user is on, the gate has him on line 1
abbrev pub IsOnLine : GateData → Connection → Type 0
IsOnLine gate c = IsTrue (is_phase_on c.session.phase) → line_of gate.records (folded_user c.user) ≡ Some 1
