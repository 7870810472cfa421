-- What a connection is sent.
use Rattle.std.specs.{Prelude.{◌≡◌, ◌≤◌, ◌⊎◌, ℕ, Bool, true, false, IsTrue, is_some, length, Option, List, [], ◌∷◌, ◌++◌}, List.flat_map, Io.KnownBytes.Appends}
use Rattle.gx_units.specs.{declared.names.{LoginRejection.LoginRejection, SessionName.SessionName, UserName.UserName}, Spelling.folded_user}
use Rattle.gx_policy.specs.declared.policy.PolicyData.{PolicyData}
use Rattle.gx_history.specs.{declared.record.RecordData.RecordData, InForce.line_of, Verdicts.IsLegal}
use Rattle.gx_access_gate.specs.declared.{outcome.LoginAnswer.LoginAnswer, pulled.Pulled.Pulled}
use Rattle.gx_devices.specs.Devices.{IsFront}
use Rattle.gx_session.specs.{declared.event.{Control.Control, Sign.Sign}, Sending.{control_bytes, reports_text}}
use Rattle.gx_door.specs.{Acts.{gate_at, most_pulled, IsPulled}, Keeping.ShowsKept}
use Rattle.gx_serve.specs.{declared.state.outgoing.{NextWrite.NextWrite, LoginOutcome.LoginOutcome}, Marks.mark}

-- what is written of what is due: a packet of the session's own, or one for each report
abbrev pub due_text : NextWrite → List ℕ
due_text (NextWrite.Sign sign) = control_bytes (Control.Sign sign)
due_text (NextWrite.Reports fetched) = reports_text fetched.pulled.reports
due_text NextWrite.Nothing = []
due_text (NextWrite.Over finished) = []

-- the user's reports from this number on, as the records of a legal day owe them to him, in which he is logged in: no more
-- records than so many
pub record AreReportsShown (policy : PolicyData) (user : UserName) (from known : ℕ) (pulled : Pulled) : Type 0 where
  pub records : List RecordData
  pub few : length records ≤ known
  pub legal : IsLegal policy records
  pub on : IsTrue (is_some (line_of records (folded_user user)))
  pub shown : IsPulled (gate_at policy records) (folded_user user) from most_pulled pulled

-- where reports are due, they are the user's from this number on
abbrev pub IsDue : PolicyData → UserName → ℕ → NextWrite → Type 0
IsDue policy user from (NextWrite.Sign sign) = Unit {0}
IsDue policy user from (NextWrite.Reports fetched) = AreReportsShown policy user from fetched.known fetched.pulled
IsDue policy user from NextWrite.Nothing = Unit {0}
IsDue policy user from (NextWrite.Over finished) = Unit {0}

-- where reports are due, as many records are kept as they may tell of
abbrev pub IsDueKept : {K : Type 0} → (K → ℕ) → NextWrite → Type 0
IsDueKept kept (NextWrite.Sign sign) = Unit {0}
IsDueKept kept (NextWrite.Reports fetched) = ShowsKept kept fetched.known
IsDueKept kept NextWrite.Nothing = Unit {0}
IsDueKept kept (NextWrite.Over finished) = Unit {0}

-- the reports, each of records that are kept
pub record AreReportsKept {K : Type 0} (kept : K → ℕ) (policy : PolicyData) (user : UserName) (from : ℕ) (pulled : Pulled) : Type 0 where
  pub known : ℕ
  pub shown : AreReportsShown policy user from known pulled
  pub are_kept : ShowsKept kept known

-- it ends the session
abbrev pub is_ending : Sign → Bool
is_ending Sign.Heartbeat = false
is_ending Sign.EndOfSession = true

-- nothing is sent behind it
abbrev pub is_last_write : NextWrite → Bool
is_last_write (NextWrite.Sign sign) = is_ending sign
is_last_write (NextWrite.Reports fetched) = false
is_last_write NextWrite.Nothing = false
is_last_write (NextWrite.Over finished) = true

-- the number of the next report behind it
abbrev pub next_after : NextWrite → ℕ → ℕ
next_after (NextWrite.Sign sign) next = next
next_after (NextWrite.Reports fetched) next = fetched.pulled.next
next_after NextWrite.Nothing next = next
next_after (NextWrite.Over finished) next = next

-- a part of what a user who is on is sent: a heartbeat, or reports
pub data Part : Type 0 where
  Beat : Part
  Shown : Pulled → Part

abbrev pub part_text : Part → List ℕ
part_text Beat = control_bytes (Control.Sign Sign.Heartbeat)
part_text (Shown pulled) = reports_text pulled.reports

-- the parts are heartbeats, and the user's reports from this number on, each once and in order, up to that number, all of
-- records that are kept
abbrev pub GoOn : {K : Type 0} → (K → ℕ) → PolicyData → UserName → ℕ → List Part → ℕ → Type 0
GoOn kept policy user from [] to = to ≡ from
GoOn kept policy user from (Beat ∷ parts) to = GoOn kept policy user from parts to
GoOn kept policy user from (Shown pulled ∷ parts) to = AreReportsKept kept policy user from pulled × GoOn kept policy user pulled.next parts to

-- to a user who is on such parts were sent
pub record IsSpoken {K : Type 0} (kept : K → ℕ) (policy : PolicyData) (user : UserName) (from : ℕ) (text : List ℕ) (to : ℕ) : Type 0 where
  pub parts : List Part
  pub go_on : GoOn kept policy user from parts to
  pub whole : text ≡ flat_map part_text parts

-- the end of the session was written, or nothing
abbrev pub IsEnding : List ℕ → Type 0
IsEnding text = (text ≡ []) ⊎ (text ≡ control_bytes (Control.Sign Sign.EndOfSession))

-- a login that was accepted: its answer, its user's reports from the number that it names on, and perhaps the end of the
-- session
pub record IsWelcome {K : Type 0} (kept : K → ℕ) (policy : PolicyData) (text : List ℕ) : Type 0 where
  pub user : UserName
  pub session : SessionName
  pub first : ℕ
  pub to : ℕ
  pub spoken : List ℕ
  pub speech : IsSpoken kept policy user first spoken to
  pub ending : List ℕ
  pub ends : IsEnding ending
  pub whole : text ≡ (control_bytes (Control.Answer (LoginAnswer.Accepted session first)) ++ spoken) ++ ending

-- what a connection is sent: nothing, the rejection of its login, or its acceptance and what follows
abbrev pub IsConversation : {K : Type 0} → (K → ℕ) → PolicyData → List ℕ → Type 0
IsConversation kept policy text =
    (text ≡ []) ⊎ (((reason : LoginRejection) × (text ≡ control_bytes (Control.Answer (LoginAnswer.Rejected reason)))) ⊎ IsWelcome kept policy text)

-- the text was written whole, or a front of it
abbrev pub Writes : Bool → Option (List ℕ) → Option (List ℕ) → List ℕ → Type 0
Writes true before after text = Appends before after text
Writes false before after text = IsFront before after text

-- it was written whole, or a front of it
pub record WasSaid {K : Type 0} (whole : Bool) (kept : K → ℕ) (policy : PolicyData) (before after : Option (List ℕ)) : Type 0 where
  pub text : List ℕ
  pub said : IsConversation kept policy text
  pub written : Writes whole before after text

-- to this user such parts were written, and perhaps the end of the session, whole or a front of them
pub record WasSpoken {K : Type 0} (whole : Bool) (kept : K → ℕ) (policy : PolicyData) (user : UserName) (from : ℕ) (before after : Option (List ℕ)) : Type 0 where
  pub to : ℕ
  pub spoken : List ℕ
  pub speech : IsSpoken kept policy user from spoken to
  pub ending : List ℕ
  pub ends : IsEnding ending
  pub written : Writes whole before after (spoken ++ ending)

-- what is due was not written, or a front of it, where the records are kept of which it may tell
abbrev pub IsCut : {K : Type 0} → (K → ℕ) → NextWrite → Option (List ℕ) → Option (List ℕ) → Type 0
IsCut kept due before after = (after ≡ before) ⊎ (IsDueKept kept due × IsFront before after (due_text due))

-- the answer to a login was written, or a front of it
abbrev pub IsGreeted : Option (List ℕ) → Option (List ℕ) → LoginOutcome → Type 0
IsGreeted before after (LoginOutcome.On m) = (session : SessionName) × Appends before after (control_bytes (Control.Answer (LoginAnswer.Accepted session m.next)))
IsGreeted before after (LoginOutcome.Over finished) =
    Appends before after [] ⊎ ((reason : LoginRejection) × Appends before after (control_bytes (Control.Answer (LoginAnswer.Rejected reason))))
IsGreeted before after LoginOutcome.Cut = (answer : LoginAnswer) × IsFront before after (control_bytes (Control.Answer answer))

-- what comes of a login that a user asked for then and was answered so
abbrev pub Begins : UserName → ℕ → LoginAnswer → LoginOutcome → Type 0
Begins user login (LoginAnswer.Accepted session next) (LoginOutcome.On m) = m ≡ mark user login next
Begins user login (LoginAnswer.Accepted session next) (LoginOutcome.Over finished) = ⊥
Begins user login (LoginAnswer.Accepted session next) LoginOutcome.Cut = ⊥
Begins user login (LoginAnswer.Rejected reason) (LoginOutcome.On m) = ⊥
Begins user login (LoginAnswer.Rejected reason) (LoginOutcome.Over finished) = Unit {0}
Begins user login (LoginAnswer.Rejected reason) LoginOutcome.Cut = ⊥

-- the fact, where a user is on
abbrev pub IfOn : LoginOutcome → Type 0 → Type 0
IfOn (LoginOutcome.On m) Fact = Fact
IfOn (LoginOutcome.Over finished) Fact = Unit {0}
IfOn LoginOutcome.Cut Fact = Unit {0}
