-- What a writer is given to do: the answer to a login, and then what is due to its user.
use Rattle.std.specs.Prelude.{◌≡◌, ◌≢◌, ◌≤◌, ◌==◌, ℕ, ◌⊎◌, Bool, true, false, ◌&&◌, not, cond, IsFalse, IsTrue, Option, Some, None, Result, Ok, Err, length}
use Rattle.gx_units.specs.{declared.names.UserName.UserName, Spelling.folded_user}
use Rattle.gx_policy.specs.declared.policy.PolicyData.{PolicyData}
use Rattle.gx_history.specs.InForce.{line_of}
use Rattle.gx_access_gate.specs.declared.{outcome.{LoginAnswer.LoginAnswer, StepFault.StepFault}, pulled.Pulled.Pulled}
use Rattle.gx_pass.specs.{declared.view.LineView.LineView, Views.with_told}
use Rattle.gx_door.specs.Acts.{IsLater}
use Rattle.gx_control.specs.PullCursors.{may_have_more, pull_cursor, PullCursorData}
use Rattle.gx_session.specs.{declared.{event.Sign.Sign, outbox.Outbox.Outbox}, Events.{is_phase_on, is_over}, Outboxes.left_after, Table.{SessionData, turn}}
use Rattle.gx_session.specs.Happenings as happens
use Rattle.gx_serve.specs.{declared.state.outgoing.{NextWrite.NextWrite, Finished.Finished}, Marks.{fetched_data, given_login, FetchedData, Given, SentMark}, States.{HasMetMore, WasTold, WasToldRefusal}, Speech.AreReportsShown}

-- there is nothing to greet with: for good where the session is over, else for now
abbrev pub IsQuiet : Bool → Option (Result Given Finished) → Type 0
IsQuiet over None = over ≡ false
IsQuiet over (Some (Ok answered)) = ⊥
IsQuiet over (Some (Err finished)) = over ≡ true

-- before a login is answered the session is told of the time, unless it is over
abbrev pub Ticks : Bool → PolicyData → UserName → ℕ → SessionData → LineView → SessionData → LineView → Type 0
Ticks true policy user moment session was session' is = (session' ≡ session) × (is ≡ was)
Ticks false policy user moment session was session' is = WasTold policy user happens.Tick moment session was session' is

-- the answer that is left is sent, which tells of no more than so many records
pub record WasHandedOut (answer : LoginAnswer) (user : UserName) (login : ℕ) (session : SessionData) (was : LineView) (session' : SessionData) (is : LineView) (greeting : Option (Result Given Finished)) : Type 0 where
  pub known : ℕ
  pub told : is ≡ with_told was known
  pub within : length was.front ≤ known
  pub same : session' ≡ session
  pub handed : greeting ≡ Some (Ok (given_login user login answer known))

-- what the writer does before the login is answered: he sends the answer that is left; else the time is told, and there is
-- nothing, for good once the session is over
abbrev pub WasGreeted : Option LoginAnswer → PolicyData → UserName → ℕ → ℕ → SessionData → LineView → SessionData → LineView → Option (Result Given Finished) → Type 0
WasGreeted (Some answer) policy user login moment session was session' is greeting =
    WasHandedOut answer user login session was session' is greeting
WasGreeted None policy user login moment session was session' is greeting =
    Ticks (is_over session.phase) policy user moment session was session' is × IsQuiet (is_over session'.phase) greeting

-- the session is over, and nothing is left to be sent
abbrev pub IsOver : NextWrite → Type 0
IsOver (NextWrite.Sign sign) = ⊥
IsOver (NextWrite.Reports found) = ⊥
IsOver NextWrite.Nothing = ⊥
IsOver (NextWrite.Over finished) = Unit {0}

-- a pull brought nothing, and more may come
abbrev pub is_bare : FetchedData → Bool
is_bare f = (length f.pulled.reports == 0) && not f.pulled.ended

-- what a pull brought is due, unless it is nothing
abbrev pub due_of : FetchedData → NextWrite
due_of f = cond (is_bare f) NextWrite.Nothing (NextWrite.Reports f)

-- and in the latter case all records were seen
abbrev pub cursor_after : PullCursorData → FetchedData → PullCursorData
cursor_after cursor f = cond (is_bare f) (pull_cursor f.count false) cursor

-- as many records were told as had been seen, and there is nothing to be looked for
pub record WasIdle (session : SessionData) (was : LineView) (cursor : PullCursorData) (session' : SessionData) (is : LineView) (cursor' : PullCursorData) (due : NextWrite) : Type 0 where
  pub told : is ≡ with_told was is.told
  pub idle : IsFalse (may_have_more cursor is.told)
  pub same : session' ≡ session
  pub seen : cursor' ≡ cursor
  pub nothing : due ≡ NextWrite.Nothing

-- there was news, and the user's reports were pulled, as they stood once so many records were told
pub record WasFetched (policy : PolicyData) (m : SentMark) (session : SessionData) (was : LineView) (cursor : PullCursorData) (session' : SessionData) (is : LineView) (cursor' : PullCursorData) (due : NextWrite) : Type 0 where
  pub pulled : Pulled
  pub count : ℕ
  pub known : ℕ
  pub news : IsTrue (may_have_more cursor count)
  pub later : IsLater policy (with_told was count) is
  pub looked : HasMetMore was is
  pub shown : AreReportsShown policy m.user m.next known pulled
  pub same : session' ≡ session
  pub seen : cursor' ≡ cursor_after cursor (fetched_data pulled count known)
  pub brought : due ≡ due_of (fetched_data pulled count known)

-- the pull was refused, and the session was told so: for want of memory, or since the user is not logged in on the line
pub record WasUnfetched (policy : PolicyData) (user : UserName) (m : SentMark) (moment : ℕ) (session : SessionData) (was : LineView) (cursor : PullCursorData) (session' : SessionData) (is : LineView) (cursor' : PullCursorData) (due : NextWrite) : Type 0 where
  pub between : LineView
  pub looked : HasMetMore was between
  pub told : WasToldRefusal policy user StepFault.OutOfMemory moment session between session' is
      ⊎ ((line_of between.front (folded_user m.user) ≢ Some was.line) × WasTold policy user happens.Fault moment session between session' is)
  pub seen : cursor' ≡ cursor
  pub nothing : due ≡ NextWrite.Nothing

-- what came of looking for the user's reports
abbrev pub WasPulled : PolicyData → UserName → SentMark → ℕ → SessionData → LineView → PullCursorData → SessionData → LineView → PullCursorData → NextWrite → Type 0
WasPulled policy user m moment session was cursor session' is cursor' due =
    WasIdle session was cursor session' is cursor' due
    ⊎ (WasFetched policy m session was cursor session' is cursor' due
    ⊎ WasUnfetched policy user m moment session was cursor session' is cursor' due)

-- nothing else was done
abbrev pub Stays : SessionData → LineView → PullCursorData → SessionData → LineView → PullCursorData → Type 0
Stays session was cursor session' is cursor' = ((session' ≡ session) × (is ≡ was)) × (cursor' ≡ cursor)

-- reports are looked for while a user is logged in
abbrev pub LooksWhere : Bool → PolicyData → UserName → SentMark → ℕ → SessionData → LineView → PullCursorData → SessionData → LineView → PullCursorData → NextWrite → Type 0
LooksWhere true policy user m moment session was cursor session' is cursor' due = WasPulled policy user m moment session was cursor session' is cursor' due
LooksWhere false policy user m moment session was cursor session' is cursor' due = Stays session was cursor session' is cursor' × (due ≡ NextWrite.Nothing)

-- the packet that is left is due, and left no more; else nothing any more once the session is over; else this holds
abbrev pub DueElse : Option Sign → Outbox → Bool → SessionData → LineView → PullCursorData → SessionData → LineView → PullCursorData → NextWrite → Type 0 → Type 0
DueElse (Some sign) left' over session was cursor session' is cursor' due Else = Stays session was cursor session' is cursor' × (due ≡ NextWrite.Sign sign) × (left'.sign ≡ None)
DueElse None left' true session was cursor session' is cursor' due Else = Stays session was cursor session' is cursor' × IsOver due
DueElse None left' false session was cursor session' is cursor' due Else = Else

-- and else reports are looked for
abbrev pub Seeks : Option Sign → Outbox → PolicyData → UserName → SentMark → ℕ → SessionData → LineView → PullCursorData → SessionData → LineView → PullCursorData → NextWrite → Type 0
Seeks left left' policy user m moment session was cursor session' is cursor' due =
    DueElse left left' (is_over session.phase) session was cursor session' is cursor' due
    (LooksWhere (is_phase_on session.phase) policy user m moment session was cursor session' is cursor' due)

-- the session was told of the time, and what it then asks to send is due, or else what there is
pub record WasWatched (left left' : Outbox) (policy : PolicyData) (user : UserName) (m : SentMark) (moment : ℕ) (session : SessionData) (was : LineView) (cursor : PullCursorData) (session' : SessionData) (is : LineView) (cursor' : PullCursorData) (due : NextWrite) : Type 0 where
  pub ticked : SessionData
  pub between : LineView
  pub told : WasTold policy user happens.Tick moment session was ticked between
  pub sought : Seeks (left_after left (turn session happens.Tick moment).reply.send).sign left' policy user m moment ticked between cursor session' is cursor' due

-- what the writer does for a user: he sends the packet that is left; once the session is over nothing more; else the session is
-- told of the time, and he sends what it then asks for, or the user's reports, where there are any
abbrev pub WasSought : Outbox → Outbox → PolicyData → UserName → SentMark → ℕ → SessionData → LineView → PullCursorData → SessionData → LineView → PullCursorData → NextWrite → Type 0
WasSought left left' policy user m moment session was cursor session' is cursor' due =
    DueElse left.sign left' (is_over session.phase) session was cursor session' is cursor' due
    (WasWatched (record left { sign = None }) left' policy user m moment session was cursor session' is cursor' due)
