-- What comes of a connection before its user has a line.
use Rattle.std.specs.{Prelude.{◌≡◌, ◌≢◌, ◌⊎◌, ℕ, List, [], Option}, Io.KnownBytes.Appends}
use Rattle.gx_units.specs.declared.names.LoginRejection.{LoginRejection}
use Rattle.gx_policy.specs.declared.policy.PolicyData.{PolicyData}
use Rattle.gx_history.specs.Verdicts.{IsLegal}
use Rattle.gx_access_gate.specs.declared.outcome.LoginAnswer.{LoginAnswer}
use Rattle.gx_devices.specs.Devices.{IsFront}
use Rattle.gx_pass.specs.{declared.view.LineView.LineView, Views.mine}
use Rattle.gx_session.specs.{declared.event.Control.Control, Sending.control_bytes}
use Rattle.gx_door.specs.{Callers.caller_of, declared.caller.Caller.Caller}
use Rattle.gx_serve.specs.declared.receiving.{Gone.Gone, Received.Received}

-- a user with the right password has a new line, and it is known who he is; whoever has none is known to have none
abbrev pub WasReceived : {T : Type 0} → PolicyData → (T → LineView) → Received T → Type 0
WasReceived policy held (Received.Admitted pass caller opening) =
    (caller ≡ caller_of policy opening.login.user opening.login.password) × (caller ≢ Caller.Stranger) × (mine (held pass) ≡ []) × IsLegal policy (held pass).front
WasReceived policy held (Received.Stranger login) = caller_of policy login.user login.password ≡ Caller.Stranger
WasReceived policy held (Received.Gone gone) = Unit {0}

-- the answer was written, or a front of it
abbrev pub WasTurnedOff : LoginAnswer → Option (List ℕ) → Option (List ℕ) → Type 0
WasTurnedOff answer before after =
    Appends before after (control_bytes (Control.Answer answer)) ⊎ IsFront before after (control_bytes (Control.Answer answer))

-- a rejection for want of a password was written, or a front of it; nothing, where its login is not on record
abbrev pub WasTurnedAway : Option (List ℕ) → Option (List ℕ) → Gone → Type 0
WasTurnedAway before after (Gone.Cut cut) = ⊥
WasTurnedAway before after (Gone.NoLine why) = ⊥
WasTurnedAway before after Gone.Denied = WasTurnedOff (LoginAnswer.Rejected LoginRejection.NotAuthorized) before after
WasTurnedAway before after Gone.Spared = after ≡ before
WasTurnedAway before after Gone.Quietly = after ≡ before
