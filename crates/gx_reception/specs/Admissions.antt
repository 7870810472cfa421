-- Who is given a line.
use Rattle.std.specs.Prelude.{◌≡◌, ◌≢◌, [], ⊤}
use Rattle.gx_policy.specs.declared.policy.PolicyData.{PolicyData}
use Rattle.gx_history.specs.Verdicts.{IsLegal}
use Rattle.gx_soup.specs.declared.packet.LoginRequest.{LoginRequest}
use Rattle.gx_pass.specs.{declared.view.LineView.LineView, Views.mine}
use Rattle.gx_door.specs.{Callers.caller_of, declared.caller.Caller.Caller}
use Rattle.gx_reception.specs.declared.{lines.LineFault.LineFault, reception.Admission.Admission}

-- no line is left for him: the lines that are kept are kept from traders alone, and whoever has no password is told another thing
abbrev pub LacksLine : Caller → LineFault → Type 0
LacksLine caller LineFault.Kept = caller ≡ Caller.Trader
LacksLine caller LineFault.NoOfficer = caller ≢ Caller.Stranger
LacksLine caller (LineFault.Unissued fault) = caller ≢ Caller.Stranger

-- whoever has a user's password is given a new line, or is told that there is none
abbrev pub IsAdmitted : {T : Type 0} → PolicyData → (T → LineView) → LoginRequest → Admission T → Type 0
IsAdmitted policy held login (Admission.Line pass caller) =
    (caller ≡ caller_of policy login.user login.password) × (caller ≢ Caller.Stranger) × (mine (held pass) ≡ []) × IsLegal policy (held pass).front
IsAdmitted policy held login (Admission.NoLine why) = LacksLine (caller_of policy login.user login.password) why
IsAdmitted policy held login Admission.Stranger = caller_of policy login.user login.password ≡ Caller.Stranger

-- whoever is given a line is so
abbrev pub IfLine : {T : Type 0} → Admission T → Type 0 → Type 0
IfLine (Admission.Line pass caller) so = so
IfLine (Admission.NoLine why) so = ⊤
IfLine Admission.Stranger so = ⊤
