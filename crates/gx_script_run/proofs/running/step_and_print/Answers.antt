use Rattle.std.proofs.Common.{ℕ, List, ◌++◌, refl, ◌∙◌, ap, sym}
use Rattle.gx_units.proofs.Results_hold.{on_err, on_ok}
use Rattle.gx_access_gate.specs.Gates.{GateData}
use Rattle.gx_script_text.specs.Printing.{outcome_line, refused_line}
use Rattle.gx_script_run.proofs.Line_call.{made, refused, step_half}
use Rattle.gx_script_run.proofs.running.step_and_print.Goals as goal

pub returns-in-Ok-clause-ok : goal.returns-in-Ok-clause-ok
returns-in-Ok-clause-ok g c =
    let line = outcome_line c.in-Ok.outcome.number c.in-Ok.outcome.verdict in
    on_ok c.append_outcome.result _ _
    (λ t. made (g.G.AccessGate.state c.args.gate.now) (g.G.AccessGate.state c.step.new.self) c.args.a c.in-Ok.outcome c.step.result c.in-Ok.outcome _ _ c.step.ensures.full c.in-Ok.is c.in-Ok.ensures.policy c.in-Ok.ensures.next c.in-Ok.ensures.records c.in-Ok.ensures.verdict
    (t ∙ ap (λ (u : List ℕ). u ++ line) c.requires.empty))
    c.append_outcome.ensures

pub returns-in-Ok-clause-err : goal.returns-in-Ok-clause-err
returns-in-Ok-clause-err g c =
    on_err _ _
    (step_half (g.G.AccessGate.state c.args.gate.now) (g.G.AccessGate.state c.step.new.self) c.args.a (outcome_line c.in-Ok.outcome.number c.in-Ok.outcome.verdict) _
    (made (g.G.AccessGate.state c.args.gate.now) (g.G.AccessGate.state c.step.new.self) c.args.a c.in-Ok.outcome c.step.result c.in-Ok.outcome _ _ c.step.ensures.full c.in-Ok.is c.in-Ok.ensures.policy c.in-Ok.ensures.next c.in-Ok.ensures.records c.in-Ok.ensures.verdict refl)
    c.in-Ok.ensures.policy c.in-Ok.ensures.records)

-- the day is full, and this is no granted Kill or Logout
pub returns-in-Err-DayFull-clause-ok : goal.returns-in-Err-DayFull-clause-ok
returns-in-Err-DayFull-clause-ok g c =
    on_ok c.append_refused.result _ _
    (λ t.
    refused (g.G.AccessGate.state c.args.gate.now) c.args.a c.step.result c.in-Err-DayFull.field-0 c.step.ensures.never_refused c.in-Err-DayFull.is (c.in-Err-DayFull.ensures.day_full c.in-Err-DayFull.field-0-is)
    ∙ ap (λ (g : GateData). record { gate = g; text = refused_line }) (sym c.in-Err-DayFull.ensures.unchanged)
    ∙ ap (λ (u : List ℕ). record { gate = (g.G.AccessGate.state c.step.new.self); text = u }) (sym (t ∙ ap (λ (u : List ℕ). u ++ refused_line) c.requires.empty)))
    c.append_refused.ensures
