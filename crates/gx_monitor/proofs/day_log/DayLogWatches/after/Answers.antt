use Rattle.std.proofs.Common.{◌∙◌, ap}
use Rattle.gx_history.specs.declared.record.RecordData.{RecordData}
use Rattle.std.specs.Prelude.{ℕ, ◌-◌, ◌++◌, List, drop, length}
use Rattle.gx_units.proofs.Results_hold.{ok_then}
use Rattle.gx_records.specs.Watching.{earlier_of}
use Rattle.gx_monitor.proofs.Log_next.{log_goes_on}
use Rattle.gx_monitor.proofs.day_log.DayLogWatches.after.Goals as goal

pub returns-clause-saw : goal.returns-clause-saw
returns-clause-saw g c =
    let policy = (g.G.AccessGate.state c.args.gate.now).policy in
    let records = (g.G.AccessGate.state c.args.gate.now).records in
    ok_then c.append.result
    (λ puts.
    log_goes_on records c.args._left.now c.args.self.now _ c.as_slice.result.now c.in_ok-lines.lines.items c.requires.last c.requires.expects
    (c.as_slice.ensures.value ∙ c.in_ok-last.ensures ∙ c.last_of.ensures ∙ ap (λ (h : List RecordData). drop (length h - 1) h) c.shown_records.ensures)
    (c.in_ok-lines.ensures.lines policy (earlier_of records) c.requires.expects.known)
    (c.in_ok-lines.ensures.known policy (earlier_of records) c.requires.expects.known) c.tell.ensures.form
    (puts ∙ ap (λ (more : List ℕ). c.args.self.now.text.items ++ more) c.as_slice-2.ensures.value))
    c.append.ensures.appended
