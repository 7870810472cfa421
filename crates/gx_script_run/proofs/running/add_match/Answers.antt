use Rattle.std.proofs.Common.{◌++◌, ◌∙◌, ap, ℕ, List, sym}
use Rattle.gx_script_run.specs.Scripting.{Printed}
use Rattle.gx_script_run.proofs.Settle_call.{refused_is}
use Rattle.gx_script_run.proofs.running.add_match.Goals as goal

-- an order waits, and the day is full
pub returns-in_ok-append_refused-in-Err-DayFull-clause-text : goal.returns-in_ok-append_refused-in-Err-DayFull-clause-text
returns-in_ok-append_refused-in-Err-DayFull-clause-text g c =
    let w = c.in-Err-DayFull in
    let told = refused_is (g.G.AccessGate.state c.args.gate.now) c.args.moment (λ none. let clash = sym w.is ∙ c.match_one.ensures.idle none in cc) (w.ensures.day_full w.field-0-is) in
    c.in_ok-append_refused-in-Err-DayFull.ensures ∙ ap (λ (line : List ℕ). c.args.text.now.items ++ line) (sym (ap (λ (p : Printed). p.text) told))
