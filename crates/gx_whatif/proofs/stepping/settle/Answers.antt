use Rattle.std.proofs.Common.{◌∙◌, ap}
use Rattle.std.specs.Prelude.{option_map}
use Rattle.gx_access_gate.specs.{Gates.{GateData, matched_by}, Matches.with_match}
use Rattle.gx_whatif.proofs.OtherDay_next.{full_settled, settled_here}
use Rattle.gx_whatif.proofs.stepping.settle.Goals as goal

pub returns-in-Ok-None-clause-records : goal.returns-in-Ok-None-clause-records
returns-in-Ok-None-clause-records g c =
    ap (λ (gate : GateData). gate.records) (c.in-Ok-None.ensures.records ∙ ap (with_match (g.G.AccessGate.state c.loop-fault.gate) c.args.moment) c.in-Ok-None.field-0-is)
    ∙ settled_here (g.G.AccessGate.state c.args.gate.now) (g.G.AccessGate.state c.loop-fault.gate) c.args.moment c.loop-fault.invariant (c.in-Ok-None.ensures.next ∙ ap (option_map (matched_by c.args.moment)) c.in-Ok-None.field-0-is)

pub returns-in-Err-clause-day_full : goal.returns-in-Err-clause-day_full
returns-in-Err-clause-day_full g c full =
    full_settled (g.G.AccessGate.state c.args.gate.now) (g.G.AccessGate.state c.loop-fault.gate) c.args.moment c.loop-fault.invariant (c.in-Err.ensures.day_full full)
