use Rattle.std.proofs.Common.{◌∙◌, ap}
use Rattle.gx_access_gate.specs.Gates.{GateData}
use Rattle.gx_board.proofs.Records_repeated.{next_in_portion, taken_begins}
use Rattle.gx_board.proofs.repeating.repeat_all.Goals as goal

pub repeat-requires : goal.repeat-requires
repeat-requires g c = record {
  follows =
      next_in_portion (g.G.AccessGate.state c.loop-left.gate) (g.G.AccessGate.state c.args.gate.now).records c.args.records.now c.loop-left.left-index c.left-item.result c.loop-left-test.true c.left-item.is c.requires.legal
      c.loop-left.invariant.policy c.loop-left.invariant.records;
}

pub returns-in_err-repeat-clause-front : goal.returns-in_err-repeat-clause-front
returns-in_err-repeat-clause-front g c =
    taken_begins (g.G.AccessGate.state c.repeat.new.gate).records (g.G.AccessGate.state c.args.gate.now).records c.args.records.now c.loop-left.left-index
    (ap (λ (gate : GateData). gate.records) c.in_err-repeat.ensures.unchanged ∙ c.loop-left.invariant.records)
