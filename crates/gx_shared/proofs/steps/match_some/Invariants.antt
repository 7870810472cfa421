use Rattle.std.proofs.Common.{◌≡◌, ◌≤◌, ◌+◌, ◌-◌}
use Rattle.gx_pass.specs.Views.{keeper_view}
use Rattle.gx_door.specs.Matching.{AddsMatchingSteps}
use Rattle.gx_shared.proofs.steps.match_some.Given as goal

abbrev pub invariant-loop-made : goal.invariant-loop-made
invariant-loop-made g l = record {
  policy : (g.G.AccessGate.state l.gate).policy ≡ (g.G.AccessGate.state l.fn.gate).policy;
  made : AddsMatchingSteps l.handed l.made (g.G.AccessGate.state l.fn.gate).records (g.G.AccessGate.state l.gate).records;
  keeper : l.keeper ≡ keeper_view (g.G.AccessGate.state l.gate).records l.fn.keeper.entered l.fn.keeper.issued;
  adds : l.share.amount ≡ l.fn.share.amount + l.made;
  parts : l.share.parts ≡ l.fn.share.parts;
  few : l.made ≤ l.most;
}

abbrev pub decreases-loop-made : goal.decreases-loop-made
decreases-loop-made g l = l.most - l.made
