use Rattle.std.proofs.Common.{◌≡◌, take}
use Rattle.std.specs.List.{AllByRecursion}
use Rattle.gx_units.specs.Spelling.{folded_user}
use Rattle.gx_policy.specs.declared.policy.User.{User}
use Rattle.gx_leaving.specs.Logouts.{AddsLogouts, IsOff}
use Rattle.gx_leaving.proofs.leaving.log_out_all.Given as goal

abbrev pub invariant-loop-place : goal.invariant-loop-place
invariant-loop-place g l = record {
  policy : (g.G.AccessGate.state l.gate).policy ≡ (g.G.AccessGate.state l.fn.gate).policy;
  added : AddsLogouts l.fn.moment (g.G.AccessGate.state l.fn.gate).records (g.G.AccessGate.state l.gate).records;
  off : AllByRecursion (λ (u : User). IsOff (g.G.AccessGate.state l.gate).records (folded_user u.name)) (take l.place (g.G.AccessGate.state l.fn.gate).policy.users);
}
