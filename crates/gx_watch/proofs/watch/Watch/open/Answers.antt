use Rattle.std.proofs.Common.{List, [], subst, sym}
use Rattle.gx_policy.specs.declared.policy.PolicyData.{PolicyData}
use Rattle.gx_history.specs.declared.record.RecordData.{RecordData}
use Rattle.gx_warnings.specs.Keeping.{AreWarningsKept}
use Rattle.gx_monitor.specs.Logs.{IsLogOf}
use Rattle.gx_watch.proofs.watch.Watch.open.Goals as goal

pub invariant_of-result : goal.invariant_of-result
invariant_of-result g c =
    let policy = c.in_ok-follower.follower.policy in
    let watched = c.in_ok-monitor.monitor.watched in
    let none = sym c.in_ok-follower.ensures.records in
    λ _. record {
      goes_on = c.in_ok-follower.ensures.goes_on;
      log =
          subst (λ (rs : List RecordData). IsLogOf policy rs watched.first) none
          (subst (λ (p : PolicyData). IsLogOf p [] watched.first) (sym c.in_ok-follower.ensures.policy) c.in_ok-monitor.ensures.log);
      warnings = subst (λ (rs : List RecordData). AreWarningsKept policy rs watched.second) none (c.in_ok-monitor.ensures.warnings policy);
    }
