use Rattle.std.proofs.Common.{◌≡◌, drop}
use Rattle.std.specs.Prelude.{filter_map, fold}
use Rattle.gx_control.specs.Buckets.{all_counted, with_answer_counted}
use Rattle.gx_serve.specs.Timings.{time_to_send}
use Rattle.gx_serve.proofs.timing.times_of.Given as goal

abbrev pub invariant-loop-report : goal.invariant-loop-report
invariant-loop-report l = fold with_answer_counted l.counts (filter_map (time_to_send l.login l.sent) (drop l.report-index l.reports)) ≡ all_counted (filter_map (time_to_send l.login l.sent) l.reports)
