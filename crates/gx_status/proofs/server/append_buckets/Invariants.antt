use Rattle.std.proofs.Common.{◌≡◌, ◌++◌, ◌*◌, ◌^◌, ◌≤◌, length, sum, take, drop}
use Rattle.gx_status.specs.Metrics.{bucket_samples}
use Rattle.gx_status.proofs.server.append_buckets.Given as goal

abbrev pub invariant-loop-bucket : goal.invariant-loop-bucket
invariant-loop-bucket l =
    (l.text.items ++ bucket_samples l.bucket l.all (drop l.bucket l.counts) ≡ l.initial.text.items ++ bucket_samples 0 0 l.counts)
    × (l.all ≡ sum (take l.bucket l.counts))
    × (l.all ≤ l.bucket * 2 ^ 64)
    × (length l.counts ≤ 17)
