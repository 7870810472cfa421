use Rattle.std.proofs.Common.{◌≡◌, ◌≤◌, ◌<◌, ℕ, length, true, get_or}
use Rattle.gx_ledger.specs.Running.{is_recent}
use Rattle.gx_ledger.proofs.moments.recent_in_turn.Given as goal

abbrev pub invariant-loop-left : goal.invariant-loop-left
invariant-loop-left l =
    record {
      len : l.len ≡ length l.ring.items;
      within : l.left ≤ l.len;
      passed : (k : ℕ) → l.left ≤ k → k < length l.ring.items → is_recent l.window l.moment (get_or l.ring.items k 0) ≡ true;
    }

abbrev pub decreases-loop-left : goal.decreases-loop-left
decreases-loop-left l = l.left
