use Rattle.std.proofs.Common.{◌≡◌, drop}
use Rattle.gx_gate_state.specs.Ends.{HaveReservedFor, day_end_reports, with_day_end_reports}
use Rattle.gx_gate_state.proofs.commands.tell_of_day_end.Given as goal

-- telling what is left is telling all, and each has his place for what is left
abbrev pub invariant-loop-user : goal.invariant-loop-user
invariant-loop-user l =
    HaveReservedFor (day_end_reports l.fn.moment (drop l.user-index l.user-items)) l.streams ×
    (with_day_end_reports l.fn.moment (drop l.user-index l.user-items) l.streams ≡ with_day_end_reports l.fn.moment l.fn.policy.users l.fn.streams)
