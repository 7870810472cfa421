use Rattle.std.proofs.Common.{◌≡◌, IsTrue, take, map}
use Rattle.gx_policy.specs.Soundness.{is_sound}
use Rattle.gx_streams.specs.{declared.stored_report.StoredReport.StoredReport, Kept.empty_user_list, Table.lists_of}
use Rattle.gx_streams.proofs.report_lists.ReportLists.new.Given as goal

abbrev pub invariant-loop-user : goal.invariant-loop-user
invariant-loop-user l = (lists_of l.by_user.entries ≡ take l.user-index (map (empty_user_list {X = StoredReport}) l.user-items)) × (l.user-items ≡ l.fn.policy.users) × IsTrue (is_sound l.fn.policy)
