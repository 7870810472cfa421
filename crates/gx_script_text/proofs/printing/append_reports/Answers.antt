use Rattle.gx_script_text.proofs.Reports_next.{printed_more}
use Rattle.gx_script_text.proofs.printing.append_reports.Goals as goal

pub loop-index-preserved : goal.loop-index-preserved
loop-index-preserved c =
    printed_more c.args.user c.args.reports.now c.loop-index.index _ _ _ _ c.loop-index-test.true c.loop-index.invariant c.in_ok-append_report.ensures
