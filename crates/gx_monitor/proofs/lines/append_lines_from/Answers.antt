use Rattle.std.proofs.Common.{◌++◌, arith, drop}
use Rattle.std.specs.Prelude.{flat_map}
use Rattle.gx_warnings.specs.Keeping.{warnings_of}
use Rattle.gx_monitor.specs.Lines.{told_line}
use Rattle.gx_monitor.proofs.Places_next.{all_told, one_more_told}
use Rattle.gx_monitor.proofs.lines.append_lines_from.Goals as goal

pub loop-at-preserved : goal.loop-at-preserved
loop-at-preserved c =
    one_more_told (told_line c.args.form c.args.policy.now) (warnings_of c.args.warnings.now) c.loop-at.at
    (c.args.text.now.items ++ flat_map (told_line c.args.form c.args.policy.now) (drop c.args.place (warnings_of c.args.warnings.now))) c.loop-at.text.items c.append_line_at.new.text.items
    (omega (arith, c.count-at-end.ensures.count, c.loop-at-test.true)) c.loop-at.invariant c.in_ok-append_line_at.ensures

pub returns : goal.returns
returns c =
    all_told (told_line c.args.form c.args.policy.now) (warnings_of c.args.warnings.now) c.loop-at.at
    (c.args.text.now.items ++ flat_map (told_line c.args.form c.args.policy.now) (drop c.args.place (warnings_of c.args.warnings.now))) c.loop-at.text.items
    (omega (arith, c.count-at-end.ensures.count, c.loop-at-test.false)) c.loop-at.invariant
