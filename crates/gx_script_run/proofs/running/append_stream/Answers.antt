use Rattle.std.proofs.{Common.{◌++◌, ap, ◌∙◌}, lemmas.Result.on_ok_weaker}
use Rattle.gx_script_text.specs.Printing.{report_lines}
use Rattle.gx_script_run.proofs.Line_call.{all_came}
use Rattle.gx_script_run.proofs.running.append_stream.Goals as goal

pub returns : goal.returns
returns g c =
    let all = all_came _ c.as_slice-reports.result.now _ (c.as_slice-reports.ensures ∙ c.in_ok-pulled.ensures.reports) c.count_of-within.ensures.within in
    on_ok_weaker c.append_reports.result (λ done. done ∙ ap (λ reports. c.args.text.now.items ++ report_lines c.args.user 1 reports) all) c.append_reports.ensures
