use Rattle.std.proofs.{Common.{[], ◌∷◌, ◌++◌, List, sym, ◌∙◌, ap}, Math.Path.subst}
use Rattle.gx_units.specs.declared.names.UserName.{UserName}
use Rattle.gx_history.specs.declared.report.Report.{Report}
use Rattle.gx_streams.specs.Telling.{with_all_reports}
use Rattle.gx_gate_state.specs.Ends.{HaveReservedFor, answer_report, close_reports, end_reports}
use Rattle.gx_gate_state.proofs.Command_next.{first_have_places, one_has_place, rest_have_places}
use Rattle.gx_gate_state.proofs.commands.tell_of_command.Goals as goal

pub tell_of_close-requires : goal.tell_of_close-requires
tell_of_close-requires c =
    let ends : List (UserName × Report) = end_reports c.args.c.now.action c.args.next.data.now.moment c.args.orders.now.live in
    let close : List (UserName × Report) = close_reports c.args.c.now.action c.args.next.data.now.moment c.args.next.policy.now.users in
    let done : List (UserName × Report) = answer_report c.args.next.data.now c.args.officer c.args.c.now c.args.code ∷ [] in
    subst (HaveReservedFor close) (sym c.tell_of_ends.ensures)
    (first_have_places close done (with_all_reports ends c.args.streams.now) (rest_have_places ends (close ++ done) c.args.streams.now c.requires))

pub tell-requires : goal.tell-requires
tell-requires c =
    let ends : List (UserName × Report) = end_reports c.args.c.now.action c.args.next.data.now.moment c.args.orders.now.live in
    let close : List (UserName × Report) = close_reports c.args.c.now.action c.args.next.data.now.moment c.args.next.policy.now.users in
    let done : List (UserName × Report) = answer_report c.args.next.data.now c.args.officer c.args.c.now c.args.code ∷ [] in
    one_has_place (answer_report c.args.next.data.now c.args.officer c.args.c.now c.args.code) [] c.tell_of_close.new.streams
    (subst (HaveReservedFor done) (sym (c.tell_of_close.ensures ∙ ap (with_all_reports close) c.tell_of_ends.ensures))
    (rest_have_places close done (with_all_reports ends c.args.streams.now) (rest_have_places ends (close ++ done) c.args.streams.now c.requires)))
