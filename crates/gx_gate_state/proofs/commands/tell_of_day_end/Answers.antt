use Rattle.std.proofs.{Common.{◌≡◌, ◌+◌, List, ◌∷◌, ◌∙◌, ap, drop, sym}, lemmas.List.drop_more}
use Rattle.gx_policy.specs.declared.policy.User.{User}
use Rattle.gx_history.specs.declared.report.Message.{Message}
use Rattle.gx_streams.specs.{Kept.with_reserved_last, Streams.on_list_of}
use Rattle.gx_gate_state.specs.Ends.{day_end_report, trades}
use Rattle.gx_gate_state.proofs.{Command_next.{first_has_place, first_passed, first_told}, commands.tell_of_day_end.Goals.{then-trades, else-trades}}
use Rattle.gx_gate_state.proofs.commands.tell_of_day_end.Goals as goal

pub append_reserved-requires : goal.append_reserved-requires
append_reserved-requires c =
    let items : List User = c.users-user-items.result.now in
    first_has_place trades (day_end_report c.args.moment) c.user-item.result (drop (c.loop-user.user-index + 1) items) (drop c.loop-user.user-index items) c.loop-user.streams
    (drop_more items c.loop-user.user-index c.user-item.result c.loop-user-test.true ∙ ap (λ (u : User). u ∷ drop (c.loop-user.user-index + 1) items) (sym c.user-item.is))
    (sym c.trades.ensures ∙ c.if-trades.true) c.loop-user.invariant.0

pub loop-user-preserved : goal.loop-user-preserved
loop-user-preserved c =
    let items : List User = c.users-user-items.result.now in
    let left : drop c.loop-user.user-index items ≡ c.user-item.result ∷ drop (c.loop-user.user-index + 1) items =
    drop_more items c.loop-user.user-index c.user-item.result c.loop-user-test.true ∙ ap (λ (u : User). u ∷ drop (c.loop-user.user-index + 1) items) (sym c.user-item.is) in
    elim c.if-trades.branch [
      | then-trades w ↦
          first_told trades (day_end_report c.args.moment) c.user-item.result (drop (c.loop-user.user-index + 1) items) (drop c.loop-user.user-index items) c.loop-user.streams c.if-trades.streams _
          left (sym c.trades.ensures ∙ w.if-trades.true)
          (w.streams-is ∙ w.append_reserved.ensures
          ∙ ap (λ (message : Message). on_list_of c.user-item.result.name (with_reserved_last (record { timestamp = c.args.moment; message = message })) c.loop-user.streams) w.day_end.ensures)
          c.loop-user.invariant.0 c.loop-user.invariant.1
      | else-trades w ↦
          first_passed trades (day_end_report c.args.moment) c.user-item.result (drop (c.loop-user.user-index + 1) items) (drop c.loop-user.user-index items) c.loop-user.streams c.if-trades.streams _
          left (sym c.trades.ensures ∙ w.if-trades.false) w.streams-is c.loop-user.invariant.0 c.loop-user.invariant.1
    ]
