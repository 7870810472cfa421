use Rattle.std.proofs.{lemmas.Result.{on_err_weaker, on_ok_weaker}}
use Rattle.gx_gate_state.proofs.{Ledger_next.legal_after, Reserved_next.known_told, Room_bounds.{places_behind, places_still}}
use Rattle.gx_gate_state.specs.State.{AreInForce}
use Rattle.gx_gate_state.proofs.apply.apply_record.Goals as goal

pub returns-clause-kept_after : goal.returns-clause-kept_after
returns-clause-kept_after c =
    on_ok_weaker c.apply_asked.result
    (λ (after : AreInForce _ _ c.apply_asked.new.state). places_behind c.args.next.data.now c.reserve_reports.new.state.streams c.apply_asked.new.state.streams c.requires.takes.does.legal
    (legal_after c.args.next.data.now.step c.args.next.data.now c.requires.takes.does.legal c.requires.takes.fits c.requires.takes.does.is_next)
    (known_told c.reserve_reports.new.state c.in_ok-reserve_reports.ensures.before)
    (known_told c.apply_asked.new.state after)
    c.in_ok-reserve_reports.ensures.before.streams after.streams c.apply_asked.ensures.room c.in_ok-reserve_reports.ensures.whole)
    c.apply_asked.ensures.ok

pub returns-clause-kept_before : goal.returns-clause-kept_before
returns-clause-kept_before c =
    on_err_weaker c.apply_asked.result
    (λ (before : AreInForce _ _ c.apply_asked.new.state). places_still c.reserve_reports.new.state.streams c.apply_asked.new.state.streams c.requires.takes.does.legal
    (known_told c.reserve_reports.new.state c.in_ok-reserve_reports.ensures.before)
    (known_told c.apply_asked.new.state before)
    c.in_ok-reserve_reports.ensures.before.streams before.streams c.apply_asked.ensures.room c.in_ok-reserve_reports.ensures.kept)
    c.apply_asked.ensures.err
