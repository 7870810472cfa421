use Rattle.std.proofs.Common.{sym, subst, ◌∙◌}
use mathlib.Core.List.{IsPrefix}
use Rattle.gx_pass.specs.declared.view.LineView.{LineView}
use Rattle.gx_board.proofs.Replica_next.{still_behind}
use Rattle.gx_page.proofs.Kill_call.{board_goes_on, done_so, told_so}
use Rattle.gx_page.proofs.reply.kill_for.Goals as goal

-- the replica stands behind what the pass has met now
pub new-requires : goal.new-requires
new-requires g c = record {
  replica =
      still_behind g.D.Door.policy c.args.board.front (g.D.Door.observed c.kill-pass.result.0).front c.into_parts-pass.result.1
      (board_goes_on g.D.Door.observed g.D.Door.policy c.args.board c.into_parts-pass.result.0 c.kill-pass.result.0 c.kill-pass.result.1 c.into_parts-pass.ensures.held c.kill-pass.ensures.later
      c.kill-pass.ensures.untouched)
      c.into_parts-pass.ensures.replica;
}

-- a deed, or a refusal that leaves the pass as it was; and what was announced
pub returns-clause-kill : goal.returns-clause-kill
returns-clause-kill g c =
    told_so g.D.Door.observed g.D.Door.policy c.args.secret.now.bytes c.args.board c.new.result c.into_parts-pass.result.0 c.kill-pass.result.0 c.args.caller c.args.form.now c.kill-pass.result.1
    c.announce-announced.result c.into_parts-pass.ensures.held c.new.ensures.held
    (done_so g.D.Door.observed _ _ c.into_parts-pass.result.0 c.kill-pass.result.0 c.args.caller c.args.form.now _ c.kill-pass.result.1 c.kill-pass.ensures.refused c.kill-pass.ensures.untouched c.kill-pass.ensures.permitted
    c.kill-pass.ensures.named c.kill-pass.ensures.steps)
    (c.announce-announced.ensures ∙ c.ended_of.ensures)

pub returns-clause-later : goal.returns-clause-later
returns-clause-later g c =
    subst (λ (h : LineView). IsPrefix c.args.board.front h.front) (sym c.new.ensures.held)
    (board_goes_on g.D.Door.observed g.D.Door.policy c.args.board c.into_parts-pass.result.0 c.kill-pass.result.0 c.kill-pass.result.1 c.into_parts-pass.ensures.held c.kill-pass.ensures.later
    c.kill-pass.ensures.untouched)
