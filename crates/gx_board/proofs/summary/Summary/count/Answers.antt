use Rattle.std.proofs.{Common.{◌≡◌, ℕ, ◌∙◌, ap, length, take, List, subst, arith}, Math.Seq.take-length}
use Rattle.gx_history.specs.declared.record.RecordData.{RecordData}
use Rattle.gx_board.specs.Summaries.{Counted}
use Rattle.gx_board.proofs.Summary_next.{next_noted}
use Rattle.gx_board.proofs.summary.Summary.count.Goals as goal

pub loop-place-preserved : goal.loop-place-preserved
loop-place-preserved c =
    next_noted c.args.more.now c.loop-place.place c.args.self.now c.loop-place.self c.note.new.self (omega (arith, c.loop-place-test.true, c.len-place-end.ensures))
    c.note.ensures.noted c.loop-place.invariant

pub returns-clause-counted : goal.returns-clause-counted
returns-clause-counted c =
    let all : c.loop-place.place ≡ length c.args.more.now = omega arith in
    let whole : take c.loop-place.place c.args.more.now ≡ c.args.more.now = ap (λ (n : ℕ). take n c.args.more.now) all ∙ take-length c.args.more.now in
    subst (λ (some : List RecordData). Counted some c.args.self.now c.loop-place.self) whole c.loop-place.invariant.0
