use Rattle.std.proofs.Common.{List, drop, ap, ◌∙◌, subst, arith}
use Rattle.gx_history.specs.declared.record.RecordData.{RecordData}
use Rattle.gx_board.specs.Summaries.{FollowsSummary}
use Rattle.gx_board.proofs.Summary_call.{all_followed, behind_still, behind_whole}
use Rattle.gx_board.proofs.summary.Summary.catch_up.Goals as goal

pub returns-in_err-follow-clause-behind : goal.returns-in_err-follow-clause-behind
returns-in_err-follow-clause-behind g c =
    behind_still c.args.self.now c.follow.new.self (omega (arith, c.length.ensures.count, c.length.ensures.few)) c.requires.behind c.in_err-follow.ensures.refused

pub returns-clause-behind : goal.returns-clause-behind
returns-clause-behind g c =
    let rest = c.past-more.ensures ∙ ap (λ (all : List RecordData). drop c.args.self.now.counts.records all) c.shown_records-records.ensures in
    let follows = subst (λ (more : List RecordData). FollowsSummary more c.args.self.now c.follow.new.self) rest c.in_ok-follow.ensures.followed in
    behind_whole c.follow.new.self (omega (arith, c.length.ensures.count, c.length.ensures.few)) (all_followed c.args.self.now c.follow.new.self c.requires.behind follows)

pub returns-clause-all : goal.returns-clause-all
returns-clause-all g c =
    let rest = c.past-more.ensures ∙ ap (λ (all : List RecordData). drop c.args.self.now.counts.records all) c.shown_records-records.ensures in
    let follows = subst (λ (more : List RecordData). FollowsSummary more c.args.self.now c.follow.new.self) rest c.in_ok-follow.ensures.followed in
    all_followed c.args.self.now c.follow.new.self c.requires.behind follows
