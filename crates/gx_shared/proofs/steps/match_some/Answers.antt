use Rattle.std.proofs.Common.{◌≡◌, ◌+◌, ℕ, Option, Some, IfSome, ◌∙◌, ap, subst, arith}
use Rattle.gx_access_gate.specs.{declared.outcome.Outcome.Outcome, Matches.with_match}
use Rattle.gx_pass.specs.{declared.view.KeeperView.KeeperView, Views.keeper_view}
use Rattle.gx_shared.proofs.Match_next.{one_more}
use Rattle.gx_shared.proofs.steps.match_some.Goals as goal

pub loop-made-preserved : goal.loop-made-preserved
loop-made-preserved g c =
    let first = (g.G.AccessGate.state c.args.gate.now) in
    let was = (g.G.AccessGate.state c.loop-made.gate) in
    let is = (g.G.AccessGate.state c.match_and_note.new.gate) in
    let inv = c.loop-made.invariant in
    let more = c.loop-made-test.true in
    let one_added : c.match_and_note.new.share.amount ≡ c.loop-made.share.amount + 1 = subst (λ (found : Option Outcome). IfSome found (λ _. c.match_and_note.new.share.amount ≡ c.loop-made.share.amount + 1)) c.in-Ok-Some.field-0-is c.in-Ok-Some.ensures.adds_one in
    let found_one : is ≡ with_match was c.args.handed (Some c.in-Ok-Some.field-0-0) = c.in-Ok-Some.ensures.found ∙ ap (λ (found : Option Outcome). with_match was c.args.handed found) c.in-Ok-Some.field-0-is in
    record {
      policy = c.match_and_note.ensures.policy ∙ inv.policy;
      made = one_more c.args.handed c.loop-made.made c.in-Ok-Some.field-0-0 first.records was is inv.made found_one;
      keeper = c.match_and_note.ensures.keeper ∙ ap (λ (k : KeeperView). keeper_view is.records k.entered k.issued) inv.keeper;
      adds = one_added ∙ (ap (λ (n : ℕ). n + 1) inv.adds ∙ omega arith);
      parts = c.match_and_note.ensures.parts ∙ inv.parts;
      few = omega arith;
    }
