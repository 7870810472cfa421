use Rattle.std.proofs.{Common.{◌≡◌, ◌∙◌, ap, map, take, true}, lemmas.List.take_all}
use Rattle.std.specs.Prelude.{None}
use Rattle.gx_units.specs.Names.{same_user}
use Rattle.gx_units.proofs.Names_equal.{same_user_flip}
use Rattle.gx_policy.specs.{Lists.are_distinct, declared.policy.User.User}
use Rattle.gx_trading_status.specs.{InForce.off_line, View.lines_of}
use Rattle.gx_laws.proofs.Names_differ.{users_differ}
use Rattle.gx_trading_status.proofs.Status_table.{added_next, lines_begin}
use Rattle.gx_trading_status.proofs.status.no_lines.Goals as goal

-- one more user
pub loop-user-preserved : goal.loop-user-preserved
loop-user-preserved c =
    let before = c.loop-user.invariant in
    let users = c.users-user-items.result.now in
    let differ : are_distinct (λ (a b : User). same_user a.name b.name) users ≡ true =
    ap (are_distinct (λ (a b : User). same_user a.name b.name)) before.1 ∙ users_differ c.args.policy.now before.2
    in (
      c.in_ok-insert.ensures.entries
          ∙ added_next same_user same_user_flip (λ (u : User). u.name) None c.loop-user.lines.entries users c.loop-user.user-index c.user-item.result c.user-item.result
          differ before.0 c.loop-user-test.true c.user-item.is,
      before.1,
      before.2,
    )

-- each user of the policy
pub returns : goal.returns
returns c =
    let before = c.loop-user.invariant in
    ap lines_of before.0
    ∙ lines_begin (take c.loop-user.user-index c.users-user-items.result.now)
    ∙ ap (map off_line) (take_all c.loop-user.user-index c.users-user-items.result.now c.loop-user-test.false ∙ before.1)
