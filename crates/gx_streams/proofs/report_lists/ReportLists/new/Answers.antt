use Rattle.std.proofs.Common.{◌≡◌, true, List, ◌∙◌, ap}
use Rattle.gx_units.specs.Names.{same_user}
use Rattle.gx_policy.specs.{Lists.are_distinct, declared.policy.User.User}
use Rattle.gx_streams.specs.Table.{lists_of}
use Rattle.gx_laws.proofs.Names_differ.{users_differ}
use Rattle.gx_streams.proofs.Users_opened.{known_next}
use Rattle.gx_streams.proofs.report_lists.ReportLists.new.Goals as goal

-- one more user
pub loop-user-preserved : goal.loop-user-preserved
loop-user-preserved c =
    let before = c.loop-user.invariant in
    let users : List User = c.users-user-items.result.now in
    let differ : are_distinct (λ (a b : User). same_user a.name b.name) users ≡ true =
    ap (are_distinct (λ (a b : User). same_user a.name b.name)) before.1 ∙ users_differ c.args.policy.now before.2
    in (
      ap lists_of c.in_ok-insert.ensures.entries
          ∙ known_next c.loop-user.by_user.entries c.in_ok-stream.stream users c.loop-user.user-index c.user-item.result differ before.0 c.loop-user-test.true c.user-item.is c.in_ok-stream.ensures,
      before.1,
      before.2,
    )
