use Rattle.std.proofs.Common.{◌≡◌, List, ◌∙◌, ap, true}
use Rattle.gx_units.specs.Names.{same_user}
use Rattle.gx_policy.specs.{Lists.are_distinct, declared.policy.{Role.Role, User.User}}
use Rattle.gx_people.specs.View.{users_of}
use Rattle.gx_laws.proofs.Names_differ.{users_differ}
use Rattle.gx_people.proofs.Persons_table.{added_next}
use Rattle.gx_people.proofs.people.People.new.Goals as goal

-- one more user
pub loop-user-preserved : goal.loop-user-preserved
loop-user-preserved c =
    let u : User = c.user-item.result in
    let before = c.loop-user.invariant in
    let users : List User = c.users-user-items.result.now in
    let differ : are_distinct (λ (a b : User). same_user a.name b.name) users ≡ true =
    ap (are_distinct (λ (a b : User). same_user a.name b.name)) before.1 ∙ users_differ c.args.policy.now before.2
    in (
      ap users_of c.in_ok-insert.ensures.entries
          ∙ added_next c.loop-user.by_name.entries u.name (record { password = u.password; standing = c.in_ok-standing.standing; near_account = c.near_account.result }) users c.loop-user.user-index u
          differ before.0 c.loop-user-test.true c.user-item.is
          (ap (λ (r : Role). record { name = u.name; password = u.password; role = r }) c.in_ok-standing.ensures),
      before.1,
      before.2,
    )
