use Rattle.std.proofs.{Common.{◌∙◌, List, ap}, lemmas.List.take_all}
use Rattle.gx_policy.specs.declared.policy.User.{User}
use Rattle.gx_gate_state.proofs.Readers_next.{all_sent, sent_next, sent_users}
use Rattle.gx_gate_state.proofs.state.send_to_readers.Goals as goal

pub loop-user-preserved : goal.loop-user-preserved
loop-user-preserved c =
    let before = c.loop-user.invariant in (
      sent_next c.args.policy.now c.args.people.now c.users-user-items.result.now c.loop-user.user-index c.user-item.result c.mask.result c.args.streams.now c.loop-user.streams c.entitle.new.self
          c.loop-user-test.true c.user-item.is c.mask.ensures c.in_ok-entitle.ensures.ok before.0,
      before.1,
    )

pub returns-clause-sent : goal.returns-clause-sent
returns-clause-sent c =
    let before = c.loop-user.invariant in
    all_sent c.args.policy.now c.args.people.now c.args.streams.now c.loop-user.streams c.rules.ensures.sound c.requires.of_streams
    (before.0 ∙ ap (λ (us : List User). sent_users c.args.policy.now c.args.people.now us c.args.streams.now) (take_all c.loop-user.user-index c.users-user-items.result.now c.loop-user-test.false ∙ before.1))
