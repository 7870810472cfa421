use Rattle.std.proofs.{Common.{arith, ◌∙◌, List}, Math.Path.subst, lemmas.List.take_all}
use Rattle.gx_units.specs.declared.names.UserName.{UserName}
use Rattle.gx_policy.specs.declared.policy.User.{User}
use Rattle.gx_gate_state.specs.State.{HaveEnough}
use Rattle.gx_gate_state.proofs.Reserved_next.{more_have_enough}
use Rattle.gx_gate_state.proofs.reserve.reserve_enough_for_all.Goals as goal

pub loop-user-preserved : goal.loop-user-preserved
loop-user-preserved c =
    let before = c.loop-user.invariant in
    record {
      shown = c.in_ok-reserve_enough.ensures.shown ∙ before.shown;
      readers = c.in_ok-reserve_enough.ensures.readers ∙ before.readers;
      known = λ (other : UserName). c.in_ok-reserve_enough.ensures.known other ∙ before.known other;
      more = λ (other : UserName). omega (arith, before.more other, c.in_ok-reserve_enough.ensures.more other);
      places =
          more_have_enough c.args.orders.now.live c.args.people.now c.args.policy.now c.loop-user.streams c.reserve_enough.new.streams c.users-user-items.result.now c.loop-user.user-index c.user-item.result
          c.in_ok-reserve_enough.ensures.known c.in_ok-reserve_enough.ensures.more c.loop-user-test.true c.user-item.is before.places c.in_ok-reserve_enough.ensures.places;
    }

pub returns-clause-places : goal.returns-clause-places
returns-clause-places c =
    subst (λ (users : List User). HaveEnough c.args.orders.now.live c.args.people.now c.args.policy.now c.loop-user.streams users)
    (take_all c.loop-user.user-index c.users-user-items.result.now c.loop-user-test.false ∙ c.users-user-items.ensures)
    c.loop-user.invariant.places
