use Rattle.std.proofs.Common.{◌≡◌, IsTrue, take}
use Rattle.gx_policy.specs.Soundness.{is_sound}
use Rattle.gx_people.specs.View.{users_of}
use Rattle.gx_people.proofs.people.People.new.Given as goal

abbrev pub invariant-loop-user : goal.invariant-loop-user
invariant-loop-user l = (users_of l.by_name.entries ≡ take l.user-index l.user-items) × (l.user-items ≡ l.fn.policy.users) × IsTrue (is_sound l.fn.policy)
