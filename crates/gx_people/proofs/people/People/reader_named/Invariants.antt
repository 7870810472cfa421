use Rattle.std.proofs.Common.{◌≡◌}
use Rattle.gx_history.specs.Readers.{reader_in}
use Rattle.gx_people.specs.View.{users_of}
use Rattle.gx_people.proofs.people.People.reader_named.Given as goal

abbrev pub invariant-loop-name : goal.invariant-loop-name
invariant-loop-name l =
    (goal.iterator-loop-name).can_next l.name-iterator ×
    (goal.iterator-loop-name).is_finite l.name-iterator ×
    (reader_in (users_of l.name-iterator) l.fn.written ≡ reader_in l.fn.self l.fn.written)
