use Rattle.std.proofs.Common.{◌∙◌, ap, sym, refl, true≢false}
use Rattle.gx_policy.specs.People.{is_reader, role_in}
use Rattle.gx_people.specs.{Entitled.{granted_to, has_room, sees, with_account}, View.users_of, declared.person.Person.Person}
use Rattle.gx_people.proofs.{Grants_next.granted_pair, Persons_table.{role_written, nobody_reads, room_found}}
use Rattle.gx_people.proofs.people.People.grant.Goals as goal

-- the reader is known
pub returns-in_default : goal.returns-in_default
returns-in_default c =
    absurd (true≢false (sym c.requires.known ∙ (ap (λ us. is_reader (role_in us c.args.reader)) (sym c.self.view_is) ∙ nobody_reads c.self.inside.by_name.entries c.args.reader (sym c.in_default.ensures.value))))

-- there is room in his list
pub grant-requires : goal.grant-requires
grant-requires c = record {
  room = room_found c.self.inside.by_name.entries c.args.reader c.args.account c.in-Some.person.now c.in-Some.ensures.value
      ∙ ap (λ us. has_room us c.args.reader c.args.account) c.self.view_is ∙ c.requires.room;
}

-- his role is written back
pub returns : goal.returns
returns c =
    let after : Person = record { password = c.in-Some.person.now.password; standing = c.grant.new.self; near_account = c.in-Some.person.now.near_account } in
    let new_is =
    ap users_of (c.get_mut.follows.holds after).0
    ∙ role_written (with_account c.args.account) c.args.reader c.self.inside.by_name.entries c.in-Some.person.now after c.in-Some.ensures.unique (sym c.in-Some.ensures.value) refl c.grant.ensures
    ∙ ap (granted_to c.args.reader c.args.account) c.self.view_is
    in
    record {
      granted = new_is;
      pair = λ user other. ap (λ us. sees us user other) new_is ∙ granted_pair c.args.reader c.args.account c.args.self.now c.requires.known user other;
    }
