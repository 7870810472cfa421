use Rattle.std.proofs.Common.{◌∙◌, ap, sym, refl, true≢false}
use Rattle.gx_policy.specs.People.{is_reader, role_in}
use Rattle.gx_people.specs.{Entitled.{revoked_from, sees, without_account}, View.users_of, declared.person.Person.Person}
use Rattle.gx_people.proofs.{Grants_next.revoked_pair, Persons_table.{role_written, nobody_reads}}
use Rattle.gx_people.proofs.people.People.revoke.Goals as goal

-- the reader is known
pub returns-in_default : goal.returns-in_default
returns-in_default c =
    absurd (true≢false (sym c.requires.known ∙ (ap (λ us. is_reader (role_in us c.args.reader)) (sym c.self.view_is) ∙ nobody_reads c.self.inside.by_name.entries c.args.reader (sym c.in_default.ensures.value))))

pub returns : goal.returns
returns c =
    let after : Person = record { password = c.in-Some.person.now.password; standing = c.revoke.new.self; near_account = c.in-Some.person.now.near_account } in
    let new_is =
    ap users_of (c.get_mut.follows.holds after).0
    ∙ role_written (without_account c.args.account) c.args.reader c.self.inside.by_name.entries c.in-Some.person.now after c.in-Some.ensures.unique (sym c.in-Some.ensures.value) refl c.revoke.ensures
    ∙ ap (revoked_from c.args.reader c.args.account) c.self.view_is
    in
    record {
      revoked = new_is;
      pair = λ user other. ap (λ us. sees us user other) new_is ∙ revoked_pair c.args.reader c.args.account c.args.self.now user other;
    }
