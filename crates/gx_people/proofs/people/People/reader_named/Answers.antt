use Rattle.std.proofs.Common.{◌≡◌, ◌∙◌, ap, sym, rules}
use Rattle.std.specs.Prelude.{Some, option_map}
use Rattle.gx_policy.specs.{declared.policy.User.User, People.{is_reader, role_in}}
use Rattle.gx_history.specs.Readers.{reader_in}
use Rattle.gx_people.proofs.Persons_table.{named_reads}
use Rattle.gx_people.proofs.people.People.reader_named.Goals as goal

-- no other user has the reader's name
pub returns-then-is_reader-clause-reads : goal.returns-then-is_reader-clause-reads
returns-then-is_reader-clause-reads c =
    let name = c.in-Some.name.now in
    let found : Some name ≡ option_map (λ (u : User). u.name) (reader_in c.args.self.now c.args.written) = search rules in
    ap (λ us. is_reader (role_in us name)) (sym c.self.view_is)
    ∙ named_reads c.self.inside.by_name.entries c.args.written name c.iter-name-items.ensures.unique
    (found ∙ ap (λ us. option_map (λ (u : User). u.name) (reader_in us c.args.written)) (sym c.self.view_is))
