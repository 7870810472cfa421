use Rattle.gx_policy.specs.People.{is_reader}
use Rattle.gx_people.proofs.{Users_stay.{reader_in_force, reader_stays, role_word}, Users_laws.{accounts_stay, officers_stay, passwords_stay, powers_stay, scopes_stay, traders_stay, users_stay}}
use Rattle.gx_people.proofs.laws.powers_stay.Goals as goal

pub returns : goal.returns
returns c =
    record {
      powers = powers_stay;
      scopes = scopes_stay;
      traders = traders_stay;
      officers = officers_stay;
      readers = role_word (λ role. is_reader role) reader_stays;
      accounts = accounts_stay;
      passwords = passwords_stay;
      users = users_stay;
      names = reader_in_force;
    }
