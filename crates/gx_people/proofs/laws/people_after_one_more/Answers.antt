use Rattle.gx_people.proofs.Users_laws.{first_users, next_users}
use Rattle.gx_people.proofs.laws.people_after_one_more.Goals as goal

pub returns : goal.returns
returns c = record { none = first_users; next = next_users }
