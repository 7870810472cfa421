use Rattle.gx_people.proofs.{Grants_next.{granted_pair, revoked_pair}, Users_laws.{grants_go, revocations_go}}
use Rattle.gx_people.proofs.laws.commands_change_one_pair.Goals as goal

pub returns : goal.returns
returns c =
    record {
      granted = λ users reader account. granted_pair reader account users;
      revoked = λ users reader account. revoked_pair reader account users;
      grant = grants_go;
      revoke = revocations_go;
    }
