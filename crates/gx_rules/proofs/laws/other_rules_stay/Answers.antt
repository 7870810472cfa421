use Rattle.gx_rules.proofs.Settings_changed.{kept_by_restrict, kept_by_unrestrict, limit_set, others_stay, restricted_listed, unrestricted_not_listed}
use Rattle.gx_rules.proofs.laws.other_rules_stay.Goals as goal

pub returns : goal.returns
returns c =
    record {
      others = λ name other change rules apart. others_stay name change other rules apart;
      limit = limit_set;
      listed = restricted_listed;
      not_listed = unrestricted_not_listed;
      kept_by_restrict = kept_by_restrict;
      kept_by_unrestrict = kept_by_unrestrict;
    }
