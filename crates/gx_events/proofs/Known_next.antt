-- What is known after one more record.
use Rattle.std.proofs.{Common.{◌≡◌, ℕ, max, fold, List, [], ◌∷◌, ◌++◌, refl, ◌∙◌, ap, eq-eqb}, lemmas.List.{Elements.filter_map-append, Sums.fold-append}}
use Rattle.std.specs.{Prelude.{Option, Some, None}, Option.option_map_or, List.{filter_map, cons_option}}
use Rattle.gx_policy.specs.declared.policy.PolicyData.{PolicyData}
use Rattle.gx_history.specs.{declared.record.RecordData.RecordData, InForce.rules_in_force, Requests.granted_action, Verdicts.last_moment}
use Rattle.gx_laws.proofs.InForce_next.{last_moment_next, rules_in_force_next, rules_in_force_none}
use Rattle.gx_events.specs.Known.{one_more_if, denied_within, denies_login, highest_line, known_next, known_of, limits_of, login_line, minute_of}
use Rattle.gx_events.proofs.{MinuteCount_next.{denied_is, denied_more}, Limits_next.limits_changed}

by_one : (highest : ℕ) (line : Option ℕ) → fold max highest (cons_option line []) ≡ option_map_or (max highest) line highest
by_one highest None = refl
by_one highest (Some line) = refl

highest_more : (records : List RecordData) (r : RecordData) → highest_line (records ++ r ∷ []) ≡ option_map_or (max (highest_line records)) (login_line r) (highest_line records)
highest_more records r =
    ap (fold max 0) (filter_map-append login_line records (r ∷ []))
    ∙ fold-append max 0 (filter_map login_line records) (filter_map login_line (r ∷ []))
    ∙ by_one (highest_line records) (login_line r)

denied_next : (records : List RecordData) (r : RecordData)
    → denied_within (minute_of (last_moment (records ++ r ∷ []))) (records ++ r ∷ []) ≡ one_more_if (denies_login r) (denied_within (minute_of r.moment) records)
denied_next records r =
    ap (λ moment. denied_within (minute_of moment) (records ++ r ∷ [])) (last_moment_next records r)
    ∙ denied_more (minute_of r.moment) records r (eq-eqb (minute_of r.moment) (minute_of r.moment) refl)

-- what is known before the first record
pub known_first : (policy : PolicyData) → known_of policy [] ≡ record { limits = limits_of policy.rules; moment = 0; denied = 0; highest = 0 }
unfolding known_of
known_first policy = ap (λ rules. record { limits = limits_of rules; moment = 0; denied = 0; highest = 0 }) (rules_in_force_none policy)

-- one more record
pub known_more : (policy : PolicyData) (records : List RecordData) (r : RecordData) → known_of policy (records ++ r ∷ []) ≡ known_next (known_of policy records) r
unfolding known_of
known_more policy records r = λ i. record {
  limits = (ap limits_of (rules_in_force_next policy records r) ∙ limits_changed (rules_in_force policy records) (granted_action r)) i;
  moment = last_moment_next records r i;
  denied = (denied_next records r ∙ ap (one_more_if (denies_login r)) (denied_is (minute_of r.moment) records)) i;
  highest = highest_more records r i;
}
