-- What the log knows of the records so far.
use Rattle.gx_history.specs.{Requests.{is_denied, asked_of, granted_action, is_login}, declared.«record».{Asked.Asked, RecordData.RecordData}, InForce.rules_in_force, Verdicts.last_moment}
use Rattle.gx_policy.specs.{Kinds.{kind_name, limit_of}, declared.{kinds.{ExposureLimit.ExposureLimit, KindName.KindName, OrderLimit.OrderLimit}, policy.{FileRule.FileRule, PolicyData.PolicyData}}, Lists.{behind_last, where_true}}
use Rattle.std.specs.{Prelude.{ℕ, ◌+◌, ◌/◌, ◌==◌, Bool, true, false, not, ◌&&◌, max, min, fold, if◌then◌else◌, List, map, find, length, filter, Option, Some, is_some, unwrap_or, option_and_then, option_map}, Option.option_map_or, List.filter_map}
use Rattle.gx_units.specs.{Names.same_rule, declared.names.RuleId.RuleId}
use Rattle.gx_desk.specs.declared.Action.{Action}
use Rattle.gx_events.specs.declared.limits.RuleLimit.{RuleLimit}

-- the minute behind midnight
abbrev pub minute_of : ℕ → ℕ
minute_of moment = moment / 60000000000

-- the records that stand last, all of them within this minute
abbrev pub within : ℕ → List RecordData → List RecordData
within minute records = unwrap_or (behind_last (λ (r : RecordData). not (minute_of r.moment == minute)) records) records

-- the login that is asked for, if one is
abbrev pub login_step : RecordData → Option Asked
login_step r = option_and_then (λ (a : Asked). where_true (is_login a.request) a) (asked_of r.step)

-- the record denies a login
abbrev pub denies_login : RecordData → Bool
denies_login r = is_some (login_step r) && is_denied r.verdict

-- the most that is counted
abbrev pub most_counted : ℕ
most_counted = 18446744073709551615

-- how many logins were denied within the minute
abbrev pub denied_within : ℕ → List RecordData → ℕ
denied_within minute records = min most_counted (length (filter denies_login (within minute records)))

-- the line on which a login was asked for
abbrev pub login_line : RecordData → Option ℕ
login_line r = option_map (λ (a : Asked). a.line) (login_step r)

-- the highest line on which a login was asked for, or 0
abbrev pub highest_line : List RecordData → ℕ
highest_line records = fold max 0 (filter_map login_line records)

-- what a rule of this kind counts is a value, so that its limit is an amount of money
abbrev pub counts_money : KindName → Bool
counts_money (KindName.Order OrderLimit.Value) = true
counts_money (KindName.Exposure ExposureLimit.GrossValue) = true
counts_money other = false

-- a rule's name, its limit, if it has one that Set Limit may change, and whether it is an amount of money
abbrev pub limit_entry : FileRule → RuleLimit
limit_entry rule = record { rule = rule.name; limit = limit_of rule.kind; is_money = counts_money (kind_name rule.kind) }

abbrev pub limits_of : List FileRule → List RuleLimit
limits_of rules = map limit_entry rules

-- what is known of the rule of this name, if there is one
abbrev pub entry_named : List RuleLimit → RuleId → Option RuleLimit
entry_named limits name = find (λ (l : RuleLimit). same_rule l.rule name) limits

-- the limit that is known, if there is one
abbrev pub limit_in_entry : Option RuleLimit → Option ℕ
limit_in_entry entry = option_and_then (λ (l : RuleLimit). l.limit) entry

-- the limit of the rule of this name
abbrev pub limit_named : List RuleLimit → RuleId → Option ℕ
limit_named limits name = limit_in_entry (entry_named limits name)

pub record Known : Type 0 where
  -- the limits in force
  pub limits : List RuleLimit
  -- the moment of the last record; 0 where there is none
  pub moment : ℕ
  -- how many logins were denied within the minute of that record
  pub denied : ℕ
  pub highest : ℕ

unfoldable pub known_of : PolicyData → List RecordData → Known
known_of policy records = record {
  limits = limits_of (rules_in_force policy records);
  moment = last_moment records;
  denied = denied_within (minute_of (last_moment records)) records;
  highest = highest_line records;
}

-- What one more record makes of it.

-- the limit, set if the rule has this name and a limit
abbrev pub limit_set : RuleId → ℕ → RuleLimit → RuleLimit
limit_set name limit l = if same_rule l.rule name && is_some l.limit then record { rule = l.rule; limit = Some limit; is_money = l.is_money } else l

-- the limits after a granted command
abbrev pub limits_after : List RuleLimit → Action → List RuleLimit
limits_after limits (Action.SetLimit name limit) = map (limit_set name limit) limits
limits_after limits other = limits

-- how many logins were denied so far within the minute
abbrev pub denied_so_far : Known → ℕ → ℕ
denied_so_far known minute = if minute_of known.moment == minute then known.denied else 0

-- the count with one more, where there is one
abbrev pub one_more_if : Bool → ℕ → ℕ
one_more_if one_more count = if one_more then min most_counted (count + 1) else count

abbrev pub known_next : Known → RecordData → Known
known_next known r = record {
  limits = option_map_or (limits_after known.limits) (granted_action r) known.limits;
  moment = r.moment;
  denied = one_more_if (denies_login r) (denied_so_far known (minute_of r.moment));
  highest = option_map_or (max known.highest) (login_line r) known.highest;
}
