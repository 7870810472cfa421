-- Logins that are denied for their password.
use Rattle.std.specs.{Prelude.{ℕ, Bool, true, false, ◌&&◌, ◌||◌, nat_le, List}, List.list_all}
use Rattle.gx_policy.specs.declared.rule_name.RuleName.{RuleName}
use Rattle.gx_history.specs.{declared.record.{RecordData.RecordData, Step.Step, Verdict.Verdict}, Requests.is_login}

-- a login is asked for
abbrev pub is_login_step : Step → Bool
is_login_step (Step.Asked a) = is_login a.request
is_login_step (Step.Matching handed) = false

-- the rule that asks for the password
abbrev pub is_password_rule : RuleName → Bool
is_password_rule RuleName.L1 = true
is_password_rule other = false

abbrev pub is_denied_by_password : Verdict → Bool
is_denied_by_password (Verdict.Denied rule) = is_password_rule rule
is_denied_by_password other = false

-- a login that was denied, since no user has this password
abbrev pub is_denied_login : RecordData → Bool
is_denied_login r = is_login_step r.step && is_denied_by_password r.verdict

-- all of these are
abbrev pub are_denied : List RecordData → Bool
are_denied records = list_all is_denied_login records

-- how many logins of strangers are on record, and how many records of the day whoever makes them was told of
pub record StrangersData : Type 0 where
  pub count : ℕ
  pub told : ℕ

-- what is left of the day is for others: strangers have a sixteenth of its records, and none of its last 65,536
abbrev pub is_reserved : StrangersData → Bool
is_reserved s = nat_le 1048576 s.count || nat_le 16711680 s.told
