-- The log of a sample day, line by line.
use Rattle.gx_policy.specs.{declared.{kinds.{ExposureLimit.ExposureLimit, ListKind.ListKind}, policy.{PolicyData.PolicyData, Count.TheVariants.Each, Lifters.TheVariants.Two, RuleKind.RuleKind, Scope.Scope}, rule_name.RuleName.RuleName}, Samples.{alfa, bob, olga, test_stock}}
use Rattle.std.specs.Prelude.{ℕ, ◌≡◌, true, List, [], ◌∷◌, ◌++◌, codes, take}
use Rattle.gx_units.specs.declared.names.{RuleId.RuleId, UserName.UserName}
use Rattle.gx_desk.specs.declared.Action.{Action}
use Rattle.gx_history.specs.declared.record.{RecordData.RecordData, Request.Request, Step.Step, Verdict.Verdict}
use Rattle.gx_text.specs.declared.form.Form.TheVariants.{Text, Json}
use Rattle.gx_events.specs.Lines.{log_of}

-- a policy with the rules GROSS, of 4,000,000 shares, CREDIT, of 30,000 dollars, and HALT
abbrev pub policy_of_three_rules : PolicyData
policy_of_three_rules = record {
  session = record { bytes = codes "GATE01    " };
  lifters = Two;
  accounts = [];
  stocks = [];
  users = [];
  rules =
      record { name = record { bytes = codes "GROSS   " }; kind = RuleKind.Exposure ExposureLimit.GrossShares 4000000 Each; scope = Scope.All }
      ∷ record { name = record { bytes = codes "CREDIT  " }; kind = RuleKind.Exposure ExposureLimit.GrossValue 300000000 Each; scope = Scope.All }
      ∷ record { name = record { bytes = codes "HALT    " }; kind = RuleKind.Listed ListKind.Halt []; scope = Scope.All }
      ∷ [];
}

abbrev pub gross : RuleId
gross = record { bytes = codes "GROSS   " }

abbrev pub credit : RuleId
credit = record { bytes = codes "CREDIT  " }

-- no rule of the policy has this name
abbrev pub credits : RuleId
credits = record { bytes = codes "CREDITS " }

abbrev pub halt : RuleId
halt = record { bytes = codes "HALT    " }

-- a name that is to do harm
abbrev pub mallory : UserName
mallory = record { bytes = codes "M\",\\ A" }

-- 10:29:43.698373412
abbrev pub morning : ℕ
morning = 37783698373412

-- 24:00:01, behind midnight
abbrev pub night : ℕ
night = 86401000000000

abbrev pub shown_record : ℕ → ℕ → UserName → ℕ → Request → Verdict → RecordData
shown_record number moment user line request verdict = record {
  number = number;
  moment = moment;
  step = Step.Asked (record { line = line; user = user; request = request; handed = moment });
  verdict = verdict;
}

abbrev pub login : Request
login = Request.Login (record { password_is_right = true; session_is_right = true; wanted = 1 })

abbrev pub command : Action → Request
command action = Request.Command (record { tag = record { bytes = codes "T             " }; action = action })

-- a login, four that are denied within one minute, and the first record of another minute; two changes of one limit
abbrev pub people : List RecordData
people =
    shown_record 1 morning olga 7 login Verdict.Granted
    ∷ shown_record 2 morning mallory 8 login (Verdict.Denied RuleName.L1)
    ∷ shown_record 3 morning mallory 9 login (Verdict.Denied RuleName.L1)
    ∷ shown_record 4 morning mallory 10 login (Verdict.Denied RuleName.L1)
    ∷ shown_record 5 morning olga 7 (command (Action.SetLimit gross 5000000)) Verdict.Granted
    ∷ shown_record 6 night olga 7 (command (Action.SetLimit gross 6000000)) Verdict.Granted
    ∷ shown_record 7 night mallory 11 login (Verdict.Denied RuleName.L3)
    ∷ shown_record 8 night olga 7 Request.Logout Verdict.Granted
    ∷ []

-- each command that is not Set Limit, a denied one, an order's cancel and a matching step
abbrev pub commands : List RecordData
commands =
    shown_record 1 morning olga 7 (command (Action.Kill alfa)) Verdict.Granted
    ∷ shown_record 2 morning bob 6 (command (Action.Kill alfa)) (Verdict.Denied RuleName.Q2)
    ∷ shown_record 3 morning bob 6 (command (Action.SetLimit gross 9)) (Verdict.Denied RuleName.Q3)
    ∷ record { number = 4; moment = morning; step = Step.Matching morning; verdict = Verdict.Rested 1 }
    ∷ shown_record 5 morning olga 7 (command (Action.Lift alfa)) Verdict.Granted
    ∷ shown_record 6 morning olga 7 (command (Action.Restrict halt test_stock)) Verdict.Granted
    ∷ shown_record 7 morning olga 7 (command (Action.Grant (record { bytes = codes "rita  " }) alfa)) Verdict.Granted
    ∷ shown_record 8 morning olga 7 (command Action.CloseDay) Verdict.Granted
    ∷ shown_record 9 morning olga 7 (Request.Unreadable (record { length = 1; first = 63 })) (Verdict.Denied RuleName.G3)
    ∷ []

-- the limit of a value, set twice, and asked for by an officer whose it is not; and that of a rule that is not there
abbrev pub values : List RecordData
values =
    shown_record 1 morning olga 7 (command (Action.SetLimit credit 30000)) Verdict.Granted
    ∷ shown_record 2 morning olga 7 (command (Action.SetLimit credit 9999999)) Verdict.Granted
    ∷ shown_record 3 morning bob 6 (command (Action.SetLimit credit 12345678900)) (Verdict.Denied RuleName.Q3)
    ∷ shown_record 4 morning bob 6 (command (Action.SetLimit credits 30000)) (Verdict.Denied RuleName.Q1)
    ∷ []

-- the first record at 90 hundredths of the day's records, with a login on the last line
abbrev pub full : List RecordData
full = shown_record 15099495 morning olga 65535 login Verdict.Granted ∷ []

abbrev pub PeopleAreTold : Type 0
PeopleAreTold = log_of Text policy_of_three_rules people ≡
    codes "10:29:43.698373 OLGA logged in on line 7, record 1\n"
    ++ codes "10:29:43.698373 login of M\",\\x5c\\x20A on line 8 denied by L1, record 2\n"
    ++ codes "10:29:43.698373 limit of GROSS set from 4000000 to 5000000 by OLGA, record 5\n"
    ++ codes "24:00:01.000000 more logins denied within the minute of 10:29: 2\n"
    ++ codes "24:00:01.000000 limit of GROSS set from 5000000 to 6000000 by OLGA, record 6\n"
    ++ codes "24:00:01.000000 login of M\",\\x5c\\x20A on line 11 denied by L3, record 7\n"
    ++ codes "24:00:01.000000 OLGA logged out on line 7, record 8\n"

abbrev pub PeopleAreToldInJson : Type 0
PeopleAreToldInJson = log_of Json policy_of_three_rules people ≡
    codes "{\"at\":\"10:29:43.698373412\",\"event\":\"login\",\"user\":\"OLGA\",\"line\":7,\"record\":1}\n"
    ++ codes "{\"at\":\"10:29:43.698373412\",\"event\":\"login_denied\",\"user\":\"M\\\",\\\\ A\",\"line\":8,\"denied_by\":\"L1\",\"record\":2}\n"
    ++ codes "{\"at\":\"10:29:43.698373412\",\"event\":\"limit\",\"user\":\"OLGA\",\"rule\":\"GROSS\",\"from\":4000000,\"to\":5000000,\"record\":5}\n"
    ++ codes "{\"at\":\"24:00:01.000000000\",\"event\":\"more_logins_denied\",\"minute\":\"10:29\",\"count\":2}\n"
    ++ codes "{\"at\":\"24:00:01.000000000\",\"event\":\"limit\",\"user\":\"OLGA\",\"rule\":\"GROSS\",\"from\":5000000,\"to\":6000000,\"record\":6}\n"
    ++ codes "{\"at\":\"24:00:01.000000000\",\"event\":\"login_denied\",\"user\":\"M\\\",\\\\ A\",\"line\":11,\"denied_by\":\"L3\",\"record\":7}\n"
    ++ codes "{\"at\":\"24:00:01.000000000\",\"event\":\"logout\",\"user\":\"OLGA\",\"line\":7,\"record\":8}\n"

abbrev pub CommandsAreTold : Type 0
CommandsAreTold = log_of Text policy_of_three_rules commands ≡
    codes "10:29:43.698373 ALFA killed by OLGA, record 1\n"
    ++ codes "10:29:43.698373 Kill of ALFA by BOB denied by Q2, record 2\n"
    ++ codes "10:29:43.698373 Set Limit of GROSS to 9 by BOB denied by Q3, record 3\n"
    ++ codes "10:29:43.698373 Lift of ALFA given by OLGA, record 5\n"
    ++ codes "10:29:43.698373 TEST restricted under HALT by OLGA, record 6\n"
    ++ codes "10:29:43.698373 ALFA granted to rita by OLGA, record 7\n"
    ++ codes "10:29:43.698373 day closed by OLGA, record 8\n"

abbrev pub CommandsAreToldInJson : Type 0
CommandsAreToldInJson = log_of Json policy_of_three_rules (take 3 commands) ≡
    codes "{\"at\":\"10:29:43.698373412\",\"event\":\"kill\",\"user\":\"OLGA\",\"account\":\"ALFA\",\"record\":1}\n"
    ++ codes "{\"at\":\"10:29:43.698373412\",\"event\":\"kill_denied\",\"user\":\"BOB\",\"account\":\"ALFA\",\"denied_by\":\"Q2\",\"record\":2}\n"
    ++ codes "{\"at\":\"10:29:43.698373412\",\"event\":\"limit_denied\",\"user\":\"BOB\",\"rule\":\"GROSS\",\"to\":9,\"denied_by\":\"Q3\",\"record\":3}\n"

abbrev pub ValuesAreTold : Type 0
ValuesAreTold = log_of Text policy_of_three_rules values ≡
    codes "10:29:43.698373 limit of CREDIT set from $30,000.00 to $3.00 by OLGA, record 1\n"
    ++ codes "10:29:43.698373 limit of CREDIT set from $3.00 to $999.9999 by OLGA, record 2\n"
    ++ codes "10:29:43.698373 Set Limit of CREDIT to $1,234,567.89 by BOB denied by Q3, record 3\n"
    ++ codes "10:29:43.698373 Set Limit of CREDITS to 30000 by BOB denied by Q1, record 4\n"

abbrev pub ValuesAreToldInJson : Type 0
ValuesAreToldInJson = log_of Json policy_of_three_rules values ≡
    codes "{\"at\":\"10:29:43.698373412\",\"event\":\"limit\",\"user\":\"OLGA\",\"rule\":\"CREDIT\",\"from\":300000000,\"to\":30000,\"record\":1}\n"
    ++ codes "{\"at\":\"10:29:43.698373412\",\"event\":\"limit\",\"user\":\"OLGA\",\"rule\":\"CREDIT\",\"from\":30000,\"to\":9999999,\"record\":2}\n"
    ++ codes "{\"at\":\"10:29:43.698373412\",\"event\":\"limit_denied\",\"user\":\"BOB\",\"rule\":\"CREDIT\",\"to\":12345678900,\"denied_by\":\"Q3\",\"record\":3}\n"
    ++ codes "{\"at\":\"10:29:43.698373412\",\"event\":\"limit_denied\",\"user\":\"BOB\",\"rule\":\"CREDITS\",\"to\":30000,\"denied_by\":\"Q1\",\"record\":4}\n"

abbrev pub FullDaysAreTold : Type 0
FullDaysAreTold = log_of Text policy_of_three_rules full ≡
    codes "10:29:43.698373 OLGA logged in on line 65535, record 15099495\n"
    ++ codes "10:29:43.698373 99 % of the day's lines are used, 0 are left, record 15099495\n"
    ++ codes "10:29:43.698373 90 % of the day's records are used, 1677721 are left, record 15099495\n"
