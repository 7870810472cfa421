-- Runs under rules of the file.
use Rattle.gx_policy.specs.{declared.{kinds.{ExposureLimit.ExposureLimit, ListKind.ListKind, OrderLimit.OrderLimit}, policy.{Count.Count, RuleKind.RuleKind}}, Samples.{alice, bob, test_stock, rule_size, rule_gross, with_rules, sample}}
use Rattle.std.specs.Prelude.{◌≡◌, true, List, [], ◌∷◌, codes}
use Rattle.gx_history.specs.{declared.record.{Request.Request, Step.Step, Verdict.Verdict}, Verdicts.run}
use Rattle.gx_worked_examples.specs.Sample.{file_rule, with_last, asks, login, buys, sells, replaces, cancels, matches, verdicts_of, granted, denied_by_rule, filled}

-- a value above the limit
abbrev pub value_above_the_limit_steps : List Step
value_above_the_limit_steps =
    login alice
    ∷ buys alice 2 (codes "T1") 100 100000
    ∷ buys alice 3 (codes "T2") 1 100
    ∷ []

-- what comes of these steps
abbrev pub ValueAboveTheLimit : Type 0
ValueAboveTheLimit = verdicts_of (run sample value_above_the_limit_steps)
    ≡ granted ∷ granted ∷ denied_by_rule (codes "GROSS") ∷ []

-- the first rule of the file that forbids is named
abbrev pub the_file_order_decides_steps : List Step
the_file_order_decides_steps =
    login alice
    ∷ buys alice 2 (codes "A1") 101 100000
    ∷ []

-- what comes of these steps
abbrev pub TheFileOrderDecides : Type 0
TheFileOrderDecides = verdicts_of (run (with_last (file_rule (codes "BLACK") (RuleKind.Listed ListKind.Restricted (test_stock ∷ [])))) the_file_order_decides_steps)
    ≡ granted ∷ denied_by_rule (codes "GROSS") ∷ []

-- the same rules in another order
abbrev pub the_file_order_turned_steps : List Step
the_file_order_turned_steps =
    login alice
    ∷ buys alice 2 (codes "A1") 101 100000
    ∷ []

-- what comes of these steps
abbrev pub TheFileOrderTurned : Type 0
TheFileOrderTurned = verdicts_of (run (with_rules (rule_size ∷ (file_rule (codes "BLACK") (RuleKind.Listed ListKind.Restricted (test_stock ∷ []))) ∷ rule_gross ∷ [])) the_file_order_turned_steps)
    ≡ granted ∷ denied_by_rule (codes "BLACK") ∷ []

-- a collar about the last price
abbrev pub a_collar_follows_the_last_fill_steps : List Step
a_collar_follows_the_last_fill_steps =
    login alice
    ∷ login bob
    ∷ buys alice 2 (codes "A1") 1 105000
    ∷ buys alice 2 (codes "A2") 1 105100
    ∷ cancels alice 2 (codes "A1") 0
    ∷ sells bob 2 (codes "S1") 1 101000
    ∷ matches 2
    ∷ matches 2
    ∷ buys alice 2 (codes "A3") 1 101000
    ∷ matches 2
    ∷ matches 2
    ∷ buys alice 2 (codes "A4") 1 106000
    ∷ buys alice 2 (codes "A5") 1 106100
    ∷ []

-- what comes of these steps
abbrev pub ACollarFollowsTheLastFill : Type 0
ACollarFollowsTheLastFill = verdicts_of (run (with_last (file_rule (codes "BAND") (RuleKind.Order OrderLimit.Collar 500))) a_collar_follows_the_last_fill_steps)
    ≡ granted ∷ granted ∷ granted ∷ denied_by_rule (codes "BAND") ∷ granted ∷ granted ∷ Verdict.Rested 6 ∷ granted ∷
    filled 8 6 1 101000 ∷ granted ∷ denied_by_rule (codes "BAND") ∷ []

-- shares of all accounts together
abbrev pub shares_count_together_steps : List Step
shares_count_together_steps =
    login alice
    ∷ login bob
    ∷ buys alice 2 (codes "A1") 60 10
    ∷ buys bob 2 (codes "B1") 41 10
    ∷ buys bob 2 (codes "B2") 40 10
    ∷ replaces alice 2 (codes "A1") (codes "A2") 60 11
    ∷ []

-- what comes of these steps
abbrev pub SharesCountTogether : Type 0
SharesCountTogether = verdicts_of (run (with_last (file_rule (codes "POOL") (RuleKind.Exposure ExposureLimit.GrossShares 100 Count.Together))) shares_count_together_steps)
    ≡ granted ∷ granted ∷ granted ∷ denied_by_rule (codes "POOL") ∷ granted ∷ granted ∷ []

-- incoming orders count as live
abbrev pub incoming_orders_count_steps : List Step
incoming_orders_count_steps =
    login alice
    ∷ login bob
    ∷ buys bob 2 (codes "B1") 100 100000
    ∷ matches 2
    ∷ matches 2
    ∷ sells alice 2 (codes "A1") 100 90000
    ∷ sells alice 2 (codes "A2") 10 100000
    ∷ matches 3
    ∷ replaces alice 3 (codes "A2") (codes "A3") 9 100000
    ∷ cancels alice 3 (codes "A2") 0
    ∷ []

-- what comes of these steps
abbrev pub IncomingOrdersCount : Type 0
IncomingOrdersCount = verdicts_of (run sample incoming_orders_count_steps)
    ≡ granted ∷ granted ∷ granted ∷ Verdict.Rested 3 ∷ granted ∷ granted ∷ filled 5 3 100 100000 ∷
    denied_by_rule (codes "GROSS") ∷ granted ∷ []

-- a position stays within the limit on each side
abbrev pub a_position_is_net_steps : List Step
a_position_is_net_steps =
    login alice
    ∷ login bob
    ∷ buys alice 2 (codes "A1") 100 10
    ∷ buys alice 2 (codes "A2") 1 10
    ∷ sells alice 2 (codes "A3") 100 11
    ∷ sells bob 2 (codes "S1") 100 10
    ∷ matches 2
    ∷ matches 2
    ∷ matches 2
    ∷ matches 2
    ∷ sells alice 2 (codes "A4") 100 11
    ∷ buys alice 2 (codes "A5") 1 10
    ∷ sells alice 2 (codes "A6") 1 11
    ∷ []

-- what comes of these steps
abbrev pub APositionIsNet : Type 0
APositionIsNet = verdicts_of (run (with_last (file_rule (codes "NET") (RuleKind.Exposure ExposureLimit.NetShares 100 Count.Each))) a_position_is_net_steps)
    ≡ granted ∷ granted ∷ granted ∷ denied_by_rule (codes "NET") ∷ granted ∷ granted ∷ Verdict.Rested 3 ∷ Verdict.Rested 5 ∷
    filled 6 3 100 10 ∷ granted ∷ denied_by_rule (codes "NET") ∷ denied_by_rule (codes "NET") ∷ []

-- equal orders among the last two
abbrev pub equal_orders_are_counted_steps : List Step
equal_orders_are_counted_steps =
    login alice
    ∷ buys alice 2 (codes "A1") 1 10
    ∷ buys alice 2 (codes "A2") 1 10
    ∷ buys alice 2 (codes "A3") 2 10
    ∷ buys alice 2 (codes "A4") 3 10
    ∷ buys alice 2 (codes "A5") 1 10
    ∷ []

-- what comes of these steps
abbrev pub EqualOrdersAreCounted : Type 0
EqualOrdersAreCounted = verdicts_of (run (with_last (file_rule (codes "TWIN") (RuleKind.Repeat (record { limit = 1; span = 2 }) Count.Each))) equal_orders_are_counted_steps)
    ≡ granted ∷ granted ∷ denied_by_rule (codes "TWIN") ∷ granted ∷ granted ∷ granted ∷ []

-- so many orders in a window, by the moments of the records
abbrev pub windows_go_by_the_moments_steps : List Step
windows_go_by_the_moments_steps =
    asks alice 5 (Request.Login (record { password_is_right = true; session_is_right = true; wanted = 1 }))
    ∷ buys alice 3 (codes "A1") 1 10
    ∷ buys alice 14 (codes "A2") 1 10
    ∷ buys alice 15 (codes "A3") 1 10
    ∷ []

-- what comes of these steps
abbrev pub WindowsGoByTheMoments : Type 0
WindowsGoByTheMoments = verdicts_of (run (with_last (file_rule (codes "PACE") (RuleKind.Rate (record { limit = 1; window = 10 }) Count.Each))) windows_go_by_the_moments_steps)
    ≡ granted ∷ granted ∷ denied_by_rule (codes "PACE") ∷ granted ∷ []

-- a restricted stock before the size
abbrev pub a_restricted_stock_comes_first_steps : List Step
a_restricted_stock_comes_first_steps =
    login alice
    ∷ buys alice 2 (codes "A1") 500001 20
    ∷ []

-- what comes of these steps
abbrev pub ARestrictedStockComesFirst : Type 0
ARestrictedStockComesFirst = verdicts_of (run (with_rules (file_rule (codes "BLACK") (RuleKind.Listed ListKind.Restricted (test_stock ∷ [])) ∷ rule_size ∷ [])) a_restricted_stock_comes_first_steps)
    ≡ granted ∷ denied_by_rule (codes "BLACK") ∷ []

-- and behind it
abbrev pub a_restricted_stock_comes_last_steps : List Step
a_restricted_stock_comes_last_steps =
    login alice
    ∷ buys alice 2 (codes "A1") 500001 20
    ∷ []

-- what comes of these steps
abbrev pub ARestrictedStockComesLast : Type 0
ARestrictedStockComesLast = verdicts_of (run (with_rules (rule_size ∷ file_rule (codes "BLACK") (RuleKind.Listed ListKind.Restricted (test_stock ∷ [])) ∷ [])) a_restricted_stock_comes_last_steps)
    ≡ granted ∷ denied_by_rule (codes "SIZE") ∷ []

-- a value above that of one order
abbrev pub an_order_may_be_too_big_steps : List Step
an_order_may_be_too_big_steps =
    login alice
    ∷ buys alice 2 (codes "A1") 100 10000
    ∷ buys alice 2 (codes "A2") 101 10000
    ∷ []

-- what comes of these steps
abbrev pub AnOrderMayBeTooBig : Type 0
AnOrderMayBeTooBig = verdicts_of (run (with_last (file_rule (codes "BIG") (RuleKind.Order OrderLimit.Value 1000000))) an_order_may_be_too_big_steps)
    ≡ granted ∷ granted ∷ denied_by_rule (codes "BIG") ∷ []
