-- Runs on the sample policy in which orders meet.
use Rattle.std.specs.Prelude.{◌≡◌, List, [], ◌∷◌, codes}
use Rattle.gx_history.specs.{declared.record.{Step.Step, Verdict.Verdict}, Settling.settled_records, Verdicts.run}
use Rattle.gx_policy.specs.Samples.{alice, bob, sample}
use Rattle.gx_worked_examples.specs.Sample.{login, enter, buys, sells, cancels, matches, verdicts_of, granted, filled}

-- matching goes on until no order waits
abbrev pub settling_takes_all_that_wait_steps : List Step
settling_takes_all_that_wait_steps =
    login alice
    ∷ login bob
    ∷ sells bob 2 (codes "S1") 100 10000
    ∷ sells bob 2 (codes "S2") 100 10000
    ∷ buys alice 2 (codes "A1") 150 10000
    ∷ []

-- what comes of these steps, once no order waits
abbrev pub SettlingTakesAllThatWait : Type 0
SettlingTakesAllThatWait = verdicts_of (settled_records sample (run sample settling_takes_all_that_wait_steps) 3)
    ≡ granted ∷ granted ∷ granted ∷ granted ∷ granted ∷ Verdict.Rested 3 ∷ Verdict.Rested 4 ∷ filled 5 3 100 10000 ∷
    filled 5 4 50 10000 ∷ []

-- the best price trades first, and of equal prices the one that rested first
abbrev pub the_best_price_comes_first_steps : List Step
the_best_price_comes_first_steps =
    login alice
    ∷ login bob
    ∷ sells bob 2 (codes "S1") 1 10100
    ∷ sells bob 2 (codes "S2") 1 10000
    ∷ sells bob 2 (codes "S3") 1 10000
    ∷ matches 2
    ∷ matches 2
    ∷ matches 2
    ∷ buys alice 3 (codes "A1") 3 10100
    ∷ matches 3
    ∷ matches 3
    ∷ matches 3
    ∷ matches 3
    ∷ []

-- what comes of these steps
abbrev pub TheBestPriceComesFirst : Type 0
TheBestPriceComesFirst = verdicts_of (run sample the_best_price_comes_first_steps)
    ≡ granted ∷ granted ∷ granted ∷ granted ∷ granted ∷ Verdict.Rested 3 ∷ Verdict.Rested 4 ∷ Verdict.Rested 5 ∷
    granted ∷ filled 9 4 1 10000 ∷ filled 9 5 1 10000 ∷ filled 9 3 1 10100 ∷ []

-- an immediate order takes what there is, and the rest of it ends
abbrev pub an_immediate_order_takes_what_there_is_steps : List Step
an_immediate_order_takes_what_there_is_steps =
    login alice
    ∷ login bob
    ∷ sells bob 2 (codes "S1") 60 10000
    ∷ matches 2
    ∷ enter alice 3 (codes "A1") 66 100 10000 0
    ∷ matches 3
    ∷ matches 3
    ∷ matches 3
    ∷ []

-- what comes of these steps
abbrev pub AnImmediateOrderTakesWhatThereIs : Type 0
AnImmediateOrderTakesWhatThereIs = verdicts_of (run sample an_immediate_order_takes_what_there_is_steps)
    ≡ granted ∷ granted ∷ granted ∷ Verdict.Rested 3 ∷ granted ∷ filled 5 3 60 10000 ∷ Verdict.Expired 5 ∷ []

-- an order that is cut keeps its place in the book
abbrev pub a_cut_order_keeps_its_place_steps : List Step
a_cut_order_keeps_its_place_steps =
    login alice
    ∷ login bob
    ∷ buys alice 2 (codes "A1") 100 10000
    ∷ buys alice 2 (codes "A2") 100 10000
    ∷ matches 2
    ∷ matches 2
    ∷ cancels alice 3 (codes "A1") 50
    ∷ sells bob 4 (codes "S1") 60 10000
    ∷ matches 4
    ∷ matches 4
    ∷ matches 4
    ∷ []

-- what comes of these steps
abbrev pub ACutOrderKeepsItsPlace : Type 0
ACutOrderKeepsItsPlace = verdicts_of (run sample a_cut_order_keeps_its_place_steps)
    ≡ granted ∷ granted ∷ granted ∷ granted ∷ Verdict.Rested 3 ∷ Verdict.Rested 4 ∷ granted ∷ granted ∷
    filled 8 3 50 10000 ∷ filled 8 4 10 10000 ∷ []
