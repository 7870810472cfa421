-- What users are told in these runs.
use Rattle.std.specs.{Prelude.{◌≡◌, ℕ, List, [], ◌∷◌, ◌++◌, codes, drop, true}, List.list_all}
use Rattle.gx_desk.specs.{declared.DropCopy.DropCopy, Writing.drop_copy_bytes}
use Rattle.gx_ouch.specs.declared.{letters.{Liquidity.Liquidity, CancelReason.CancelReason, EventCode.EventCode, RejectReason.RejectReason}, outbound.{OrderTerms.OrderTerms, Outbound.Outbound}}
use Rattle.gx_history.specs.{declared.{«record».Step.Step, report.{Message.Message, Report.Report}}, Showing.is_showable, Streams.stream, Verdicts.run}
use Rattle.gx_policy.specs.{Soundness.is_sound, Samples.{alfa, alice, test_stock, sample}}
use Rattle.gx_worked_examples.specs.{Sample.token, OrderRows.{cancels_lower_the_size_steps, a_replace_loses_its_place_steps, immediate_orders_expire_steps}, CommandRows.{a_kill_ends_a_sweep_steps, a_lift_lets_trade_again_steps, a_kill_stands_until_the_lift_steps, useless_commands_are_denied_steps}, MatchingRows.a_cut_order_keeps_its_place_steps, RuleRows.value_above_the_limit_steps}

-- what ALICE is told of a run under the sample policy
abbrev pub told_alice : List Step → List Report
told_alice taken = stream sample (run sample taken) alice

-- a message to a trader, with its timestamp
abbrev pub at : ℕ → Outbound → Report
at moment message = record { timestamp = moment; message = Message.Order message }

-- a plain buy of ALFA's, by shares, price and time in force
abbrev pub buy_terms : ℕ → ℕ → ℕ → OrderTerms
buy_terms shares price time_in_force = record {
  side = 66;
  shares = shares;
  stock = test_stock;
  price = price;
  time_in_force = time_in_force;
  firm = record { bytes = codes "ALF " };
  display = 89;
  capacity = 65;
  intermarket_sweep = 78;
  minimum_quantity = 0;
  cross_type = 78;
}

-- Accepted
abbrev pub accepted_row : List ℕ → OrderTerms → ℕ → Outbound
accepted_row text terms number = Outbound.Accepted (record { token = token text; terms = terms; order_reference = number })

-- Executed
abbrev pub executed_row : List ℕ → ℕ → ℕ → Liquidity → ℕ → Outbound
executed_row text shares price liquidity number =
    Outbound.Executed (record { token = token text; shares = shares; price = price; liquidity = liquidity; match_number = number })

-- Canceled
abbrev pub canceled_row : List ℕ → ℕ → CancelReason → Outbound
canceled_row text shares reason = Outbound.Canceled (record { token = token text; decrement = shares; reason = reason })

-- Rejected
abbrev pub rejected_row : List ℕ → RejectReason → Outbound
rejected_row text reason = Outbound.Rejected (record { token = token text; reason = reason })

-- the killed trader is told of his fill, and of what was ended
abbrev pub AKillIsTold : Type 0
AKillIsTold = told_alice a_kill_ends_a_sweep_steps
    ≡ at 4 (accepted_row (codes "A1") (buy_terms 300 10000 99999) 10)
    ∷ at 5 (executed_row (codes "A1") 100 10000 Liquidity.Removed 11)
    ∷ at 6 (canceled_row (codes "A1") 200 CancelReason.Supervisory)
    ∷ []

-- a value above the limit is answered
abbrev pub ADeniedValueIsTold : Type 0
ADeniedValueIsTold = told_alice value_above_the_limit_steps
    ≡ at 2 (accepted_row (codes "T1") (buy_terms 100 100000 99999) 2)
    ∷ at 3 (rejected_row (codes "T2") RejectReason.DollarLimit)
    ∷ []

-- a killed account is told so with each order
abbrev pub AKilledAccountIsTold : Type 0
AKilledAccountIsTold = told_alice a_kill_stands_until_the_lift_steps
    ≡ at 2 (accepted_row (codes "A1") (buy_terms 100 10000 99999) 3)
    ∷ at 3 (canceled_row (codes "A1") 100 CancelReason.Supervisory)
    ∷ at 4 (rejected_row (codes "A2") RejectReason.RejectAll)
    ∷ at 6 (accepted_row (codes "A3") (buy_terms 1 10000 99999) 7)
    ∷ []

-- after the lift he is told of new orders, and of nothing that was ended; a token that was used is not answered
abbrev pub ALiftIsTold : Type 0
ALiftIsTold = drop 3 (told_alice a_lift_lets_trade_again_steps)
    ≡ at 8 (rejected_row (codes "A2") RejectReason.RejectAll)
    ∷ at 9 (accepted_row (codes "A3") (buy_terms 1 10000 99999) 18)
    ∷ at 9 (executed_row (codes "A3") 1 10000 Liquidity.Removed 19)
    ∷ []

-- a cancel is told with the shares that went; useless ones are not answered
abbrev pub ACancelIsTold : Type 0
ACancelIsTold = told_alice cancels_lower_the_size_steps
    ≡ at 2 (accepted_row (codes "A1") (buy_terms 100 10000 99999) 4)
    ∷ at 3 (executed_row (codes "A1") 60 10000 Liquidity.Removed 6)
    ∷ at 4 (canceled_row (codes "A1") 40 CancelReason.UserRequested)
    ∷ at 4 (accepted_row (codes "A2") (buy_terms 100 10000 99999) 10)
    ∷ []

-- an order that is cut is told its decrease, and then its fill
abbrev pub ACutIsTold : Type 0
ACutIsTold = drop 2 (told_alice a_cut_order_keeps_its_place_steps)
    ≡ at 3 (canceled_row (codes "A1") 50 CancelReason.UserRequested)
    ∷ at 4 (executed_row (codes "A1") 50 10000 Liquidity.Added 9)
    ∷ at 4 (executed_row (codes "A2") 10 10000 Liquidity.Added 10)
    ∷ []

-- Replaced has the shares that are open, and the order behind it is filled first
abbrev pub AReplaceIsTold : Type 0
AReplaceIsTold = drop 3 (told_alice a_replace_loses_its_place_steps)
    ≡ at 5 (rejected_row (codes "A2") RejectReason.Other)
    ∷ at 5 (Outbound.Replaced (record { token = token (codes "A3"); terms = buy_terms 1 10000 99999; order_reference = 12; previous_token = token (codes "A1") }))
    ∷ at 6 (executed_row (codes "A9") 1 10000 Liquidity.Added 15)
    ∷ []

-- an immediate order is told that it ended
abbrev pub AnExpiryIsTold : Type 0
AnExpiryIsTold = told_alice immediate_orders_expire_steps
    ≡ at 2 (accepted_row (codes "A1") (buy_terms 5 10000 0) 2)
    ∷ at 3 (canceled_row (codes "A1") 5 CancelReason.ImmediateOrCancel)
    ∷ []

-- the end of the day is told to traders, and no order is taken behind it
abbrev pub TheEndOfTheDayIsTold : Type 0
TheEndOfTheDayIsTold = told_alice useless_commands_are_denied_steps
    ≡ at 2 (Outbound.SystemEvent EventCode.EndOfDay)
    ∷ at 3 (rejected_row (codes "A1") RejectReason.Closed)
    ∷ []

-- the sample is a policy that a policy file can say
abbrev pub TheSampleIsSound : Type 0
TheSampleIsSound = is_sound sample ≡ true

-- the audit can show each record of the run
abbrev pub TheSweepIsShowable : Type 0
TheSweepIsShowable = list_all is_showable (run sample a_kill_ends_a_sweep_steps) ≡ true

-- the taker's side of a fill, as a reader of ALFA is told of it: a share bought under A1 at 10000, in match 9
abbrev pub a_copy : DropCopy
a_copy = record {
  executed = record { token = token (codes "A1"); shares = 1; price = 10000; liquidity = Liquidity.Removed; match_number = 9 };
  account = alfa;
  side = 66;
}

-- a drop copy of moment 4, byte for byte
abbrev pub ADropCopyIsWritten : Type 0
ADropCopyIsWritten = drop_copy_bytes 4 a_copy
    ≡ (codes "E" ++ (0 ∷ 0 ∷ 0 ∷ 0 ∷ 0 ∷ 0 ∷ 0 ∷ 4 ∷ []))
    ++ (codes "A1            " ++ (0 ∷ 0 ∷ 0 ∷ 1 ∷ 0 ∷ 0 ∷ 39 ∷ 16 ∷ []))
    ++ (codes "R" ++ (0 ∷ 0 ∷ 0 ∷ 0 ∷ 0 ∷ 0 ∷ 0 ∷ 9 ∷ []))
    ++ codes "ALFA    B"
