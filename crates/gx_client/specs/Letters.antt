-- The codes that letters stand for.
use Rattle.std.specs.Prelude.{ℕ, ◌==◌, List, Option, find, bytes_eq}
use Rattle.gx_ouch.specs.{declared.letters.{EventCode.EventCode, Liquidity.Liquidity, CancelReason.CancelReason, RejectReason.RejectReason}, Letters.{event_letter, liquidity_letter, cancel_letter, reject_letter}}
use Rattle.gx_desk.specs.{declared.AnswerCode.AnswerCode, Writing.answer_code}
use Rattle.gx_client.specs.declared.letters.TheConstants.{EVENT_CODES, LIQUIDITY_FLAGS, CANCEL_REASONS, REJECT_REASONS, ANSWER_CODES}

-- the code that has this letter
abbrev pub event_in : ℕ → Option EventCode
event_in letter = find (λ code. event_letter code == letter) EVENT_CODES

abbrev pub liquidity_in : ℕ → Option Liquidity
liquidity_in letter = find (λ flag. liquidity_letter flag == letter) LIQUIDITY_FLAGS

abbrev pub cancel_reason_in : ℕ → Option CancelReason
cancel_reason_in letter = find (λ reason. cancel_letter reason == letter) CANCEL_REASONS

abbrev pub reject_reason_in : ℕ → Option RejectReason
reject_reason_in letter = find (λ reason. reject_letter reason == letter) REJECT_REASONS

-- the code that has these two bytes
abbrev pub answer_code_in : List ℕ → Option AnswerCode
answer_code_in field = find (λ code. bytes_eq (answer_code code) field) ANSWER_CODES
