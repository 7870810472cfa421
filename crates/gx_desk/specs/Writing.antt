-- The bytes of an answer and of a drop copy. Numbers are unsigned, the highest byte first.
use Rattle.std.specs.{Prelude.{ℕ, List, [], ◌∷◌, ◌++◌, codes}, Int.{w64, to_be_bytes}}
use Rattle.gx_ouch.specs.{declared.outbound.Outbound.Outbound, Layout.laid_out, Writing.{letter, outbound_contents}}
use Rattle.gx_desk.specs.{declared.{Answer.Answer, AnswerCode.AnswerCode, DropCopy.DropCopy}, Messages.{answer, drop_copy}}

-- the code of an answer
abbrev pub answer_code : AnswerCode → List ℕ
answer_code AnswerCode.Done = codes "OK"
answer_code AnswerCode.PartlyLifted = codes "PL"
answer_code AnswerCode.UnknownName = codes "Q1"
answer_code AnswerCode.NoPower = codes "Q2"
answer_code AnswerCode.NotHisAccount = codes "Q3"
answer_code AnswerCode.NoChange = codes "Q4"

-- the fields of an answer of this moment
abbrev pub answer_contents : ℕ → Answer → List (List ℕ)
answer_contents timestamp a =
    to_be_bytes w64 timestamp ∷
    a.tag.bytes ∷
    letter a.command_type ∷
    answer_code a.code ∷
    to_be_bytes w64 a.record_number ∷
    []

-- the bytes of an answer of this moment
unfoldable pub answer_bytes : ℕ → Answer → List ℕ
answer_bytes timestamp a = laid_out answer (answer_contents timestamp a)

-- the fields of a drop copy of this moment
abbrev pub drop_copy_contents : ℕ → DropCopy → List (List ℕ)
drop_copy_contents timestamp d =
    outbound_contents timestamp (Outbound.Executed d.executed) ++ d.account.bytes ∷ letter d.side ∷ []

-- the bytes of a drop copy of this moment
unfoldable pub drop_copy_bytes : ℕ → DropCopy → List ℕ
drop_copy_bytes timestamp d = laid_out drop_copy (drop_copy_contents timestamp d)
