-- Lines that wait to be written.
use Rattle.std.specs.Prelude.{ℕ, ◌+◌, ◌-◌, ◌^◌, ◌==◌, min, if◌then◌else◌, List, [], ◌++◌, codes, decimal}

-- the bytes of lines, one behind the other, and how many lines were left out
pub record QueueData : Type 0 where
  pub text : List ℕ
  pub left_out : ℕ

-- so many bytes wait at most
abbrev pub log_room : ℕ
log_room = 16384

-- one more, as far as the count goes
abbrev pub one_more_line : ℕ → ℕ
one_more_line count = min (count + 1) (2 ^ 64 - 1)

-- the line that tells of so many that were left out
abbrev pub left_out_line : ℕ → List ℕ
left_out_line count = if count == 0 then [] else codes "gate: " ++ decimal count ++ codes " lines were left out: standard error was not read in time\n"

-- what is written: the lines, and behind them how many were left out
abbrev pub queue_text : QueueData → List ℕ
queue_text queue = queue.text ++ left_out_line queue.left_out
