-- What is told of a limit that is typed, each a line of its own.
use Rattle.std.specs.Prelude.{ℕ, ◌*◌, List, ◌++◌, codes, decimal}
use Rattle.gx_money.specs.Amounts.{dollars_text}
use Rattle.gx_script_text.specs.Printing.{line_end}
use Rattle.gx_text.specs.Shown.{shown_name}
use Rattle.gx_lines.specs.AnswerLines.{change_text}

-- of a number: what it comes to in dollars, and in their ten-thousandths
unfoldable pub meanings_line : List ℕ → ℕ → List ℕ
meanings_line rule number =
    codes "gate: limit " ++ shown_name rule ++ codes " " ++ decimal number ++ codes ": " ++ dollars_text (number * 10000) ++ codes " or "
    ++ dollars_text number ++ codes "? write one of them" ++ line_end

-- of an amount of money, where the rule counts something else
unfoldable pub no_money_line : List ℕ → List ℕ → List ℕ
no_money_line rule counted =
    codes "gate: " ++ shown_name rule ++ codes " counts " ++ counted ++ codes ": its limit is no amount of money" ++ line_end

-- of a limit that is far below the one before
unfoldable pub question_line : List ℕ → ℕ → ℕ → List ℕ
question_line rule before limit =
    codes "gate: " ++ shown_name rule ++ codes " " ++ change_text before limit ++ codes ": under a tenth. Type yes to send it" ++ line_end
