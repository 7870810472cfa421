use Rattle.gx_lines.proofs.{AnswerLines_plain.{answers_are_one_line, earlier_answers_are_one_line}, OrderLines_plain.{orders_are_one_line, copies_are_one_line}}
use Rattle.gx_lines.proofs.laws.lines_are_whole.Goals as goal

pub returns-clause-answers : goal.returns-clause-answers
returns-clause-answers c = answers_are_one_line c.shown_bytes_are_visible.ensures.text c.shown_bytes_are_visible.ensures.json

pub returns-clause-earlier_answers : goal.returns-clause-earlier_answers
returns-clause-earlier_answers c = earlier_answers_are_one_line c.shown_bytes_are_visible.ensures.text c.shown_bytes_are_visible.ensures.json

pub returns-clause-orders : goal.returns-clause-orders
returns-clause-orders c = orders_are_one_line c.shown_bytes_are_visible.ensures.text c.shown_bytes_are_visible.ensures.json

pub returns-clause-copies : goal.returns-clause-copies
returns-clause-copies c = copies_are_one_line c.shown_bytes_are_visible.ensures.text c.shown_bytes_are_visible.ensures.json
