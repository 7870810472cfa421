use Rattle.std.proofs.Common.{ap, sym, ◌∙◌}
use Rattle.gx_terminal.specs.Cursor.{Left}
use Rattle.gx_terminal.proofs.Words_cut.{word_found, word_last}
use Rattle.gx_terminal.proofs.words.LineWords.next.Goals as goal

pub returns-in-Some-clause-first : goal.returns-in-Some-clause-first
returns-in-Some-clause-first c =
    sym (ap (λ (left : Left). left.words) c.self.view_is) ∙ (sym c.behind_spaces-text.ensures.words ∙ word_found c.behind_spaces-text.result.now c.in-Some.end c.in-Some.ensures c.behind_spaces-text.ensures.first)

pub returns-in-None-clause-first : goal.returns-in-None-clause-first
returns-in-None-clause-first c =
    sym (ap (λ (left : Left). left.words) c.self.view_is) ∙ (sym c.behind_spaces-text.ensures.words ∙ word_last c.behind_spaces-text.result.now c.in-None.ensures (sym c.is_empty.ensures ∙ c.if-is_empty.false))
