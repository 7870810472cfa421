use Rattle.std.proofs.Common.{sym, ◌∙◌}
use Rattle.gx_terminal.proofs.Accounts_read.{goes_on, stops, ends}
use Rattle.gx_terminal.proofs.reading.with_more.Goals as goal

pub loop-word-preserved : goal.loop-word-preserved
loop-word-preserved c =
    sym (goes_on c.loop-word.wish c.loop-word.words.taken c.next.new.self.taken c.loop-word.words.words c.next.new.self.words c.in-Some.word.now
    c.in-Some.ensures.first c.in-Some.ensures.taken (sym c.is_account.ensures ∙ c.if-not-is_account.false))
    ∙ c.loop-word.invariant

pub returns-then-not-is_account : goal.returns-then-not-is_account
returns-then-not-is_account c =
    stops c.loop-word.wish c.loop-word.words.taken c.next.new.self.taken _ c.loop-word.words.words c.next.new.self.words c.in-Some.word.now
    c.in-Some.ensures.first c.in-Some.ensures.taken c.taken.ensures.exact (sym c.is_account.ensures ∙ c.if-not-is_account.true)
    ∙ c.loop-word.invariant

pub returns : goal.returns
returns c = sym (ends c.loop-word.wish c.loop-word.words.taken c.loop-word.words.words c.in_default.ensures.first) ∙ c.loop-word.invariant
