use Rattle.gx_terminal.proofs.Accounts_read.{one_more, none_left}
use Rattle.gx_terminal.proofs.accounts.accounts_in.Goals as goal

pub loop-word-preserved : goal.loop-word-preserved
loop-word-preserved c =
    one_more c.loop-word.words.words c.next.new.self.words c.in-Some.word.now _ _ _ c.in-Some.ensures.first c.in_ok-push_account.ensures c.loop-word.invariant

pub returns : goal.returns
returns c = none_left c.loop-word.words.words _ _ c.in_default.ensures.first c.loop-word.invariant
