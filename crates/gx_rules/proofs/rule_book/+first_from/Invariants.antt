use Rattle.std.proofs.Common.{length}
use Rattle.gx_rules.proofs.rule_book.+first_from.Given as goal

abbrev pub decreases-first_from : goal.decreases-first_from
decreases-first_from g l = length l.entries
