use Rattle.gx_laws.proofs.Books_uncrossed.{never_crossed}
use Rattle.gx_laws.proofs.effects.books_are_never_crossed.Goals as goal

pub returns : goal.returns
returns c = never_crossed
