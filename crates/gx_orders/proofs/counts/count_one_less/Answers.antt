use Rattle.std.proofs.Common.{ap, sym}
use Rattle.std.specs.Prelude.{is_some}
use Rattle.gx_orders.proofs.Counts_next.{none_less, one_less}
use Rattle.gx_orders.proofs.counts.count_one_less.Goals as goal

-- none is counted
pub returns-in_default : goal.returns-in_default
returns-in_default c = none_less c.args.user c.args.counts.now.entries _ c.in_default.ensures.value (ap (λ m. m.entries) c.get_mut_near.follows.holds-at-none)

pub returns : goal.returns
returns c =
    one_less c.args.user _ c.saturating_sub.result c.args.counts.now.entries _ (sym c.in-Some.ensures.value) c.saturating_sub.ensures
    (λ other. ((c.get_mut_near.follows.holds c.saturating_sub.result).3 (ap is_some (sym c.in-Some.ensures.value))).0 other)
