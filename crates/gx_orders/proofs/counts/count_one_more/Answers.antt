use Rattle.std.proofs.Common.{◌+◌, ◌∙◌, ap, cond, sym, ℕ}
use Rattle.std.specs.{Prelude.{Option, Some, is_some, unwrap_or}, Map.lookup}
use Rattle.gx_units.specs.Names.{same_user}
use Rattle.gx_orders.proofs.Counts_next.{one_more}
use Rattle.gx_orders.proofs.counts.count_one_more.Goals as goal

pub returns-in-Some-clause-more : goal.returns-in-Some-clause-more
returns-in-Some-clause-more c =
    one_more c.args.user c.in-Some.count.now c.args.counts.now.entries _ (ap (λ (found : Option ℕ). unwrap_or found 0) c.in-Some.ensures.value)
    (λ other. ((c.get_mut_near.follows.holds (c.in-Some.count.now + 1)).3 (ap is_some (sym c.in-Some.ensures.value))).0 other)

-- none was counted
pub returns-clause-more : goal.returns-clause-more
returns-clause-more c =
    one_more c.args.user 0 c.args.counts.now.entries c.insert.new.self.entries (ap (λ (found : Option ℕ). unwrap_or found 0) c.in_default.ensures.value)
    (λ other. c.in_ok-insert.ensures.updates.0 other ∙ ap (λ m. cond (same_user c.args.user other) (Some 1) (lookup (same_user other) m.entries)) c.get_mut_near.follows.holds-at-none)
