use Rattle.std.proofs.Common.{◌∙◌, ap, cond, sym, [], List, ℕ}
use Rattle.std.specs.{Prelude.{Option, Some, is_some, unwrap_or}, Map.lookup}
use Rattle.gx_units.specs.Names.{same_account}
use Rattle.gx_units.proofs.Results_hold.{ok_then}
use Rattle.gx_orders.proofs.AccountOrders_next.{lists_more, lists_same}
use Rattle.gx_orders.proofs.numbers.list_number.Goals as goal

pub returns-in-Some-clause-same : goal.returns-in-Some-clause-same
returns-in-Some-clause-same c =
    lists_same c.args.order.now.account c.in-Some.numbers.now c.push.new.self c.args.table.now c.args.lists.now.entries _
    (ap (λ (found : Option (List ℕ)). unwrap_or found []) c.in-Some.ensures.value) c.push.ensures.same
    (λ other. ((c.get_mut_near.follows.holds c.push.new.self).3 (ap is_some (sym c.in-Some.ensures.value))).0 other)

pub returns-in-Some-clause-more : goal.returns-in-Some-clause-more
returns-in-Some-clause-more c =
    ok_then c.push.result
    (λ more. lists_more c.args.order.now c.in-Some.numbers.now c.push.new.self c.args.table.now c.args.lists.now.entries _
    (ap (λ (found : Option (List ℕ)). unwrap_or found []) c.in-Some.ensures.value) more
    (λ other. ((c.get_mut_near.follows.holds c.push.new.self).3 (ap is_some (sym c.in-Some.ensures.value))).0 other))
    c.push.ensures.more

pub returns-clause-same : goal.returns-clause-same
returns-clause-same c =
    lists_same c.args.order.now.account c.new-numbers.result c.push-2.new.self c.args.table.now c.args.lists.now.entries c.insert.new.self.entries
    (c.new-numbers.ensures ∙ ap (λ (found : Option (List ℕ)). unwrap_or found []) c.in_default.ensures.value) c.push-2.ensures.same
    (λ other. c.in_ok-insert.ensures.updates.0 other ∙ ap (λ m. cond (same_account c.args.order.now.account other) (Some c.push-2.new.self) (lookup (same_account other) m.entries)) c.get_mut_near.follows.holds-at-none)

pub returns-clause-more : goal.returns-clause-more
returns-clause-more c =
    lists_more c.args.order.now c.new-numbers.result c.push-2.new.self c.args.table.now c.args.lists.now.entries c.insert.new.self.entries
    (c.new-numbers.ensures ∙ ap (λ (found : Option (List ℕ)). unwrap_or found []) c.in_default.ensures.value) c.in_ok-push.ensures.more
    (λ other. c.in_ok-insert.ensures.updates.0 other ∙ ap (λ m. cond (same_account c.args.order.now.account other) (Some c.push-2.new.self) (lookup (same_account other) m.entries)) c.get_mut_near.follows.holds-at-none)
