use Rattle.gx_policy.specs.Kinds.{with_limit}
use Rattle.std.proofs.Common.{◌≤◌, ◌∙◌, ap, sym, map, subst}
use Rattle.gx_history.specs.InForce.{change_rule}
use Rattle.indexmap.proofs.CallerLemmas.{index_map_len-with_value_at}
use Rattle.gx_rules.proofs.{AccountRules_table.table_kept, Rules_table.{changed_at, changed_nowhere}}
use Rattle.gx_rules.proofs.rule_book.RuleBook.set_limit.Goals as goal

pub returns-in-Some : goal.returns-in-Some
returns-in-Some c =
    let there = changed_at c.args.rule (with_limit c.args.value) c.self.inside.rules.entries c.in-Some.index c.index_mut.result.now c.set_limit.new.self c.in-Some.ensures.unique (sym c.in-Some.ensures.index) c.index_mut.ensures.value c.set_limit.ensures.kind c.set_limit.ensures.scope in
    record { limited = there ∙ ap (map (change_rule c.args.rule (with_limit c.args.value))) c.self.view_is }

pub returns-in_default : goal.returns-in_default
returns-in_default c =
    let nowhere = changed_nowhere c.args.rule (with_limit c.args.value) c.self.inside.rules.entries (sym c.in_default.ensures.found) in
    record { limited = sym c.self.view_is ∙ nowhere ∙ ap (map (change_rule c.args.rule (with_limit c.args.value))) c.self.view_is }

pub invariant_of-self : goal.invariant_of-self
invariant_of-self c =
    record {
      few = subst (λ n. n ≤ 128) (sym (index_map_len-with_value_at c.self.inside.rules c.in-Some.index c.set_limit.new.self)) c.self.invariant.few;
      places = table_kept c.self.inside.by_account.entries c.self.inside.rules.entries c.in-Some.index c.index_mut.result.now c.set_limit.new.self c.index_mut.ensures.value c.set_limit.ensures.scope c.self.invariant.places;
    }
