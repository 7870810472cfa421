use Rattle.gx_policy.specs.Kinds.{with_stocks}
use Rattle.std.proofs.{Common.{◌≤◌, ◌∙◌, ap, sym, map, subst}, lemmas.Result.{on_err_weaker, on_ok_weaker}}
use Rattle.gx_history.specs.InForce.{with_stock, change_rule}
use Rattle.indexmap.proofs.CallerLemmas.{index_map_len-with_value_at}
use Rattle.gx_rules.proofs.{AccountRules_table.table_kept, Rules_table.{changed_at, changed_nowhere, same_at}}
use Rattle.gx_rules.proofs.rule_book.RuleBook.restrict.Goals as goal

pub returns-in-Some-clause-restricted : goal.returns-in-Some-clause-restricted
returns-in-Some-clause-restricted c =
    on_ok_weaker c.restrict.result
    (λ kind. changed_at c.args.rule (with_stocks (with_stock c.args.stock)) c.self.inside.rules.entries c.in-Some.index c.index_mut.result.now c.restrict.new.self c.in-Some.ensures.unique (sym c.in-Some.ensures.index) c.index_mut.ensures.value kind c.restrict.ensures.scope
    ∙ ap (map (change_rule c.args.rule (with_stocks (with_stock c.args.stock)))) c.self.view_is)
    c.restrict.ensures.kind

pub returns-in-Some-clause-refused : goal.returns-in-Some-clause-refused
returns-in-Some-clause-refused c =
    on_err_weaker c.restrict.result
    (λ kind. same_at c.self.inside.rules.entries c.in-Some.index c.index_mut.result.now c.restrict.new.self c.index_mut.ensures.value kind c.restrict.ensures.scope ∙ c.self.view_is)
    c.restrict.ensures.refused

pub returns-in-None-clause-restricted : goal.returns-in-None-clause-restricted
returns-in-None-clause-restricted c =
    sym c.self.view_is
    ∙ changed_nowhere c.args.rule (with_stocks (with_stock c.args.stock)) c.self.inside.rules.entries (sym c.in-None.ensures.found)
    ∙ ap (map (change_rule c.args.rule (with_stocks (with_stock c.args.stock)))) c.self.view_is

pub invariant_of-self : goal.invariant_of-self
invariant_of-self c =
    record {
      few = subst (λ n. n ≤ 128) (sym (index_map_len-with_value_at c.self.inside.rules c.in-Some.index c.restrict.new.self)) c.self.invariant.few;
      places = table_kept c.self.inside.by_account.entries c.self.inside.rules.entries c.in-Some.index c.index_mut.result.now c.restrict.new.self c.index_mut.ensures.value c.restrict.ensures.scope c.self.invariant.places;
    }
