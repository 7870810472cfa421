use Rattle.std.proofs.Common.{◌∙◌, ap, sym}
use Rattle.std.specs.List.{list_all}
use Rattle.gx_laws.proofs.Names_differ.{accounts_differ as accounts_apart}
use Rattle.gx_policy.specs.Soundness.{accounts_differ, rules_differ}
use Rattle.gx_rules.specs.{Books.{lists_once, rules_of_entries}}
use Rattle.gx_rules.proofs.{AccountRules_table.table_made, Rules_sound.{few_entries, sound_lists, sound_names}}
use Rattle.gx_rules.proofs.rule_book.RuleBook.new.Goals as goal

pub kept_rules-requires-clause-names_differ : goal.kept_rules-requires-clause-names_differ
kept_rules-requires-clause-names_differ c = ap rules_differ c.rules.ensures.same ∙ sound_names c.args.policy.now c.rules.ensures.sound

pub kept_rules-requires-clause-stocks_differ : goal.kept_rules-requires-clause-stocks_differ
kept_rules-requires-clause-stocks_differ c = ap (list_all lists_once) c.rules.ensures.same ∙ sound_lists c.args.policy.now c.rules.ensures.sound

pub places_by_account-requires : goal.places_by_account-requires
places_by_account-requires c = ap accounts_differ c.accounts.ensures ∙ accounts_apart c.args.policy.now c.rules.ensures.sound

pub invariant_of-result : goal.invariant_of-result
invariant_of-result c =
    record {
      few = few_entries c.args.policy.now c.rules.result.now c.in_ok-rules.rules.entries c.rules.ensures.sound c.rules.ensures.same c.in_ok-rules.ensures;
      places =
          table_made c.rules-2.result.now (rules_of_entries c.in_ok-rules.rules.entries) c.accounts.result.now c.in_ok-by_account.by_account.entries c.in_ok-by_account.ensures
          (c.rules-2.ensures.same ∙ sym c.rules.ensures.same ∙ sym c.in_ok-rules.ensures);
    }
