use Rattle.std.proofs.{Common.{◌∙◌, ap, not, filter, rules}, lemmas.Fn.filter_same}
use Rattle.gx_units.specs.Names.{same_account}
use Rattle.gx_people.proofs.accounts.ReaderAccounts.remove.Goals as goal

pub returns : goal.returns
returns c = filter_same _ _ _ (λ x b f' k. search rules) _ _ c.retain.ensures.filtered ∙ ap (filter (λ name. not (same_account name c.args.account))) c.self.view_is
