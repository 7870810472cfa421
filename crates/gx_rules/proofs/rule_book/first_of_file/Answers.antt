use Rattle.std.proofs.Common.{◌∙◌, ap, sym, option_copied}
use Rattle.gx_rules.specs.{Books.rules_of_entries, Places.places_covering}
use Rattle.gx_rules.proofs.AccountRules_table.{first_of_his, no_account, no_order, placed}
use Rattle.gx_rules.proofs.rule_book.first_of_file.Goals as goal

pub returns-in_default : goal.returns-in_default
returns-in_default g c = no_account (g.F.TellsFigures.told c.args.figures.now) (rules_of_entries c.args.rules.now.entries) c.args.facts.now c.args.request.now c.in_default.is

pub returns-in_default-proposed : goal.returns-in_default-proposed
returns-in_default-proposed g c = no_order (g.F.TellsFigures.told c.args.figures.now) (rules_of_entries c.args.rules.now.entries) c.args.facts.now c.args.request.now (sym c.in_default-proposed.ensures)

pub returns-in-Some-places_under : goal.returns-in-Some-places_under
returns-in-Some-places_under g c =
    c.first_at.ensures
    ∙ first_of_his (g.F.TellsFigures.told c.args.figures.now) c.args.rules.now.entries c.args.facts.now c.args.request.now c.in-Some.account c.in-Some-proposed.w c.in-Some.is (sym c.in-Some-proposed.ensures)
    c.as_slice.result.now
    (c.as_slice.ensures
    ∙ placed (places_covering (rules_of_entries c.args.rules.now.entries)) c.in-Some.account c.in-Some-places_under.places.now c.args.by_account.now.entries c.requires.tied.places
    (sym (ap option_copied (sym c.in-Some-places_under.is) ∙ c.places_under.ensures)))
