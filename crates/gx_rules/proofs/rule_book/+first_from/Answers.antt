use Rattle.std.proofs.Common.{refl}
use Rattle.gx_rules.proofs.RuleOrder_parts.{goes_on, stops_here}
use Rattle.gx_rules.proofs.rule_book.+first_from.Goals as goal

pub returns-then-forbids : goal.returns-then-forbids
returns-then-forbids g t c =
    stops_here (g.F.TellsFigures.told c.args.figures.now) c.args.place c.in-Some.name.now c.in-Some.rule.now c.in-Some.entries_left c.args.entries c.args.facts.now c.args.request.now
    c.in-Some.ensures.parts (g.F.TellsFigures.told c.args.figures.now c.args.place) refl c.forbids.result c.forbids.ensures c.if-forbids.true

pub returns : goal.returns
returns g t c =
    goes_on (g.F.TellsFigures.told c.args.figures.now) c.args.place c.in-Some.name.now c.in-Some.rule.now c.in-Some.entries_left c.args.entries c.args.facts.now c.args.request.now
    c.in-Some.ensures.parts (g.F.TellsFigures.told c.args.figures.now c.args.place) refl c.forbids.result c.forbids.ensures c.if-forbids.false c.first_from.result c.first_from.ensures
