use Rattle.std.proofs.Common.{◌∙◌, ap}
use Rattle.gx_history.specs.{Rules.first_forbidding, Verdicts.verdict_by}
use Rattle.gx_decide.proofs.Rules_figures.{asker_known, none_asked, some_asked}
use Rattle.gx_decide.proofs.judging.judged.Goals as goal

pub returns-in_default : goal.returns-in_default
returns-in_default c =
    let q = c.args.a.now.request in
    let facts = c.args.facts.now in
    record {
      judged = λ policy held stands sound same known.
          c.verdict_by.ensures
          ∙ ap verdict_by (c.first_forbidding.ensures.first ∙ ap (λ asked. first_forbidding asked facts q) (none_asked policy held q facts c.args.rules.now c.in_default.is));
    }

pub returns : goal.returns
returns c =
    let q = c.args.a.now.request in
    let facts = c.args.facts.now in
    record {
      judged = λ policy held stands sound same known.
          c.verdict_by-2.ensures
          ∙ ap verdict_by
          (c.first_forbidding-2.ensures.first
          ∙ ap (λ asked. first_forbidding asked facts q)
          (some_asked policy held q facts c.args.rules.now c.in-Some.account _ c.in-Some.is
          (c.after-figures.ensures.figures policy held stands sound (asker_known policy facts c.in-Some.account c.in-Some.is known)) same));
    }
