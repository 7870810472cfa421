use Rattle.std.proofs.Common.{rules, ◌≡◌, ◌∙◌, ℕ, ap, max, nat_cmp}
use Rattle.std.specs.Ordering.{ord_max}
use Rattle.gx_pass.specs.Views.{line_in}
use Rattle.gx_overview.proofs.Pass_next.{most_of_one_more}
use Rattle.gx_overview.proofs.day.highest_line.Goals as goal

ord_is_max : (a b : ℕ) → ord_max nat_cmp a b ≡ max a b
ord_is_max a b = search rules

pub loop-place-preserved : goal.loop-place-preserved
loop-place-preserved c =
    c.max-highest.ensures
    ∙ ord_is_max c.loop-place.highest c.line_in.result
    ∙ (λ i. max (c.loop-place.invariant i) ((c.line_in.ensures ∙ ap line_in c.content.ensures.same) i))
    ∙ most_of_one_more line_in c.args.records.now c.loop-place.place c.at.result c.at.ensures
