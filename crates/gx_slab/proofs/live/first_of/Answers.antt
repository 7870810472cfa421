use Rattle.std.proofs.Common.{◌≡◌, ◌∙◌, sym}
use Rattle.std.specs.Prelude.{MatchOption, Option, Some, None}
use Rattle.gx_slab.proofs.Rows_walk.{none_open, skipped_to}
use Rattle.gx_slab.specs.Slabs.{is_open}
use Rattle.gx_slab.proofs.live.first_of.Goals as goal

nothing : {X : Type 0} (found : Option X) (P : Type 0) (Q : X → Type 0) → found ≡ None → P → MatchOption found P Q
nothing None P Q e p = p
nothing (Some x) P Q e p = let never : Some x ≡ None = e in let wrong : ⊥ = cc in elim wrong [ ]

pub returns-in_err-i : goal.returns-in_err-i
returns-in_err-i c = nothing _ _ _ c.from_residual.ensures (none_open is_open c.args.rows.now (sym c.first_open.ensures ∙ c.in_err-i.was))

pub returns : goal.returns
returns c = skipped_to is_open c.args.rows.now c.in_ok-i.i _ (sym c.first_open.ensures ∙ c.in_ok-i.was)
