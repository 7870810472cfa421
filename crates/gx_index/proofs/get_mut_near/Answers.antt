use Rattle.std.proofs.Common.{refl, sym, ◌∙◌}
use Rattle.gx_index.proofs.Keys_only.{nothing_found, writes_nothing, writes_through}
use Rattle.gx_index.proofs.get_mut_near.Goals as goal

pub returns-in-Some : goal.returns-in-Some
returns-in-Some g c =
    let found = c.in-Some.ensures in (
      (refl, writes_through g.met.K.Eq.laws c.args.map.now c.args.key c.in-Some.index c.index_mut.result.now found.unique (sym found.index) (sym found.value ∙ c.index_mut.ensures.value), refl),
      record { writes_back = tt; value = sym c.index_mut.ensures.value ∙ found.value; unique = found.unique },
    )

pub returns-in-None : goal.returns-in-None
returns-in-None g c =
    let none = c.in-None.ensures in (
      (refl, writes_nothing g.met.K.Eq.laws c.args.map.now c.args.key none.unique (sym none.index), refl),
      record { writes_back = tt; value = nothing_found g.met.K.Eq.laws c.args.map.now c.args.key (sym none.index); unique = none.unique },
    )
