use Rattle.std.proofs.{Common.{rules, ◌∙◌, subst, sym}, lemmas.Fn.filter_same}
use Rattle.gx_slab.specs.Slabs.{CanBePlaced, is_open}
use Rattle.gx_slab.proofs.EndedOrders_swept.{can_be_placed}
use Rattle.gx_slab.proofs.places.sweep.Goals as goal

pub note_all-requires : goal.note_all-requires
note_all-requires c =
    subst (CanBePlaced c.args.places.now.items) (sym (c.deref.ensures.value ∙ filter_same _ is_open _ (λ x b f' t. search rules) _ _ c.retain.ensures.filtered))
    (can_be_placed c.args.places.now.items c.args.rows.now.items c.requires)

pub returns-clause-left : goal.returns-clause-left
returns-clause-left c = filter_same _ is_open _ (λ x b f' t. search rules) _ _ c.retain.ensures.filtered
