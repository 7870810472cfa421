use Rattle.std.proofs.Common.{◌∙◌, ◌++◌, ◌∷◌, [], ap}
use Rattle.gx_slab.specs.Slabs.{numbered_of}
use Rattle.gx_orders.proofs.AccountOrders_next.{put_in_vain, put_last}
use Rattle.gx_orders.proofs.numbers.Numbers.push.Goals as goal

pub returns-clause-same : goal.returns-clause-same
returns-clause-same c =
    ap (numbered_of c.args.order.now.account c.args.table.now) c.push_reserved.ensures.items
    ∙ put_in_vain c.args.order.now.account c.args.order.now.number c.args.table.now c.make_room.new.items.items c.requires.last
    ∙ c.make_room.ensures.same
    ∙ ap (numbered_of c.args.order.now.account c.args.table.now) c.self.view_is

pub returns-clause-more : goal.returns-clause-more
returns-clause-more c =
    ap (numbered_of c.args.order.now.account (c.args.table.now ++ c.args.order.now ∷ [])) c.push_reserved.ensures.items
    ∙ put_last c.args.order.now c.args.table.now c.make_room.new.items.items c.requires.last c.in_ok-make_room.ensures.below
    ∙ ap (λ given. given ++ c.args.order.now ∷ []) (c.make_room.ensures.same ∙ ap (numbered_of c.args.order.now.account c.args.table.now) c.self.view_is)
