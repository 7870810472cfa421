use Rattle.gx_audit.proofs.endings.order_ends_of.Goals as goal

pub look_on-requires : goal.look_on-requires
look_on-requires g c = record { saw = c.new-watch.ensures.none c.args.policy.now }
