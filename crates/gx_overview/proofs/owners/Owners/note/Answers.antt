use Rattle.std.proofs.Common.{subst, sym}
use Rattle.std.specs.Prelude.{OnOk}
use Rattle.gx_history.specs.Orders.{orders_made}
use Rattle.gx_overview.specs.Owning.{Learn}
use Rattle.gx_overview.proofs.owners.Owners.note.Goals as goal

pub returns-in-Replace : goal.returns-in-Replace
returns-in-Replace c = record {
  noted =
      subst (λ q. OnOk c.note_replacing.result (Learn c.args.self.now c.note_replacing.new.self (λ known. orders_made c.args.policy.now known c.args.shown.now c.args.asked.now.user q))) (sym c.in-Replace.is)
      (c.note_replacing.ensures.noted c.args.policy.now);
}
