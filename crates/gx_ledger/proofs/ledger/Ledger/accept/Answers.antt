use Rattle.std.proofs.Common.{sym, subst}
use Rattle.gx_ledger.specs.StandsFor.{Accepts}
use Rattle.gx_ledger.proofs.Ledger_next.{accept_carries}
use Rattle.gx_ledger.proofs.ledger.Ledger.accept.Goals as goal

pub returns : goal.returns
returns c =
    record {
      accepted =
          subst (λ k. Accepts c.args.order.now c.args.moment c.args.replacement c.args.self.now k) (sym c.note.ensures)
          (accept_carries c.args.order.now c.args.moment c.args.replacement c.args.self.now);
    }
