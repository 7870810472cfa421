use Rattle.std.proofs.Common.{sym, subst}
use Rattle.gx_ledger.specs.StandsFor.{Cuts}
use Rattle.gx_ledger.proofs.Ledger_next.{cut_carries}
use Rattle.gx_ledger.proofs.ledger.Ledger.cut.Goals as goal

pub returns : goal.returns
returns c =
    record {
      cut =
          subst (λ k. Cuts c.args.order.now c.args.shares c.args.self.now k) (sym c.note.ensures)
          (cut_carries c.args.order.now c.args.shares c.args.self.now);
    }
