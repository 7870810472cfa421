use Rattle.std.proofs.Common.{◌∙◌, ap, sym, subst}
use Rattle.gx_ledger.specs.{Keeping.{data_after, leaves}, StandsFor.Closes}
use Rattle.gx_ledger.proofs.Ledger_next.{close_carries}
use Rattle.gx_ledger.proofs.ledger.Ledger.close.Goals as goal

pub returns : goal.returns
returns c =
    record {
      closed =
          subst (λ k. Closes c.args.order.now c.args.self.now k)
          (sym (c.note.ensures ∙ ap (λ shares. data_after (leaves c.args.order.now shares) c.args.self.now) c.open.ensures))
          (close_carries c.args.order.now c.args.self.now);
    }
