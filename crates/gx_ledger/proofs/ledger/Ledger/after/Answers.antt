use Rattle.std.proofs.Common.{◌∙◌, ap, sym, subst}
use Rattle.gx_ledger.specs.{Keeping.LedgerData, StandsFor.GivesFigures}
use Rattle.gx_ledger.proofs.Figures_given.{figures_answer}
use Rattle.gx_ledger.proofs.ledger.Ledger.after.Goals as goal

pub returns : goal.returns
returns c =
    record {
      figures =
          subst (λ asked. GivesFigures c.args.self.now c.args.account c.args.request.now c.args.replaced c.args.moment asked)
          (λ i. record {
            tallies = sym (c.deref.ensures.value ∙ ap (λ (k : LedgerData). k.tallies) c.self.view_is) i;
            wanted = record {
              place = sym c.place.ensures i;
              entered = sym c.asked_as.ensures i;
              replaced_shares = sym c.open_of.ensures i;
              replaced_value = sym c.open_value_of.ensures i;
              side = sym c.side_of.ensures i;
              near = c.args.near.stock;
              reference = sym c.reference.ensures i;
              moment = c.args.moment;
            };
          })
          (figures_answer c.args.self.now c.args.account c.args.request.now c.args.replaced c.args.moment c.args.near.stock);
    }
