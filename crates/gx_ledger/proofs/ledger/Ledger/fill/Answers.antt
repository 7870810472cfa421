use Rattle.std.proofs.Common.{◌∙◌, ap, sym, subst}
use Rattle.gx_ledger.specs.{Keeping.{is_filled, data_after, with_price}, StandsFor.Fills}
use Rattle.gx_ledger.proofs.Fills_counted.{fill_carries}
use Rattle.gx_ledger.proofs.ledger.Ledger.fill.Goals as goal

pub returns : goal.returns
returns c =
    let taker = c.args.taker.now in
    let maker = c.args.maker.now in
    record {
      filled =
          subst (λ k. Fills taker maker c.args.shares c.args.price c.args.self.now k)
          (sym (c.set_price.ensures
          ∙ ap (with_price maker.terms.stock c.args.price) (c.note-2.ensures ∙ ap (data_after (is_filled maker c.args.shares c.args.price)) c.note.ensures)))
          (fill_carries taker maker c.args.shares c.args.price c.args.self.now);
    }
