use Rattle.std.proofs.Common.{◌∙◌, ap, sym, subst}
use Rattle.std.specs.Prelude.{option_and_then, slice_get}
use Rattle.gx_ledger.specs.{declared.tally.Tally.Tally, Keeping.LedgerData, Standing.{GivesGross, tally_gross}}
use Rattle.gx_ledger.proofs.Sums_given.{gross_answer}
use Rattle.gx_ledger.proofs.ledger.Ledger.gross.Goals as goal

pub returns : goal.returns
returns c =
    record {
      gross =
          subst (GivesGross c.args.self.now c.args.rule c.args.account)
          (sym (c.gross_at.ensures
          ∙ (λ i. option_and_then (λ (t : Tally). tally_gross t c.args.account (c.place.ensures i)) (slice_get ((c.deref.ensures.value ∙ ap (λ (k : LedgerData). k.tallies) c.self.view_is) i) c.args.rule))))
          (gross_answer c.args.self.now c.args.rule c.args.account);
    }
