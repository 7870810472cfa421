use Rattle.std.proofs.Common.{◌∙◌, ap, sym, subst}
use Rattle.std.specs.Prelude.{option_and_then, slice_get}
use Rattle.gx_ledger.specs.{declared.tally.Tally.Tally, Keeping.LedgerData, Standing.{GivesNet, tally_net}}
use Rattle.gx_ledger.proofs.Sums_given.{net_answer}
use Rattle.gx_ledger.proofs.ledger.Ledger.net.Goals as goal

pub returns : goal.returns
returns c =
    record {
      net =
          subst (GivesNet c.args.self.now c.args.rule c.args.account c.args.side)
          (sym (c.net_at.ensures
          ∙ (λ i. option_and_then (λ (t : Tally). tally_net t c.args.account (c.place.ensures i) c.args.side) (slice_get ((c.deref.ensures.value ∙ ap (λ (k : LedgerData). k.tallies) c.self.view_is) i) c.args.rule))))
          (net_answer c.args.self.now c.args.rule c.args.account c.args.side);
    }
