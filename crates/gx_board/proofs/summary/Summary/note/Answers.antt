use Rattle.std.proofs.Common.{◌∙◌, refl, sym}
use Rattle.std.specs.Prelude.{option_copied, slice_get}
use Rattle.gx_board.proofs.Record_call.{numbers_noted}
use Rattle.gx_board.proofs.summary.Summary.note.Goals as goal

pub returns-else-is_kept : goal.returns-else-is_kept
returns-else-is_kept c =
    record {
      noted = numbers_noted (slice_get c.args.more.now c.args.place) c.kind_at-kind.result (option_copied c.asked_at-asked.result) c.with_parts-counts.result c.args.self.now _
          c.kind_at-kind.ensures c.asked_at-asked.ensures c.with_parts-counts.ensures (sym c.is_kept.ensures ∙ c.if-is_kept.false) refl;
    }
