use Rattle.std.proofs.Common.{◌∙◌, sym}
use Rattle.std.specs.Map.{lookup}
use Rattle.indexmap.proofs.CallerLemmas.{insert_entry-new}
use Rattle.gx_warnings.specs.Marks.{same_mark}
use Rattle.gx_warnings.proofs.Table_next.{none_found, put_last}
use Rattle.gx_warnings.proofs.table.WarningTable.note.Goals as goal

pub returns : goal.returns
returns c = record {
  noted =
      put_last c.args.self.now.entries.entries c.insert.new.self.entries c.args.mark c.args.warning c.is_due.result c.is_kept.result c.is_due.ensures c.is_kept.ensures c.if-not-is_due.false c.if-is_kept.false
      (c.in_ok-insert.ensures.entries
      ∙ insert_entry-new same_mark c.args.self.now.entries c.args.mark c.args.warning
      (none_found (lookup (same_mark c.args.mark) c.args.self.now.entries.entries) (sym c.is_kept.ensures ∙ c.if-is_kept.false)));
}
