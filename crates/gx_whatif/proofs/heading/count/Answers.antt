use Rattle.std.proofs.Common.{◌∙◌, ap, Bool}
use Rattle.indexmap.specs.IndexMap.{insert_entry}
use Rattle.gx_whatif.specs.{declared.heading.{Heading.Heading}, Counting.heading_once_more}
use Rattle.gx_whatif.proofs.Counts_next.{same_tests}
use Rattle.gx_whatif.proofs.heading.count.Goals as goal

pub returns : goal.returns
returns c = record {
  counted =
      c.in_ok-insert.ensures.entries
      ∙ ap (λ (test : Heading → Heading → Bool). insert_entry test c.args.table.now.entries c.args.heading c.once_more.result) same_tests
      ∙ ap (insert_entry _ c.args.table.now.entries c.args.heading) (c.once_more.ensures ∙ ap heading_once_more c.row_of-row.ensures);
}
