use Rattle.std.proofs.Common.{List, ◌∙◌, ap}
use Rattle.gx_policy.specs.Lists.{slice}
use Rattle.gx_streams.specs.{declared.{stored_report.StoredReport.StoredReport, slot.Slot.Slot}, Slots.{DetailLists, entries_in, entry_in, lists_of}}
use Rattle.gx_streams.proofs.Slots_table.{mapped_slice}
use Rattle.gx_streams.proofs.entries.Entries.slice.Goals as goal

pub returns : goal.returns
returns c =
    let lists : DetailLists = lists_of c.self.inside.lists in
    ap (λ (slots : List Slot). entries_in lists slots) c.slice.ensures
    ∙ mapped_slice (entry_in lists) c.self.inside.slots.now c.args.from c.args.most
    ∙ ap (λ (l : List StoredReport). slice l c.args.from c.args.most) c.self.view_is
