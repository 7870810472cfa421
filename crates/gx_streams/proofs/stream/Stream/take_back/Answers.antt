use Rattle.std.proofs.Common.{length, take, ◌∙◌, ap}
use Rattle.gx_streams.specs.{declared.{stored_report.StoredReport.StoredReport}, Kept.{ReservedList, without_last}}
use Rattle.gx_streams.proofs.Slots_table.{taken_back}
use Rattle.gx_streams.proofs.stream.Stream.take_back.Goals as goal

pub returns : goal.returns
returns c =
    taken_back c.self.inside.details c.self.inside.slots.items c.truncate.new.self.items (length c.as_slice-count.result.now) (ap length c.as_slice-count.ensures.value)
    (c.truncate.ensures.items ∙ ap (λ n. take n c.self.inside.slots.items) c.saturating_sub.ensures)
    ∙ ap (λ (k : ReservedList StoredReport). without_last k) c.self.view_is
