-- The streams may go to another thread. Where a gate is sent the search for this would be too long, so it is made here, part by part.
use denote.Param.Send.{IsSend, sendable}
use denote.Param.SendFields.{as_row_send, declared_send, variants_send}
use Rattle.std.proofs.Crossing.{crosses}
use Rattle.gx_history.specs.contracts.report.Report as report
use Rattle.gx_streams.specs.contracts.details.ReportDetails as details
use Rattle.gx_streams.specs.contracts.fill.ReportedFill as fill
use Rattle.gx_streams.specs.contracts.readers.Readers as readers
use Rattle.gx_streams.specs.contracts.slot.AcceptedAt as accepted
use Rattle.gx_streams.specs.contracts.slot.CanceledAt as canceled
use Rattle.gx_streams.specs.contracts.slot.Slot as slot
use Rattle.gx_streams.specs.contracts.stream.Stream as stream
use Rattle.gx_streams.specs.contracts.streams.Streams as streams
use Rattle.gx_streams.specs.contracts.report_lists.ReportLists as told

report_send : IsSend report.the_row
report_send = search (declared_send, as_row_send, variants_send, sendable, crosses) depth 40 fits 20000

accepted_send : IsSend accepted.the_row
accepted_send = search (declared_send, as_row_send, sendable, crosses) depth 40 fits 20000

canceled_send : IsSend canceled.the_row
canceled_send = search (declared_send, as_row_send, sendable, crosses) depth 40 fits 20000

slot_send : IsSend slot.the_row
slot_send = search (accepted_send, as_row_send, variants_send, sendable, crosses) depth 40 fits 20000

fill_send : IsSend fill.the_row
fill_send = search (declared_send, as_row_send, sendable, crosses) depth 40 fits 20000

details_send : IsSend details.the_row
details_send = search (report_send, canceled_send, declared_send, as_row_send, sendable, crosses) depth 40 fits 20000

stream_send : IsSend stream.the_row
stream_send = search (slot_send, details_send, declared_send, as_row_send, sendable, crosses) depth 40 fits 20000

told_send : IsSend told.the_row
told_send = search (stream_send, declared_send, as_row_send, sendable, crosses) depth 40 fits 20000

readers_send : IsSend readers.the_row
readers_send = search (declared_send, as_row_send, sendable, crosses) depth 40 fits 20000

pub streams_send : IsSend streams.the_row
streams_send = search (told_send, fill_send, readers_send, declared_send, as_row_send, sendable, crosses) depth 40 fits 20000
