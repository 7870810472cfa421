use Rattle.gx_peaks.proofs.Peaks_first.{empty_holds}
use Rattle.gx_peaks.proofs.peaks.Peaks.new.Goals as goal

pub returns : goal.returns
returns c = record { none = empty_holds c.new.result c.new.ensures.none }
