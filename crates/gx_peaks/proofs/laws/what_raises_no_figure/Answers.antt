use Rattle.gx_peaks.proofs.Unraised_laws.{limits_stay, most_raise_nothing}
use Rattle.gx_peaks.proofs.laws.what_raises_no_figure.Goals as goal

pub returns : goal.returns
returns c = record { most = most_raise_nothing; limits = limits_stay }
