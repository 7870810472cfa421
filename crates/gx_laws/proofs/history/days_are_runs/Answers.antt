use Rattle.gx_laws.proofs.{Records_numbered.numbers_are_places, Streams_next.{legal_before, legal_next}, Runs_legal.{run_is_legal, legal_is_run}}
use Rattle.gx_laws.proofs.history.days_are_runs.Goals as goal

pub returns : goal.returns
returns c = record { next = λ policy history r. (legal_before history r, λ both. legal_next r both.0 both.1); run = run_is_legal; same = legal_is_run; numbers = numbers_are_places }
