use Rattle.gx_script_run.proofs.Settle_call.{match_half}
use Rattle.gx_script_run.proofs.running.match_line.Goals as goal
use Rattle.gx_units.proofs.Results_hold.{on_err}

pub returns-in_err-add_match-clause-err : goal.returns-in_err-add_match-clause-err
returns-in_err-add_match-clause-err g c = on_err _ _ (match_half (g.G.AccessGate.state c.args.gate.now) (g.G.AccessGate.state c.add_match.new.gate) c.args.moment c.in_err-add_match.ensures.err)
