use Rattle.gx_laws.proofs.{RunningSums_kept.{gross_shares_are_kept, gross_values_are_kept, net_shares_are_kept, none_asked_none_held, none_asked_none_on_side}, Books_uncrossed.never_crossed}
use Rattle.gx_core.proofs.gate.GateAccessGate.is_legal.Goals as goal

pub returns : goal.returns
returns c =
    let policy = c.self.inside.policy in
    let records = c.self.inside.history.records in
    rw (← c.self.view_is) (record {
      legal = c.self.invariant.kept.legal;
      uncrossed = never_crossed policy records c.self.invariant.kept.legal;
      shares_within = gross_shares_are_kept policy records c.self.invariant.kept.legal;
      values_within = gross_values_are_kept policy records c.self.invariant.kept.legal;
      none_held = λ among. none_asked_none_held policy records among c.self.invariant.kept.legal;
      net_within = net_shares_are_kept policy records c.self.invariant.kept.legal;
      none_on_side = λ among side. none_asked_none_on_side policy records among side c.self.invariant.kept.legal;
    })
