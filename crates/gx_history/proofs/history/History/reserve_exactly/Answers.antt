use Rattle.std.proofs.Common.{arith}
use Rattle.gx_history.proofs.Rows_table.{kept_again}
use Rattle.gx_history.proofs.history.History.reserve_exactly.Goals as goal

pub invariant_of-self-2 : goal.invariant_of-self-2
invariant_of-self-2 c =
    kept_again c.self.inside.details c.reserve-2.new.self c.self.inside.rows.items c.reserve.new.self.items _ _ _ _ c.self.invariant c.reserve-2.ensures.lists c.reserve.ensures.items
    (omega (arith, c.in_ok-reserve.ensures.ok, c.reserve-2.ensures.few))
