-- The terms of an order, of what a trader asks for.
use Rattle.gx_units.specs.declared.names.Firm.{Firm}
use Rattle.gx_ouch.specs.declared.{inbound.EnterOrder.EnterOrder, outbound.OrderTerms.OrderTerms}

-- what an Enter Order asks for, for an account of this firm
abbrev pub entered_terms : EnterOrder → Firm → OrderTerms
entered_terms m firm = record {
  side = m.side;
  shares = m.shares;
  stock = m.stock;
  price = m.price;
  time_in_force = m.time_in_force;
  firm = firm;
  display = m.display;
  capacity = m.capacity;
  intermarket_sweep = m.intermarket_sweep;
  minimum_quantity = m.minimum_quantity;
  cross_type = m.cross_type;
}
