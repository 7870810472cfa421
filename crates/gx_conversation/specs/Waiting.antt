-- What may never be answered.
use Rattle.std.specs.Prelude.{Option, Some, None}
use Rattle.gx_units.specs.declared.names.Token.{Token}
use Rattle.gx_ouch.specs.declared.inbound.Inbound.{Inbound}
use Rattle.gx_operator.specs.declared.asked.ClientRequest.{ClientRequest}

abbrev pub named_by : Inbound → Option Token
named_by (Inbound.Enter order) = None
named_by (Inbound.Replace order) = Some order.existing_token
named_by (Inbound.Cancel order) = Some order.token

-- the token of the live order that a replace or a cancel names: the gate answers neither where there is none
abbrev pub named_order : ClientRequest → Option Token
named_order (ClientRequest.Command command) = None
named_order (ClientRequest.Order order) = named_by order
