-- What a message of the gate answers.
use Rattle.std.specs.Prelude.{Bool, false, bytes_eq}
use Rattle.gx_units.specs.{declared.names.Token.Token, Names.same_token}
use Rattle.gx_ouch.specs.declared.{inbound.Inbound.Inbound, outbound.Outbound.Outbound}
use Rattle.gx_history.specs.declared.report.Message.{Message}
use Rattle.gx_operator.specs.declared.asked.ClientRequest.{ClientRequest}

-- the order under this token was taken, or was not
abbrev pub decides : Token → Outbound → Bool
decides token (Outbound.SystemEvent event) = false
decides token (Outbound.Accepted m) = same_token m.token token
decides token (Outbound.Replaced m) = same_token m.token token
decides token (Outbound.Canceled m) = false
decides token (Outbound.Executed m) = false
decides token (Outbound.Rejected m) = same_token m.token token

-- the order under this token has lost shares
abbrev pub cancels : Token → Outbound → Bool
cancels token (Outbound.SystemEvent event) = false
cancels token (Outbound.Accepted m) = false
cancels token (Outbound.Replaced m) = false
cancels token (Outbound.Canceled m) = same_token m.token token
cancels token (Outbound.Executed m) = false
cancels token (Outbound.Rejected m) = false

-- the message answers_request the order: a new one by its own token, a cancel by the token that it names
abbrev pub answers_order : Outbound → Inbound → Bool
answers_order message (Inbound.Enter order) = decides order.token message
answers_order message (Inbound.Replace order) = decides order.replacement_token message
answers_order message (Inbound.Cancel order) = cancels order.token message

-- the message answers_request what was asked: a command by its tag
abbrev pub answers_request : Message → ClientRequest → Bool
answers_request (Message.Answer answer) (ClientRequest.Command command) = bytes_eq answer.tag.bytes command.tag.bytes
answers_request (Message.Answer answer) (ClientRequest.Order order) = false
answers_request (Message.Order message) (ClientRequest.Command command) = false
answers_request (Message.Order message) (ClientRequest.Order order) = answers_order message order
answers_request (Message.DropCopy copy) asked = false
