-- A gate may go to another thread, as each of its parts may. The search for this is too long where a gate is sent, so it is made here, part by part.
use denote.Param.Send.{IsSend, view_send, sendable}
use denote.Param.SendFields.{as_row_send, declared_send, variants_send}
use Rattle.std.proofs.{Crossing.crosses, MapsCrossing.BTreeMap-send}
use Rattle.circular_buffer.proofs.Crosses.{Cells-send, Deed-send}
use Rattle.gx_policy.specs.contracts.rule_name.RuleName as rule_name
use Rattle.gx_policy.specs.contracts.policy.RuleKind as rule_kind
use Rattle.gx_policy.specs.contracts.policy.Scope as scope
use Rattle.gx_policy.specs.contracts.policy.Policy as policy
use Rattle.gx_history.specs.contracts.record.Asked as asked
use Rattle.gx_history.specs.contracts.record.Request as request
use Rattle.gx_history.specs.contracts.record.Fill as fill
use Rattle.gx_history.specs.contracts.history.History as history
use Rattle.gx_history.specs.contracts.history.History.TheInside as history_inside
use Rattle.gx_people.specs.contracts.people.People as people
use Rattle.gx_people.specs.contracts.people.People.TheInside as people_inside
use Rattle.gx_rules.specs.contracts.rule_book.RuleBook as rules
use Rattle.gx_rules.specs.contracts.rule_book.RuleBook.TheInside as rules_inside
use Rattle.gx_trading_status.specs.contracts.status.TradingStatus as status
use Rattle.gx_orders.specs.contracts.orders.Orders as orders
use Rattle.gx_book.specs.contracts.book.Book as book
use Rattle.gx_book.specs.contracts.book.Book.TheInside as book_inside
use Rattle.gx_ledger.specs.contracts.sides.Sides as sides
use Rattle.gx_ledger.specs.contracts.moments.Moments as moments
use Rattle.gx_ledger.specs.contracts.enters.Enters as enters
use Rattle.gx_ledger.specs.contracts.group.Group as group
use Rattle.gx_ledger.specs.contracts.tally.Tally as tally
use Rattle.gx_ledger.specs.contracts.ledger.Ledger as ledger
use Rattle.gx_ledger.specs.contracts.ledger.Ledger.TheInside as ledger_inside
use Rattle.gx_streams.proofs.Streams_send.{streams_send}
use Rattle.gx_gate_state.specs.contracts.state.GateState as state
use Rattle.gx_core.specs.contracts.gate.Gate as gate

-- how a type is sent whose parts are
ruleset parts = (declared_send, as_row_send, variants_send, sendable, crosses)

-- ---- the policy and the records
policy_send : IsSend policy.the_row
policy_send = search parts depth 60 fits 200000

rule_name_send : IsSend rule_name.the_row
rule_name_send = search parts depth 100 fits 200000

rule_kind_send : IsSend rule_kind.the_row
rule_kind_send = search parts depth 30 fits 200000

scope_send : IsSend scope.the_row
scope_send = search parts depth 30 fits 200000

fill_send : IsSend fill.the_row
fill_send = search parts depth 30 fits 200000

request_send : IsSend request.the_row
request_send = search parts depth 100 fits 200000

asked_send : IsSend asked.the_row
asked_send = search (request_send, parts) depth 40 fits 200000

history_send : IsSend history.the_row
history_send = view_send _ _ _ _ _ (declared_send history_inside.the_type (search parts depth 30 fits 200000, (search (asked_send, rule_name_send, fill_send, parts) depth 30 fits 200000, tt)))

-- ---- what a gate keeps of its records
people_send : IsSend people.the_row
people_send = view_send _ _ _ _ _ (declared_send people_inside.the_type (search parts depth 30 fits 200000, (search parts depth 30 fits 200000, tt)))

rules_send : IsSend rules.the_row
rules_send = view_send _ _ _ _ _ (declared_send rules_inside.the_type (search (rule_kind_send, scope_send, parts) depth 30 fits 200000, (search parts depth 30 fits 200000, tt)))

status_send : IsSend status.the_row
status_send = search parts depth 30 fits 200000

orders_send : IsSend orders.the_row
orders_send = search parts depth 60 fits 200000

book_send : IsSend book.the_row
book_send = view_send _ _ _ _ _ (declared_send book_inside.the_type (search (BTreeMap-send, parts) depth 30 fits 200000, (search parts depth 30 fits 200000, tt)))

sides_send : IsSend sides.the_row
sides_send = search parts depth 30 fits 200000

moments_send : IsSend moments.the_row
moments_send = search (Cells-send, Deed-send, parts) depth 30 fits 200000

enters_send : IsSend enters.the_row
enters_send = search (Cells-send, Deed-send, parts) depth 30 fits 200000

group_send : IsSend group.the_row
group_send = search (sides_send, moments_send, enters_send, parts) depth 40 fits 200000

tally_send : IsSend tally.the_row
tally_send = search (group_send, scope_send, parts) depth 40 fits 200000

ledger_send : IsSend ledger.the_row
ledger_send = view_send _ _ _ _ _ (declared_send ledger_inside.the_type (search parts depth 30 fits 200000, (search parts depth 30 fits 200000, (search (tally_send, parts) depth 30 fits 200000, (search parts depth 30 fits 200000, tt)))))

state_send : IsSend state.the_row
state_send = search (people_send, rules_send, status_send, orders_send, book_send, ledger_send, streams_send, parts) depth 40 fits 200000

-- ---- the gate
pub gate_send : IsSend gate.the_row
gate_send = search (policy_send, history_send, state_send, parts) depth 40 fits 200000
