use Rattle.std.proofs.Common.{ap, rules}
use Rattle.gx_desk.specs.{declared.Action.Action, Contents.command_layout}
use Rattle.gx_audit_bytes.proofs.Body_free.{free_behind}
use Rattle.gx_audit_bytes.proofs.written.is_command_free.Goals as goal

pub returns-in-Kill : goal.returns-in-Kill
returns-in-Kill c = free_behind _ 23 _ c.args.body.now (search rules) c.is_zero-in-Kill.ensures

pub returns-in-SetLimit : goal.returns-in-SetLimit
returns-in-SetLimit c = free_behind _ 31 _ c.args.body.now (ap (λ (a : Action). (command_layout a).size) c.in-SetLimit.is) c.is_zero.ensures

pub returns-in-Restrict : goal.returns-in-Restrict
returns-in-Restrict c = free_behind _ 31 _ c.args.body.now (search rules) c.is_zero-in-Restrict.ensures

pub returns-in-Grant : goal.returns-in-Grant
returns-in-Grant c = free_behind _ 29 _ c.args.body.now (search rules) c.is_zero-in-Grant.ensures

pub returns-in-CloseDay : goal.returns-in-CloseDay
returns-in-CloseDay c = free_behind _ 15 _ c.args.body.now (ap (λ (a : Action). (command_layout a).size) c.in-CloseDay.is) c.is_zero-in-CloseDay.ensures
