use Rattle.std.proofs.Common.{ap}
use Rattle.gx_audit_bytes.specs.Written.{body_size}
use Rattle.gx_audit_bytes.proofs.Body_free.{free_behind}
use Rattle.gx_audit_bytes.proofs.written.is_free.Goals as goal

pub returns-in-Login : goal.returns-in-Login
returns-in-Login c = free_behind _ 10 _ c.args.body.now (ap body_size c.in-Login.is) c.is_zero.ensures

pub returns-in-Unreadable : goal.returns-in-Unreadable
returns-in-Unreadable c = free_behind _ 3 _ c.args.body.now (ap body_size c.in-Unreadable.is) c.is_zero-in-Unreadable.ensures

pub returns-in-Enter : goal.returns-in-Enter
returns-in-Enter c = free_behind _ 49 _ c.args.body.now (ap body_size c.in-Enter.is) c.is_zero-in-Enter.ensures

pub returns-in-Replace : goal.returns-in-Replace
returns-in-Replace c = free_behind _ 47 _ c.args.body.now (ap body_size c.in-Replace.is) c.is_zero-in-Replace.ensures

pub returns-in-Cancel : goal.returns-in-Cancel
returns-in-Cancel c = free_behind _ 19 _ c.args.body.now (ap body_size c.in-Cancel.is) c.is_zero-in-Cancel.ensures
