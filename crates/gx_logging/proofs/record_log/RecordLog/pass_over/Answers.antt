use Rattle.std.proofs.Common.{◌≡◌, length, take, drop, subst, sym}
use Rattle.gx_door.specs.Acts.{history_met}
use Rattle.gx_logging.proofs.Lines_next.{gives}
use Rattle.gx_logging.specs.Logging.{LoggingData}
use Rattle.gx_logging.proofs.record_log.RecordLog.pass_over.Goals as goal

pub invariant_of-self : goal.invariant_of-self
invariant_of-self g c = (
  c.self.invariant.0,
  gives g.D.Door.policy (history_met g.D.Door.observed c.self.inside.pass) c.self.inside.done c.self.inside.events.form c.pass_over.new.self.form c.self.inside.events.known c.pass_over.new.self.known c.args.records.now
      c.self.invariant.1
      (subst (λ (l : LoggingData). c.args.records.now ≡ take (length c.args.records.now) (drop l.done l.met.front)) (sym c.self.view_is) c.requires.next)
      (c.pass_over.ensures.known g.D.Door.policy (take c.self.inside.done (history_met g.D.Door.observed c.self.inside.pass).front) c.self.invariant.1.knows),
)
