use Rattle.gx_whatif.proofs.Watcher_next.{followed_filled, followed_full, followed_on}
use Rattle.gx_whatif.proofs.other_day.OtherDayWatches.after.Goals as goal
use Rattle.gx_units.proofs.Results_hold.{on_ok}

pub returns-then-self-clause-saw : goal.returns-then-self-clause-saw
returns-then-self-clause-saw g c =
    followed_full g.N.MeansPolicy.meant c.args.self.now.full (g.G.AccessGate.state c.args.self.now.gate) c.args.self.now.sources.items c.args.self.now.waiting.items
    c.note_waiting.new.numbers.items c.args.self.now.changes.items (g.G.AccessGate.state c.args.gate.now).records c.args.left.now
    c.if-self.true c.requires.last c.requires.expects c.in_ok-at_rest.ensures.all

pub returns-in-Ok-clause-saw : goal.returns-in-Ok-clause-saw
returns-in-Ok-clause-saw g c =
    on_ok c.note_change.result _ _
    (λ grows.
    followed_on g.N.MeansPolicy.meant c.args.self.now.full (g.G.AccessGate.state c.args.self.now.gate) (g.G.AccessGate.state c.redo.new.gate) c.args.self.now.sources.items
    c.redo.new.sources.items c.args.self.now.waiting.items c.note_waiting.new.numbers.items c.args.self.now.changes.items c.note_change.new.changes.items (g.G.AccessGate.state c.args.gate.now).records c.args.left.now c.in_ok-at_rest.at_rest c.in-Ok.told
    c.if-self.false c.requires.last c.requires.expects c.in_ok-at_rest.ensures.all c.in_ok-at_rest.ensures.at_rest c.redo.ensures.policy c.in-Ok.ensures.day c.in-Ok.ensures.told grows)
    c.note_change.ensures

pub returns-in-Err-DayFull-clause-saw : goal.returns-in-Err-DayFull-clause-saw
returns-in-Err-DayFull-clause-saw g c =
    followed_filled g.N.MeansPolicy.meant c.args.self.now.full (g.G.AccessGate.state c.args.self.now.gate) (g.G.AccessGate.state c.redo.new.gate) c.args.self.now.sources.items
    c.redo.new.sources.items c.args.self.now.waiting.items c.note_waiting.new.numbers.items c.args.self.now.changes.items (g.G.AccessGate.state c.args.gate.now).records c.args.left.now c.in_ok-at_rest.at_rest
    c.if-self.false c.requires.last c.requires.expects c.in_ok-at_rest.ensures.all c.in_ok-at_rest.ensures.at_rest c.redo.ensures.policy (c.in-Err-DayFull.ensures.day_full c.in-Err-DayFull.field-0-is)
