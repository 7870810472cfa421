use Rattle.std.proofs.{Common.{arith, List, ◌++◌, map, ◌∙◌, ap, refl}, lemmas.Option.slice_get_within}
use Rattle.gx_report.specs.{declared.samples.Seat.Seat, Samples.sample_of}
use Rattle.gx_report.proofs.Samples_next.{one_more}
use Rattle.gx_report.proofs.samples.Samples.take_one.Goals as goal

pub overflow_add-self : goal.overflow_add-self
overflow_add-self g c = omega (arith, slice_get_within c.args.self.now.counts.items c.args.self.now.taken _ c.requires.due, c.args.self.now.counts.small)

pub returns-clause-taken : goal.returns-clause-taken
returns-clause-taken g c =
    one_more c.args.self.now _ c.requires.due c.requires.taken
    refl refl refl
    (c.in_ok-take_samples.ensures.taken
    ∙ ap (λ (seats : List Seat). c.args.self.now.list.items ++ map (sample_of (g.G.AccessGate.state c.args.gate.now).policy (g.G.AccessGate.state c.args.gate.now).records) seats) c.as_slice.ensures.value)
