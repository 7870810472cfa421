use Rattle.std.proofs.Common.{◌∙◌, ap, ℕ, List, length, ◌==◌}
use Rattle.gx_records.specs.Watching.{earlier_of}
use Rattle.gx_whatif.proofs.Waiting_next.{all_swept, none_counted, none_left}
use Rattle.gx_whatif.proofs.waiting.note_waiting.Goals as goal

pub returns-clause-all : goal.returns-clause-all
returns-clause-all g c =
    all_swept (earlier_of (g.G.AccessGate.state c.args.gate.now).records) c.args.left.now c.args.numbers.now.items c.push.new.self.items c.sweep.new.numbers.items
    c.is_legal.ensures.legal c.requires.last c.requires.all c.in_ok-push.ensures.items c.sweep.ensures

pub returns-clause-at_rest : goal.returns-clause-at_rest
returns-clause-at_rest g c =
    c.is_empty.ensures ∙ ap (λ (numbers : List ℕ). length numbers == 0) c.as_slice.ensures.value ∙ none_counted c.sweep.new.numbers.items
    ∙ none_left (g.G.AccessGate.state c.args.gate.now).policy (g.G.AccessGate.state c.args.gate.now).records c.push.new.self.items c.sweep.new.numbers.items c.sweep.ensures
    (all_swept (earlier_of (g.G.AccessGate.state c.args.gate.now).records) c.args.left.now c.args.numbers.now.items c.push.new.self.items c.sweep.new.numbers.items
    c.is_legal.ensures.legal c.requires.last c.requires.all c.in_ok-push.ensures.items c.sweep.ensures)
