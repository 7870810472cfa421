use Rattle.std.proofs.Common.{◌∙◌, sym}
use Rattle.gx_units.proofs.Results_hold.{ok_then}
use Rattle.gx_peaks.specs.Noting.{IsNoted}
use Rattle.gx_peaks.proofs.Table_next.{IsPlaceNoted, other_place, place_noted}
use Rattle.gx_peaks.proofs.table.PeakTable.note_place.Goals as goal

pub returns-then-ne-clause-noted : goal.returns-then-ne-clause-noted
returns-then-ne-clause-noted g c =
    other_place (g.G.AccessGate.state c.args.gate.now).policy (g.G.AccessGate.state c.args.gate.now).records c.args.rule c.args.self.now c.args.place c.in-Some.key.now c.in-Some.held.now
    c.in-Some.ensures.entry (sym c.ne.ensures ∙ c.if-ne.true)

pub returns : goal.returns
returns g c =
    let policy = (g.G.AccessGate.state c.args.gate.now).policy in
    let records = (g.G.AccessGate.state c.args.gate.now).records in
    let all : IsNoted policy records (record { rule = c.args.rule; account = c.in-Some.held.now.account; side = c.in-Some.key.now.side }) c.args.self.now c.note.new.self
    → IsPlaceNoted policy records c.args.rule c.args.place c.args.self.now c.note.new.self =
    place_noted c.args.rule c.args.self.now c.note.new.self c.args.place c.in-Some.key.now c.in-Some.held.now c.requires.theirs c.in-Some.ensures.value c.in-Some.ensures.entry
    (sym c.ne.ensures ∙ c.if-ne.false) in
    record {
      theirs = ok_then c.note.result (λ note. (all note).theirs) c.note.ensures.noted;
      keys = ok_then c.note.result (λ note. (all note).keys) c.note.ensures.noted;
      noted = ok_then c.note.result (λ note. (all note).noted) c.note.ensures.noted;
    }
