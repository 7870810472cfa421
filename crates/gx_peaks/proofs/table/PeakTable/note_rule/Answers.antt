use Rattle.std.proofs.{Common.{◌≡◌, ◌≤◌, ◌<◌, ◌∙◌, refl, length, arith, List}, lemmas.List.length-map}
use Rattle.std.specs.Map.{keys_of}
use Rattle.gx_peaks.specs.declared.{key.PeakKey.PeakKey, table.HeldPeak.HeldPeak}
use Rattle.gx_peaks.proofs.Table_next.{all_places, no_place_yet, one_more_place}
use Rattle.gx_peaks.proofs.table.PeakTable.note_rule.Goals as goal

as_many : (entries : List (PeakKey × HeldPeak)) → length (keys_of entries) ≡ length entries
as_many entries = length-map entries (λ (e : PeakKey × HeldPeak). e.0)

within : (g : _) (c : goal.In_ok-note_place g) → c.loop-place.place < length (keys_of c.args.self.now.peaks.entries)
within g c = let many = as_many c.args.self.now.peaks.entries in omega (arith, many, c.len-place-end.ensures.len, c.loop-place-test.true)

whole : (g : _) (c : goal.After-loop-place g) → length (keys_of c.args.self.now.peaks.entries) ≤ c.loop-place.place
whole g c = let many = as_many c.args.self.now.peaks.entries in omega (arith, many, c.len-place-end.ensures.len, c.loop-place-test.false)

pub loop-place-init : goal.loop-place-init
loop-place-init g c = (
  c.requires.theirs,
  refl,
  no_place_yet (g.G.AccessGate.state c.args.gate.now).policy (g.G.AccessGate.state c.args.gate.now).records c.args.rule (keys_of c.args.self.now.peaks.entries) c.args.self.now,
)

pub loop-place-preserved : goal.loop-place-preserved
loop-place-preserved g c = (
  c.in_ok-note_place.ensures.theirs,
  c.in_ok-note_place.ensures.keys ∙ c.loop-place.invariant.1,
  one_more_place (g.G.AccessGate.state c.args.gate.now).policy (g.G.AccessGate.state c.args.gate.now).records c.args.rule (keys_of c.args.self.now.peaks.entries) c.loop-place.place c.args.self.now c.loop-place.self
      c.note_place.new.self (within g c) c.loop-place.invariant.1 c.loop-place.invariant.2 c.in_ok-note_place.ensures.noted,
)

pub returns : goal.returns
returns g c = record {
  noted =
      all_places (g.G.AccessGate.state c.args.gate.now).policy (g.G.AccessGate.state c.args.gate.now).records c.args.rule (keys_of c.args.self.now.peaks.entries) c.loop-place.place c.args.self.now c.loop-place.self
      (whole g c) c.loop-place.invariant.1 c.loop-place.invariant.2;
}
