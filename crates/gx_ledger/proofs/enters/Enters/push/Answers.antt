use Rattle.std.proofs.Common.{◌≡◌, ◌∷◌, ◌++◌, ◌*◌, [], sym, subst, ◌∙◌, arith, List, length}
use Rattle.circular_buffer.specs.Buffer.{Buffer, keep_last}
use Rattle.gx_ledger.specs.{declared.group.RepeatKey.RepeatKey, Cells.AreCounted}
use Rattle.gx_ledger.proofs.Cells_counted.{first_goes}
use Rattle.gx_ledger.proofs.enters.Enters.push.Goals as goal

pub invariant_of-self : goal.invariant_of-self
invariant_of-self c =
    let held = c.self.inside.ring.items in
    let room = c.self.inside.ring.capacity in
    let (len, counted) = c.self.invariant in
    let is = c.capacity.ensures.capacity in
    let fits = c.capacity.ensures.within.0 in
    let left : List RepeatKey = keep_last room (held ++ c.args.entered ∷ []) in
    let up = c.count_up.ensures.counted held counted in
    let goes = first_goes room held c.args.entered c.in-Some.gone (omega (arith, fits, is)) (sym c.push_back.ensures.value ∙ c.in-Some.is) in
    let down = c.count_down.ensures.counted left (subst (AreCounted c.count_up.new.cells.items) goes up) in
    subst (λ (ring : Buffer RepeatKey). (length c.count_down.new.cells.items ≡ ring.capacity * 8) × AreCounted c.count_down.new.cells.items ring.items)
    (sym c.push_back.ensures.items)
    (c.count_down.ensures.len ∙ c.count_up.ensures.len ∙ len, down)
