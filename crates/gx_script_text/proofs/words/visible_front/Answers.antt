use Rattle.std.proofs.{Common.{◌≡◌, ◌<◌, IsTrue, length, take, slice_set, replicate, refl, sym, ap, ◌∙◌, subst, arith}, lemmas.List.length-take}
use Rattle.std.specs.List.{list_all}
use Rattle.gx_units.specs.Spelling.{padded_to, is_visible}
use Rattle.gx_script_text.proofs.Name_next.{ends_here, ends_past, front_item, put_next, visible_more}
use Rattle.gx_script_text.proofs.words.visible_front.Goals as goal

pub loop-end-init : goal.loop-end-init
loop-end-init g c = record { visible = refl; front = ap (λ k. replicate k 32) (omega arith) }

pub returns-then-not-is_visible-clause-visible : goal.returns-then-not-is_visible-clause-visible
returns-then-not-is_visible-clause-visible g c = c.loop-end.invariant.visible

pub returns-then-not-is_visible-clause-front : goal.returns-then-not-is_visible-clause-front
returns-then-not-is_visible-clause-front g c = c.loop-end.invariant.front

pub returns-then-not-is_visible-clause-ends : goal.returns-then-not-is_visible-clause-ends
returns-then-not-is_visible-clause-ends g c =
    let within : c.loop-end.end < length c.args.text.now = omega (arith, c.loop-end-test.true, c.min-most.ensures, length-take c.min-most.result c.args.text.now) in
    ends_here (c.loop-end.end < g.row.N) c.loop-end.end c.args.text.now within
    (ap is_visible (sym (front_item c.min-most.result c.loop-end.end c.args.text.now c.loop-end-test.true)) ∙ sym c.is_visible.ensures ∙ c.if-not-is_visible.true)

pub loop-end-preserved : goal.loop-end-preserved
loop-end-preserved g c =
    let within : c.loop-end.end < length c.args.text.now = omega (arith, c.loop-end-test.true, c.min-most.ensures, length-take c.min-most.result c.args.text.now) in
    let room : c.loop-end.end < g.row.N = omega (arith, c.loop-end-test.true, c.min-most.ensures, length-take c.min-most.result c.args.text.now) in
    let item = front_item c.min-most.result c.loop-end.end c.args.text.now c.loop-end-test.true in
    record {
      visible = visible_more c.loop-end.end c.args.text.now within (ap is_visible (sym item) ∙ sym c.is_visible.ensures ∙ c.if-not-is_visible.false) c.loop-end.invariant.visible;
      front =
          (λ i. slice_set (c.loop-end.invariant.front i) c.loop-end.end (item i))
          ∙ put_next g.row.N c.loop-end.end c.args.text.now within room;
    }

pub returns-clause-visible : goal.returns-clause-visible
returns-clause-visible g c =
    let all : c.loop-end.end ≡ c.min-most.result = omega (arith, c.loop-end-test.false, c.loop-end.auto.end-end, c.min-most.ensures, length-take c.min-most.result c.args.text.now) in
    subst (λ k. IsTrue (list_all is_visible (take k c.args.text.now))) all c.loop-end.invariant.visible

pub returns-clause-front : goal.returns-clause-front
returns-clause-front g c =
    let all : c.loop-end.end ≡ c.min-most.result = omega (arith, c.loop-end-test.false, c.loop-end.auto.end-end, c.min-most.ensures, length-take c.min-most.result c.args.text.now) in
    subst (λ k. c.loop-end.front ≡ padded_to g.row.N (take k c.args.text.now)) all c.loop-end.invariant.front

pub returns-clause-ends : goal.returns-clause-ends
returns-clause-ends g c = ends_past (c.min-most.result < g.row.N) c.min-most.result c.args.text.now (λ room. omega (arith, room, c.min-most.ensures))
