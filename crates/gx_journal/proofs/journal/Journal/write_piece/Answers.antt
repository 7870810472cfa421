use Rattle.std.proofs.Common.{◌≡◌, ℕ, ◌+◌, ◌<◌, ◌≤◌, false, refl, subst, sym, ap, arith, ◌∙◌}
use Rattle.gx_journal.specs.Journals.{added_by, is_broken, known_length, met_by, IsJournalKept, JournalData}
use Rattle.gx_policy.specs.Lists.{slice}
use Rattle.gx_pass.specs.declared.view.LineView.{LineView}
use Rattle.gx_pass.proofs.Lists_prefix.{prefix_length}
use Rattle.gx_journal.proofs.Journal_call.{journal, kept_on, some_next}
use Rattle.gx_journal.proofs.journal.Journal.write_piece.Goals as goal

pub invariant_of-self : goal.invariant_of-self
invariant_of-self g c =
    let held = g.D.Door.observed in
    let was : met_by held c.self.inside.pass ≡ held c.in-Some.pass = ap (met_by held) (sym c.take.ensures.value ∙ c.in-Some.is) in
    let added = g.D.Door.added in
    let none : added_by added c.self.inside.pass ≡ added c.in-Some.pass = ap (added_by added) (sym c.take.ensures.value ∙ c.in-Some.is) in
    let is = (held c.copy_records-pass.result).front in
    let piece : c.as_slice.result.now ≡ slice is (c.self.inside.writer.done + 1) c.min-most.result =
    c.as_slice.ensures.value ∙ c.copy_records-pass.ensures.records ∙ ap (λ (n : ℕ). slice is (n + 1) c.min-most.result) c.done-next.ensures in (
      refl,
      c.copy_records-pass.ensures.adds_none ∙ sym none ∙ c.self.invariant.1,
      kept_on g.J.JournalName.begun g.J.JournalName.count g.J.JournalName.version (held c.in-Some.pass) (held c.copy_records-pass.result) c.min-most.result c.put.result {records = c.as_slice.result.now}
          c.self.inside.writer c.put.new.self
          (subst (λ (j : JournalData). is_broken j.writer ≡ false) (sym c.self.view_is) c.requires.sound)
          c.copy_records-pass.ensures.later.front
          piece
          (record {
            sound = c.put.ensures.answer;
            whole = c.put.ensures.whole;
            done = c.put.ensures.done;
            broken = c.put.ensures.broken;
            front = c.put.ensures.front;
            stays = c.put.ensures.stays;
            version = c.put.ensures.version;
          })
          (subst (λ (h : LineView). IsJournalKept g.J.JournalName.begun g.J.JournalName.count g.J.JournalName.earlier g.J.JournalName.version (journal h c.self.inside.writer)) was c.self.invariant.2),
      omega (arith, c.copy_records-pass.ensures.room, c.self.invariant.3),
    )

pub returns-clause-more : goal.returns-clause-more
returns-clause-more g c = λ put.
    let held = g.D.Door.observed in
    let was : met_by held c.self.inside.pass ≡ held c.in-Some.pass = ap (met_by held) (sym c.take.ensures.value ∙ c.in-Some.is) in
    let known : c.args.count ≤ known_length (held c.in-Some.pass) = subst (λ (h : LineView). c.args.count ≤ known_length h) was (subst (λ (j : JournalData). c.args.count ≤ known_length j.met) (sym c.self.view_is) c.requires.known) in
    let left : c.self.inside.writer.done < c.args.count = subst (λ (j : JournalData). j.writer.done < c.args.count) (sym c.self.view_is) c.requires.left in
    let later = c.copy_records-pass.ensures.later in
    let is = (held c.copy_records-pass.result).front in
    let piece : c.as_slice.result.now ≡ slice is (c.self.inside.writer.done + 1) c.min-most.result =
    c.as_slice.ensures.value ∙ c.copy_records-pass.ensures.records ∙ ap (λ (n : ℕ). slice is (n + 1) c.min-most.result) c.done-next.ensures in
    let some = some_next (held c.in-Some.pass) (held c.copy_records-pass.result) c.as_slice.result.now c.args.count c.self.inside.writer.done c.min-most.result known left
    (omega (arith, c.min-most.ensures, c.done.ensures, left)) (prefix_length _ _ later.front) later.told piece in
    subst (λ (j : JournalData). j.writer.done < c.put.new.self.done) c.self.view_is (omega (arith, c.put.ensures.done put, some))
