-- The lines of records that were there before, which stay entered.
use Rattle.std.proofs.{Common.{◌≡◌, ◌≢◌, ℕ, zero, suc, ◌+◌, ◌<◌, ◌≤◌, max, List, [], ◌∷◌, ◌++◌, take, drop, refl, sym, ap, ◌∙◌, subst, inl, inr, arith}, Math.Seq.take-add}
use mathlib.Core.Logic.{dite}
use native.Mathlib.Decide.{ℕ_discrete}
use Rattle.gx_history.specs.declared.record.RecordData.{RecordData}
use Rattle.gx_policy.specs.Lists.{slice}
use Rattle.gx_pass.specs.{declared.view.KeeperView.KeeperView, Rules.{Has, MayNote}, Views.keeper_view}
use Rattle.gx_shared.specs.Lines.{IsResuming, lines_to}
use Rattle.gx_journal.proofs.Journal_next.{before_next}

-- a keeper that has nothing yet
pub begins : (k : KeeperView) → k ≡ keeper_view [] [] 0 → IsResuming k
begins k is = subst IsResuming (sym is) (record { issued = refl; entered = refl })

next_line : (n : ℕ) → (n + 1) ∷ lines_to n ≡ lines_to (n + 1)
next_line n = let one : suc n ≡ n + 1 = omega arith in subst (λ (m : ℕ). m ∷ lines_to n ≡ lines_to m) one refl

-- the next line is entered
pub one_more_line : (issued : ℕ) (entered : List ℕ) → entered ≡ lines_to issued → (issued + 1) ∷ entered ≡ lines_to (issued + 1)
one_more_line issued entered is = ap (λ (lines : List ℕ). (issued + 1) ∷ lines) is ∙ next_line issued

-- each line up to the last is entered
has_line : (issued line : ℕ) → 0 < line → line ≤ issued → Has (lines_to issued) line
has_line zero line some few = absurd (omega arith)
has_line (suc n) line some few =
    dite (ℕ_discrete line (suc n))
    (λ (e : line ≡ suc n). inl e)
    (λ (ne : line ≢ suc n). inr (has_line n line some (omega arith)))

may_note_up_to : (issued line : ℕ) → line ≤ issued → MayNote (lines_to issued) line
may_note_up_to issued zero few = inl refl
may_note_up_to issued (suc line) few = inr (has_line issued (suc line) (omega arith) few)

-- a record of such a line may be noted
pub may_note : (issued line was : ℕ) (entered : List ℕ) → entered ≡ lines_to issued → issued ≡ max was line → MayNote entered line
may_note issued line was entered is most = subst (λ (lines : List ℕ). MayNote lines line) (sym is) (may_note_up_to issued line (omega arith))

-- one more portion is noted
pub portion_noted : (records now portion later : List RecordData) (done most : ℕ) → now ≡ take done records → portion ≡ slice records (done + 1) most → later ≡ now ++ portion
    → later ≡ take (done + most) records
portion_noted records now portion later done most so_far is more =
    more ∙ (λ i. so_far i ++ (is ∙ ap (λ (n : ℕ). take most (drop n records)) (before_next done)) i) ∙ sym (take-add done most records)
