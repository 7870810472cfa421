-- Lines: whose they are, and the records of one.
use Rattle.std.proofs.{Common.{◌≡◌, ◌≢◌, ℕ, eqb, ◌<◌, ◌≤◌, cond, List, [], ◌∷◌, ◌++◌, refl, ap, sym, ◌∙◌, subst, ⊎_elim, arith, eq-eqb, ne_eqb}, lemmas.List.{append-nil, Elements.filter-append}}
use Rattle.std.specs.Prelude.{◌==◌}
use Rattle.gx_history.specs.declared.record.RecordData.{RecordData}
use mathlib.Core.Logic.{dite}
use native.Mathlib.Decide.{ℕ_discrete}
use Rattle.gx_pass.specs.{Views.{line_in, of_line, without_line}, Rules.{IsAbsent, Has, AreEntered, IsNumbered}}

-- the line has the number `to` from now on
abbrev pub moved : (ℕ → ℕ) → ℕ → ℕ → ℕ → ℕ
moved holder line to l = cond (eqb l line) to (holder l)

pub moved_here : (holder : ℕ → ℕ) (line to : ℕ) → moved holder line to line ≡ to
moved_here holder line to = ap (λ b. cond b to (holder line)) (eq-eqb line line refl)

pub moved_else : (holder : ℕ → ℕ) (line to l : ℕ) → l ≢ line → moved holder line to l ≡ holder l
moved_else holder line to l ne = ap (λ b. cond b to (holder l)) (ne_eqb l line ne)

-- the line of an entered pass is no pass's now
pub entered_is_nobodys : (issued : ℕ) (holder : ℕ → ℕ) (entered : List ℕ) (line : ℕ) → AreEntered issued holder entered → Has entered line → (holder line ≡ 0) × (0 < line) × (line ≤ issued)
entered_is_nobodys issued holder [] line h has = absurd has
entered_is_nobodys issued holder (l ∷ ls) line h has =
    ⊎_elim
    (λ (e : line ≡ l). subst (λ x. (holder x ≡ 0) × (0 < x) × (x ≤ issued)) (sym e) (h.0, h.1, h.2))
    (λ (t : Has ls line). entered_is_nobodys issued holder ls line h.4 t)
    has

-- a line that is some pass's is none of the entered lines
pub absent : (issued : ℕ) (holder : ℕ → ℕ) (entered : List ℕ) (line : ℕ) → AreEntered issued holder entered → 0 < holder line → IsAbsent line entered
absent issued holder [] line h away = tt
absent issued holder (l ∷ ls) line h away = ((λ e. let k : holder line ≡ holder l = ap holder e in let z = h.0 in omega arith), absent issued holder ls line h.4 away)

-- so is one that was not issued
pub absent_new : (issued : ℕ) (holder : ℕ → ℕ) (entered : List ℕ) (line : ℕ) → AreEntered issued holder entered → issued < line → IsAbsent line entered
absent_new issued holder [] line h away = tt
absent_new issued holder (l ∷ ls) line h away = ((λ e. let k = h.2 in omega arith), absent_new issued holder ls line h.4 away)

-- the entered lines stay, where a line that is absent from it goes elsewhere, and more lines are issued
pub entered_else : (issued more : ℕ) (holder : ℕ → ℕ) (entered : List ℕ) (line to : ℕ) → issued ≤ more → AreEntered issued holder entered → IsAbsent line entered → AreEntered more (moved holder line to) entered
entered_else issued more holder [] line to le h away = tt
entered_else issued more holder (l ∷ ls) line to le h away =
    let n = away.0 in let k = h.2 in
    (moved_else holder line to l (λ e. n (sym e)) ∙ h.0, h.1, omega arith, h.3, entered_else issued more holder ls line to le h.4 away.1)

-- nobody else's line matters to the entered lines
pub entered_alone : (issued : ℕ) (holder : ℕ → ℕ) (entered : List ℕ) → AreEntered issued holder entered → AreEntered issued (λ _. 0) entered
entered_alone issued holder [] h = tt
entered_alone issued holder (l ∷ ls) h = (refl, h.1, h.2, h.3, entered_alone issued holder ls h.4)

pub numbered_more : (issued more : ℕ) (log : List RecordData) → issued ≤ more → IsNumbered issued log → IsNumbered more log
numbered_more issued more [] le h = tt
numbered_more issued more (r ∷ rs) le h = (let k = h.0 in omega arith, numbered_more issued more rs le h.1)

pub numbered_push : (issued : ℕ) (log : List RecordData) (r : RecordData) → line_in r ≤ issued → IsNumbered issued log → IsNumbered issued (log ++ r ∷ [])
numbered_push issued [] r le h = (le, tt)
numbered_push issued (x ∷ xs) r le h = (h.0, numbered_push issued xs r le h.1)

of_line_skips : (line : ℕ) (r : RecordData) (log : List RecordData) → line_in r ≢ line → of_line line (r ∷ log) ≡ of_line line log
of_line_skips line r log ne = ap (λ b. cond b (r ∷ of_line line log) (of_line line log)) (ne_eqb (line_in r) line ne)

-- no record has a line that was not issued
pub of_line_new : (issued line : ℕ) (log : List RecordData) → issued < line → IsNumbered issued log → of_line line log ≡ []
of_line_new issued line [] lt h = refl
of_line_new issued line (r ∷ rs) lt h = of_line_skips line r rs (λ e. let k = h.0 in omega arith) ∙ of_line_new issued line rs lt h.1

-- a record of another line
pub of_line_other : (line : ℕ) (log : List RecordData) (r : RecordData) → line_in r ≢ line → of_line line (log ++ r ∷ []) ≡ of_line line log
of_line_other line log r ne = filter-append (λ (x : RecordData). line_in x == line) log (r ∷ []) ∙ (ap (λ w. of_line line log ++ w) (of_line_skips line r [] ne) ∙ append-nil (of_line line log))

-- a record of this line
pub of_line_own : (line : ℕ) (log : List RecordData) (r : RecordData) → line_in r ≡ line → of_line line (log ++ r ∷ []) ≡ of_line line log ++ r ∷ []
of_line_own line log r e = filter-append (λ (x : RecordData). line_in x == line) log (r ∷ []) ∙ ap (λ b. of_line line log ++ cond b (r ∷ []) []) (eq-eqb (line_in r) line e)

without_here : (line l : ℕ) (ls : List ℕ) → l ≡ line → without_line line (l ∷ ls) ≡ ls
without_here line l ls e = ap (λ b. cond b ls (l ∷ without_line line ls)) (eq-eqb l line e)

without_else : (line l : ℕ) (ls : List ℕ) → l ≢ line → without_line line (l ∷ ls) ≡ l ∷ without_line line ls
without_else line l ls e = ap (λ b. cond b ls (l ∷ without_line line ls)) (ne_eqb l line e)

absent_without : (line l : ℕ) (ls : List ℕ) → IsAbsent l ls → IsAbsent l (without_line line ls)
absent_without line l [] h = tt
absent_without line l (x ∷ xs) h =
    dite (ℕ_discrete x line)
    (λ e. subst (IsAbsent l) (sym (without_here line x xs e)) h.1)
    (λ n. subst (IsAbsent l) (sym (without_else line x xs n)) (h.0, absent_without line l xs h.1))

-- the entered lines without one that goes elsewhere
pub entered_without : (issued : ℕ) (holder : ℕ → ℕ) (entered : List ℕ) (line to : ℕ) → AreEntered issued holder entered → Has entered line → AreEntered issued (moved holder line to) (without_line line entered)
entered_without issued holder [] line to h has = absurd has
entered_without issued holder (l ∷ ls) line to h has =
    let Q : List ℕ → Type 0 = λ x. AreEntered issued (moved holder line to) x in
    dite (ℕ_discrete l line)
    (λ e. subst Q (sym (without_here line l ls e)) (entered_else issued issued holder ls line to (omega arith) h.4 (subst (λ x. IsAbsent x ls) e h.3)))
    (λ n. subst Q (sym (without_else line l ls n))
    (moved_else holder line to l n ∙ h.0, h.1, h.2, absent_without line l ls h.3, entered_without issued holder ls line to h.4 (⊎_elim (λ (e : line ≡ l). absurd (n (sym e))) (λ (t : Has ls line). t) has)))
