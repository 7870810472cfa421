-- Laws of scripts: how lines end, and what follows a bad line.
use Rattle.std.proofs.{Common.{◌≡◌, ℕ, ◌+◌, ◌-◌, ◌<◌, ◌≤◌, Bool, true, false, ◌||◌, cond, eqb, is_some, None, List, [], ◌∷◌, ◌++◌, length, take, refl, sym, ap, ◌∙◌, append_assoc, append-nil, arith, length-take, length-append}, lemmas.{Bool.{and_parts, ltb-true, lt-ltb, not-true, or_left, or_right}, List.Sums.fold-append}}
use Rattle.std.specs.Prelude.{fold, slice_index}
use Rattle.gx_access_gate.specs.Gates.{GateData}
use Rattle.gx_devices.specs.Stopping.{trail}
use Rattle.gx_script_text.specs.{Words.◌>>=◌, ScriptLines.{without_cr, is_too_long, line_within, script_line}}
use Rattle.gx_script_run.specs.{Scripting.{effect_of, line_effect, ScriptRun, run_before_lines, with_script_line, on_line, Cut, on_byte, cut_of, after_lines, script_of, is_settled}, ScriptPiping.{ReadScript, read_byte, so_far, mark, byte_marks, is_over}, ScriptTexts.{with_line_end, has_no_end}}

-- a script and what was read of it: the lines that have ended, and the bytes behind them
read_as_cut : (before : GateData) (tail : List ℕ) (cut : Cut)
    → fold read_byte (record { run = after_lines before cut.whole; rest = cut.rest }) tail ≡ (let then = fold on_byte cut tail in record { run = after_lines before then.whole; rest = then.rest })
read_as_cut before [] cut = refl
read_as_cut before (byte ∷ tail) cut = ap (λ r. fold read_byte r tail) (one (eqb byte 10)) ∙ read_as_cut before tail (on_byte cut byte)
  where
    one : (b : Bool)
        → cond {A = ReadScript} b (record { run = on_line (after_lines before cut.whole) cut.rest; rest = [] }) (record { run = after_lines before cut.whole; rest = cut.rest ++ byte ∷ [] })
        ≡ (let then = cond {A = Cut} b (record { whole = cut.whole ++ cut.rest ∷ []; rest = [] }) (record { whole = cut.whole; rest = cut.rest ++ byte ∷ [] }) in record { run = after_lines before then.whole; rest = then.rest })
    one true = ap (λ (run : ScriptRun). record { run = run; rest = [] }) (sym (fold-append on_line (run_before_lines before) cut.whole (cut.rest ∷ [])))
    one false = refl

-- as it ends
abbrev pub finish : ReadScript → ScriptRun
finish r = on_line r.run r.rest

so_far_is : (before : GateData) (bytes : List ℕ) → so_far before bytes ≡ record { run = after_lines before (cut_of bytes).whole; rest = (cut_of bytes).rest }
unfolding so_far cut_of
so_far_is before bytes = read_as_cut before bytes (record { whole = []; rest = [] })

pub script_is : (before : GateData) (bytes : List ℕ) → script_of before bytes ≡ finish (so_far before bytes)
unfolding script_of
script_is before bytes = fold-append on_line (run_before_lines before) (cut_of bytes).whole ((cut_of bytes).rest ∷ []) ∙ ap finish (sym (so_far_is before bytes))

pub settled_is : (before : GateData) (bytes : List ℕ) → is_settled before bytes ≡ is_over (so_far before bytes)
unfolding is_settled
settled_is before bytes = ap is_over (sym (so_far_is before bytes))

pub so_far_more : (before : GateData) (bytes piece : List ℕ) → so_far before (bytes ++ piece) ≡ fold read_byte (so_far before bytes) piece
unfolding so_far
so_far_more before bytes piece = fold-append read_byte (record { run = run_before_lines before; rest = [] }) bytes piece

-- bytes of which none is an LF go on with the last line
abbrev held_on : ReadScript → List ℕ → ReadScript
held_on r front = record { run = r.run; rest = r.rest ++ front }

pub goes_on : (front : List ℕ) (r : ReadScript) → has_no_end front ≡ true → fold read_byte r front ≡ held_on r front
goes_on [] r h = ap (λ (rest : List ℕ). record { run = r.run; rest = rest }) (sym (append-nil r.rest))
goes_on (byte ∷ front) r h =
    let p = and_parts _ _ h in
    ap (λ b. fold read_byte (cond b (record { run = on_line r.run r.rest; rest = [] }) (held_on r (byte ∷ []))) front) (not-true (eqb byte 10) p.0)
    ∙ (goes_on front (held_on r (byte ∷ [])) p.1 ∙ ap (λ (rest : List ℕ). record { run = r.run; rest = rest }) (append_assoc r.rest (byte ∷ []) front))

-- and have no marks
pub no_marks : (front more : List ℕ) (r : ReadScript) → has_no_end front ≡ true → trail byte_marks read_byte r (front ++ more) ≡ trail byte_marks read_byte (held_on r front) more
no_marks [] more r h = ap (λ (rest : List ℕ). trail byte_marks read_byte (record { run = r.run; rest = rest }) more) (sym (append-nil r.rest))
no_marks (byte ∷ front) more r h =
    let p = and_parts _ _ h in
    ap (λ b. cond b (mark (on_line r.run r.rest) ∷ []) [] ++ trail byte_marks read_byte (cond b (record { run = on_line r.run r.rest; rest = [] }) (held_on r (byte ∷ []))) (front ++ more)) (not-true (eqb byte 10) p.0)
    ∙ (no_marks front more (held_on r (byte ∷ [])) p.1 ∙ ap (λ (rest : List ℕ). trail byte_marks read_byte (record { run = r.run; rest = rest }) more) (append_assoc r.rest (byte ∷ []) front))

-- the rest of a line, and its end
pub line_ends : (front tail : List ℕ) (r : ReadScript) → has_no_end front ≡ true → fold read_byte r (with_line_end front ++ tail) ≡ fold read_byte (record { run = on_line r.run (r.rest ++ front); rest = [] }) tail
line_ends front tail r h =
    ap (fold read_byte r) (append_assoc front (10 ∷ []) tail) ∙ (fold-append read_byte r front (10 ∷ tail) ∙ ap (λ s. fold read_byte s (10 ∷ tail)) (goes_on front r h))

-- a line that is too long stays so
shorter : (line : List ℕ) (b : Bool) → let kept = cond b (take (length line - 1) line) line in
    (length kept ≤ length line) × (length line ≤ length kept + 1)
shorter line true = (omega (arith, length-take (length line - 1) line), omega (arith, length-take (length line - 1) line))
shorter line false = (omega arith, omega arith)

without_cr_keeps : (line : List ℕ) → (length (without_cr line) ≤ length line) × (length line ≤ length (without_cr line) + 1)
without_cr_keeps line = shorter line (eqb (slice_index line (length line - 1)) 13)

too_long_more : (line : List ℕ) (byte : ℕ) → is_too_long line ≡ true → is_too_long (line ++ byte ∷ []) ≡ true
too_long_more line byte h =
    let long = ltb-true 1024 (length (without_cr line)) h in
    lt-ltb 1024 _ (omega (arith, long, (without_cr_keeps line).0, (without_cr_keeps (line ++ byte ∷ [])).1, length-append line (byte ∷ [])))

-- a line with more bytes than the longest has with its CR is too long
pub long_is_too_long : (line : List ℕ) → 1025 < length line → is_too_long line ≡ true
long_is_too_long line h = lt-ltb 1024 _ (omega (arith, h, (without_cr_keeps line).1))

-- a line that is too long is bad
pub long_is_bad : (gate : GateData) (line : List ℕ) → is_too_long line ≡ true → line_effect gate line ≡ None
unfolding line_effect script_line
long_is_bad gate line h = ap (λ b. (cond b None (line_within (without_cr line))) >>= effect_of gate) h

on_over : (run : ScriptRun) (line : List ℕ) → is_some run.bad ≡ true → on_line run line ≡ run
unfolding on_line
on_over run line over = ap (λ b. cond b run (with_script_line run (line_effect run.gate line))) over

on_long : (run : ScriptRun) (line : List ℕ) → is_some run.bad ≡ false → is_too_long line ≡ true → on_line run line ≡ with_script_line run None
unfolding on_line
on_long run line good long = ap (λ b. cond b run (with_script_line run (line_effect run.gate line))) good ∙ ap (with_script_line run) (long_is_bad run.gate line long)

pub either : (a b : Bool) → (a || b) ≡ true → a ≡ false → b ≡ true
either true b h k = cc
either false b h k = h

-- one byte more changes nothing
over_step : (r : ReadScript) (byte : ℕ) → is_over r ≡ true → (is_over (read_byte r byte) ≡ true) × (finish (read_byte r byte) ≡ finish r)
over_step r byte h = at (eqb byte 10)
  where
    ended_bad : (b : Bool) → is_some r.run.bad ≡ b → is_some (finish r).bad ≡ true
    ended_bad true e = ap (λ (run : ScriptRun). is_some run.bad) (on_over r.run r.rest e) ∙ e
    ended_bad false e = ap (λ (run : ScriptRun). is_some run.bad) (on_long r.run r.rest e (either _ _ h e))

    longer : (b : Bool) → is_some r.run.bad ≡ b → let next = held_on r (byte ∷ []) in (is_over next ≡ true) × (finish next ≡ finish r)
    longer true e = (or_left _ _ e, on_over r.run (r.rest ++ byte ∷ []) e ∙ sym (on_over r.run r.rest e))
    longer false e =
        let long = either _ _ h e in
        let more = too_long_more r.rest byte long in
        (or_right _ _ more, on_long r.run (r.rest ++ byte ∷ []) e more ∙ sym (on_long r.run r.rest e long))

    at : (test : Bool) → let next : ReadScript = cond test (record { run = finish r; rest = [] }) (held_on r (byte ∷ [])) in (is_over next ≡ true) × (finish next ≡ finish r)
    at true = let bad = ended_bad (is_some r.run.bad) refl in (or_left _ _ bad, on_over (finish r) [] bad)
    at false = longer (is_some r.run.bad) refl

pub over_more : (r : ReadScript) (tail : List ℕ) → is_over r ≡ true → (is_over (fold read_byte r tail) ≡ true) × (finish (fold read_byte r tail) ≡ finish r)
over_more r [] h = (h, refl)
over_more r (byte ∷ tail) h =
    let one = over_step r byte h in
    let more = over_more (read_byte r byte) tail one.0 in
    (more.0, more.1 ∙ one.1)

-- once a line is bad, nothing that follows counts
pub nothing_follows : (before : GateData) (bytes tail : List ℕ) → is_settled before bytes ≡ true → script_of before (bytes ++ tail) ≡ script_of before bytes
nothing_follows before bytes tail h =
    script_is before (bytes ++ tail) ∙ (ap finish (so_far_more before bytes tail) ∙ ((over_more (so_far before bytes) tail (sym (settled_is before bytes) ∙ h)).1 ∙ sym (script_is before bytes)))
