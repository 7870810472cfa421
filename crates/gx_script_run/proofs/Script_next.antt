-- Laws of scripts: a line, and one piece more.
use Rattle.std.proofs.{Common.{◌≡◌, ℕ, ◌+◌, true, false, cond, Option, Some, None, List, [], ◌∷◌, ◌++◌, refl, sym, ap, ◌∙◌, subst, append_assoc, append-nil, inl, inr}, KnownBytes.{Appends-nil, Appends-trans}, lemmas.List.Sums.fold-append}
use Rattle.std.specs.{Prelude.{fold, ◌==◌}, Io.KnownBytes.Appends}
use Rattle.gx_access_gate.specs.Gates.{GateData}
use Rattle.gx_devices.specs.{declared.fault.WriteFault.WriteFault, Devices.IsFront, Stopping.{Mark, Memory, Writing, trail}}
use Rattle.gx_devices.proofs.{Run_pieces.{items_cut, pauses, refused, unsent}, Run_stopped.last_of}
use Rattle.gx_history.specs.declared.record.RecordData.{RecordData}
use Rattle.gx_script_text.specs.ScriptLines.{is_too_long}
use Rattle.gx_script_run.specs.{Leaving.IsHalf, Scripting.{Printed, line_effect, ScriptRun, with_script_line, on_line}, ScriptPiping.{ReadScript, read_byte, Known, mark, byte_marks, IsAt, cause_of, fault_of_write, Refused, good, good_read, ScriptStopsIn, EndsLine, StopsAtLine, TakesScriptPiece, is_over, FindsBad, StopsInPiece}, ScriptTexts.{with_line_end, has_no_end}}
use Rattle.gx_script_run.proofs.{Records_next.{GoesOn, EffectGoesOn, line_effect_on}, Lines_cut.{finish, goes_on, line_ends, long_is_bad, no_marks, over_more}}

-- A line.

module _ (gate : GateData) (lines : ℕ) (line : List ℕ) (now : GateData) where
  pub ends_good : (count : ℕ) (output left : Option (List ℕ)) (told piece : List ℕ) → line_effect gate line ≡ Some (record { gate = now; text = told }) → piece ≡ told → Appends output left piece → count ≡ lines + 1
      → EndsLine gate lines line false now count output left
  unfolding on_line
  ends_good count output left told piece effect same written counted = record {
    told = told;
    written = subst (Appends output left) same written;
    does = λ text. ap (with_script_line (good gate lines text)) effect ∙ ap (λ n. good now n (text ++ told)) (sym counted);
  }

  pub ends_bad : (count : ℕ) (output : Option (List ℕ)) → line_effect gate line ≡ None → now ≡ gate → count ≡ lines + 1 → EndsLine gate lines line true now count output output
  unfolding on_line
  ends_bad count output effect same counted = record {
    told = [];
    written = Appends-nil output;
    does = λ text.
        ap (with_script_line (good gate lines text)) effect
        ∙ ap (λ (t : List ℕ). record { gate = gate; text = t; lines = lines + 1; bad = Some (lines + 1) }) (sym (append-nil text))
        ∙ ap (λ (n : ℕ). record { gate = gate; text = text ++ []; lines = n; bad = Some n }) (sym counted)
        ∙ ap (λ (g : GateData). record { gate = g; text = text ++ []; lines = count; bad = Some count }) (sym same);
  }

  -- it was done, and a front of its text written
  pub half_written : (output left : Option (List ℕ)) (told piece : List ℕ) → line_effect gate line ≡ Some (record { gate = now; text = told }) → piece ≡ told → IsFront output left piece → StopsAtLine gate lines line now output left WriteFault.WriteFailed
  unfolding on_line
  half_written output left told piece effect same f text more =
      subst (λ (e : Option Printed). ScriptStopsIn (good gate lines text) (mark (with_script_line (good gate lines text) e) ∷ more) WriteFault.WriteFailed now output left) (sym effect)
      (unsent Refused (IsAt now None) Writing (mark (good gate lines text)) _ more output left piece f (ap (λ t. text ++ t) (sym same)) tt (record { gate = refl; first_bad = refl }))

  -- of its records the first were made, and nothing was written
  pub half_done : (output : Option (List ℕ)) → IsHalf gate (line_effect gate line) now → StopsAtLine gate lines line now output output WriteFault.OutOfMemory
  unfolding on_line
  half_done output (inl same) text more = pauses Refused (IsAt now None) (mark (good gate lines text)) (mark (on_line (good gate lines text) line) ∷ more) output (record { gate = same; first_bad = refl })
  half_done output (inr h) text more = subst (λ (r : ScriptRun). ScriptStopsIn run (mark r ∷ more) WriteFault.OutOfMemory now output output) (sym done) (by h.left.others h.left.whole)
    where
      run : ScriptRun
      run = good gate lines text

      done : on_line (good gate lines text) line ≡ with_script_line (good gate lines text) (Some h.printed)
      done = ap (with_script_line (good gate lines text)) h.is_its

      effect : GoesOn gate h.printed.gate
      effect = subst (EffectGoesOn gate) h.is_its (line_effect_on gate line)

      by : (others : List RecordData) → h.printed.gate.records ≡ now.records ++ others → ScriptStopsIn run (mark (with_script_line run (Some h.printed)) ∷ more) WriteFault.OutOfMemory now output output
      by [] e =
          let same : now ≡ h.printed.gate = ap (λ p. record { policy = p; records = now.records }) (h.policy_kept ∙ sym effect.policy_kept) ∙ ap (λ rs. record { policy = h.printed.gate.policy; records = rs }) (sym (e ∙ append-nil now.records)) in
          unsent Refused (IsAt now None) Memory (mark run) _ more output output h.printed.text (record { front = []; rest = h.printed.text; written = Appends-nil output; whole = refl }) refl refl (record { gate = same; first_bad = refl })
      by (r ∷ others) e =
          let stop : Mark RecordData Known = record { records = now.records; text = text; known = record { policy = now.policy; bad = None } } in
          refused Refused (IsAt now None) Memory (mark run) _ more output output stop tt
          (record { made = h.made; left = record { next = r; others = others; whole = e }; text = refl; known = ap (λ p. record { policy = p; bad = None }) h.policy_kept }) (record { gate = refl; first_bad = refl }) (Appends-nil output)

-- A piece, whose first bytes were taken.

pub byte_ends : (r : ReadScript) (byte : ℕ) → last_of (mark r.run) (byte_marks r byte) ≡ mark (read_byte r byte).run
byte_ends r byte = elim (byte == 10) as (λ b. last_of (mark r.run) (cond b (mark (on_line r.run r.rest) ∷ []) []) ≡ mark (cond {A = ReadScript} b (record { run = on_line r.run r.rest; rest = [] }) (record { run = r.run; rest = r.rest ++ byte ∷ [] })).run) [ true ↦ refl | false ↦ refl ]

pub takes_none : (gate : GateData) (held : List ℕ) (lines : ℕ) (output : Option (List ℕ)) → TakesScriptPiece gate held lines [] gate held lines output output
takes_none gate held lines output = record { told = []; written = Appends-nil output; reads = λ text. ap (good_read gate held lines) (sym (append-nil text)) }

module _ (gate : GateData) (held : List ℕ) (lines : ℕ) (done : List ℕ) (mid : GateData) (rest : List ℕ) (n : ℕ) (output middle : Option (List ℕ)) (t : TakesScriptPiece gate held lines done mid rest n output middle) where
  -- what was read with these bytes behind them
  behind : (text piece more : List ℕ) → piece ≡ done ++ more → fold read_byte (good_read gate held lines text) piece ≡ fold read_byte (good_read mid rest n (text ++ t.told)) more
  behind text piece more split =
      ap (fold read_byte (good_read gate held lines text)) split ∙ (fold-append read_byte (good_read gate held lines text) done more ∙ ap (λ r. fold read_byte r more) (t.reads text))

  stops_behind : (fault : WriteFault) (now : GateData) (left : Option (List ℕ)) (text piece more : List ℕ) → piece ≡ done ++ more
      → (let r = good_read mid rest n (text ++ t.told) in ScriptStopsIn r.run (trail byte_marks read_byte r more) fault now middle left)
      → (let r = good_read gate held lines text in ScriptStopsIn r.run (trail byte_marks read_byte r piece) fault now output left)
  stops_behind fault now left text piece more split s =
      let r = good_read gate held lines text in
      subst (λ bytes. ScriptStopsIn r.run (trail byte_marks read_byte r bytes) fault now output left) (sym split)
      (items_cut (λ (x : ReadScript). mark x.run) byte_marks read_byte byte_ends Refused (IsAt now None) (IsAt now None) (λ m h. h) (cause_of (fault_of_write fault)) done more r t.told output middle left (ap (λ (x : ReadScript). x.run.text) (t.reads text)) t.written
      (subst (λ (x : ReadScript). ScriptStopsIn x.run (trail byte_marks read_byte x more) fault now middle left) (sym (t.reads text)) s))

  -- no growth for the others
  pub pauses_here : (piece more : List ℕ) → piece ≡ done ++ more → StopsInPiece gate held lines piece mid output middle WriteFault.OutOfMemory
  pauses_here piece more split text =
      let r = good_read mid rest n (text ++ t.told) in
      stops_behind WriteFault.OutOfMemory mid middle text piece more split (pauses Refused (IsAt mid None) (mark r.run) (trail byte_marks read_byte r more) middle (record { gate = refl; first_bad = refl }))

  module _ (line : List ℕ) (goes : has_no_end line ≡ true) where
    -- the bytes behind them end no line
    pub takes_front : (piece rest' : List ℕ) (count : ℕ) → piece ≡ done ++ line → rest' ≡ rest ++ line → count ≡ n → TakesScriptPiece gate held lines piece mid rest' count output middle
    takes_front piece rest' count split held_is same = record {
      told = t.told;
      written = t.written;
      reads = λ text. behind text piece line split ∙ goes_on line (good_read mid rest n (text ++ t.told)) goes ∙ ap (λ l. good_read mid l n (text ++ t.told)) (sym held_is) ∙ ap (λ k. good_read mid rest' k (text ++ t.told)) (sym same);
    }

    pub finds_long : (piece : List ℕ) (count : ℕ) → piece ≡ done ++ line → is_too_long (rest ++ line) ≡ true → count ≡ n + 1 → FindsBad gate held lines piece mid count output middle
    finds_long piece count split long counted =
        let d = ends_bad mid n (rest ++ line) mid count middle (long_is_bad mid (rest ++ line) long) refl counted in
        let there : (text : List ℕ) → fold read_byte (good_read gate held lines text) piece ≡ good_read mid (rest ++ line) n (text ++ t.told) =
        λ text. behind text piece line split ∙ goes_on line (good_read mid rest n (text ++ t.told)) goes in
        record {
          told = t.told ++ d.told;
          written = Appends-trans output middle middle t.told d.told t.written d.written;
          over = λ text. ap is_over (there text) ∙ long;
          finds = λ text. ap finish (there text) ∙ d.does (text ++ t.told) ∙ ap (λ (u : List ℕ). record { gate = mid; text = u; lines = count; bad = Some count }) (append_assoc text t.told d.told);
        }

    module _ (tail piece : List ℕ) (split : piece ≡ done ++ (with_line_end line ++ tail)) where
      ended_there : (text : List ℕ) → fold read_byte (good_read gate held lines text) piece ≡ fold read_byte (record { run = on_line (good mid n (text ++ t.told)) (rest ++ line); rest = [] }) tail
      ended_there text = behind text piece (with_line_end line ++ tail) split ∙ line_ends line tail (good_read mid rest n (text ++ t.told)) goes

      -- the first of them end the line, which was bad
      pub finds_line : (now : GateData) (count : ℕ) (left : Option (List ℕ)) → EndsLine mid n (rest ++ line) true now count middle left → FindsBad gate held lines piece now count output left
      unfolding on_line
      finds_line now count left d =
          let bad : List ℕ → ScriptRun = λ text. record { gate = now; text = text; lines = count; bad = Some count } in
          let there : (text : List ℕ) → fold read_byte (good_read gate held lines text) piece ≡ fold read_byte (record { run = bad (text ++ (t.told ++ d.told)); rest = [] }) tail =
          λ text. ended_there text ∙ ap (λ (run : ScriptRun). fold read_byte (record { run = run; rest = [] }) tail) (d.does (text ++ t.told) ∙ ap bad (append_assoc text t.told d.told)) in
          record {
            told = t.told ++ d.told;
            written = Appends-trans output middle left t.told d.told t.written d.written;
            over = λ text. ap is_over (there text) ∙ (over_more (record { run = bad (text ++ (t.told ++ d.told)); rest = [] }) tail refl).0;
            finds = λ text. ap finish (there text) ∙ (over_more (record { run = bad (text ++ (t.told ++ d.told)); rest = [] }) tail refl).1;
          }

      -- or was given up
      pub stops_line : (now : GateData) (left : Option (List ℕ)) (fault : WriteFault) → StopsAtLine mid n (rest ++ line) now middle left fault → StopsInPiece gate held lines piece now output left fault
      stops_line now left fault d text =
          let r = good_read mid rest n (text ++ t.told) in
          stops_behind fault now left text piece (with_line_end line ++ tail) split
          (subst (λ ms. ScriptStopsIn r.run ms fault now middle left) (sym (ap (trail byte_marks read_byte r) (append_assoc line (10 ∷ []) tail) ∙ no_marks line (10 ∷ tail) r goes)) (d (text ++ t.told) _))

    -- or was done
    pub takes_line : (rest' : List ℕ) (now : GateData) (count : ℕ) (left : Option (List ℕ)) → EndsLine mid n (rest ++ line) false now count middle left → rest' ≡ [] → TakesScriptPiece gate held lines (done ++ with_line_end line) now rest' count output left
    takes_line rest' now count left d none = record {
      told = t.told ++ d.told;
      written = Appends-trans output middle left t.told d.told t.written d.written;
      reads = λ text.
          ended_there [] (done ++ with_line_end line) (ap (λ l. done ++ l) (sym (append-nil (with_line_end line)))) text
          ∙ ap (λ (run : ScriptRun). record { run = run; rest = [] }) (d.does (text ++ t.told) ∙ ap (good now count) (append_assoc text t.told d.told))
          ∙ ap (λ l. good_read now l count (text ++ (t.told ++ d.told))) (sym none);
    }
