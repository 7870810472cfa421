-- What a script that was read to its end, or given up, leaves.
use Rattle.std.proofs.{Common.{◌≡◌, ℕ, ◌≤◌, arith, length, Bool, Option, Some, None, List, [], ◌∷◌, ◌++◌, refl, sym, ap, ◌∙◌, subst, inl, inr}, KnownBytes.{Appends-trans, Consumes-nil, Consumes-trans}}
use Rattle.std.specs.{Prelude.fold, Io.KnownBytes.{Appends, Consumes, Keeps, IsAtEnd}}
use Rattle.gx_access_gate.specs.Gates.{GateData}
use Rattle.gx_devices.specs.{declared.fault.WriteFault.WriteFault, Pieces.Flow, Stopping.{MayEnd, trail}}
use Rattle.gx_devices.specs.Pieces as pieces
use Rattle.gx_devices.proofs.Run_pieces.{Stands, all_of_whole, cut_in, cut_there, stands_first, whole}
use Rattle.gx_script_run.specs.{declared.script_fault.ScriptFault.ScriptFault, Scripting.{ScriptRun, on_line, script_of, is_settled}, ScriptPiping.{ReadScript, read_byte, so_far, mark, byte_marks, way, IsAt, cause_of, fault_of_write, Refused, good_read, bad_at, EndsLine, StopsAtLine, TakesScriptPiece, is_over, FindsBad, StopsInPiece, IsSoFar, IsScript, IsAll, IsLast, IsScriptCutShort, IfBadLine, UnlessBadLine}}
use Rattle.gx_script_run.proofs.Lines_cut.{finish, nothing_follows, script_is, settled_is, so_far_more}

pub unless_bad : (fault : WriteFault) (P : Type 0) → P → UnlessBadLine (fault_of_write fault) P
unless_bad WriteFault.OutOfMemory P p = p
unless_bad WriteFault.WriteFailed P p = p

at_last : (fault : WriteFault) (at_end : Type 0) → at_end → IsLast (cause_of (fault_of_write fault)) at_end
at_last WriteFault.OutOfMemory at_end p = p
at_last WriteFault.WriteFailed at_end p = p

pub starts : (before : GateData) (rest : List ℕ) (lines : ℕ) (input output : Option (List ℕ)) → rest ≡ [] → lines ≡ 0
    → Stands (way before) (IsSoFar before before rest lines) (record { input = input; left = input; output = output; written = output })
unfolding so_far
starts before rest lines input output r n = stands_first (way before) _ input output (ap (λ l. good_read before l 0 []) (sym r) ∙ ap (λ k. good_read before rest k []) (sym n), omega (arith, ap length r)) refl

module _ (before gate : GateData) (rest : List ℕ) (lines : ℕ) where
  here_is : (bytes : List ℕ) → IsSoFar before gate rest lines bytes → IsAt gate None (mark (so_far before bytes).run)
  here_is bytes s = record { gate = sym (ap (λ (r : ReadScript). r.run.gate) s.0); first_bad = ap (λ (r : ReadScript). r.run.bad) s.0 }

  held_is : (bytes : List ℕ) → IsSoFar before gate rest lines bytes → length (so_far before bytes).rest ≤ 1026
  held_is bytes s = let IsFew : List ℕ → Type 0 = λ l. length l ≤ 1026 in subst IsFew (sym (ap (λ (r : ReadScript). r.rest) s.0)) s.1

  -- behind a piece more
  piece_more : (bytes piece : List ℕ) → IsSoFar before gate rest lines bytes → so_far before (bytes ++ piece) ≡ fold read_byte (good_read gate rest lines (so_far before bytes).run.text) piece
  piece_more bytes piece s = so_far_more before bytes piece ∙ ap (λ r. fold read_byte r piece) s.0

  pub takes : (bytes piece : List ℕ) (now : GateData) (rest' : List ℕ) (lines' : ℕ) (output left : Option (List ℕ)) → IsSoFar before gate rest lines bytes → TakesScriptPiece gate rest lines piece now rest' lines' output left → length rest' ≤ 1026
      → pieces.TakesPiece (way before) (IsSoFar before now rest' lines') bytes piece output left
  takes bytes piece now rest' lines' output left s t few =
      let e : so_far before (bytes ++ piece) ≡ good_read now rest' lines' ((so_far before bytes).run.text ++ t.told) = piece_more bytes piece s ∙ t.reads (so_far before bytes).run.text in
      record {
        follows = (e ∙ ap (good_read now rest' lines') (sym (ap (λ (r : ReadScript). r.run.text) e)), few);
        told = t.told;
        written = t.written;
        more = ap (λ (r : ReadScript). r.run.text) e;
      }

  module _ (flow : Flow) (s : Stands (way before) (IsSoFar before gate rest lines) flow) where
    abbrev text_there : List ℕ
    text_there = (so_far before s.bytes).run.text

    module _ (now : GateData) (written : Option (List ℕ)) where
      -- a bad line was found in a piece
      pub finds : (left : Option (List ℕ)) (piece : List ℕ) (n : ℕ) → Consumes flow.left left piece → FindsBad gate rest lines piece now n flow.written written → IsScript (record flow { left = left; written = written }) before now (Some n)
      finds left piece n took f =
          let more = piece_more s.bytes piece s.follows in
          let e : script_of before (s.bytes ++ piece) ≡ record { gate = now; text = text_there ++ f.told; lines = n; bad = Some n } = script_is before (s.bytes ++ piece) ∙ ap finish more ∙ f.finds text_there in
          record {
            bytes = s.bytes ++ piece;
            consumed = Consumes-trans flow.input flow.left left s.bytes piece s.consumed took;
            there = record { gate = sym (ap (λ (r : ScriptRun). r.gate) e); first_bad = ap (λ (r : ScriptRun). r.bad) e };
            text = subst (Appends flow.output written) (sym (ap (λ (r : ScriptRun). r.text) e)) (Appends-trans flow.output flow.written written text_there f.told s.text f.written);
            whole = inr (settled_is before (s.bytes ++ piece) ∙ ap is_over more ∙ f.over text_there);
          }

      -- a piece was given up
      pub breaks : (left : Option (List ℕ)) (piece : List ℕ) (fault : WriteFault) → Consumes flow.left left piece → length piece ≤ 4096 → StopsInPiece gate rest lines piece now flow.written written fault
          → IsScriptCutShort (record flow { left = left; written = written }) before now (fault_of_write fault)
      breaks left piece fault took small cut = cut_in (way before) _ flow s Refused (λ r. IsAt now None) _ _ left written piece took small (record {
        items = piece;
        are_next = record { held = held_is s.bytes s.follows; are = inl refl };
        cut = subst (λ (r : ReadScript). pieces.StopsIn Refused (IsAt now None) (cause_of (fault_of_write fault)) (mark r.run) (trail byte_marks read_byte r piece) flow.written written) (sym s.follows.0) (cut text_there);
      })

      -- at the end the last line was done, or is bad
      pub ends : (is_bad : Bool) (n : ℕ) → IsAtEnd flow.left → EndsLine gate lines rest is_bad now n flow.written written → IsScript (record flow { written = written }) before now (bad_at is_bad n)
      ends is_bad n end d =
          let e : script_of before s.bytes ≡ record { gate = now; text = text_there ++ d.told; lines = n; bad = bad_at is_bad n } = script_is before s.bytes ∙ ap finish s.follows.0 ∙ d.does text_there in
          whole (way before) _ flow s (λ bytes. mark (script_of before bytes)) (is_settled before) (IsAt now (bad_at is_bad n)) written d.told (record { gate = sym (ap (λ (r : ScriptRun). r.gate) e); first_bad = ap (λ (r : ScriptRun). r.bad) e }) (ap (λ (r : ScriptRun). r.text) e) d.written (inl end)

      -- or was given up
      pub stops : (fault : WriteFault) → IsAtEnd flow.left → StopsAtLine gate lines rest now flow.written written fault → IsScriptCutShort (record flow { written = written }) before now (fault_of_write fault)
      stops fault end cut = cut_in (way before) _ flow s Refused (λ r. IsAt now None) _ _ flow.left written [] (Consumes-nil flow.left) (omega arith) (record {
        items = 10 ∷ [];
        are_next = record { held = held_is s.bytes s.follows; are = inr (refl, refl, at_last fault (IsAtEnd flow.left) end) };
        cut = subst (λ (r : ReadScript). pieces.StopsIn Refused (IsAt now None) (cause_of (fault_of_write fault)) (mark r.run) (mark (on_line r.run r.rest) ∷ []) flow.written written) (sym s.follows.0) (cut text_there []);
      })

    -- a read that failed, or one too many
    pub stops_reading : (fault : ScriptFault) → MayEnd (cause_of fault) → (left : Option (List ℕ)) → Keeps flow.left left → IsScriptCutShort (record flow { left = left }) before gate fault
    stops_reading fault may left kept =
        cut_there (way before) _ flow s Refused (λ r. IsAt gate None) _ (cause_of fault) left kept may (here_is s.bytes s.follows) (record { held = held_is s.bytes s.follows; are = inl refl })

pub all_of_script : (flow : Flow) (before after : GateData) (bad : Option ℕ) → IsScript flow before after bad → IsAll flow before after bad
all_of_script flow before after bad s =
    all_of_whole (λ bytes. mark (script_of before bytes)) (is_settled before) (IsAt after bad) flow (λ bytes more h. ap mark (nothing_follows before bytes more h)) s

pub all_with_bad : (flow : Flow) (before after : GateData) (fault : ScriptFault) → IfBadLine fault (λ n. IsScript flow before after (Some n)) → IfBadLine fault (λ n. IsAll flow before after (Some n))
all_with_bad flow before after (ScriptFault.BadLine n) s = all_of_script flow before after (Some n) s
all_with_bad flow before after other s = tt
