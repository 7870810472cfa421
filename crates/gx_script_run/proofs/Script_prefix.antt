-- What a script leaves that a fault stopped is a front of what the whole script leaves.
use Rattle.std.proofs.Common.{◌≡◌, ℕ, inl, inr, ◌⊎◌, true, false, cond, is_some, List, [], ◌∷◌, ◌++◌, Bool, Option, Some, None, IfSome, refl, sym, ap, ◌∙◌, subst, append-nil}
use Rattle.std.specs.{Prelude.{fold, ◌==◌}, Io.KnownBytes.IsAtEnd}
use Rattle.gx_devices.specs.{Devices.IsFront, Pieces.Flow, Stopping.AreFirst}
use Rattle.gx_devices.proofs.Run_stopped.{Leads, Rises, first_same, items_lead, leads_same, leads_then}
use Rattle.gx_devices.proofs.Run_pieces as pieces
use Rattle.gx_access_gate.specs.Gates.{GateData}
use Rattle.gx_script_run.specs.{declared.script_fault.ScriptFault.ScriptFault, Scripting.{Printed, line_effect, ScriptRun, with_script_line, on_line, script_of}, ScriptPiping.{ReadScript, read_byte, so_far, mark, byte_marks, way, IsAt, cause_of, Refused, IsLast, IsScriptCutShort}}
use Rattle.gx_script_run.proofs.{Records_next.{EffectGoesOn, line_effect_on}, Lines_cut.{script_is, so_far_more}, Script_next.byte_ends}

line_leads : (run : ScriptRun) (line : List ℕ) → Leads (mark run) (mark (on_line run line))
unfolding on_line
line_leads run line = at (is_some run.bad)
  where
    does : (e : Option Printed) → EffectGoesOn run.gate e → Leads (mark run) (mark (with_script_line run e))
    does None h = record { records = first_same run.gate.records run.gate.records refl; text = first_same run.text run.text refl }
    does (Some done) h = record { records = h.records; text = record { others = done.text; whole = refl } }

    at : (b : Bool) → Leads (mark run) (mark (cond b run (with_script_line run (line_effect run.gate line))))
    at true = leads_same (mark run) (mark run) refl
    at false = does (line_effect run.gate line) (line_effect_on run.gate line)

byte_rises : (r : ReadScript) (byte : ℕ) → Rises (mark r.run) (byte_marks r byte)
byte_rises r byte = elim (byte == 10) as (λ b. Rises (mark r.run) (cond b (mark (on_line r.run r.rest) ∷ []) [])) [ true ↦ (line_leads r.run r.rest, tt) | false ↦ tt ]

at_its_end : (fault : ScriptFault) (at_end : Type 0) → IsLast (cause_of fault) at_end → at_end
at_its_end ScriptFault.WriteFailed at_end h = h
at_its_end ScriptFault.OutOfMemory at_end h = h
at_its_end other at_end h = absurd h

-- the bytes that were next are bytes of the whole script
to_the_end : (before : GateData) (fault : ScriptFault) (left : Option (List ℕ)) (bytes piece items rest : List ℕ) → (items ≡ piece) ⊎ ((piece ≡ []) × (items ≡ 10 ∷ []) × IsLast (cause_of fault) (IsAtEnd left)) → left ≡ Some rest
    → Leads (mark (fold read_byte (so_far before bytes) items).run) (mark (script_of before ((bytes ++ piece) ++ rest)))
to_the_end before fault left bytes piece items rest (inl same) is =
    let there = fold read_byte (so_far before bytes) piece in
    let all = fold read_byte there rest in
    let e : script_of before ((bytes ++ piece) ++ rest) ≡ on_line all.run all.rest =
    script_is before ((bytes ++ piece) ++ rest) ∙ ap (λ (r : ReadScript). on_line r.run r.rest) (so_far_more before (bytes ++ piece) rest ∙ ap (λ r. fold read_byte r rest) (so_far_more before bytes piece)) in
    subst (λ xs. Leads (mark (fold read_byte (so_far before bytes) xs).run) (mark (script_of before ((bytes ++ piece) ++ rest)))) (sym same)
    (subst (λ (r : ScriptRun). Leads (mark there.run) (mark r)) (sym e) (leads_then (mark there.run) (mark all.run) (mark (on_line all.run all.rest)) (items_lead (λ (r : ReadScript). mark r.run) byte_marks read_byte byte_ends byte_rises rest there) (line_leads all.run all.rest)))
to_the_end before fault left bytes piece items rest (inr h) is =
    let none : rest ≡ [] = pieces.at_end left rest is (at_its_end fault (IsAtEnd left) h.2) in
    let all : (bytes ++ piece) ++ rest ≡ bytes = ap (λ r. (bytes ++ piece) ++ r) none ∙ append-nil (bytes ++ piece) ∙ ap (λ p. bytes ++ p) h.0 ∙ append-nil bytes in
    leads_same (mark (fold read_byte (so_far before bytes) items).run) (mark (script_of before ((bytes ++ piece) ++ rest)))
    (ap (λ xs. mark (fold read_byte (so_far before bytes) xs).run) h.1 ∙ ap mark (sym (ap (script_of before) all ∙ script_is before bytes)))

module _ (flow : Flow) (before after : GateData) (fault : ScriptFault) (f : IsScriptCutShort flow before after fault) where
  leads : (rest : List ℕ) → flow.left ≡ Some rest → Leads (mark (fold read_byte (so_far before f.bytes) f.broken.items).run) (mark (script_of before ((f.bytes ++ f.piece) ++ rest)))
  leads rest is = to_the_end before fault flow.left f.bytes f.piece f.broken.items rest f.broken.are_next.are is

  pub text_is_front : IfSome flow.input (λ all. IsFront flow.output flow.written (script_of before all).text)
  text_is_front = pieces.text_is_front (way before) byte_ends byte_rises Refused (λ r. IsAt after None) _ (cause_of fault) flow f (λ bytes. mark (script_of before bytes)) leads

  pub records_are_first : IfSome flow.input (λ all. AreFirst after.records (script_of before all).gate.records)
  records_are_first =
      subst (λ (g : GateData). IfSome flow.input (λ all. AreFirst g.records (script_of before all).gate.records)) (sym f.broken.cut.there.gate)
      (pieces.records_are_first (way before) byte_ends byte_rises Refused (λ r. IsAt after None) _ (cause_of fault) flow f (λ bytes. mark (script_of before bytes)) leads)
