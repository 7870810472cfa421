-- The records of a legal day, left again by their steps.
use Rattle.std.proofs.{Common.{◌≡◌, ℕ, ◌+◌, ◌<◌, length, List, [], ◌∷◌, ◌++◌, Option, Bool, true, false, refl, sym, ap, ◌∙◌, subst, take, drop, append_assoc}, Math.ListN.get_or, lemmas.List.{take-append-drop, take_more}}
use Rattle.std.specs.Prelude.{Some, None, IsTrue, option_map}
use mathlib.Core.List.{IsPrefix}
use Rattle.gx_policy.specs.declared.policy.PolicyData.{PolicyData}
use Rattle.gx_history.specs.{declared.record.{Asked.Asked, RecordData.RecordData, Step.Step}, Verdicts.{next, Follows, IsLegal}}
use Rattle.gx_laws.proofs.{Exposure_later.legal_in_parts, Streams_next.legal_before}
use Rattle.gx_access_gate.specs.{declared.outcome.Outcome.Outcome, Gates.{GateData, left_by, matched_by}, Matches.{next_match, with_match}, Steps.{next_of, never_refuses, with_record, IsFull}}
use Rattle.gx_audit.proofs.FullDay_bounds.{none_asked}

some_is : (x y : RecordData) → Some x ≡ Some y → x ≡ y
some_is x y e = cc

-- the record that a request leaves is the next
left_again : (gate : GateData) (a : Asked) (o : Outcome) (left : RecordData) → left.step ≡ Step.Asked a → Follows gate.policy (gate.records, left) → next_of gate a ≡ Some (left_by a o) → left_by a o ≡ left
left_again gate a o left is follows leaves =
    some_is (left_by a o) left (sym leaves ∙ ap (next gate.policy gate.records) (sym is) ∙ follows.is_next)

pub asked_again : (gate : GateData) (a : Asked) (o : Outcome) (left : RecordData) → left.step ≡ Step.Asked a → Follows gate.policy (gate.records, left) → next_of gate a ≡ Some (left_by a o)
    → with_record gate a o ≡ gate.records ++ left ∷ []
asked_again gate a o left is follows leaves = ap (λ (r : RecordData). gate.records ++ r ∷ []) (left_again gate a o left is follows leaves)

-- and so that of a matching step
matched_so : (gate : GateData) (handed : ℕ) (found : Option Outcome) (left : RecordData) → option_map (matched_by handed) found ≡ Some left → with_match gate handed found ≡ record { policy = gate.policy; records = gate.records ++ left ∷ [] }
matched_so gate handed None left is = cc
matched_so gate handed (Some o) left is = ap (λ (r : RecordData). record { policy = gate.policy; records = gate.records ++ r ∷ [] }) (some_is (matched_by handed o) left is)

whole_again : (gate : GateData) (handed : ℕ) (found : Option Outcome) (left : RecordData) → left.step ≡ Step.Matching handed → Follows gate.policy (gate.records, left) → next_match gate handed ≡ option_map (matched_by handed) found
    → with_match gate handed found ≡ record { policy = gate.policy; records = gate.records ++ left ∷ [] }
whole_again gate handed found left is follows leaves =
    matched_so gate handed found left (sym leaves ∙ ap (next gate.policy gate.records) (sym is) ∙ follows.is_next)

pub matched_again : (gate : GateData) (handed : ℕ) (found : Option Outcome) (left : RecordData) → left.step ≡ Step.Matching handed → Follows gate.policy (gate.records, left) → next_match gate handed ≡ option_map (matched_by handed) found
    → (with_match gate handed found).records ≡ gate.records ++ left ∷ []
matched_again gate handed found left is follows leaves = ap (λ (g : GateData). g.records) (whole_again gate handed found left is follows leaves)

-- a record that follows is refused no place in a full day
not_so : (b : Bool) → (IsTrue b → false ≡ true) → b ≡ false
not_so true none = sym (none refl)
not_so false none = refl

pub has_room : (gate : GateData) (a : Asked) (left : RecordData) → left.step ≡ Step.Asked a → Follows gate.policy (gate.records, left) → IsFull gate → (IsTrue (never_refuses gate a) → false ≡ true) → ⊥
has_room gate a left is follows full sure = none_asked gate a full (not_so (never_refuses gate a) sure) left is follows

-- a front of a legal day is legal, and its last record follows those before it
pub follows_next : {policy : PolicyData} (before : List RecordData) (left : RecordData) (rest : List RecordData) → IsLegal policy (before ++ left ∷ rest) → Follows policy (before, left)
follows_next {policy} before left rest legal =
    (legal_before before left (legal_in_parts (before ++ left ∷ []) rest (subst (IsLegal policy) (sym (append_assoc before (left ∷ []) rest)) legal)).0).1

-- so the next of those that come behind what a gate has
pub next_in_portion : {policy : PolicyData} (now : GateData) (before records : List RecordData) (place : ℕ) (left : RecordData) → place < length records → left ≡ get_or records place left → IsLegal policy (before ++ records)
    → now.policy ≡ policy → now.records ≡ before ++ take place records → Follows now.policy (now.records, left)
next_in_portion {policy} now before records place left within item legal same so_far =
    let rest = drop (place + 1) records in
    let one : take (place + 1) records ≡ take place records ++ left ∷ [] = take_more records place left within ∙ ap (λ (r : RecordData). take place records ++ r ∷ []) (sym item) in
    let all : take place records ++ left ∷ rest ≡ records =
    sym (append_assoc (take place records) (left ∷ []) rest) ∙ ap (λ (some : List RecordData). some ++ rest) (sym one) ∙ take-append-drop (place + 1) records in
    let whole : (before ++ take place records) ++ left ∷ rest ≡ before ++ records = append_assoc before (take place records) (left ∷ rest) ∙ ap (λ (some : List RecordData). before ++ some) all in
    subst (λ (p : PolicyData). Follows p (now.records, left)) (sym same)
    (subst (λ (some : List RecordData). Follows policy (some, left)) (sym so_far) (follows_next (before ++ take place records) left rest (subst (IsLegal policy) (sym whole) legal)))

-- what was repeated so far is a front of all
pub taken_begins : (now before records : List RecordData) (place : ℕ) → now ≡ before ++ take place records → IsPrefix now (before ++ records)
taken_begins now before records place is = (
  drop place records,
  ap (λ (some : List RecordData). some ++ drop place records) is
      ∙ append_assoc before (take place records) (drop place records)
      ∙ ap (λ (some : List RecordData). before ++ some) (take-append-drop place records),
)
