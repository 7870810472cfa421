-- Of what can be said of some bytes one thing alone is so.
use Rattle.std.proofs.{Common.{◌≡◌, ℕ, ◌+◌, ◌==◌, inl, inr, List, [], ◌∷◌, ◌++◌, length, take, drop, slice_index, refl, sym, ap, ◌∙◌, append_assoc, subst, arith}, lemmas.{List.{take_at, drop_at, append-nil, append_cancel_left, length-append}, Bool.{eqb-true, and_parts}, Option.same_Some}}
use Rattle.std.specs.{Prelude.{Some, Result, Ok, Err}, List.AllByRecursion}
use Rattle.gx_history.specs.{declared.«record».RecordData.RecordData, Verdicts.{Follows, IsLegal}}
use Rattle.gx_policy.specs.{declared.policy.PolicyData.PolicyData, Lists.{each_after, each_with_earlier}}
use Rattle.gx_laws.proofs.Orders_numbered.{next_number}
use Rattle.gx_audit.specs.{declared.fault.AuditFault.AuditFault, Auditing.{HasCutHeader, HasOtherHeader, IsAnswer, IsFaultAt, IsFirstFault, IsJudgement, IsOnlyAnswer}}
use Rattle.gx_audit_bytes.specs.{declared.version.AuditVersion.AuditVersion, Versions.version_of, Headers.front_of, Records.record_bytes, Reading.{record_of, IsRecordShown}, Audits.{all_bytes, whole_audit, AreShown}}
use Rattle.gx_audit_bytes.proofs.Record_read.{fields_lie}
use Rattle.gx_audit.proofs.Header_call.{begins_so, long_enough, same_header}

-- each record of a legal day follows those before it
follows_there : {X : Type 0} (P : List X × X → Type 0) (earlier before : List X) (x : X) (rest : List X) → AllByRecursion P (each_after earlier (before ++ x ∷ rest)) → P (earlier ++ before, x)
follows_there P earlier [] x rest h = subst (λ xs. P (xs, x)) (sym (append-nil earlier)) h.0
follows_there P earlier (y ∷ before) x rest h =
    subst (λ xs. P (xs, x)) (append_assoc earlier (y ∷ []) before) (follows_there P (earlier ++ y ∷ []) before x rest h.1)

follows_in : {policy : PolicyData} {all : List RecordData} (before : List RecordData) (r : RecordData) (rest : List RecordData) → IsLegal policy all → all ≡ before ++ r ∷ rest → Follows policy (before, r)
follows_in {policy} before r rest legal is =
    follows_there (Follows policy) [] before r rest (subst (λ (rs : List RecordData). AllByRecursion (Follows policy) (each_with_earlier rs)) is legal.follows)

-- a record that its bytes show has 128 of them
pub shown_size : (version : AuditVersion) (r : RecordData) → IsRecordShown version r → length (record_bytes version r) ≡ 128
shown_size version r shown =
    eqb-true (length (record_bytes version r)) 128
    (and_parts (slice_index (record_bytes version r) 0 == 71) (length (record_bytes version r) == 128) (fields_lie version r (record_bytes version r) refl shown.places).is_of).1

-- the records of the same bytes: one list goes on where the other ends
data Compared (version : AuditVersion) (h k : List RecordData) (l m : List ℕ) : Type 0 where
  Same : h ≡ k → l ≡ m → Compared version h k l m
  Longer : (r : RecordData) (rest : List RecordData) (bytes : List ℕ) → IsRecordShown version r → k ≡ h ++ r ∷ rest → l ≡ record_bytes version r ++ bytes → Compared version h k l m
  Shorter : (r : RecordData) (rest : List RecordData) (bytes : List ℕ) → IsRecordShown version r → h ≡ k ++ r ∷ rest → m ≡ record_bytes version r ++ bytes → Compared version h k l m

with_first : (version : AuditVersion) (r s : RecordData) {h k : List RecordData} (l m : List ℕ) → r ≡ s → Compared version h k l m → Compared version (r ∷ h) (s ∷ k) l m
with_first version r s l m is (Same records bytes) = Same (λ i. is i ∷ records i) bytes
with_first version r s l m is (Longer x rest bytes shown records left) = Longer x rest bytes shown (λ i. sym is i ∷ records i) left
with_first version r s l m is (Shorter x rest bytes shown records left) = Shorter x rest bytes shown (λ i. is i ∷ records i) left

compare : (version : AuditVersion) (h k : List RecordData) (l m : List ℕ) → AreShown version h → AreShown version k → all_bytes version h ++ l ≡ all_bytes version k ++ m → Compared version h k l m
unfolding all_bytes
compare version [] [] l m hs ks e = Same refl e
compare version [] (r ∷ k) l m hs ks e = Longer r k (all_bytes version k ++ m) ks.0 refl (e ∙ append_assoc (record_bytes version r) (all_bytes version k) m)
compare version (r ∷ h) [] l m hs ks e = Shorter r h (all_bytes version h ++ l) hs.0 refl (sym e ∙ append_assoc (record_bytes version r) (all_bytes version h) l)
compare version (r ∷ h) (s ∷ k) l m hs ks e =
    let whole : record_bytes version r ++ (all_bytes version h ++ l) ≡ record_bytes version s ++ (all_bytes version k ++ m) =
    sym (append_assoc (record_bytes version r) (all_bytes version h) l) ∙ e ∙ append_assoc (record_bytes version s) (all_bytes version k) m in
    let first : record_bytes version r ≡ record_bytes version s =
    sym (take_at (record_bytes version r) (all_bytes version h ++ l) 128 (shown_size version r hs.0)) ∙ ap (take 128) whole ∙ take_at (record_bytes version s) (all_bytes version k ++ m) 128 (shown_size version s ks.0) in
    let behind : all_bytes version h ++ l ≡ all_bytes version k ++ m =
    sym (drop_at (record_bytes version r) (all_bytes version h ++ l) 128 (shown_size version r hs.0)) ∙ ap (drop 128) whole ∙ drop_at (record_bytes version s) (all_bytes version k ++ m) 128 (shown_size version s ks.0) in
    with_first version r s l m (same_Some _ _ (sym hs.0.read_back ∙ ap (record_of version) first ∙ ks.0.read_back)) (compare version h k l m hs.1 ks.1 behind)

-- what the answer says of what is left behind the records before
abbrev EndsAt : AuditVersion → PolicyData → List RecordData → List ℕ → Result ℕ AuditFault → Type 0
EndsAt version policy before left (Ok n) = (left ≡ []) × (length before ≡ n)
EndsAt version policy before left (Err fault) = IsFaultAt version policy before left fault

-- no answer ends before a record that follows
stops : (version : AuditVersion) {policy : PolicyData} {before : List RecordData} (left : List ℕ) (r : RecordData) (bytes : List ℕ) (answer : Result ℕ AuditFault)
    → Follows policy (before, r) → IsRecordShown version r → left ≡ record_bytes version r ++ bytes → IsJudgement answer → EndsAt version policy before left answer → ⊥
stops version left r bytes (Ok n) follows shown is judges ends =
    let size : length left ≡ 128 + length bytes = ap length is ∙ length-append (record_bytes version r) bytes ∙ ap (λ (n : ℕ). n + length bytes) (shown_size version r shown) in
    let none : length left ≡ 0 = ap length ends.0 in
    omega (arith, size, none)
stops version left r bytes (Err AuditFault.Truncated) follows shown is judges ends =
    let size : length left ≡ 128 + length bytes = ap length is ∙ length-append (record_bytes version r) bytes ∙ ap (λ (n : ℕ). n + length bytes) (shown_size version r shown) in
    omega (arith, size, ends.1)
stops version left r bytes (Err (AuditFault.BadRecord n)) follows shown is judges ends =
    let found : record_of version (take 128 left) ≡ Some r = ap (λ (bs : List ℕ). record_of version (take 128 bs)) is ∙ ap (record_of version) (take_at (record_bytes version r) bytes 128 (shown_size version r shown)) ∙ shown.read_back in
    ends.1.1 r found (next_number r follows ∙ sym ends.1.0)
stops version {policy} {before} left r bytes (Err (AuditFault.IllegalVerdict n)) follows shown is judges ends =
    let found : record_of version (take 128 left) ≡ Some r = ap (λ (bs : List ℕ). record_of version (take 128 bs)) is ∙ ap (record_of version) (take_at (record_bytes version r) bytes 128 (shown_size version r shown)) ∙ shown.read_back in
    ends.1.1.does_not_follow (subst (λ (x : RecordData). Follows policy (before, x)) (same_Some _ _ (sym found ∙ ends.1.1.shown_is)) follows)
stops version left r bytes (Err AuditFault.OutOfMemory) follows shown is judges ends = judges
stops version left r bytes (Err AuditFault.OtherPolicy) follows shown is judges ends = ends.1

none_left : (left : List ℕ) → left ≡ [] → length left ≡ 0
none_left left none = ap length none

-- two answers that end at one place
same_end : (version : AuditVersion) (policy : PolicyData) (before : List RecordData) (left : List ℕ) (a b : Result ℕ AuditFault) → IsJudgement a → IsJudgement b → EndsAt version policy before left a → EndsAt version policy before left b → a ≡ b
same_end version policy before left (Ok n) (Ok m) ja jb ends other = ap (λ (n : ℕ). Ok n) (sym ends.1 ∙ other.1)
same_end version policy before left (Ok n) (Err AuditFault.Truncated) ja jb ends other = absurd (omega (arith, none_left left ends.0, other.0))
same_end version policy before left (Ok n) (Err (AuditFault.BadRecord m)) ja jb ends other = absurd (omega (arith, none_left left ends.0, other.0))
same_end version policy before left (Ok n) (Err (AuditFault.IllegalVerdict m)) ja jb ends other = absurd (omega (arith, none_left left ends.0, other.0))
same_end version policy before left (Ok n) (Err AuditFault.OtherPolicy) ja jb ends other = absurd other.1
same_end version policy before left (Ok n) (Err AuditFault.OutOfMemory) ja jb ends other = absurd jb
same_end version policy before left (Err AuditFault.Truncated) (Ok m) ja jb ends other = absurd (omega (arith, none_left left other.0, ends.0))
same_end version policy before left (Err AuditFault.Truncated) (Err AuditFault.Truncated) ja jb ends other = refl
same_end version policy before left (Err AuditFault.Truncated) (Err (AuditFault.BadRecord m)) ja jb ends other = absurd (omega (arith, ends.1, other.0))
same_end version policy before left (Err AuditFault.Truncated) (Err (AuditFault.IllegalVerdict m)) ja jb ends other = absurd (omega (arith, ends.1, other.0))
same_end version policy before left (Err AuditFault.Truncated) (Err AuditFault.OtherPolicy) ja jb ends other = absurd other.1
same_end version policy before left (Err AuditFault.Truncated) (Err AuditFault.OutOfMemory) ja jb ends other = absurd jb
same_end version policy before left (Err (AuditFault.BadRecord n)) (Ok m) ja jb ends other = absurd (omega (arith, none_left left other.0, ends.0))
same_end version policy before left (Err (AuditFault.BadRecord n)) (Err AuditFault.Truncated) ja jb ends other = absurd (omega (arith, other.1, ends.0))
same_end version policy before left (Err (AuditFault.BadRecord n)) (Err (AuditFault.BadRecord m)) ja jb ends other = ap (λ (n : ℕ). Err (AuditFault.BadRecord n)) (ends.1.0 ∙ sym other.1.0)
same_end version policy before left (Err (AuditFault.BadRecord n)) (Err (AuditFault.IllegalVerdict m)) ja jb ends other =
    absurd (ends.1.1 other.1.1.shown other.1.1.shown_is (other.1.1.number_is ∙ other.1.0 ∙ sym ends.1.0))
same_end version policy before left (Err (AuditFault.BadRecord n)) (Err AuditFault.OtherPolicy) ja jb ends other = absurd other.1
same_end version policy before left (Err (AuditFault.BadRecord n)) (Err AuditFault.OutOfMemory) ja jb ends other = absurd jb
same_end version policy before left (Err (AuditFault.IllegalVerdict n)) (Ok m) ja jb ends other = absurd (omega (arith, none_left left other.0, ends.0))
same_end version policy before left (Err (AuditFault.IllegalVerdict n)) (Err AuditFault.Truncated) ja jb ends other = absurd (omega (arith, other.1, ends.0))
same_end version policy before left (Err (AuditFault.IllegalVerdict n)) (Err (AuditFault.BadRecord m)) ja jb ends other =
    absurd (other.1.1 ends.1.1.shown ends.1.1.shown_is (ends.1.1.number_is ∙ ends.1.0 ∙ sym other.1.0))
same_end version policy before left (Err (AuditFault.IllegalVerdict n)) (Err (AuditFault.IllegalVerdict m)) ja jb ends other = ap (λ (n : ℕ). Err (AuditFault.IllegalVerdict n)) (ends.1.0 ∙ sym other.1.0)
same_end version policy before left (Err (AuditFault.IllegalVerdict n)) (Err AuditFault.OtherPolicy) ja jb ends other = absurd other.1
same_end version policy before left (Err (AuditFault.IllegalVerdict n)) (Err AuditFault.OutOfMemory) ja jb ends other = absurd jb
same_end version policy before left (Err AuditFault.OtherPolicy) other_answer ja jb ends other = absurd ends.1
same_end version policy before left (Err AuditFault.OutOfMemory) other_answer ja jb ends other = absurd ja

-- where an answer ends behind the front
record Ends (version : AuditVersion) (policy : PolicyData) (bytes : List ℕ) (answer : Result ℕ AuditFault) : Type 0 where
  before : List RecordData
  legal : IsLegal policy before
  shown : AreShown version before
  left : List ℕ
  bytes_are : whole_audit version policy before ++ left ≡ bytes
  ends : EndsAt version policy before left answer

-- what an answer is about
data Stands (policy : PolicyData) (bytes : List ℕ) (answer : Result ℕ AuditFault) : Type 0 where
  Cut : HasCutHeader bytes → answer ≡ Err AuditFault.Truncated → Stands policy bytes answer
  Other : HasOtherHeader policy bytes → answer ≡ Err AuditFault.OtherPolicy → Stands policy bytes answer
  Behind : Ends (version_of bytes) policy bytes answer → Stands policy bytes answer

at_fault : {policy : PolicyData} (bytes : List ℕ) (fault : AuditFault) → IsFirstFault policy bytes fault → Ends (version_of bytes) policy bytes (Err fault)
at_fault {policy} bytes fault found =
    subst (λ (v : AuditVersion). Ends v policy bytes (Err fault)) (sym found.version_is)
    (record { before = found.before; legal = found.legal; shown = found.shown; left = found.left; bytes_are = found.bytes_are; ends = found.stands })

where_it_stands : (policy : PolicyData) (bytes : List ℕ) (answer : Result ℕ AuditFault) → IsJudgement answer → IsAnswer policy bytes answer → Stands policy bytes answer
where_it_stands policy bytes (Ok n) judges found =
    Behind (subst (λ (v : AuditVersion). Ends v policy bytes (Ok n)) (sym found.version_is)
    (record {
      before = found.records;
      legal = found.legal;
      shown = found.shown;
      left = [];
      bytes_are = append-nil (whole_audit found.version policy found.records) ∙ found.bytes_are;
      ends = (refl, found.count_is);
    }))
where_it_stands policy bytes (Err AuditFault.Truncated) judges (inl cut) = Cut cut refl
where_it_stands policy bytes (Err AuditFault.Truncated) judges (inr found) = Behind (at_fault bytes AuditFault.Truncated found)
where_it_stands policy bytes (Err (AuditFault.BadRecord n)) judges found = Behind (at_fault bytes (AuditFault.BadRecord n) found)
where_it_stands policy bytes (Err (AuditFault.IllegalVerdict n)) judges found = Behind (at_fault bytes (AuditFault.IllegalVerdict n) found)
where_it_stands policy bytes (Err AuditFault.OutOfMemory) judges found = absurd judges
where_it_stands policy bytes (Err AuditFault.OtherPolicy) judges found = Other found refl

same_behind : (version : AuditVersion) {policy : PolicyData} (bytes : List ℕ) (a b : Result ℕ AuditFault) → IsJudgement a → IsJudgement b
    → (x : Ends version policy bytes a) (y : Ends version policy bytes b) → Compared version x.before y.before x.left y.left → a ≡ b
same_behind version {policy} bytes a b ja jb x y (Same records left) =
    same_end version policy y.before y.left a b ja jb
    (subst (λ (l : List ℕ). EndsAt version policy y.before l a) left (subst (λ (h : List RecordData). EndsAt version policy h x.left a) records x.ends)) y.ends
same_behind version bytes a b ja jb x y (Longer r rest behind shown records left) =
    absurd (stops version x.left r behind a (follows_in x.before r rest y.legal records) shown left ja x.ends)
same_behind version bytes a b ja jb x y (Shorter r rest behind shown records left) =
    absurd (stops version y.left r behind b (follows_in y.before r rest x.legal records) shown left jb y.ends)

-- the same bytes behind the front
behind_front : (version : AuditVersion) (policy : PolicyData) (bytes : List ℕ) (h k : List RecordData) (l m : List ℕ) → whole_audit version policy h ++ l ≡ bytes
    → whole_audit version policy k ++ m ≡ bytes → all_bytes version h ++ l ≡ all_bytes version k ++ m
behind_front version policy bytes h k l m one other =
    append_cancel_left (front_of version policy) (all_bytes version h ++ l) (all_bytes version k ++ m)
    (sym (append_assoc (front_of version policy) (all_bytes version h) l) ∙ one ∙ sym other ∙ append_assoc (front_of version policy) (all_bytes version k) m)

-- behind a header that is cut short nothing stands
not_cut : {policy : PolicyData} (bytes : List ℕ) (a : Result ℕ AuditFault) → HasCutHeader bytes → Ends (version_of bytes) policy bytes a → ⊥
not_cut {policy} bytes a cut x =
    let front = begins_so (version_of bytes) policy x.before x.left bytes cut.headed x.bytes_are in
    omega (arith, cut.short, long_enough (version_of bytes) policy (all_bytes (version_of bytes) x.before ++ x.left) bytes front)

-- nor behind another than the policy's
not_other : {policy : PolicyData} (bytes : List ℕ) (a : Result ℕ AuditFault) → HasOtherHeader policy bytes → Ends (version_of bytes) policy bytes a → ⊥
not_other {policy} bytes a other x =
    let front = begins_so (version_of bytes) policy x.before x.left bytes other.headed x.bytes_are in
    other.other (same_header (version_of bytes) policy (all_bytes (version_of bytes) x.before ++ x.left) bytes front)

cut_or_other : {policy : PolicyData} (bytes : List ℕ) → HasCutHeader bytes → HasOtherHeader policy bytes → ⊥
cut_or_other bytes cut other = omega (arith, cut.short, other.whole)

same_answer : {policy : PolicyData} (bytes : List ℕ) (a b : Result ℕ AuditFault) → IsJudgement a → IsJudgement b → Stands policy bytes a → Stands policy bytes b → a ≡ b
same_answer bytes a b ja jb (Cut x is) (Cut y other_is) = is ∙ sym other_is
same_answer bytes a b ja jb (Cut x is) (Other y other_is) = absurd (cut_or_other bytes x y)
same_answer bytes a b ja jb (Cut x is) (Behind y) = absurd (not_cut bytes b x y)
same_answer bytes a b ja jb (Other x is) (Cut y other_is) = absurd (cut_or_other bytes y x)
same_answer bytes a b ja jb (Other x is) (Other y other_is) = is ∙ sym other_is
same_answer bytes a b ja jb (Other x is) (Behind y) = absurd (not_other bytes b x y)
same_answer bytes a b ja jb (Behind x) (Cut y other_is) = absurd (not_cut bytes a y x)
same_answer bytes a b ja jb (Behind x) (Other y other_is) = absurd (not_other bytes a y x)
same_answer {policy} bytes a b ja jb (Behind x) (Behind y) =
    same_behind (version_of bytes) bytes a b ja jb x y
    (compare (version_of bytes) x.before y.before x.left y.left x.shown y.shown
    (behind_front (version_of bytes) policy bytes x.before y.before x.left y.left x.bytes_are y.bytes_are))

-- an answer that says what is so is the only one that does
pub is_only : (policy : PolicyData) (bytes : List ℕ) (answer : Result ℕ AuditFault) → IsAnswer policy bytes answer → IsOnlyAnswer policy bytes answer
is_only policy bytes answer so other judges other_so answers =
    same_answer bytes other answer judges answers (where_it_stands policy bytes other judges other_so) (where_it_stands policy bytes answer answers so)
