-- A gate of a board's own, as it goes on.
use Rattle.std.proofs.{Common.{◌≡◌, ℕ, ◌+◌, ◌<◌, ◌≤◌, List, [], ◌++◌, length, take, drop, sym, ap, ◌∙◌, subst, arith, append_assoc, pred, max}, lemmas.{Bool.Decides.nat_tests, List.{length-append, length-take, take-append-le, take-append-drop, take_all}}, Math.Seq.drop-append_seam}
use Rattle.std.specs.Prelude.{Option, Some, None, Result, Ok, IfOk, IfSome, IsFalse, IsTrue, nat_lt}
use mathlib.Core.List.{IsPrefix}
use Rattle.gx_policy.specs.{declared.policy.PolicyData.PolicyData, Lists.slice}
use Rattle.gx_history.specs.{declared.record.RecordData.RecordData, Verdicts.IsLegal}
use Rattle.gx_laws.proofs.Exposure_later.{legal_in_parts}
use Rattle.gx_pass.proofs.Lists_prefix.{prefix_trans}
use Rattle.gx_access_gate.specs.Gates.{GateData}
use Rattle.gx_board.specs.{declared.summary.Summary.Summary, Replicas.IsReplica, Summaries.{IsSummary, IsSummaryBehind}}

before_next : (done : ℕ) → pred (max 1 (done + 1)) ≡ done
before_next done = grind arith

-- a summary that is behind these records is behind these and more
pub summary_behind : {policy : PolicyData} {front : List RecordData} (now : PolicyData) (records : List RecordData) (d : Summary) → now ≡ policy → IsPrefix front records → IsSummaryBehind policy front d → IsSummaryBehind now records d
summary_behind {policy} {front} now records d same begins behind =
    subst (λ (p : PolicyData). IsSummaryBehind p records d) (sym same)
    (subst (λ (rs : List RecordData). IsSummaryBehind policy rs d) begins.1
    record {
      few = omega (arith, behind.few, length-append front begins.0);
      first = subst (λ (some : List RecordData). IsSummary policy some d) (sym (take-append-le d.counts.records front begins.0 behind.few)) behind.first;
    })

-- one that is behind these records is behind all that begin with them
pub replica_behind : {policy : PolicyData} {front : List RecordData} (later : List RecordData) (gate : GateData) → IsPrefix front later → IsReplica policy front gate → IsReplica policy later gate
replica_behind {policy} {front} later gate begins is = record { same = is.same; begins = prefix_trans gate.records front later is.begins begins }

pub still_behind : (policy : PolicyData) (front later : List RecordData) (found : Option GateData) → IsPrefix front later → IfSome found (IsReplica policy front) → IfSome found (IsReplica policy later)
still_behind policy front later None begins is = is
still_behind policy front later (Some gate) begins is = replica_behind later gate begins is

-- and one that has no record is behind any
pub none_behind : (policy : PolicyData) (records : List RecordData) (gate : GateData) → gate.policy ≡ policy → gate.records ≡ [] → IsReplica policy records gate
none_behind policy records gate same none = record { same = same; begins = (records, ap (λ (few : List RecordData). few ++ records) none) }

-- the records that come next, so many at most
pub next_portion : (front : List RecordData) (few more : List RecordData) (most : ℕ) → (begins : IsPrefix few front) → more ≡ slice front (length few + 1) most → more ≡ take most begins.0
next_portion front few more most begins is =
    is
    ∙ ap (λ (n : ℕ). take most (drop n front)) (before_next (length few))
    ∙ ap (λ (all : List RecordData). take most (drop (length few) all)) (sym begins.1)
    ∙ ap (take most) (drop-append_seam few begins.0)

-- they go on with a front
pub portion_begins : (front few more : List RecordData) (most : ℕ) → IsPrefix few front → more ≡ slice front (length few + 1) most → IsPrefix (few ++ more) front
portion_begins front few more most begins is = (
  drop most begins.0,
  append_assoc few more (drop most begins.0)
      ∙ ap (λ (next : List RecordData). few ++ (next ++ drop most begins.0)) (next_portion front few more most begins is)
      ∙ ap (λ (rest : List RecordData). few ++ rest) (take-append-drop most begins.0)
      ∙ begins.1,
)

-- of a legal day
pub portion_is_legal : {policy : PolicyData} (front few more : List RecordData) (most : ℕ) → IsPrefix few front → more ≡ slice front (length few + 1) most → IsLegal policy front → IsLegal policy (few ++ more)
portion_is_legal {policy} front few more most begins is legal =
    let parts = portion_begins front few more most begins is in
    (legal_in_parts (few ++ more) parts.0 (subst (IsLegal policy) (sym parts.1) legal)).0

-- and are all where they are fewer
pub all_followed : (front few more : List RecordData) (most : ℕ) → IsPrefix few front → more ≡ slice front (length few + 1) most → length more < most → few ++ more ≡ front
all_followed front few more most begins is fewer =
    let cut = next_portion front few more most begins is in
    let long = ap length cut ∙ length-take most begins.0 in
    ap (λ (next : List RecordData). few ++ next) (cut ∙ take_all most begins.0 (omega (arith, long, fewer))) ∙ begins.1

-- no more than so many
pub portion_is_short : (front few more : List RecordData) (most : ℕ) → more ≡ slice front (length few + 1) most → length more ≤ most
portion_is_short front few more most is = omega (arith, ap length is ∙ length-take most (drop (pred (max 1 (length few + 1))) front))

-- fewer than a whole portion, and not
pub is_fewer : (n : ℕ) → IsTrue (nat_lt n 250) → n < 250
is_fewer n h = grind (arith, nat_tests)

pub is_no_fewer : (n : ℕ) → IsFalse (nat_lt n 250) → 250 ≤ n
is_no_fewer n h = grind (arith, nat_tests)

-- a fact of what was answered
pub if_ok : {V E : Type 0} (P : V → Type 0) (found : Result V E) (v : V) → found ≡ Ok v → IfOk found P → P v
if_ok P found v is holds = subst (λ r. IfOk r P) is holds

-- a portion of the records that a shared gate has behind these
pub record IsPortion (policy : PolicyData) (few front more : List RecordData) : Type 0 where
  pub legal : IsLegal policy (few ++ more)
  pub begins : IsPrefix (few ++ more) front
  pub short : length more ≤ 250
  pub all : length more < 250 → few ++ more ≡ front

pub portion : {policy : PolicyData} (before front few more : List RecordData) (count : ℕ) → IsLegal policy front → IsPrefix few before → IsPrefix before front → count ≡ length few → more ≡ slice front (count + 1) 250
    → IsPortion policy few front more
portion {policy} before front few more count legal was goes counted is =
    let begins = prefix_trans few before front was goes in
    let next : more ≡ slice front (length few + 1) 250 = is ∙ ap (λ (n : ℕ). slice front (n + 1) 250) counted in
    record {
      legal = portion_is_legal front few more 250 begins next legal;
      begins = portion_begins front few more 250 begins next;
      short = portion_is_short front few more 250 next;
      all = all_followed front few more 250 begins next;
    }
