-- What rows stand for, part by part.
use Rattle.std.proofs.{Common.{◌≡◌, ℕ, zero, suc, ◌+◌, ◌<◌, ◌≤◌, List, [], ◌∷◌, ◌++◌, get_or, length, take, drop, refl, ◌∙◌, sym, ap, subst, arith}, lemmas.{List.{length-append, length-map, map-append}, Option.same_Some}}
use Rattle.std.specs.{Prelude.{Option, Some, None, IsTrue, slice_get}, Option.option_map_or}
use Rattle.gx_units.proofs.Lists_found.{get_before}
use Rattle.gx_policy.specs.declared.rule_name.RuleName.{RuleName}
use Rattle.gx_history.specs.{declared.{«record».{Asked.Asked, Step.Step, Fill.Fill, Verdict.Verdict, RecordData.RecordData}, rows.{RowContent.RowContent, RecordRow.RecordRow}}, Showing.is_showable, Rows.{AllShowable, AllThere, AreKept, IsThere, KeptLists, Lists, asked_of, fills_of, record_in, records_in, rules_of, step_in, verdict_in, with_details}}

pub records_length : (lists : Lists) (rows : List RecordRow) → length (records_in lists rows) ≡ length rows
records_length lists rows = length-map rows (record_in lists)

-- ---- an item at its place

-- the record of the row at this place
pub record_there : (lists : Lists) (rows : List RecordRow) (place : ℕ) (row : RecordRow) (r : RecordData) → place < length rows → row ≡ get_or rows place row
    → r ≡ record_in lists row → slice_get (records_in lists rows) place ≡ Some r
record_there lists [] place row r within is stands = absurd (omega (arith, within))
record_there lists (x ∷ rows) zero row r within is stands = ap (λ (y : RecordRow). Some (record_in lists y)) (sym is) ∙ ap (λ s. Some s) (sym stands)
record_there lists (x ∷ rows) (suc place) row r within is stands = record_there lists rows place row r (omega (arith, within)) is stands

pub no_record : (lists : Lists) (rows : List RecordRow) (place : ℕ) → length rows ≤ place → slice_get (records_in lists rows) place ≡ None
no_record lists [] place h = refl
no_record lists (row ∷ rows) zero h = absurd (omega (arith, h))
no_record lists (row ∷ rows) (suc place) h = no_record lists rows place (omega (arith, h))

-- ---- what can be shown

pub showable_past : (records : List RecordData) (count : ℕ) → AllShowable records → AllShowable (drop count records)
showable_past [] zero all = tt
showable_past [] (suc count) all = tt
showable_past (r ∷ records) zero all = all
showable_past (r ∷ records) (suc count) all = showable_past records count all.1

pub showable_taken : (records : List RecordData) (most : ℕ) → AllShowable records → AllShowable (take most records)
showable_taken [] zero all = tt
showable_taken [] (suc most) all = tt
showable_taken (r ∷ records) zero all = tt
showable_taken (r ∷ records) (suc most) all = (all.0, showable_taken records most all.1)

pub showable_at : (records : List RecordData) (place : ℕ) (r : RecordData) → slice_get records place ≡ Some r → AllShowable records → IsTrue (is_showable r)
showable_at [] place r found all = cc
showable_at (x ∷ records) zero r found all = subst (λ (y : RecordData). IsTrue (is_showable y)) (same_Some _ _ found) all.0
showable_at (x ∷ records) (suc place) r found all = showable_at records place r found all.1

showable_last : (records : List RecordData) (r : RecordData) → AllShowable records → IsTrue (is_showable r) → AllShowable (records ++ r ∷ [])
showable_last [] r all last = (last, tt)
showable_last (x ∷ records) r all last = (all.0, showable_last records r all.1 last)

-- ---- one more record

module _ (lists : Lists) (asked : List Asked) (rules : List RuleName) (fills : List Fill) where
  -- more behind what is there
  abbrev wider : Lists
  wider = record { asked = lists.asked ++ asked; rules = lists.rules ++ rules; fills = lists.fills ++ fills }

  there_in : (e : RowContent) → IsThere lists e → IsThere wider e
  there_in (RowContent.Granted place) h = omega (arith, h, length-append lists.asked asked)
  there_in (RowContent.Denied place rule) h = (omega (arith, h.0, length-append lists.asked asked), omega (arith, h.1, length-append lists.rules rules))
  there_in (RowContent.Filled handed place) h = omega (arith, h, length-append lists.fills fills)
  there_in (RowContent.Rested handed order) h = tt
  there_in (RowContent.Expired handed order) h = tt

  same_record : (n moment : ℕ) (e : RowContent) → IsThere lists e → record_in wider (record { number = n; moment = moment; event = e }) ≡ record_in lists (record { number = n; moment = moment; event = e })
  same_record n moment (RowContent.Granted place) h =
      ap (λ (o : Option Asked). record { number = n; moment = moment; step = option_map_or (λ (a : Asked). Step.Asked a) o (Step.Matching 0); verdict = Verdict.Granted }) (get_before lists.asked asked place h)
  same_record n moment (RowContent.Denied place rule) h =
      λ i. record { number = n; moment = moment; step = option_map_or (λ (a : Asked). Step.Asked a) (get_before lists.asked asked place h.0 i) (Step.Matching 0); verdict = option_map_or (λ (r : RuleName). Verdict.Denied r) (get_before lists.rules rules rule h.1 i) Verdict.Granted }
  same_record n moment (RowContent.Filled handed place) h =
      ap (λ (o : Option Fill). record { number = n; moment = moment; step = Step.Matching handed; verdict = option_map_or (λ (f : Fill). Verdict.Filled f) o Verdict.Granted }) (get_before lists.fills fills place h)
  same_record n moment (RowContent.Rested handed order) h = refl
  same_record n moment (RowContent.Expired handed order) h = refl

  -- what stands in rows stays
  pub same_records : (rows : List RecordRow) → AllThere lists rows → records_in wider rows ≡ records_in lists rows
  same_records [] all = refl
  same_records (row ∷ rows) all = λ i. same_record row.number row.moment row.event all.0 i ∷ same_records rows all.1 i

  pub there_then : (rows : List RecordRow) (row : RecordRow) → AllThere lists rows → IsThere wider row.event → AllThere wider (rows ++ row ∷ [])
  there_then [] row all last = (last, tt)
  there_then (x ∷ rows) row all last = (there_in x.event all.0, there_then rows row all.1 last)

pub kept_again : (k later : KeptLists) (rows same : List RecordRow) (used capacity used_then capacity_then : ℕ) → AreKept k rows used capacity → later.lists ≡ k.lists → same ≡ rows
    → used_then + later.reserved ≤ capacity_then → AreKept later same used_then capacity_then
kept_again k later rows same used capacity used_then capacity_then kept lists is room = record {
  there = all_there;
  showable = subst (λ (p : Lists). AllShowable (records_in p same)) (sym lists) (subst (λ (rs : List RecordRow). AllShowable (records_in k.lists rs)) (sym is) kept.showable);
  room = room;
}
  where
    all_there : AllThere later.lists same
    all_there = subst (λ (p : Lists). AllThere p same) (sym lists) (subst (λ (rs : List RecordRow). AllThere k.lists rs) (sym is) kept.there)

-- one more record, its details put last, stands in one more row
module _ (k later : KeptLists) (rows more : List RecordRow) (r : RecordData) (e : RowContent) where
  abbrev pub its_row : RecordRow
  its_row = record { number = r.number; moment = r.moment; event = e }

  pub record AddsOne : Type 0 where
    pub there : AllThere k.lists rows
    pub lists : later.lists ≡ with_details r.step r.verdict k.lists
    pub last : more ≡ rows ++ its_row ∷ []
    pub step : step_in later.lists.asked e ≡ r.step
    pub verdict : verdict_in later.lists.rules later.lists.fills e ≡ r.verdict
    pub is_there : IsThere later.lists e

  stands : AddsOne → record_in later.lists its_row ≡ r
  stands adds = λ i. record { number = r.number; moment = r.moment; step = adds.step i; verdict = adds.verdict i }

  pub pushed : AddsOne → records_in later.lists more ≡ records_in k.lists rows ++ r ∷ []
  pushed adds =
      ap (records_in later.lists) adds.last
      ∙ map-append (record_in later.lists) rows (its_row ∷ [])
      ∙ (λ i. earlier i ++ stands adds i ∷ [])
    where
      earlier : records_in later.lists rows ≡ records_in k.lists rows
      earlier = ap (λ (l : Lists). records_in l rows) adds.lists ∙ same_records k.lists (asked_of r.step) (rules_of r.verdict) (fills_of r.verdict) rows adds.there

  pub kept_then : (used capacity used_then capacity_then : ℕ) → AreKept k rows used capacity → AddsOne → IsTrue (is_showable r) → used_then + later.reserved ≤ capacity_then → AreKept later more used_then capacity_then
  kept_then used capacity used_then capacity_then kept adds showable room = record {
    there =
        subst (λ (rs : List RecordRow). AllThere later.lists rs) (sym adds.last)
        (subst (λ (l : Lists). AllThere l (rows ++ its_row ∷ [])) (sym adds.lists)
        (there_then k.lists (asked_of r.step) (rules_of r.verdict) (fills_of r.verdict) rows its_row adds.there
        (subst (λ (l : Lists). IsThere l e) adds.lists adds.is_there)));
    showable = subst AllShowable (sym (pushed adds)) (showable_last (records_in k.lists rows) r kept.showable showable);
    room = room;
  }
