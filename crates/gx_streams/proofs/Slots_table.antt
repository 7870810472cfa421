-- What the slots of one user stand for.
use Rattle.std.proofs.{Common.{◌≡◌, ℕ, ◌+◌, ◌≤◌, ◌-◌, List, [], ◌∷◌, ◌++◌, length, map, take, drop, refl, ◌∙◌, sym, ap, subst, arith}, lemmas.List.{drop-map, length-map, map-append, take-map}}
use Rattle.std.specs.{List.AllByRecursion}
use Rattle.gx_history.specs.declared.report.{Report.Report}
use Rattle.gx_policy.specs.Lists.{slice}
use Rattle.gx_history.proofs.{Lists_slice.slice_is}
use Rattle.gx_streams.specs.{declared.{stored_report.StoredReport.StoredReport, slot.{Slot.Slot}}, Kept.{ReservedList, with_reserved_last, without_last}, Slots.{AllSlotsThere, AreSlotsKept, IsSlotThere, KeptDetails, DetailLists, Widens, entries_in, entry_in}}

-- what slots stand for stays
same_entries : (before after : DetailLists) (slots : List Slot) → Widens before after → AllSlotsThere before slots → entries_in after slots ≡ entries_in before slots
same_entries before after [] widens all = refl
same_entries before after (s ∷ slots) widens all = λ i. widens.same s all.0 i ∷ same_entries before after slots widens all.1 i

there_still : (before after : DetailLists) (slots : List Slot) → Widens before after → AllSlotsThere before slots → AllSlotsThere after slots
there_still before after [] widens all = tt
there_still before after (s ∷ slots) widens all = (widens.there s all.0, there_still before after slots widens all.1)

there_last : (lists : DetailLists) (slots : List Slot) (s : Slot) → AllSlotsThere lists slots → IsSlotThere lists s → AllSlotsThere lists (slots ++ s ∷ [])
there_last lists [] s all last = (last, tt)
there_last lists (x ∷ slots) s all last = (all.0, there_last lists slots s all.1 last)

-- one more entry, what is long in it put last, has one more slot
module _ (k later : KeptDetails) (slots more : List Slot) (e : StoredReport) (s : Slot) where
  pub record AddsOne : Type 0 where
    pub there : AllSlotsThere k.lists slots
    pub kept : Widens k.lists later.lists
    pub last : more ≡ slots ++ s ∷ []
    pub entry : entry_in later.lists s ≡ e
    pub is_there : IsSlotThere later.lists s

  added : AddsOne → entries_in later.lists more ≡ entries_in k.lists slots ++ e ∷ []
  added adds =
      ap (entries_in later.lists) adds.last
      ∙ map-append (entry_in later.lists) slots (s ∷ [])
      ∙ (λ i. same_entries k.lists later.lists slots adds.kept adds.there i ++ adds.entry i ∷ [])

  pub put_last : AddsOne → later.reserved + 1 ≡ k.reserved
      → (let now : ReservedList StoredReport = record { items = entries_in later.lists more; reserved = later.reserved } in let before : ReservedList StoredReport = record { items = entries_in k.lists slots; reserved = k.reserved } in now ≡ with_reserved_last e before)
  put_last adds reserved = λ i. let state : ReservedList StoredReport = record { items = added adds i; reserved = fewer i } in state
    where
      fewer : later.reserved ≡ k.reserved - 1
      fewer = omega (arith, reserved)

  pub kept_then : (used capacity used_then capacity_then : ℕ) → AreSlotsKept k slots used capacity → AddsOne → used_then + later.reserved ≤ capacity_then → AreSlotsKept later more used_then capacity_then
  kept_then used capacity used_then capacity_then kept adds room = record {
    there =
        subst (λ (ss : List Slot). AllSlotsThere later.lists ss) (sym adds.last)
        (there_last later.lists slots s (there_still k.lists later.lists slots adds.kept adds.there) adds.is_there);
    room = room;
  }

-- the first slots stand for the first entries
pub taken_back : (k : KeptDetails) (slots fewer : List Slot) (count : ℕ) → count ≡ length slots → fewer ≡ take (count - 1) slots
    → (let now : ReservedList StoredReport = record { items = entries_in k.lists fewer; reserved = k.reserved } in let before : ReservedList StoredReport = record { items = entries_in k.lists slots; reserved = k.reserved } in now ≡ without_last before)
taken_back k slots fewer count counts is = ap state items
  where
    state : List StoredReport → ReservedList StoredReport
    state items = record { items = items; reserved = k.reserved }

    items : entries_in k.lists fewer ≡ take (length (entries_in k.lists slots) - 1) (entries_in k.lists slots)
    items =
        ap (entries_in k.lists) is
        ∙ sym (take-map (entry_in k.lists) (count - 1) slots)
        ∙ ap (λ n. take (n - 1) (entries_in k.lists slots)) (counts ∙ sym (length-map slots (entry_in k.lists)))

-- a part of what a list is mapped to
pub mapped_slice : {X Y : Type 0} (f : X → Y) (xs : List X) (from most : ℕ) → map f (slice xs from most) ≡ slice (map f xs) from most
mapped_slice f xs from most =
    ap (map f) (sym (slice_is xs from most))
    ∙ sym (take-map f most (drop (from - 1) xs))
    ∙ ap (take most) (sym (drop-map f (from - 1) xs))
    ∙ slice_is (map f xs) from most

-- what is so of each report is so of each slot's
pub of_slots : (P : Report → Type 0) (f : Slot → StoredReport) (g : StoredReport → Report) (slots : List Slot) → AllByRecursion P (map g (map f slots)) → AllByRecursion (λ (s : Slot). P (g (f s))) slots
of_slots P f g [] all = tt
of_slots P f g (s ∷ slots) all = (all.0, of_slots P f g slots all.1)
