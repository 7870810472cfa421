-- How a user's entries lie in memory.
use Rattle.std.specs.{Prelude.{◌≡◌, ℕ, ◌+◌, ◌<◌, ◌≤◌, ⊤, List, [], length, map, slice_get}, Option.option_map_or, List.AllByRecursion}
use Rattle.gx_ouch.specs.declared.outbound.{Outbound.Outbound}
use Rattle.gx_history.specs.declared.report.{Message.Message, Report.Report}
use Rattle.gx_streams.specs.{declared.{entries.SlotLists.SlotLists, stored_report.StoredReport.StoredReport, fill.{FillRole.FillRole, ReportedFill.ReportedFill}, slot.{AcceptedAt.AcceptedAt, CanceledAt.CanceledAt, Slot.Slot}}, Table.{no_report, report_stored}}

-- what is long in a user's entries, each kind in their order
pub record DetailLists : Type 0 where
  pub canceled : List CanceledAt
  pub others : List Report

-- the lists, where they lie
abbrev pub lists_of : SlotLists → DetailLists
lists_of l = record { canceled = l.canceled.now; others = l.others.now }

-- none of any kind
abbrev pub no_details : DetailLists
no_details = record { canceled = []; others = [] }

-- such lists, and of how many more entries they can take what is long without memory
pub record KeptDetails : Type 0 where
  pub lists : DetailLists
  pub reserved : ℕ

-- the Accepted
abbrev pub accepted_report : AcceptedAt → Report
accepted_report a = a.told.value

-- Canceled, as a report
abbrev pub canceled_report : CanceledAt → Report
canceled_report c = record { timestamp = c.moment; message = Message.Order (Outbound.Canceled c.canceled) }

-- the entry of a slot
abbrev pub entry_in : DetailLists → Slot → StoredReport
entry_in lists (Slot.Accepted a) = StoredReport.Typed (accepted_report a)
entry_in lists (Slot.Canceled place) = StoredReport.Typed (option_map_or canceled_report (slice_get lists.canceled place) no_report)
entry_in lists (Slot.Other place) = StoredReport.Typed (option_map_or (λ (r : Report). r) (slice_get lists.others place) no_report)
entry_in lists (Slot.Taker place) = StoredReport.Filled place FillRole.Taker
entry_in lists (Slot.Maker place) = StoredReport.Filled place FillRole.Maker

-- the entries of slots
abbrev pub entries_in : DetailLists → List Slot → List StoredReport
entries_in lists slots = map (entry_in lists) slots

-- the report of a slot's entry
abbrev pub report_in_slot : List ReportedFill → DetailLists → Slot → Report
report_in_slot fills lists slot = report_stored fills (entry_in lists slot)

-- what the slot names is there
abbrev pub IsSlotThere : DetailLists → Slot → Type 0
IsSlotThere lists (Slot.Accepted a) = ⊤
IsSlotThere lists (Slot.Canceled place) = place < length lists.canceled
IsSlotThere lists (Slot.Other place) = place < length lists.others
IsSlotThere lists (Slot.Taker place) = ⊤
IsSlotThere lists (Slot.Maker place) = ⊤

-- what the slots name is there
abbrev pub AllSlotsThere : DetailLists → List Slot → Type 0
AllSlotsThere lists slots = AllByRecursion (IsSlotThere lists) slots

-- what was there is there still, and stands for the same
pub record Widens (before after : DetailLists) : Type 0 where
  pub there : (s : Slot) → IsSlotThere before s → IsSlotThere after s
  pub same : (s : Slot) → IsSlotThere before s → entry_in after s ≡ entry_in before s

-- what each slot names is there, and there is room for the slots of those entries that places are reserved for
pub record AreSlotsKept (kept : KeptDetails) (slots : List Slot) (used capacity : ℕ) : Type 0 where
  pub there : AllSlotsThere kept.lists slots
  pub room : used + kept.reserved ≤ capacity
