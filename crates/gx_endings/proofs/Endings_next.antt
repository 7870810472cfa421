-- What is kept, once one more record is looked at.
use Rattle.std.proofs.{Common.{◌≡◌, List, [], ◌∷◌, ◌++◌, ap, sym, ◌∙◌}, lemmas.{Grind.flat_map-append, List.{Elements.filter_map-append, append-nil}}}
use Rattle.std.specs.{Prelude.{Option, filter_map, option_to_list}, List.flat_map}
use Rattle.gx_units.proofs.Lists_found.{one_found}
use Rattle.gx_policy.specs.{declared.policy.PolicyData.PolicyData, Lists.each_with_earlier}
use Rattle.gx_history.specs.declared.record.RecordData.{RecordData}
use Rattle.gx_laws.proofs.Lists_next.{each_after_next}
use Rattle.gx_endings.specs.{declared.{commands.CommandRow.CommandRow, endings.Ending.Ending, order_ends.OrderEnd.OrderEnd}, Commands.{command_by, command_rows}, Endings.{Grows, ending_by, endings, order_ends, order_ends_by}}

-- what each record gives with those before it, of one more
found_next : {X Y : Type 0} (f : List X → X → Option Y) (xs : List X) (x : X)
    → filter_map (λ (entry : List X × X). f entry.0 entry.1) (each_with_earlier (xs ++ x ∷ [])) ≡ filter_map (λ (entry : List X × X). f entry.0 entry.1) (each_with_earlier xs) ++ option_to_list (f xs x)
found_next {X} {Y} f xs x =
    ap (filter_map at) (each_after_next [] xs x)
    ∙ filter_map-append at (each_with_earlier xs) ((xs, x) ∷ [])
    ∙ ap (λ (ys : List Y). filter_map at (each_with_earlier xs) ++ ys) (one_found (f xs x))
  where
    at : (List X × X) → Option Y
    at entry = f entry.0 entry.1

pub one_more_ending : (policy : PolicyData) (records : List RecordData) (r : RecordData) (old new : List Ending) → old ≡ endings policy records → Grows old (ending_by policy records r) new
    → new ≡ endings policy (records ++ r ∷ [])
one_more_ending policy records r old new saw grows =
    grows ∙ ap (λ (list : List Ending). list ++ option_to_list (ending_by policy records r)) saw ∙ sym (found_next (ending_by policy) records r)

pub one_more_command : (policy : PolicyData) (records : List RecordData) (r : RecordData) (old new : List CommandRow) → old ≡ command_rows policy records → Grows old (command_by policy records r) new
    → new ≡ command_rows policy (records ++ r ∷ [])
one_more_command policy records r old new saw grows =
    grows ∙ ap (λ (list : List CommandRow). list ++ option_to_list (command_by policy records r)) saw ∙ sym (found_next (command_by policy) records r)

pub more_ends : (policy : PolicyData) (records : List RecordData) (r : RecordData) (old new : List OrderEnd) → old ≡ order_ends policy records → new ≡ old ++ order_ends_by policy records r
    → new ≡ order_ends policy (records ++ r ∷ [])
more_ends policy records r old new saw grows =
    grows
    ∙ ap (λ (list : List OrderEnd). list ++ order_ends_by policy records r) saw
    ∙ ap (λ (list : List OrderEnd). order_ends policy records ++ list) (sym (append-nil (order_ends_by policy records r)))
    ∙ sym (flat_map-append at (each_with_earlier records) ((records, r) ∷ []))
    ∙ sym (ap (flat_map at) (each_after_next [] records r))
  where
    at : (List RecordData × RecordData) → List OrderEnd
    at entry = order_ends_by policy entry.0 entry.1

-- behind the record it stands last
pub stands_behind : {Y : Type 0} (kept : List Y) (told : List RecordData → List Y) (records earlier : List RecordData) (r : RecordData) → records ≡ earlier ++ r ∷ [] → kept ≡ told (earlier ++ r ∷ []) → kept ≡ told records
stands_behind kept told records earlier r last expected = expected ∙ sym (ap told last)
