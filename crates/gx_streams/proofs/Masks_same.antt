-- A span that begins with the mask in force changes nothing that is shown.
use Rattle.std.proofs.{Common.{◌≡◌, ℕ, Bool, true, false, cond, List, [], ◌∷◌, refl, ◌∙◌, sym, ap, if◌then◌else◌}, lemmas.Option.same_Some}
use Rattle.std.specs.{Prelude.{Option, Some, Result, Ok, Err, OnErr, OnOk, option_map}, List.find}
use Rattle.gx_units.specs.{Names.same_user, declared.names.UserName.UserName}
use Rattle.gx_streams.specs.{declared.{stored_report.StoredReport.StoredReport, fill.ReportedFill.ReportedFill}, Kept.{UserList, at_first}, Spans.{ReaderSpans, is_named}, Streams.{AllStreams, ReaderMask, with_reader_entitled, mask_in, with_mask}, Table.streams_of}
use Rattle.gx_streams.proofs.UserLists_shown.{mask_found}

-- the mask that he has, given again
same_masks : (user : UserName) (mask : ℕ) (rs : List ReaderMask) → mask_in rs user ≡ Some mask → at_first (λ (r : ReaderMask). same_user user r.user) (with_mask mask) rs ≡ rs
same_masks user mask [] has = refl
same_masks user mask (r ∷ rs) has = by (same_user user r.user) refl (same_masks user mask rs)
  where
    later : List ReaderMask
    later = at_first (λ (x : ReaderMask). same_user user x.user) (with_mask mask) rs

    changed : Bool → List ReaderMask
    changed b = if b then with_mask mask r ∷ rs else r ∷ later

    found : Bool → Option ℕ
    found b = option_map (λ (x : ReaderMask). x.mask) (cond b (Some r) (find (λ (x : ReaderMask). same_user user x.user) rs))

    by : (b : Bool) → same_user user r.user ≡ b → (mask_in rs user ≡ Some mask → later ≡ rs) → changed (same_user user r.user) ≡ r ∷ rs
    by true is rest =
        ap changed is ∙ ap (λ (m : ℕ). (record { user = r.user; mask = m }) ∷ rs) (sym (same_Some _ _ (sym (ap found is) ∙ has)))
    by false is rest = ap changed is ∙ ap (λ (l : List ReaderMask). r ∷ l) (rest (sym (ap found is) ∙ has))

pub same_again : (fills : List ReportedFill) (told : List (UserList StoredReport)) (readers : List ReaderSpans) (self now : AllStreams) (user : UserName) (mask : ℕ)
    → option_map (λ (r : ReaderSpans). r.current.mask) (find (is_named user) readers) ≡ Some mask → streams_of fills told readers ≡ self
    → now ≡ with_reader_entitled user mask self → now ≡ self
same_again fills told readers self now user mask found view is =
    is
    ∙ ap (λ (rs : List ReaderMask). record { lists = self.lists; readers = rs })
    (same_masks user mask self.readers (ap (λ (s : AllStreams). mask_in s.readers user) (sym view) ∙ mask_found readers user ∙ found))

-- what holds at either end
pub either_way : {V E P : Type 0} (r : Result V E) → OnOk r P → OnErr r P → P
either_way (Ok v) ok err = ok
either_way (Err e) ok err = err
