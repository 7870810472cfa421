-- All streams, after one of their parts changed.
use Rattle.std.proofs.{Common.{◌≡◌, ℕ, ◌<◌, true, not, ◌&&◌, List, [], ◌∷◌, ◌++◌, length, map, refl, ◌∙◌, sym, ap, subst}, lemmas.Bool.and_parts}
use Rattle.std.specs.{Prelude.{Option, Some, None, Result, Ok, Err, OnOk, OnErr, is_some, option_map}, List.find}
use Rattle.gx_units.specs.declared.names.UserName.{UserName}
use Rattle.gx_history.specs.declared.report.Report.{Report}
use Rattle.gx_streams.specs.{declared.{fill.{ReportedFill.ReportedFill, FillRole.FillRole}, stored_report.StoredReport.StoredReport}, Kept.{ReservedList, UserList, at_first, is_known, on_user, reserved_in, with_last}, Spans.{ReaderSpans, with_copies_counted, entitled_from, is_named}, Streams.{AllStreams, ReaderMask, with_reader_entitled, has_own_stream, mask_in, on_list_of, with_fill, with_fill_reports}, Table.{IsSoundTable, list_shown, reader_mask, streams_of}}
use Rattle.gx_streams.proofs.{UserLists_shown.{fill_shown, fill_there, known_changed, known_counted, known_masked, known_shown, mask_found, mask_shown, no_reader, place_shown, with_sides}, Readers_silent.{silent_changed, silent_counted, silent_masked}, Spans_next.{all_masked, all_noted, masks_changed, masks_noted}}

-- a user who is told, among entries and readers
pub record IsToldHere (told : List (UserList StoredReport)) (readers : List ReaderSpans) (user : UserName) : Type 0 where
  pub known : is_known told user ≡ true
  pub reads_not : find (is_named user) readers ≡ None

pub told_here : (fills : List ReportedFill) (told : List (UserList StoredReport)) (readers : List ReaderSpans) (self : AllStreams) (user : UserName)
    → streams_of fills told readers ≡ self → has_own_stream self user ≡ true → IsToldHere told readers user
told_here fills told readers self user view is =
    let parts = and_parts (is_known (map (list_shown fills readers) told) user) (not (is_some (mask_in (map reader_mask readers) user))) (ap (λ (s : AllStreams). has_own_stream s user) view ∙ is) in
    record { known = sym (known_shown fills readers told user) ∙ parts.0; reads_not = no_reader readers user parts.1 }

-- a user for whom a place is reserved
pub placed_here : (fills : List ReportedFill) (told : List (UserList StoredReport)) (readers : List ReaderSpans) (self : AllStreams) (user : UserName)
    → streams_of fills told readers ≡ self → 0 < reserved_in self.lists user → (find (is_named user) readers ≡ None) × (0 < reserved_in told user)
placed_here fills told readers self user view place =
    place_shown fills readers told user (subst (λ (s : AllStreams). 0 < reserved_in s.lists user) (sym view) place)

-- whether a user is told, by his entries and his spans
pub told_is : (fills : List ReportedFill) (told : List (UserList StoredReport)) (readers : List ReaderSpans) (self : AllStreams) (user : UserName)
    → streams_of fills told readers ≡ self → (is_known told user && not (is_some (find (is_named user) readers))) ≡ has_own_stream self user
told_is fills told readers self user view =
    ap (λ b. b && not (is_some (find (is_named user) readers))) (sym (known_shown fills readers told user))
    ∙ ap (λ b. is_known (map (list_shown fills readers) told) user && not b) (by (find (is_named user) readers) ∙ ap is_some (sym (mask_found readers user)))
    ∙ ap (λ (s : AllStreams). has_own_stream s user) view
  where
    by : (o : Option ReaderSpans) → is_some o ≡ is_some (option_map (λ (r : ReaderSpans). r.current.mask) o)
    by None = refl
    by (Some r) = refl

state : List (UserList Report) → List ReaderMask → AllStreams
state lists readers = record { lists = lists; readers = readers }

-- one user's list changed
pub told_changed : (fills : List ReportedFill) (told now : List (UserList StoredReport)) (readers : List ReaderSpans) (self : AllStreams) (user : UserName) (change : ReservedList StoredReport → ReservedList StoredReport) (shown : ReservedList Report → ReservedList Report)
    → now ≡ on_user user change told → map (list_shown fills readers) (on_user user change told) ≡ on_user user shown (map (list_shown fills readers) told) → streams_of fills told readers ≡ self
    → streams_of fills now readers ≡ on_list_of user shown self
unfolding state
told_changed fills told now readers self user change shown done shows view =
    ap (λ t. streams_of fills t readers) done ∙ ap (λ t. state t (map reader_mask readers)) shows ∙ ap (on_list_of user shown) view

-- sound, whether or not the list changed
pub sound_told : {T E : Type 0} (r : Result T E) (fills : List ReportedFill) (before after now : List (UserList StoredReport)) (readers : List ReaderSpans)
    → OnOk r (now ≡ after) → OnErr r (now ≡ before) → IsSoundTable fills after readers → IsSoundTable fills before readers → IsSoundTable fills now readers
sound_told (Ok x) fills before after now readers done same good was = subst (λ t. IsSoundTable fills t readers) (sym done) good
sound_told (Err e) fills before after now readers done same good was = subst (λ t. IsSoundTable fills t readers) (sym same) was

pub sound_readers : {T E : Type 0} (r : Result T E) (fills : List ReportedFill) (told : List (UserList StoredReport)) (before after now : List ReaderSpans)
    → OnOk r (now ≡ after) → OnErr r (now ≡ before) → IsSoundTable fills told after → IsSoundTable fills told before → IsSoundTable fills told now
sound_readers (Ok x) fills told before after now done same good was = subst (IsSoundTable fills told) (sym done) good
sound_readers (Err e) fills told before after now done same good was = subst (IsSoundTable fills told) (sym same) was

-- the table after a fill
pub filled : (fills seen after : List ReportedFill) (told now : List (UserList StoredReport)) (readers noted : List ReaderSpans) (f : ReportedFill) (self : AllStreams)
    → after ≡ fills ++ f ∷ [] → seen ≡ fills → now ≡ with_sides f (length seen) told → noted ≡ map (with_copies_counted f) readers → IsSoundTable fills told readers → streams_of fills told readers ≡ self
    → streams_of after now noted ≡ with_fill f self
unfolding state
filled fills seen after told now readers noted f self pushed at done counts sound view =
    let all = fills ++ f ∷ [] in
    ap (λ l. streams_of l now noted) pushed
    ∙ ap (λ t. streams_of all t noted) (done ∙ ap (λ l. with_sides f (length l) told) at)
    ∙ ap (streams_of all (with_sides f (length fills) told)) counts
    ∙ ap (λ t. state t (map reader_mask (map (with_copies_counted f) readers))) (fill_shown fills f readers told sound.sound sound.there)
    ∙ ap (state (map (with_fill_reports (map reader_mask readers) f) (map (list_shown fills readers) told))) (masks_noted f readers)
    ∙ ap (with_fill f) view

pub filled_sound : (fills seen after : List ReportedFill) (told now : List (UserList StoredReport)) (readers noted : List ReaderSpans) (f : ReportedFill)
    → find (is_named f.taker.user) readers ≡ None → find (is_named f.maker.user) readers ≡ None
    → after ≡ fills ++ f ∷ [] → seen ≡ fills → now ≡ with_sides f (length seen) told → noted ≡ map (with_copies_counted f) readers → IsSoundTable fills told readers
    → IsSoundTable after now noted
filled_sound fills seen after told now readers noted f taker_none maker_none pushed at done counts sound =
    let all = fills ++ f ∷ [] in
    let good : IsSoundTable all (with_sides f (length fills) told) (map (with_copies_counted f) readers) = record {
      there = fill_there fills f told sound.there;
      sound = all_noted fills f readers sound.sound;
      known = known_changed _ f.maker.user (with_last (StoredReport.Filled (length fills) FillRole.Maker)) (map (with_copies_counted f) readers)
          (known_changed told f.taker.user (with_last (StoredReport.Filled (length fills) FillRole.Taker)) (map (with_copies_counted f) readers) (known_counted told f readers sound.known));
      silent = silent_counted _ f readers
          (silent_changed _ f.maker.user (with_last (StoredReport.Filled (length fills) FillRole.Maker)) readers maker_none
          (silent_changed told f.taker.user (with_last (StoredReport.Filled (length fills) FillRole.Taker)) readers taker_none sound.silent));
    } in
    subst (λ l. IsSoundTable l now noted) (sym pushed)
    (subst (λ t. IsSoundTable all t noted) (sym (done ∙ ap (λ l. with_sides f (length l) told) at))
    (subst (IsSoundTable all (with_sides f (length fills) told)) (sym counts) good))

-- and after another mask
pub masked_as : (fills seen : List ReportedFill) (told : List (UserList StoredReport)) (readers now : List ReaderSpans) (self : AllStreams) (user : UserName) (mask : ℕ)
    → seen ≡ fills → now ≡ at_first (is_named user) (entitled_from mask (length seen)) readers → IsSoundTable fills told readers → streams_of fills told readers ≡ self
    → streams_of fills told now ≡ with_reader_entitled user mask self
unfolding state
masked_as fills seen told readers now self user mask at done sound view =
    ap (streams_of fills told) (done ∙ ap (λ l. at_first (is_named user) (entitled_from mask (length l)) readers) at)
    ∙ ap (λ t. state t (map reader_mask (at_first (is_named user) (entitled_from mask (length fills)) readers))) (mask_shown fills user mask readers told sound.sound)
    ∙ ap (state (map (list_shown fills readers) told)) (masks_changed (length fills) mask user readers)
    ∙ ap (with_reader_entitled user mask) view

pub masked_sound : (fills seen : List ReportedFill) (told : List (UserList StoredReport)) (readers : List ReaderSpans) (user : UserName) (mask : ℕ)
    → seen ≡ fills → IsSoundTable fills told readers → IsSoundTable fills told (at_first (is_named user) (entitled_from mask (length seen)) readers)
masked_sound fills seen told readers user mask at sound =
    subst (λ (l : List ReportedFill). IsSoundTable fills told (at_first (is_named user) (entitled_from mask (length l)) readers)) (sym at)
    (record { there = sound.there; sound = all_masked fills user mask readers sound.sound; known = known_masked told user mask (length fills) readers sound.known; silent = silent_masked told user mask (length fills) readers sound.silent })
