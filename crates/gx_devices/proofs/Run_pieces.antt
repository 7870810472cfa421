-- A run that is read in pieces: piece by piece, to its end, or to a fault.
use Rattle.std.proofs.{Common.{◌≡◌, ℕ, ◌≤◌, ◌⊎◌, inl, inr, Bool, true, List, [], ◌∷◌, ◌++◌, length, take, Option, Some, None, IfSome, refl, sym, ap, ◌∙◌, subst, append_assoc, append-nil, arith}, KnownBytes.{Appends-nil, Appends-trans, Consumes-nil, Consumes-trans, Consumes-kept}}
use Rattle.std.specs.{Prelude.fold, Io.KnownBytes.{Appends, Consumes, Keeps, IsAtEnd}}
use Rattle.gx_devices.specs.{Devices.IsFront, Pieces.{Flow, Way, StopsIn, TakesPiece, IsBroken, IsCutShort, IsWhole, IsWholeOfAll}, Stopping.{AreFirst, Cause, Memory, Writing, IsOfSending, IsRefused, Mark, MayEnd, trail}}
use Rattle.gx_devices.proofs.Run_stopped.{Leads, Rises, first_behind, last_of, leads_then, stops_here, trail_leads, trail_stops}

-- Where a run stops.

-- nothing was written, where nothing may be
of_text : (cause : Cause) (text front : List ℕ) → IsOfSending cause (front ≡ []) → IsOfSending cause (text ++ front ≡ text)
of_text Memory text front none = ap (λ t. text ++ t) none ∙ append-nil text
of_text Writing text front h = tt
of_text other text front h = absurd h

-- at a growth that no step asked for
pub pauses : {R K : Type 0} (Refused : Cause → List R → Type 0) (There : Mark R K → Type 0) (here : Mark R K) (marks : List (Mark R K)) (output : Option (List ℕ)) → There here → StopsIn Refused There Memory here marks output output
pauses Refused There here marks output there =
    record { stop = here; stops = stops_here Refused here marks; there = there; told = []; text = sym (append-nil here.text); written = Appends-nil output }

module _ {R K : Type 0} (Refused : Cause → List R → Type 0) (There : Mark R K → Type 0) (cause : Cause) (here next : Mark R K) (marks : List (Mark R K)) (output left : Option (List ℕ)) where
  -- before the next mark a step was refused
  pub refused : (stop : Mark R K) → Refused cause stop.records → IsRefused here next stop → There stop → Appends output left [] → StopsIn Refused There cause here (next ∷ marks) output left
  refused stop why how there written =
      record { stop = stop; stops = inr (inl (inl (why, how))); there = there; told = []; text = how.text ∙ sym (append-nil here.text); written = written }

  -- its records were made, and of its text a front was written
  pub unsent : (told : List ℕ) (f : IsFront output left told) → next.text ≡ here.text ++ told → IsOfSending cause (f.front ≡ []) → There (record next { text = here.text ++ f.front })
      → StopsIn Refused There cause here (next ∷ marks) output left
  unsent told f text sending there = record {
    stop = record next { text = here.text ++ f.front };
    stops = inr (inl (inr (record {
      records = refl;
      known = refl;
      begun = record { others = f.front; whole = refl };
      left = subst (AreFirst (here.text ++ f.front)) (sym text) (first_behind here.text f.front told (record { others = f.rest; whole = f.whole }));
      sending = of_text cause here.text f.front sending;
    })));
    there = there;
    told = f.front;
    text = refl;
    written = f.written;
  }

  -- the next mark was come to
  pub behind : (Before : Mark R K → Type 0) (middle : Option (List ℕ)) (told : List ℕ) → ((m : Mark R K) → Before m → There m) → next.text ≡ here.text ++ told → Appends output middle told → StopsIn Refused Before cause next marks middle left
      → StopsIn Refused There cause here (next ∷ marks) output left
  behind Before middle told kept text written s = record {
    stop = s.stop;
    stops = inr (inr s.stops);
    there = kept s.stop s.there;
    told = told ++ s.told;
    text = s.text ∙ ap (λ t. t ++ s.told) text ∙ append_assoc here.text told s.told;
    written = Appends-trans output middle left told s.told written s.written;
  }

-- the first items were done whole
module _ {S I R K : Type 0} (mark : S → Mark R K) (marks : S → I → List (Mark R K)) (then : S → I → S) (ends : (run : S) (item : I) → last_of (mark run) (marks run item) ≡ mark (then run item)) (Refused : Cause → List R → Type 0) (There Before : Mark R K → Type 0) (kept : (m : Mark R K) → Before m → There m) (cause : Cause) where
  pub items_cut : (items more : List I) (run : S) (told : List ℕ) (output middle left : Option (List ℕ)) → (mark (fold then run items)).text ≡ (mark run).text ++ told → Appends output middle told
      → StopsIn Refused Before cause (mark (fold then run items)) (trail marks then (fold then run items) more) middle left → StopsIn Refused There cause (mark run) (trail marks then run (items ++ more)) output left
  items_cut items more run told output middle left text written s = record {
    stop = s.stop;
    stops = trail_stops mark marks then ends Refused cause items more run s.stop s.stops;
    there = kept s.stop s.there;
    told = told ++ s.told;
    text = s.text ∙ ap (λ t. t ++ s.told) text ∙ append_assoc (mark run).text told s.told;
    written = Appends-trans output middle left told s.told written s.written;
  }

-- Piece by piece.

-- what holds of all bytes, where the reader tells them
pub of_all : (P : List ℕ → Type 0) (input left : Option (List ℕ)) (bytes : List ℕ) → Consumes input left bytes → ((rest : List ℕ) → left ≡ Some rest → P (bytes ++ rest)) → IfSome input P
of_all P None left bytes took h = tt
of_all P (Some all) None bytes took h = absurd took
of_all P (Some all) (Some rest) bytes took h = subst P (sym took) (h rest refl)

-- where nothing is left of them
pub at_end : (left : Option (List ℕ)) (rest : List ℕ) → left ≡ Some rest → IsAtEnd left → rest ≡ []
at_end None rest is end = cc
at_end (Some more) rest is end = cc

module _ {R K : Type 0} (whole_of : List ℕ → Mark R K) (is_ended : List ℕ → Bool) (There : Mark R K → Type 0) (flow : Flow) (nothing_follows : (bytes more : List ℕ) → is_ended bytes ≡ true → whole_of (bytes ++ more) ≡ whole_of bytes) (w : IsWhole whole_of is_ended There flow) where
  same : (rest : List ℕ) → flow.left ≡ Some rest → IsAtEnd flow.left ⊎ (is_ended w.bytes ≡ true) → whole_of w.bytes ≡ whole_of (w.bytes ++ rest)
  same rest is (inl end) = sym (ap (λ more. whole_of (w.bytes ++ more)) (at_end flow.left rest is end) ∙ ap whole_of (append-nil w.bytes))
  same rest is (inr over) = sym (nothing_follows w.bytes rest over)

  pub all_of_whole : IsWholeOfAll whole_of There flow
  all_of_whole = of_all (λ all. There (whole_of all) × Appends flow.output flow.written (whole_of all).text) flow.input flow.left w.bytes w.consumed (λ rest is.
      subst (λ (m : Mark R K). There m × Appends flow.output flow.written m.text) (same rest is w.whole) (w.there, w.text))

-- before a read: all that was read is done, and its text written
pub record Stands {S I R K : Type 0} (way : Way S I R K) (Follows : List ℕ → Type 0) (flow : Flow) : Type 0 where
  pub bytes : List ℕ
  pub consumed : Consumes flow.input flow.left bytes
  pub follows : Follows bytes
  pub text : Appends flow.output flow.written (way.mark (way.so_far bytes)).text

pub stands_first : {S I R K : Type 0} (way : Way S I R K) (Follows : List ℕ → Type 0) (input output : Option (List ℕ)) → Follows [] → (way.mark (way.so_far [])).text ≡ []
    → Stands way Follows (record { input = input; left = input; output = output; written = output })
stands_first way Follows input output follows none =
    record { bytes = []; consumed = Consumes-nil input; follows = follows; text = subst (Appends output output) (sym none) (Appends-nil output) }

module _ {S I R K : Type 0} (way : Way S I R K) (Follows : List ℕ → Type 0) (flow : Flow) (s : Stands way Follows flow) where
  abbrev pub stands_next : (After : List ℕ → Type 0) (left written : Option (List ℕ)) (piece : List ℕ) → Consumes flow.left left piece → TakesPiece way After s.bytes piece flow.written written
      → Stands way After (record flow { left = left; written = written })
  stands_next After left written piece took t = record {
    bytes = s.bytes ++ piece;
    consumed = Consumes-trans flow.input flow.left left s.bytes piece s.consumed took;
    follows = t.follows;
    text = subst (Appends flow.output written) (sym t.more) (Appends-trans flow.output flow.written written _ t.told s.text t.written);
  }

  -- a read that gave nothing
  abbrev pub stands_still : (left : Option (List ℕ)) (buffer : List ℕ) (n : ℕ) → Consumes flow.left left (take n buffer) → n ≡ 0 → Stands way Follows (record flow { left = left })
  stands_still left buffer n took none = record {
    bytes = s.bytes;
    consumed = subst (Consumes flow.input left) (append-nil s.bytes) (Consumes-trans flow.input flow.left left s.bytes [] s.consumed (subst (λ k. Consumes flow.left left (take k buffer)) none took));
    follows = s.follows;
    text = s.text;
  }

  -- the end
  pub whole : (whole_of : List ℕ → Mark R K) (is_ended : List ℕ → Bool) (There : Mark R K → Type 0) (written : Option (List ℕ)) (told : List ℕ) → There (whole_of s.bytes)
      → (whole_of s.bytes).text ≡ (way.mark (way.so_far s.bytes)).text ++ told → Appends flow.written written told → IsAtEnd flow.left ⊎ (is_ended s.bytes ≡ true) → IsWhole whole_of is_ended There (record flow { written = written })
  whole whole_of is_ended There written told there text wrote over = record {
    bytes = s.bytes;
    consumed = s.consumed;
    there = there;
    text = subst (Appends flow.output written) (sym text) (Appends-trans flow.output flow.written written _ told s.text wrote);
    whole = over;
  }

  module _ (Refused : Cause → List R → Type 0) (There : S → Mark R K → Type 0) (AreNext : List ℕ → List ℕ → List I → Type 0) (cause : Cause) where
    -- a piece was cut short
    pub cut_in : (left written : Option (List ℕ)) (piece : List ℕ) → Consumes flow.left left piece → length piece ≤ 4096 → IsBroken way Refused There AreNext cause s.bytes piece flow.written written
        → IsCutShort way Refused There AreNext cause (record flow { left = left; written = written })
    cut_in left written piece took small broken =
        record { bytes = s.bytes; piece = piece; consumed = Consumes-trans flow.input flow.left left s.bytes piece s.consumed took; small = small; behind = flow.written; earlier = s.text; broken = broken }

    -- no more could be read
    pub cut_there : (left : Option (List ℕ)) → Keeps flow.left left → MayEnd cause → There (way.so_far s.bytes) (way.mark (way.so_far s.bytes)) → AreNext s.bytes [] []
        → IsCutShort way Refused There AreNext cause (record flow { left = left })
    cut_there left kept may there next = record {
      bytes = s.bytes;
      piece = [];
      consumed = subst (Consumes flow.input left) (sym (append-nil s.bytes)) (Consumes-kept flow.input flow.left left s.bytes s.consumed kept);
      small = omega arith;
      behind = flow.written;
      earlier = s.text;
      broken = record {
        items = [];
        are_next = next;
        cut = record { stop = way.mark (way.so_far s.bytes); stops = (may, refl); there = there; told = []; text = sym (append-nil _); written = Appends-nil flow.written };
      };
    }

-- What a fault leaves is a front of what the whole run leaves.
module _ {S I R K : Type 0} (way : Way S I R K) (ends : (run : S) (item : I) → last_of (way.mark run) (way.marks run item) ≡ way.mark (way.next run item)) (rises : (run : S) (item : I) → Rises (way.mark run) (way.marks run item)) (Refused : Cause → List R → Type 0) (There : S → Mark R K → Type 0) (AreNext : List ℕ → List ℕ → List I → Type 0) (cause : Cause) (flow : Flow) (f : IsCutShort way Refused There AreNext cause flow) (whole_of : List ℕ → Mark R K)
    (leads : (rest : List ℕ) → flow.left ≡ Some rest → Leads (way.mark (fold way.next (way.so_far f.bytes) f.broken.items)) (whole_of ((f.bytes ++ f.piece) ++ rest))) where
  comes_first : (rest : List ℕ) → flow.left ≡ Some rest → Leads f.broken.cut.stop (whole_of ((f.bytes ++ f.piece) ++ rest))
  comes_first rest is =
      let cut = f.broken.cut in
      leads_then cut.stop _ _ (trail_leads way.mark way.marks way.next ends rises Refused cause f.broken.items (way.so_far f.bytes) cut.stop cut.stops) (leads rest is)

  pub text_is_front : IfSome flow.input (λ all. IsFront flow.output flow.written (whole_of all).text)
  text_is_front = of_all (λ all. IsFront flow.output flow.written (whole_of all).text) flow.input flow.left (f.bytes ++ f.piece) f.consumed (λ rest is.
      let cut = f.broken.cut in
      let first = (comes_first rest is).text in
      record {
        front = cut.stop.text;
        rest = first.others;
        written = subst (Appends flow.output flow.written) (sym cut.text) (Appends-trans flow.output f.behind flow.written _ cut.told f.earlier cut.written);
        whole = first.whole;
      })

  pub records_are_first : IfSome flow.input (λ all. AreFirst f.broken.cut.stop.records (whole_of all).records)
  records_are_first = of_all (λ all. AreFirst f.broken.cut.stop.records (whole_of all).records) flow.input flow.left (f.bytes ++ f.piece) f.consumed (λ rest is. (comes_first rest is).records)
