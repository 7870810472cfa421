-- A run that stopped stands on the way to where it would have come.
use Rattle.std.proofs.Common.{◌≡◌, inl, inr, List, [], ◌∷◌, ◌++◌, refl, sym, ap, ◌∙◌, subst, append_assoc, append-nil}
use Rattle.std.specs.Prelude.{fold}
use Rattle.gx_devices.specs.Stopping.{AreFewer, AreFirst, Cause, Memory, IsBetween, Mark, Stops, trail}

pub first_same : {T : Type 0} (xs ys : List T) → xs ≡ ys → AreFirst xs ys
first_same xs ys e = record { others = []; whole = sym e ∙ sym (append-nil xs) }

pub first_then : {T : Type 0} (xs ys zs : List T) → AreFirst xs ys → AreFirst ys zs → AreFirst xs zs
first_then xs ys zs h k = record { others = h.others ++ k.others; whole = k.whole ∙ ap (λ t. t ++ k.others) h.whole ∙ append_assoc xs h.others k.others }

pub fewer_then : {T : Type 0} (xs ys zs : List T) → AreFewer xs ys → AreFirst ys zs → AreFewer xs zs
fewer_then xs ys zs h k =
    record { next = h.next; others = h.others ++ k.others; whole = k.whole ∙ ap (λ t. t ++ k.others) h.whole ∙ append_assoc xs (h.next ∷ h.others) k.others }

-- what stands before stays before
pub first_behind : {T : Type 0} (xs ys zs : List T) → AreFirst ys zs → AreFirst (xs ++ ys) (xs ++ zs)
first_behind xs ys zs h = record { others = h.others; whole = ap (λ t. xs ++ t) h.whole ∙ sym (append_assoc xs ys h.others) }

-- the records and the text of one mark are the first of the other's
pub record Leads {R K : Type 0} (here next : Mark R K) : Type 0 where
  pub records : AreFirst here.records next.records
  pub text : AreFirst here.text next.text

pub leads_same : {R K : Type 0} (a b : Mark R K) → a ≡ b → Leads a b
leads_same a b e = subst (Leads a) e (record { records = first_same a.records a.records refl; text = first_same a.text a.text refl })

pub leads_then : {R K : Type 0} (a b c : Mark R K) → Leads a b → Leads b c → Leads a c
leads_then a b c h k = record { records = first_then a.records b.records c.records h.records k.records; text = first_then a.text b.text c.text h.text k.text }

abbrev pub Rises : {R K : Type 0} → Mark R K → List (Mark R K) → Type 0
Rises here [] = Unit {0}
Rises here (next ∷ marks) = Leads here next × Rises next marks

abbrev pub last_of : {M : Type 0} → M → List M → M
last_of here [] = here
last_of here (next ∷ marks) = last_of next marks

pub rises_last : {R K : Type 0} (here : Mark R K) (marks : List (Mark R K)) → Rises here marks → Leads here (last_of here marks)
rises_last here [] h = leads_same here here refl
rises_last here (next ∷ marks) h = leads_then here next (last_of next marks) h.0 (rises_last next marks h.1)

pub rises_behind : {R K : Type 0} (here : Mark R K) (marks more : List (Mark R K)) → Rises here marks → Rises (last_of here marks) more → Rises here (marks ++ more)
rises_behind here [] more h k = k
rises_behind here (next ∷ marks) more h k = (h.0, rises_behind next marks more h.1 k)

pub last_behind : {M : Type 0} (here : M) (marks more : List M) → last_of here (marks ++ more) ≡ last_of (last_of here marks) more
last_behind here [] more = refl
last_behind here (next ∷ marks) more = last_behind next marks more

-- a growth may be refused at any mark
pub stops_here : {R K : Type 0} (Refused : Cause → List R → Type 0) (here : Mark R K) (marks : List (Mark R K)) → Stops Refused Memory here marks here
stops_here Refused here [] = (tt, refl)
stops_here Refused here (next ∷ marks) = inl (tt, refl)

module _ {R K : Type 0} (Refused : Cause → List R → Type 0) (cause : Cause) where
  -- some marks were gone through, and the run stopped behind them
  pub stops_behind : (here : Mark R K) (marks more : List (Mark R K)) (stop : Mark R K) → Stops Refused cause (last_of here marks) more stop → Stops Refused cause here (marks ++ more) stop
  stops_behind here [] more stop h = h
  stops_behind here (next ∷ marks) more stop h = inr (inr (stops_behind next marks more stop h))

  between_leads : (here next stop : Mark R K) → Leads here next → IsBetween Refused cause here next stop → Leads stop next
  between_leads here next stop way (inl h) = record {
    records = record { others = h.1.left.next ∷ h.1.left.others; whole = h.1.left.whole };
    text = subst (λ t. AreFirst t next.text) (sym h.1.text) way.text;
  }
  between_leads here next stop way (inr h) = record { records = first_same stop.records next.records h.records; text = h.left }

  pub stops_lead : (here : Mark R K) (marks : List (Mark R K)) (stop : Mark R K) → Rises here marks → Stops Refused cause here marks stop → Leads stop (last_of here marks)
  stops_lead here [] stop way h = leads_same stop here h.1
  stops_lead here (next ∷ marks) stop way (inl h) =
      leads_then stop here (last_of next marks) (leads_same stop here h.1) (rises_last here (next ∷ marks) way)
  stops_lead here (next ∷ marks) stop way (inr (inl h)) = leads_then stop next (last_of next marks) (between_leads here next stop way.0 h) (rises_last next marks way.1)
  stops_lead here (next ∷ marks) stop way (inr (inr h)) = stops_lead next marks stop way.1 h

-- The marks of each item rise from where the run stands to where it stands behind the item.
module _ {S I R K : Type 0} (mark : S → Mark R K) (marks : S → I → List (Mark R K)) (then : S → I → S)
    (ends : (run : S) (item : I) → last_of (mark run) (marks run item) ≡ mark (then run item)) where
  pub trail_ends : (items : List I) (run : S) → last_of (mark run) (trail marks then run items) ≡ mark (fold then run items)
  trail_ends [] run = refl
  trail_ends (item ∷ items) run =
      last_behind (mark run) (marks run item) (trail marks then (then run item) items)
      ∙ ap (λ m. last_of m (trail marks then (then run item) items)) (ends run item)
      ∙ trail_ends items (then run item)

  module _ (rises : (run : S) (item : I) → Rises (mark run) (marks run item)) where
    pub trail_rises : (items : List I) (run : S) → Rises (mark run) (trail marks then run items)
    trail_rises [] run = tt
    trail_rises (item ∷ items) run =
        rises_behind (mark run) (marks run item) (trail marks then (then run item) items) (rises run item)
        (subst (λ m. Rises m (trail marks then (then run item) items)) (sym (ends run item)) (trail_rises items (then run item)))

    pub items_lead : (items : List I) (run : S) → Leads (mark run) (mark (fold then run items))
    items_lead items run = subst (Leads (mark run)) (trail_ends items run) (rises_last (mark run) (trail marks then run items) (trail_rises items run))

    -- where the run stopped leads to where the items lead
    pub trail_leads : (Refused : Cause → List R → Type 0) (cause : Cause) (items : List I) (run : S) (stop : Mark R K)
        → Stops Refused cause (mark run) (trail marks then run items) stop → Leads stop (mark (fold then run items))
    trail_leads Refused cause items run stop h =
        subst (Leads stop) (trail_ends items run) (stops_lead Refused cause (mark run) (trail marks then run items) stop (trail_rises items run) h)

  -- items that were done whole, and others that were not
  pub trail_stops : (Refused : Cause → List R → Type 0) (cause : Cause) (items more : List I) (run : S) (stop : Mark R K)
      → Stops Refused cause (mark (fold then run items)) (trail marks then (fold then run items) more) stop → Stops Refused cause (mark run) (trail marks then run (items ++ more)) stop
  trail_stops Refused cause [] more run stop h = h
  trail_stops Refused cause (item ∷ items) more run stop h =
      stops_behind Refused cause (mark run) (marks run item) (trail marks then (then run item) (items ++ more)) stop
      (subst (λ m. Stops Refused cause m (trail marks then (then run item) (items ++ more)) stop) (sym (ends run item)) (trail_stops Refused cause items more (then run item) stop h))
