-- Each step keeps the rule.
use Rattle.std.proofs.{Common.{◌≡◌, ◌≢◌, ◌⊎◌, ℕ, zero, suc, ◌+◌, ◌%◌, ◌^◌, ◌<◌, ◌≤◌, List, [], ◌∷◌, ◌++◌, length, set, refl, ap, sym, ◌∙◌, subst, inl, inr, ⊎_elim, arith, length-append}, Math.{ListN.length-set, Nat.mod-eq_of_lt}}
use Rattle.std.specs.Prelude.{slice_index, slice_set}
use mathlib.Core.Option.{some, some-ne-none, some-injective}
use lib.ListN.{get_elem?}
use Rattle.atomic_table.specs.Table.{State, Me, Allows, Splits, Joins, keeps as stays}
use Rattle.atomic_table.proofs.Lists.{at_set}
use Rattle.gx_history.specs.declared.record.RecordData.{RecordData}
use Rattle.gx_pass.specs.{declared.view.{KeeperView.KeeperView, LineView.LineView, View.{View, TheVariants.{Keeping, Meeting, Holding, Consumed}}}, Views.{first_view, line_in, keeper_view, line_view, with_told, with_line_issued, view_of_issued, view_without_line, view_of_line, view_of_meeting, without_line}, Rules.{IsMet, MayNote, AreEntered, Fits, IsKeptBy, IsKept, HasTold, HasMet, HasLooked, HasTaken, Has}}
use Rattle.gx_pass.proofs.{Lists_prefix.{prefix_self, prefix_more, prefix_length}, Lines_owner.{moved, moved_here, moved_else, entered_is_nobodys, absent, absent_new, entered_else, entered_alone, entered_without, numbered_more, numbered_push, of_line_other}}

abbrev Each : KeeperView → (ℕ → ℕ) → List View → Type 0
Each k holder views = (seat : ℕ) (v : View) → get_elem? views seat ≡ some v → Fits k holder seat v

abbrev law : State ℕ View → Type 0
law s = IsKept s.words s.views

each_set : (k : KeeperView) (holder : ℕ → ℕ) (views : List View) (i : ℕ) (w : View) → ((j : ℕ) (u : View) → j ≢ i → get_elem? views j ≡ some u → Fits k holder j u) → Fits k holder i w → Each k holder (set views i w)
each_set k holder views i w others mine j u e =
    ⊎_elim
    (λ (x : (j ≡ i) × (w ≡ u)). subst (λ (y : ℕ × View). Fits k holder y.0 y.1) (λ t. (sym x.0 t, x.1 t)) mine)
    (λ (x : (j ≢ i) × (get_elem? views j ≡ some u)). others j u x.0 x.1)
    (at_set views i j w u e)

at_end : (l : List View) (a b : View) (j : ℕ) → get_elem? (l ++ a ∷ []) j ≡ some b → (get_elem? l j ≡ some b) ⊎ ((j ≡ length l) × (a ≡ b))
at_end [] a b zero e = inr (refl, some-injective a b e)
at_end [] a b (suc j) e = absurd (some-ne-none b (sym e))
at_end (x ∷ xs) a b zero e = inl e
at_end (x ∷ xs) a b (suc j) e = ⊎_elim (λ t. inl t) (λ (t : (j ≡ length xs) × (a ≡ b)). inr (ap suc t.0, t.1)) (at_end xs a b j e)

each_snoc : (k : KeeperView) (holder : ℕ → ℕ) (views : List View) (w : View) → Each k holder views → Fits k holder (length views) w → Each k holder (views ++ w ∷ [])
each_snoc k holder views w others mine j u e =
    ⊎_elim
    (λ (x : get_elem? views j ≡ some u). others j u x)
    (λ (x : (j ≡ length views) × (w ≡ u)). subst (λ (y : ℕ × View). Fits k holder y.0 y.1) (λ t. (sym x.0 t, x.1 t)) mine)
    (at_end views w u j e)

at_below : (l : List View) (i : ℕ) (a : View) → get_elem? l i ≡ some a → i < length l
at_below [] i a e = absurd (some-ne-none a (sym e))
at_below (x ∷ xs) zero a e = omega arith
at_below (x ∷ xs) (suc i) a e = let r = at_below xs i a e in omega arith

-- what a step of the keeper leaves of the others: it is the only keeper
others : (k k' : KeeperView) (holder holder' : ℕ → ℕ) (j : ℕ) (u : View) → j ≢ 0 → Fits k holder j u → ((h : LineView) → Fits k holder j (Holding h) → Fits k' holder' j (Holding h)) → Fits k' holder' j u
others k k' holder holder' j (Keeping c) n f live = absurd (n f.0)
others k k' holder holder' j (Meeting c h) n f live = absurd (n f.0)
others k k' holder holder' j (Holding h) n f live = live h f
others k k' holder holder' j Consumed n f live = tt

-- the keeper's own list is that of the rule
by_keeper : (words : List ℕ) (views : List View) (id : ℕ) (c : KeeperView) → IsKept words views → get_elem? views id ≡ some (Keeping c) → (id ≡ 0) × IsKeptBy c words views
by_keeper words views id c kept at = let f = kept.1.each id (Keeping c) at in (f.0, subst (λ (x : KeeperView). IsKeptBy x words views) (sym f.1) kept.1)

by_meeting : (words : List ℕ) (views : List View) (id : ℕ) (c : KeeperView) (h : LineView) → IsKept words views → get_elem? views id ≡ some (Meeting c h) → (id ≡ 0) × IsMet c.list h × IsKeptBy c words views
by_meeting words views id c h kept at = let f = kept.1.each id (Meeting c h) at in
    (f.0, subst (λ (x : KeeperView). IsMet x.list h) (sym f.1) f.2, subst (λ (x : KeeperView). IsKeptBy x words views) (sym f.1) kept.1)

-- at the start
pub begins : IsKept (0 ∷ []) (first_view ∷ [])
begins = (keeper_view [] [] 0, record { holder = λ _. 0; word = refl; each = one; entered = tt; numbered = tt })
  where
    one : (seat : ℕ) (v : View) → get_elem? (first_view ∷ []) seat ≡ some v → Fits (keeper_view [] [] 0) (λ _. 0) seat v
    one zero v e = subst (Fits (keeper_view [] [] 0) (λ _. 0) 0) (some-injective _ _ e) (refl, refl)
    one (suc seat) v e = absurd (some-ne-none v (sym e))

-- a load by a pass
tells_at : (slots id : ℕ) (h : LineView) → Allows law slots id (Holding h, []) 0 (λ n. n) (λ n w. HasTold (Holding h, []) n w)
tells_at slots id h s kept len at small =
    let k = kept.0 in
    let by = kept.1 in
    let f = by.each id (Holding h) at in
    let n : ℕ = slice_index s.words 0 in
    let is : n ≡ length k.list = ap (λ ws. slice_index ws 0) by.word in
    let told = f.4.told in
    let front = prefix_length h.front k.list f.4.front in
    let w = Holding (with_told h n) in (
      w,
      stays,
      tt,
      (
        k,
        record {
          holder = by.holder;
          word = ap (λ ws. slice_set ws 0 (slice_index ws 0)) by.word;
          each = each_set k by.holder s.views id w (λ j u _ e. by.each j u e) (f.0, f.1, f.2, f.3, record { front = f.4.front; told = omega arith; mine = f.4.mine });
          entered = by.entered;
          numbered = by.numbered;
        },
      ),
      (refl, omega arith, omega arith),
    )

pub tells : (slots id : ℕ) (m : Me ℕ View) (h : LineView) → m ≡ (Holding h, []) → Allows law slots id m 0 (λ n. n) (λ n w. HasTold m n w)
tells slots id m h is = subst (λ (x : Me ℕ View). Allows law slots id x 0 (λ n. n) (λ n w. HasTold x n w)) (sym is) (tells_at slots id h)

-- the keeper's load, which compares the pass that it took in
meets_at : (slots id : ℕ) (c : KeeperView) (h : LineView) → Allows law slots id (Meeting c h, []) 0 (λ n. n) (λ n w. HasMet (Meeting c h, []) w)
meets_at slots id c h s kept len at small =
    let f = by_meeting s.words s.views id c h kept at in
    let by = f.2 in
    let w = Keeping c in (
      w,
      stays,
      tt,
      (
        c,
        record {
          holder = by.holder;
          word = ap (λ ws. slice_set ws 0 (slice_index ws 0)) by.word;
          each = each_set c by.holder s.views id w (λ j u _ e. by.each j u e) (f.0, refl);
          entered = by.entered;
          numbered = by.numbered;
        },
      ),
      (refl, f.1, entered_alone c.issued by.holder c.entered by.entered),
    )

pub meets : (slots id : ℕ) (m : Me ℕ View) (c : KeeperView) (h : LineView) → m ≡ (Meeting c h, []) → Allows law slots id m 0 (λ n. n) (λ n w. HasMet m w)
meets slots id m c h is = subst (λ (x : Me ℕ View). Allows law slots id x 0 (λ n. n) (λ n w. HasMet x w)) (sym is) (meets_at slots id c h)

-- the keeper's load, which sees that each line was issued
looks_at : (slots id : ℕ) (c : KeeperView) → Allows law slots id (Keeping c, []) 0 (λ n. n) (λ n w. HasLooked (Keeping c, []) w)
looks_at slots id c s kept len at small =
    let f = by_keeper s.words s.views id c kept at in
    let by = f.1 in
    let w = Keeping c in (
      w,
      stays,
      tt,
      (
        c,
        record {
          holder = by.holder;
          word = ap (λ ws. slice_set ws 0 (slice_index ws 0)) by.word;
          each = each_set c by.holder s.views id w (λ j u _ e. by.each j u e) (f.0, refl);
          entered = by.entered;
          numbered = by.numbered;
        },
      ),
      (refl, by.numbered),
    )

pub looks : (slots id : ℕ) (m : Me ℕ View) (c : KeeperView) → m ≡ (Keeping c, []) → Allows law slots id m 0 (λ n. n) (λ n w. HasLooked m w)
looks slots id m c is = subst (λ (x : Me ℕ View). Allows law slots id x 0 (λ n. n) (λ n w. HasLooked x w)) (sym is) (looks_at slots id c)

-- the history takes a record of line 0, or of an entered line
taken_live : (c : KeeperView) (holder : ℕ → ℕ) (r : RecordData) → AreEntered c.issued holder c.entered → MayNote c.entered (line_in r) → (j : ℕ) (h : LineView) → Fits c holder j (Holding h) → Fits (keeper_view (c.list ++ r ∷ []) c.entered c.issued) holder j (Holding h)
taken_live c holder r entered may j h f =
    let log = c.list in
    let longer = length-append log (r ∷ []) in
    let told = f.4.told in
    let away = f.0 in
    let whose = f.1 in
    let line = f.2 in
    let apart : line_in r ≢ h.line = λ e.
    ⊎_elim
    (λ (z : line_in r ≡ 0). absurd (omega arith))
    (λ t. let g = (entered_is_nobodys c.issued holder c.entered (line_in r) entered t).0 in let same : holder (line_in r) ≡ holder h.line = ap holder e in absurd (omega arith))
    may in
    (f.0, f.1, f.2, f.3, record { front = prefix_more h.front log (r ∷ []) f.4.front; told = omega arith; mine = of_line_other h.line log r apart ∙ f.4.mine })

notes_at : (slots id : ℕ) (c : KeeperView) (r : RecordData) → MayNote c.entered (line_in r) → length c.list + 1 < 2 ^ 64 → Allows law slots id (Keeping c, []) 0 (λ n. (n + 1) % 2 ^ 64) (λ n w. HasTaken r (Keeping c, []) w)
notes_at slots id c r may room s kept len at small =
    let f = by_keeper s.words s.views id c kept at in
    let by = f.1 in
    let c' = keeper_view (c.list ++ r ∷ []) c.entered c.issued in
    let w = Keeping c' in
    let next : (length c.list + 1) % 2 ^ 64 ≡ length (c.list ++ r ∷ []) = mod-eq_of_lt room ∙ sym (length-append c.list (r ∷ [])) in
    let numbered : line_in r ≤ c.issued = ⊎_elim (λ (z : line_in r ≡ 0). let g : line_in r ≤ c.issued = omega arith in g) (λ t. (entered_is_nobodys c.issued by.holder c.entered (line_in r) by.entered t).2) may in (
      w,
      stays,
      tt,
      (
        c',
        record {
          holder = by.holder;
          word = ap (λ ws. slice_set ws 0 ((slice_index ws 0 + 1) % 2 ^ 64)) by.word ∙ ap (λ (n : ℕ). n ∷ []) next;
          each = each_set c' by.holder s.views id w (λ j u n e. others c c' by.holder by.holder j u (λ z. n (z ∙ sym f.0)) (by.each j u e) (taken_live c by.holder r by.entered may j)) (f.0, refl);
          entered = by.entered;
          numbered = numbered_push c.issued c.list r numbered by.numbered;
        },
      ),
      refl,
    )

pub notes : (slots id : ℕ) (m : Me ℕ View) (c : KeeperView) (r : RecordData) → m ≡ (Keeping c, []) → MayNote c.entered (line_in r) → length c.list + 1 < 2 ^ 64 → Allows law slots id m 0 (λ n. (n + 1) % 2 ^ 64) (λ n w. HasTaken r m w)
notes slots id m c r is may room = subst (λ (x : Me ℕ View). Allows law slots id x 0 (λ n. (n + 1) % 2 ^ 64) (λ n w. HasTaken r x w)) (sym is) (notes_at slots id c r may room)

-- what a pass has stays, where another line goes elsewhere and more lines are issued
moved_live : (c c' : KeeperView) (holder : ℕ → ℕ) (line to : ℕ) → c'.list ≡ c.list → c.issued ≤ c'.issued → (j : ℕ) (h : LineView) → h.line ≢ line → Fits c holder j (Holding h) → Fits c' (moved holder line to) j (Holding h)
moved_live c c' holder line to same more j h apart f = let k = f.3 in
    (f.0, moved_else holder line to h.line apart ∙ f.1, f.2, omega arith, subst (λ (x : List RecordData). IsMet x h) (sym same) f.4)

-- a new pass with a new line
issues_at : (id : ℕ) (c : KeeperView) → Splits law id (Keeping c) (with_line_issued (Keeping c)) (view_of_issued (Keeping c))
issues_at id c s kept at =
    let f = by_keeper s.words s.views id c kept at in
    let by = f.1 in
    let line = c.issued + 1 in
    let views = set s.views id (with_line_issued (Keeping c)) in
    let seat = length views in
    let wide : length views ≡ length s.views = length-set s.views id (with_line_issued (Keeping c)) in
    let inside = at_below s.views id (Keeping c) at in
    let c' = keeper_view c.list c.entered line in
    let holder = moved by.holder line seat in
    let met : IsMet c.list (line_view line c.list (length c.list)) = record { front = prefix_self c.list; told = omega arith; mine = refl } in (
      c',
      record {
        holder = holder;
        word = by.word;
        each = each_snoc c' holder views (view_of_issued (Keeping c))
            (each_set c' holder s.views id (with_line_issued (Keeping c))
            (λ j u n e. others c c' by.holder holder j u (λ z. n (z ∙ sym f.0)) (by.each j u e) (λ h g. let k = g.3 in moved_live c c' by.holder line seat refl (omega arith) j h (λ z. absurd (omega arith)) g))
            (f.0, refl))
            (omega arith, moved_here by.holder line seat, omega arith, omega arith, met);
        entered = entered_else c.issued line by.holder c.entered line seat (omega arith) by.entered (absent_new c.issued by.holder c.entered line by.entered (omega arith));
        numbered = numbered_more c.issued line c.list (omega arith) by.numbered;
      },
    )

pub issues : (id : ℕ) (v : View) (c : KeeperView) → v ≡ Keeping c → Splits law id v (with_line_issued v) (view_of_issued v)
issues id v c is = subst (λ (x : View). Splits law id x (with_line_issued x) (view_of_issued x)) (sym is) (issues_at id c)

-- an entered line leaves
leaves_at : (id : ℕ) (c : KeeperView) (line : ℕ) → Has c.entered line → Splits law id (Keeping c) (view_without_line line (Keeping c)) (view_of_line line (Keeping c))
leaves_at id c line has s kept at =
    let f = by_keeper s.words s.views id c kept at in
    let by = f.1 in
    let list = c.list in
    let c' = keeper_view list (without_line line c.entered) c.issued in
    let views = set s.views id (Keeping c') in
    let seat = length views in
    let wide : length views ≡ length s.views = length-set s.views id (Keeping c') in
    let inside = at_below s.views id (Keeping c) at in
    let holder = moved by.holder line seat in
    let own = entered_is_nobodys c.issued by.holder c.entered line by.entered has in
    let met : IsMet list (line_view line list (length list)) = record { front = prefix_self list; told = omega arith; mine = refl } in (
      c',
      record {
        holder = holder;
        word = by.word;
        each = each_snoc c' holder views (Holding (line_view line list (length list)))
            (each_set c' holder s.views id (Keeping c')
            (λ j u n e. others c c' by.holder holder j u (λ z. n (z ∙ sym f.0)) (by.each j u e)
            (λ h g. let away = g.0 in let whose = g.1 in let free = own.0 in
            moved_live c c' by.holder line seat refl (omega arith) j h (λ z. let same : by.holder h.line ≡ by.holder line = ap by.holder z in absurd (omega arith)) g))
            (f.0, refl))
            (omega arith, moved_here by.holder line seat, own.1, own.2, met);
        entered = entered_without c.issued by.holder c.entered line seat by.entered has;
        numbered = by.numbered;
      },
    )

pub leaves : (id : ℕ) (v : View) (c : KeeperView) (line : ℕ) → Has c.entered line → v ≡ Keeping c → Splits law id v (view_without_line line v) (view_of_line line v)
leaves id v c line has is = subst (λ (x : View). Splits law id x (view_without_line line x) (view_of_line line x)) (sym is) (leaves_at id c line has)

-- the entered lines with one more, which was a pass's
entered_more : (issued : ℕ) (holder : ℕ → ℕ) (entered : List ℕ) (line : ℕ) → AreEntered issued holder entered → 0 < holder line → AreEntered issued (moved holder line 0) entered
entered_more issued holder entered line h away = entered_else issued issued holder entered line 0 (omega arith) h (absent issued holder entered line h away)

-- the keeper takes in a pass
enters_at : (id : ℕ) (c : KeeperView) (other : ℕ) (h : LineView) → Joins law id (Keeping c) other (Holding h) (view_of_meeting (Keeping c) (Holding h)) Consumed
enters_at id c other h s kept at apart there =
    let f = by_keeper s.words s.views id c kept at in
    let by = f.1 in
    let c' = keeper_view c.list (h.line ∷ c.entered) c.issued in
    let w = Meeting c' h in
    let theirs : get_elem? s.views other ≡ some (Holding h) = ⊎_elim (λ (t : (other ≡ id) × (w ≡ Holding h)). absurd (apart t.0)) (λ (t : (other ≢ id) × (get_elem? s.views other ≡ some (Holding h))). t.1) (at_set s.views id other w (Holding h) there) in
    let g = by.each other (Holding h) theirs in
    let away = g.0 in
    let whose = g.1 in
    let holder = moved by.holder h.line 0 in (
      c',
      record {
        holder = holder;
        word = by.word;
        each = each_set c' holder (set s.views id w) other Consumed
            (λ j u n e. each_beside c' holder s.views id w j u other n
            (λ i v m k e'. others c c' by.holder holder i v (λ z. m (z ∙ sym f.0)) (by.each i v e')
            (λ x y. let own = y.1 in moved_live c c' by.holder h.line 0 refl (omega arith) i x (λ z. let same : by.holder x.line ≡ by.holder h.line = ap by.holder z in k (omega arith)) y))
            (f.0, refl, g.4) e)
            tt;
        entered = (moved_here by.holder h.line 0, g.2, g.3, absent c.issued by.holder c.entered h.line by.entered (omega arith), entered_more c.issued by.holder c.entered h.line by.entered (omega arith));
        numbered = by.numbered;
      },
    )
  where
    each_beside : (k : KeeperView) (holder : ℕ → ℕ) (views : List View) (i : ℕ) (w : View) (j : ℕ) (u : View) (other : ℕ) → j ≢ other
        → ((a : ℕ) (v : View) → a ≢ i → a ≢ other → get_elem? views a ≡ some v → Fits k holder a v) → Fits k holder i w → get_elem? (set views i w) j ≡ some u → Fits k holder j u
    each_beside k holder views i w j u other n live mine e =
        ⊎_elim
        (λ (x : (j ≡ i) × (w ≡ u)). subst (λ (y : ℕ × View). Fits k holder y.0 y.1) (λ t. (sym x.0 t, x.1 t)) mine)
        (λ (x : (j ≢ i) × (get_elem? views j ≡ some u)). live j u x.0 n x.1)
        (at_set views i j w u e)

pub enters : (id : ℕ) (v : View) (c : KeeperView) (other : ℕ) (w : View) (h : LineView) → v ≡ Keeping c → w ≡ Holding h → Joins law id v other w (view_of_meeting v w) Consumed
enters id v c other w h is is' = subst (λ (x : View × View). Joins law id x.0 other x.1 (view_of_meeting x.0 x.1) Consumed) (λ t. (sym is t, sym is' t)) (enters_at id c other h)
