-- How the table of warnings is brought from the records but the last to all of them: a warning is put where it is due.
use Rattle.std.proofs.{Common.{◌≡◌, ℕ, ◌+◌, ◌-◌, ◌≤◌, Bool, true, false, cond, not, ◌⊎◌, inl, inr, List, [], ◌∷◌, ◌++◌, length, refl, sym, ap, subst, ◌∙◌, arith}, lemmas.{Bool.{eq-eqb, eqb-true, and_parts}, List.{Elements.All-from_recursion, Sorted.IsNonDecreasingBy-push}}}
use Rattle.std.specs.{Prelude.{Option, Some, None, ◌&&◌, ◌||◌, ◌==◌, is_some, fold, unwrap_or}, List.{AllByRecursion, count_by, list_any, Sorted.IsNonDecreasingBy}, Map.lookup, Option.option_map_or}
use Rattle.gx_units.proofs.Lists_hold.{all_weaker, all_next}
use Rattle.gx_policy.specs.declared.policy.PolicyData.{PolicyData}
use Rattle.gx_history.specs.declared.record.RecordData.{RecordData}
use Rattle.gx_laws.proofs.Keys_differ.{all_members}
use Rattle.gx_records.specs.State.{limit_in_force}
use Rattle.gx_peaks.specs.{declared.{figure.Figure.Figure, key.PeakKey.PeakKey, peak.Reading.Reading}, Figures.{amount, is_counted, used_of}, Keys.{key_of, same_key}, Noting.IsSame, Raising.reading_of, Same.{key_is, key_is_itself}}
use Rattle.gx_peaks.proofs.{OnePeak_next.whole, Figures_same.amounts_same, Figure_sort.is_some_always}
use Rattle.gx_warnings.specs.{declared.{mark.Mark.Mark, warning.Warning.Warning}, Keeping.{IsEntry, IsKnown}, Marks.{mark_of, same_mark}, Noting.{with_figure, with_figure_warnings, with_share, with_warning}, Warnings.{IsFirstPassed, is_passed, passes}}
use Rattle.gx_warnings.proofs.{Entries_next.{found_elsewhere, found_last, none_counts, one_more_counts}, Share_first.{begins, first_stays, known_goes_on, never_now}}

-- marks that are the same are equal
pub mark_is : (a b : Mark) → same_mark a b ≡ true → a ≡ b
mark_is a b h =
    let parts : (same_key a.key b.key ≡ true) × ((a.share == b.share) ≡ true) = and_parts (same_key a.key b.key) (a.share == b.share) h in
    λ i. record { key = key_is a.key b.key parts.0 i; share = eqb-true a.share b.share parts.1 i }

mark_is_itself : (a : Mark) → same_mark a a ≡ true
mark_is_itself a = λ i. key_is_itself a.key i && eq-eqb a.share a.share refl i

-- the figure is one of these
abbrev pub Covers : PolicyData → List Figure → Figure → Type 0
Covers policy [] f = ⊥
Covers policy (g ∷ gs) f = IsSame policy f g ⊎ Covers policy gs f

module _ (policy : PolicyData) (shares : List ℕ) (earlier : List RecordData) (r : RecordData) where
  abbrev pub all : List RecordData
  all = earlier ++ r ∷ []

  abbrev pub Asked : ℕ → Type 0
  Asked s = list_any (λ (asked : ℕ). asked == s) shares ≡ true

  -- what is kept is over all records
  abbrev pub Now : List (Mark × Warning) → Figure → ℕ → Type 0
  Now es f s = IsKnown policy f s all (lookup (same_mark (mark_of policy f s)) es)

  -- or over the earlier ones
  abbrev pub Lags : List (Mark × Warning) → Figure → ℕ → Type 0
  Lags es f s = IsKnown policy f s earlier (lookup (same_mark (mark_of policy f s)) es) ⊎ Now es f s

  pub record Goes (es : List (Mark × Warning)) : Type 0 where
    pub lags : (f : Figure) → is_counted policy f ≡ true → (s : ℕ) → Asked s → Lags es f s
    pub each : AllByRecursion (IsEntry policy shares all) es
    pub in_order : IsNonDecreasingBy (λ (entry : Mark × Warning). entry.1.reading.number) es
    pub once : (mark : Mark) → count_by (λ (entry : Mark × Warning). same_mark mark entry.0) es ≤ 1

  -- nothing goes back, and what is kept of these is over all records then
  pub record Step (reached : Figure → ℕ → Type 0) (old new : List (Mark × Warning)) : Type 0 where
    pub goes : Goes old → Goes new
    pub stays : (f : Figure) → is_counted policy f ≡ true → (s : ℕ) → Asked s → Goes old → Now old f s → Now new f s
    pub done : (f : Figure) → is_counted policy f ≡ true → (s : ℕ) → Asked s → reached f s → Goes old → Now new f s

  nothing_done : (reached : Figure → ℕ → Type 0) (es : List (Mark × Warning)) → ((f : Figure) → is_counted policy f ≡ true → (s : ℕ) → Asked s → reached f s → ⊥) → Step reached es es
  nothing_done reached es none = record { goes = λ go. go; stays = λ f c s a go now. now; done = λ f c s a reaches go. absurd (none f c s a reaches) }

  one_then_other : (first second : Figure → ℕ → Type 0) (old mid new : List (Mark × Warning)) → Step first old mid → Step second mid new → Step (λ f s. first f s ⊎ second f s) old new
  one_then_other first second old mid new one two = record {
    goes = λ go. two.goes (one.goes go);
    stays = λ f c s a go now. two.stays f c s a (one.goes go) (one.stays f c s a go now);
    done = λ f c s a reaches go. either f c s a go reaches;
  }
    where
      either : (f : Figure) → is_counted policy f ≡ true → (s : ℕ) → Asked s → Goes old → first f s ⊎ second f s → Now new f s
      either f c s a go (inl x) = two.stays f c s a (one.goes go) (one.done f c s a x go)
      either f c s a go (inr y) = two.done f c s a y (one.goes go)

  in_other_words : (first second : Figure → ℕ → Type 0) (old new : List (Mark × Warning)) → ((f : Figure) → is_counted policy f ≡ true → (s : ℕ) → Asked s → second f s → first f s)
      → Step first old new → Step second old new
  in_other_words first second old new weaker one = record { goes = one.goes; stays = one.stays; done = λ f c s a reaches go. one.done f c s a (weaker f c s a reaches) go }

  -- ---- one share of one figure

  module _ (g : Figure) (g_counted : is_counted policy g ≡ true) (t : ℕ) (t_asked : Asked t) where
    abbrev now_of : Reading
    now_of = reading_of policy all g.rule (amount policy g all)

    abbrev warning : Warning
    warning = record { figure = g; share = t; reading = now_of }

    abbrev mark : Mark
    mark = mark_of policy g t

    -- it is this share of this figure
    abbrev Here : Figure → ℕ → Type 0
    Here f s = (key_of policy f ≡ key_of policy g) × (s ≡ t)

    alike : (f : Figure) → is_counted policy f ≡ true → (s : ℕ) → Here f s → is_passed policy f s all ≡ is_passed policy g t all
    alike f counted s here =
        let rule : f.rule ≡ g.rule = ap (λ (k : PeakKey). k.rule) here.0 in
        let same : amount policy f all ≡ amount policy g all = amounts_same policy f g counted g_counted here.0 all in
        λ i. passes (here.1 i) (same i) (limit_in_force policy all (rule i))

    same_marks : (f : Figure) (s : ℕ) → Here f s → mark_of policy f s ≡ mark
    same_marks f s here = λ i. record { key = here.0 i; share = here.1 i }

    is_here : (f : Figure) (s : ℕ) → same_mark (mark_of policy f s) mark ≡ true → Here f s
    is_here f s e = let same : mark_of policy f s ≡ mark = mark_is (mark_of policy f s) mark e in (ap (λ (m : Mark). m.key) same, ap (λ (m : Mark). m.share) same)

    here_is : (f : Figure) (s : ℕ) → Here f s → same_mark (mark_of policy f s) mark ≡ true
    here_is f s here = ap (λ (m : Mark). same_mark m mark) (same_marks f s here) ∙ mark_is_itself mark

    module _ (es : List (Mark × Warning)) (go : Goes es) where
      abbrev more : List (Mark × Warning)
      more = es ++ (mark, warning) ∷ []

      found_here : (f : Figure) (s : ℕ) → Here f s → lookup (same_mark (mark_of policy f s)) es ≡ lookup (same_mark mark) es
      found_here f s here = ap (λ (m : Mark). lookup (same_mark m) es) (same_marks f s here)

      -- it is due, and none is kept
      module _ (due : is_passed policy g t all ≡ true) (none : lookup (same_mark mark) es ≡ None) where
        first_here : (f : Figure) → is_counted policy f ≡ true → (s : ℕ) → Asked s → Here f s → IsFirstPassed policy f s all (length all)
        first_here f c s a here = by (go.lags f c s a)
          where
            missing : lookup (same_mark (mark_of policy f s)) es ≡ None
            missing = found_here f s here ∙ none

            passed : is_passed policy f s all ≡ true
            passed = alike f c s here ∙ due

            by : Lags es f s → IsFirstPassed policy f s all (length all)
            by (inl before) = begins policy f s earlier r (subst (IsKnown policy f s earlier) missing before) passed
            by (inr now) = let no : false ≡ true = sym (never_now policy f s all (subst (IsKnown policy f s all) missing now)) ∙ passed in cc

        put_here : (f : Figure) → is_counted policy f ≡ true → (s : ℕ) → Asked s → Here f s → Now more f s
        put_here f c s a here =
            subst (IsKnown policy f s all)
            (sym
            (found_last (same_mark (mark_of policy f s)) es (mark, warning) (found_here f s here ∙ none) ∙ ap (λ (b : Bool). cond b (Some warning) None) (here_is f s here)))
            (first_here f c s a here)

        now_more : (f : Figure) → is_counted policy f ≡ true → (s : ℕ) → Asked s → Now es f s → Now more f s
        now_more f c s a now = by (same_mark (mark_of policy f s) mark) refl
          where
            by : (b : Bool) → same_mark (mark_of policy f s) mark ≡ b → Now more f s
            by true e = put_here f c s a (is_here f s e)
            by false e = subst (IsKnown policy f s all) (sym (found_elsewhere (same_mark (mark_of policy f s)) es (mark, warning) e)) now

        lags_more : (f : Figure) → is_counted policy f ≡ true → (s : ℕ) → Asked s → Lags es f s → Lags more f s
        lags_more f c s a (inr now) = inr (now_more f c s a now)
        lags_more f c s a (inl before) = by (same_mark (mark_of policy f s) mark) refl
          where
            by : (b : Bool) → same_mark (mark_of policy f s) mark ≡ b → Lags more f s
            by true e = inr (put_here f c s a (is_here f s e))
            by false e = inl (subst (IsKnown policy f s earlier) (sym (found_elsewhere (same_mark (mark_of policy f s)) es (mark, warning) e)) before)

        once_more : (other : Mark) → count_by (λ (entry : Mark × Warning). same_mark other entry.0) more ≤ 1
        once_more other = by (same_mark other mark) refl
          where
            counts : count_by (λ (entry : Mark × Warning). same_mark other entry.0) more ≡ count_by (λ (entry : Mark × Warning). same_mark other entry.0) es + cond (same_mark other mark) 1 0
            counts = one_more_counts (same_mark other) es (mark, warning)

            by : (b : Bool) → same_mark other mark ≡ b → count_by (λ (entry : Mark × Warning). same_mark other entry.0) more ≤ 1
            by false e =
                let one : ◌≡◌ {A = ℕ} (cond (same_mark other mark) 1 0) 0 = ap (λ (b : Bool). cond {A = ℕ} b 1 0) e in
                let few = go.once other in
                omega (arith, counts, one, few)
            by true e =
                let one : ◌≡◌ {A = ℕ} (cond (same_mark other mark) 1 0) 1 = ap (λ (b : Bool). cond {A = ℕ} b 1 0) e in
                let zero : count_by (λ (entry : Mark × Warning). same_mark other entry.0) es ≡ 0 =
                none_counts (same_mark other) es (ap (λ (m : Mark). lookup (same_mark m) es) (mark_is other mark e) ∙ none) in
                omega (arith, counts, one, zero)

        goes_more : Goes more
        goes_more = record {
          lags = λ f c s a. lags_more f c s a (go.lags f c s a);
          each =
              all_next (IsEntry policy shares all) es (mark, warning) go.each
              (record {
                has_mark = refl;
                is_warning = record {
                  is_counted = g_counted;
                  is_asked = t_asked;
                  first = first_here g g_counted t t_asked (refl, refl);
                  reading = ap (λ (h : List RecordData). reading_of policy h g.rule (amount policy g h)) (sym (whole all));
                };
              });
          in_order =
              IsNonDecreasingBy-push (λ (entry : Mark × Warning). entry.1.reading.number) es (mark, warning) go.in_order
              (λ d some. All-from_recursion (λ (entry : Mark × Warning). entry.1.reading.number ≤ length all) es bounded (length es - 1) d (omega (arith, some)));
          once = once_more;
        }
          where
            bounded : AllByRecursion (λ (entry : Mark × Warning). entry.1.reading.number ≤ length all) es
            bounded = all_weaker (IsEntry policy shares all) (λ (entry : Mark × Warning). entry.1.reading.number ≤ length all) (λ entry is. is.is_warning.first.within) es go.each

      -- it is put or not
      goes_by : (b : Bool) → is_passed policy g t all ≡ b → (found : Option Warning) → lookup (same_mark mark) es ≡ found → Goes (cond (not b || is_some found) es more)
      goes_by false e found k = go
      goes_by true e (Some w) k = go
      goes_by true e None k = goes_more e k

      stays_by : (f : Figure) → is_counted policy f ≡ true → (s : ℕ) → Asked s → Now es f s → (b : Bool) → is_passed policy g t all ≡ b → (found : Option Warning) → lookup (same_mark mark) es ≡ found
          → Now (cond (not b || is_some found) es more) f s
      stays_by f c s a now false e found k = now
      stays_by f c s a now true e (Some w) k = now
      stays_by f c s a now true e None k = now_more e k f c s a now

      done_by : (f : Figure) → is_counted policy f ≡ true → (s : ℕ) → Asked s → Here f s → (b : Bool) → is_passed policy g t all ≡ b → (found : Option Warning) → lookup (same_mark mark) es ≡ found
          → Now (cond (not b || is_some found) es more) f s
      done_by f c s a here false e found k = by (go.lags f c s a)
        where
          by : Lags es f s → Now es f s
          by (inl before) = known_goes_on policy f s earlier r (lookup (same_mark (mark_of policy f s)) es) before (alike f c s here ∙ e)
          by (inr now) = now
      done_by f c s a here true e (Some w) k = by (go.lags f c s a)
        where
          there : lookup (same_mark (mark_of policy f s)) es ≡ Some w
          there = found_here f s here ∙ k

          by : Lags es f s → Now es f s
          by (inl before) = subst (IsKnown policy f s all) (sym there) (first_stays policy f s earlier r w.reading.number (subst (IsKnown policy f s earlier) there before))
          by (inr now) = now
      done_by f c s a here true e None k = put_here e k f c s a here

    put : (es : List (Mark × Warning)) → Step Here es (with_warning es mark warning)
    put es = record {
      goes = λ go. goes_by es go (is_passed policy g t all) refl (lookup (same_mark mark) es) refl;
      stays = λ f c s a go now. stays_by es go f c s a now (is_passed policy g t all) refl (lookup (same_mark mark) es) refl;
      done = λ f c s a here go. done_by es go f c s a here (is_passed policy g t all) refl (lookup (same_mark mark) es) refl;
    }

  -- ---- all shares of one figure

  module _ (g : Figure) (g_counted : is_counted policy g ≡ true) where
    abbrev One : List ℕ → Figure → ℕ → Type 0
    One ts f s = (key_of policy f ≡ key_of policy g) × (list_any (λ (asked : ℕ). asked == s) ts ≡ true)

    first_or_later : (t : ℕ) (ts : List ℕ) (f : Figure) (s : ℕ) → One (t ∷ ts) f s → ((key_of policy f ≡ key_of policy g) × (s ≡ t)) ⊎ One ts f s
    first_or_later t ts f s of = by (t == s) refl of.1
      where
        by : (b : Bool) → (t == s) ≡ b → (b || list_any (λ (asked : ℕ). asked == s) ts) ≡ true → ((key_of policy f ≡ key_of policy g) × (s ≡ t)) ⊎ One ts f s
        by true e h = inl (of.0, sym (eqb-true t s e))
        by false e h = inr (of.0, h)

    shares_put : (ts : List ℕ) → AllByRecursion Asked ts → (es : List (Mark × Warning))
        → Step (One ts) es (fold (with_share (key_of policy g) g (reading_of policy all g.rule (amount policy g all))) es ts)
    shares_put [] asked es = nothing_done (One []) es (λ f c s a of. let no : false ≡ true = of.1 in cc)
    shares_put (t ∷ ts) asked es =
        let mid : List (Mark × Warning) = with_warning es (mark_of policy g t) (record { figure = g; share = t; reading = reading_of policy all g.rule (amount policy g all) }) in
        let end : List (Mark × Warning) = fold (with_share (key_of policy g) g (reading_of policy all g.rule (amount policy g all))) mid ts in
        in_other_words (λ f s. ((key_of policy f ≡ key_of policy g) × (s ≡ t)) ⊎ One ts f s) (One (t ∷ ts)) es end (λ f c s a of. first_or_later t ts f s of)
        (one_then_other (λ f s. (key_of policy f ≡ key_of policy g) × (s ≡ t)) (One ts) es mid end (put g g_counted t asked.0 es) (shares_put ts asked.1 mid))

  -- ---- all figures

  figure_put : (g : Figure) (es : List (Mark × Warning)) → Step (λ f s. IsSame policy f g) es (with_figure policy all shares es g)
  figure_put g es = by (used_of policy g all) refl
    where
      by : (found : Option ℕ) → used_of policy g all ≡ found
          → Step (λ f s. IsSame policy f g) es (option_map_or (λ (used : ℕ). fold (with_share (key_of policy g) g (reading_of policy all g.rule used)) es shares) found es)
      by None e =
          nothing_done (λ f s. IsSame policy f g) es
          (λ f c s a same. let no : false ≡ true = sym (ap is_some e) ∙ is_some_always policy g all ∙ sym (is_some_always policy g []) ∙ same.is_counted in cc)
      by (Some used) e =
          let counted : is_counted policy g ≡ true = is_some_always policy g [] ∙ sym (is_some_always policy g all) ∙ ap is_some e in
          let end : ℕ → List (Mark × Warning) = λ used. fold (with_share (key_of policy g) g (reading_of policy all g.rule used)) es shares in
          subst (λ (u : ℕ). Step (λ f s. IsSame policy f g) es (end u)) (ap (λ (o : Option ℕ). unwrap_or o 0) e)
          (in_other_words (One g counted shares) (λ f s. IsSame policy f g) es (end (amount policy g all)) (λ f c s a same. (same.same_key, a)) (shares_put g counted shares (all_members shares) es))

  pub figures_put : (gs : List Figure) (es : List (Mark × Warning)) → Step (λ f s. Covers policy gs f) es (with_figure_warnings policy all shares es gs)
  figures_put [] es = nothing_done (λ f s. Covers policy [] f) es (λ f c s a none. none)
  figures_put (g ∷ gs) es =
      one_then_other (λ f s. IsSame policy f g) (λ f s. Covers policy gs f) es (with_figure policy all shares es g) (with_figure_warnings policy all shares (with_figure policy all shares es g) gs)
      (figure_put g es) (figures_put gs (with_figure policy all shares es g))
