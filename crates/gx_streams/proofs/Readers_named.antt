-- Readers under their names.
use Rattle.std.proofs.{Common.{◌≡◌, ℕ, zero, suc, ◌+◌, ◌<◌, Bool, true, false, cond, List, [], ◌∷◌, ◌++◌, map, take, drop, length, get_or, set, refl, ◌∙◌, sym, ap, subst, if◌then◌else◌}, lemmas.{List.{map-append, take_more}, Grind.flat_map-append, Option.{get_or_from_slice_get, same_Some}}}
use Rattle.std.specs.{Prelude.{Some, None, slice_get}, List.{AllByRecursion, find, flat_map}, Map.{keys_of, lookup, set_value, values_of}}
use Rattle.indexmap.specs.IndexMap.{insert_entry, set_value_at}
use Rattle.indexmap.proofs.MapLemmas.{insert_entry-absent}
use Rattle.gx_units.specs.{Names.same_user, declared.names.UserName.UserName}
use Rattle.gx_units.proofs.Names_equal.{same_user_flip}
use Rattle.gx_policy.specs.{Lists.are_distinct, People.is_reader, declared.policy.User.User}
use Rattle.gx_laws.proofs.Entries_table.{new_next}
use Rattle.gx_streams.specs.{Kept.at_first, Spans.{AreNamed, ReaderSpans, is_named, no_spans, spans_for}}
use Rattle.gx_streams.proofs.Spans_next.{item_at, one_more_changed}

-- the first reader of a name is the one under it
pub found : (es : List (UserName × ReaderSpans)) (user : UserName) → AreNamed es → find (is_named user) (values_of es) ≡ lookup (same_user user) es
found [] user named = refl
found (e ∷ es) user named =
    ap (λ b. cond b (Some e.1) (find (is_named user) (values_of es))) (ap (same_user user) named.0)
    ∙ ap (cond (same_user user e.0) (Some e.1)) (found es user named.1)

-- where none has the name, none is changed
pub absent : (es : List (UserName × ReaderSpans)) (user : UserName) (change : ReaderSpans → ReaderSpans) → AreNamed es → None ≡ lookup (same_user user) es
    → at_first (is_named user) change (values_of es) ≡ values_of es
absent [] user change named none = refl
absent (e ∷ es) user change named none = by (same_user user e.0) refl none (absent es user change named.1)
  where
    by : (b : Bool) → same_user user e.0 ≡ b → None ≡ cond b (Some e.1) (lookup (same_user user) es)
        → (None ≡ lookup (same_user user) es → at_first (is_named user) change (values_of es) ≡ values_of es)
        → at_first (is_named user) change (values_of (e ∷ es)) ≡ values_of (e ∷ es)
    by true is h later = cc
    by false is h later =
        ap (λ b. if b then change e.1 ∷ values_of es else e.1 ∷ at_first (is_named user) change (values_of es)) (ap (same_user user) named.0 ∙ is)
        ∙ ap (λ rs. e.1 ∷ rs) (later h)

-- a reader that is changed under his name is the first that is changed
pub changed : (es : List (UserName × ReaderSpans)) (user : UserName) (change : ReaderSpans → ReaderSpans) (before : ReaderSpans) → AreNamed es → Some before ≡ lookup (same_user user) es
    → values_of (set_value (same_user user) es (change before)) ≡ at_first (is_named user) change (values_of es)
changed [] user change before named has = refl
changed (e ∷ es) user change before named has = by (same_user user e.0) refl has (changed es user change before named.1)
  where
    later : List ReaderSpans
    later = at_first (is_named user) change (values_of es)

    by : (b : Bool) → same_user user e.0 ≡ b → Some before ≡ cond b (Some e.1) (lookup (same_user user) es)
        → (Some before ≡ lookup (same_user user) es → values_of (set_value (same_user user) es (change before)) ≡ later)
        → values_of (cond (same_user user e.0) ((e.0, change before) ∷ es) (e ∷ set_value (same_user user) es (change before)))
        ≡ (if same_user user e.1.user then change e.1 ∷ values_of es else e.1 ∷ later)
    by true is h rest =
        ap (λ b. values_of (cond b ((e.0, change before) ∷ es) (e ∷ set_value (same_user user) es (change before)))) is
        ∙ ap (λ r. change r ∷ values_of es) (same_Some _ _ h)
        ∙ ap (λ b. if b then change e.1 ∷ values_of es else e.1 ∷ later) (sym (ap (same_user user) named.0 ∙ is))
    by false is h rest =
        ap (λ b. values_of (cond b ((e.0, change before) ∷ es) (e ∷ set_value (same_user user) es (change before)))) is
        ∙ ap (λ rs. e.1 ∷ rs) (rest h)
        ∙ ap (λ b. if b then change e.1 ∷ values_of es else e.1 ∷ later) (sym (ap (same_user user) named.0 ∙ is))

-- and he stays under it
pub stays_named : (es : List (UserName × ReaderSpans)) (user : UserName) (before now : ReaderSpans) → AreNamed es → Some before ≡ lookup (same_user user) es → now.user ≡ before.user
    → AreNamed (set_value (same_user user) es now)
stays_named [] user before now named has same = tt
stays_named (e ∷ es) user before now named has same = by (same_user user e.0) has (λ h. stays_named es user before now named.1 h same)
  where
    by : (b : Bool) → Some before ≡ cond b (Some e.1) (lookup (same_user user) es) → (Some before ≡ lookup (same_user user) es → AreNamed (set_value (same_user user) es now))
        → AreNamed (cond b ((e.0, now) ∷ es) (e ∷ set_value (same_user user) es now))
    by true h rest = (same ∙ ap (λ (r : ReaderSpans). r.user) (same_Some _ _ h) ∙ named.0, named.1)
    by false h rest = (named.0, rest h)

-- a reader written at his place
pub set_at : (es : List (UserName × ReaderSpans)) (i : ℕ) (now : ReaderSpans) → values_of (set_value_at es i now) ≡ set (values_of es) i now
set_at [] i now = refl
set_at (e ∷ es) zero now = refl
set_at (e ∷ es) (suc i) now = ap (λ rs. e.1 ∷ rs) (set_at es i now)

-- and he stays under his name
pub stays_named_at : (es : List (UserName × ReaderSpans)) (i : ℕ) (before now : ReaderSpans) → AreNamed es → slice_get (values_of es) i ≡ Some before → now.user ≡ before.user
    → AreNamed (set_value_at es i now)
stays_named_at [] i before now named at same = tt
stays_named_at (e ∷ es) zero before now named at same = (same ∙ ap (λ (r : ReaderSpans). r.user) (sym (same_Some _ _ at)) ∙ named.0, named.1)
stays_named_at (e ∷ es) (suc i) before now named at same = (named.0, stays_named_at es i before now named.1 at same)

-- the reader at the next place is as he was
pub next_is : (change : ReaderSpans → ReaderSpans) (es : List (UserName × ReaderSpans)) (rs : List ReaderSpans) (i : ℕ) (next : ReaderSpans) → values_of es ≡ map change (take i rs) ++ drop i rs
    → slice_get (values_of es) i ≡ Some next → i < length rs → next ≡ get_or rs i next
next_is change es rs i next are at within =
    sym (get_or_from_slice_get (values_of es) i next next at) ∙ ap (λ (l : List ReaderSpans). get_or l i next) are ∙ item_at change rs i next within

-- one more of them is changed
pub one_more : (change : ReaderSpans → ReaderSpans) (es : List (UserName × ReaderSpans)) (rs : List ReaderSpans) (i : ℕ) (next now : ReaderSpans) → values_of es ≡ map change (take i rs) ++ drop i rs
    → slice_get (values_of es) i ≡ Some next → i < length rs → now ≡ change next → values_of (set_value_at es i now) ≡ map change (take (i + 1) rs) ++ drop (i + 1) rs
one_more change es rs i next now are at within done =
    set_at es i now
    ∙ ap (λ (l : List ReaderSpans). set l i now) are
    ∙ ap (set (map change (take i rs) ++ drop i rs) i) (done ∙ ap change (next_is change es rs i next are at within))
    ∙ one_more_changed change rs i next within

-- who have a name that no user has are no readers
none_of_them : (name : UserName) (users : List User) → AllByRecursion (λ k. same_user name k ≡ false) (map (λ (u : User). u.name) users)
    → AllByRecursion (λ k. same_user name k ≡ false) (map (λ (r : ReaderSpans). r.user) (flat_map spans_for users))
none_of_them name [] apart = tt
none_of_them name (u ∷ users) apart =
    elim (is_reader (Some u.role)) as (λ b. AllByRecursion (λ k. same_user name k ≡ false) (map (λ (r : ReaderSpans). r.user) ((if b then no_spans u.name ∷ [] else []) ++ flat_map spans_for users)))
    [ true ↦ (apart.0, none_of_them name users apart.1) | false ↦ none_of_them name users apart.1 ]

-- the names of the entries are those of the readers
names_are : (es : List (UserName × ReaderSpans)) → AreNamed es → map (λ (r : ReaderSpans). r.user) (values_of es) ≡ keys_of es
names_are [] named = refl
names_are (e ∷ es) named = ap (λ k. k ∷ map (λ (r : ReaderSpans). r.user) (values_of es)) named.0 ∙ ap (λ ks. e.0 ∷ ks) (names_are es named.1)

named_last : (es : List (UserName × ReaderSpans)) (name : UserName) (spans : ReaderSpans) → AreNamed es → spans.user ≡ name → AreNamed (es ++ (name, spans) ∷ [])
named_last [] name spans named same = (same, tt)
named_last (e ∷ es) name spans named same = (named.0, named_last es name spans named.1 same)

-- one more of the policy's users is a reader
pub reader_next : (es : List (UserName × ReaderSpans)) (users : List User) (i : ℕ) (u : User) (spans : ReaderSpans)
    → are_distinct (λ (a b : User). same_user a.name b.name) users ≡ true → values_of es ≡ flat_map spans_for (take i users) → AreNamed es → i < length users → u ≡ get_or users i u
    → is_reader (Some u.role) ≡ true → spans ≡ no_spans u.name
    → (values_of (insert_entry same_user es u.name spans) ≡ flat_map spans_for (take (i + 1) users)) × AreNamed (insert_entry same_user es u.name spans)
reader_next es users i u spans differ are named within at reads none =
    let new : AllByRecursion (λ k. same_user u.name k ≡ false) (keys_of es) =
    subst (AllByRecursion (λ k. same_user u.name k ≡ false)) (ap (map (λ (r : ReaderSpans). r.user)) (sym are) ∙ names_are es named)
    (none_of_them u.name (take i users) (new_next same_user same_user_flip (λ (v : User). v.name) users i u u differ within at))
    in
    let last : insert_entry same_user es u.name spans ≡ es ++ (u.name, spans) ∷ [] = insert_entry-absent same_user u.name spans es new in (
      ap values_of last
          ∙ map-append (λ (e : UserName × ReaderSpans). e.1) es ((u.name, spans) ∷ [])
          ∙ ap (λ (r : ReaderSpans). values_of es ++ r ∷ []) none
          ∙ ap (λ rs. rs ++ no_spans u.name ∷ []) are
          ∙ ap (λ b. flat_map spans_for (take i users) ++ ((if b then no_spans u.name ∷ [] else []) ++ [])) (sym reads)
          ∙ sym (flat_map-append spans_for (take i users) (u ∷ []))
          ∙ ap (flat_map spans_for) (ap (λ (v : User). take i users ++ v ∷ []) at ∙ sym (take_more users i u within)),
      subst AreNamed (sym last) (named_last es u.name spans named (ap (λ (r : ReaderSpans). r.user) none)),
    )
