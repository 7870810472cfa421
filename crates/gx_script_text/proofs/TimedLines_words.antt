-- Lines that begin with a moment, by the words behind it.
use Rattle.std.proofs.{Common.{◌≡◌, ℕ, zero, suc, ◌-◌, ◌≤◌, Bool, true, false, not, ◌&&◌, List, [], ◌∷◌, ◌++◌, length, replicate, nat_eq, refl, sym, ap, ◌∙◌, arith}, lemmas.{Bool.{and_parts, leb-true}, Slice.Eq.bytes_eq-Decides}}
use Rattle.std.specs.{Prelude.{Option, Some, None, option_map, bytes_eq, codes, nat_le, if◌then◌else◌}}
use Rattle.gx_units.specs.Spelling.{is_space, padded_to, folded_user}
use Rattle.gx_script_text.specs.{declared.line.ScriptLine.{ScriptLine, TheVariants.{Match, Settle}}, Words.{◌>>=◌, first, has_no_space, is_done, is_name, padded_name, number_of_bits}, ScriptLines.{asked_line, last_line, line_of_words, step_line, stream_line, timed_line, user_line}}
use Rattle.gx_script_text.proofs.{Name_next.padded_behind, Words_read.visible_clear}

abbrev got : {A : Type 0} → A → Option A → A
got d None = d
got d (Some a) = a

-- what the first word stands for
taken : {A : Type 0} (word : List ℕ) (rest left : List (List ℕ)) (value : A) (found : Option A) → option_map {U = A × List (List ℕ)} (λ v. (v, rest)) found ≡ Some (value, left) → (found ≡ Some value) × (rest ≡ left)
taken word rest left value None e = cc
taken {A = A} word rest left value (Some v) e =
    let pair : A × List (List ℕ) = (v, rest) in
    (ap (λ o. Some (got {A = A × List (List ℕ)} pair o).0) e, ap (λ o. (got {A = A × List (List ℕ)} pair o).1) e)

nothing : {A : Type 0} (rest : List (List ℕ)) (found : Option A) → option_map {U = A × List (List ℕ)} (λ v. (v, rest)) found ≡ None → found ≡ None
nothing rest None e = refl
nothing rest (Some v) e = cc

-- a word that stands for nothing is none that stands for something
differs : {A : Type 0} (meaning : List ℕ → Option A) (word other : List ℕ) (value : A) → meaning word ≡ None → meaning other ≡ Some value → bytes_eq word other ≡ false
differs meaning word other value none some = at (bytes_eq word other) refl
  where
    at : (same : Bool) → bytes_eq word other ≡ same → same ≡ false
    at true is = let e : None ≡ Some value = sym none ∙ ap meaning ((bytes_eq-Decides word other).0 is) ∙ some in cc
    at false is = refl

-- and the other way
differs_so : {A : Type 0} (meaning : List ℕ → Option A) (word other : List ℕ) (value : A) → meaning word ≡ Some value → meaning other ≡ None → bytes_eq word other ≡ false
differs_so meaning word other value some none = at (bytes_eq word other) refl
  where
    at : (same : Bool) → bytes_eq word other ≡ same → same ≡ false
    at true is = let e : None ≡ Some value = sym none ∙ ap meaning (sym ((bytes_eq-Decides word other).0 is)) ∙ some in cc
    at false is = refl

-- a line whose first word is a number
pub timed : (words left : List (List ℕ)) (moment : ℕ) → first (number_of_bits 64) words ≡ Some (moment, left) → line_of_words words ≡ timed_line moment left
unfolding line_of_words step_line
timed [] left moment e = cc
timed (word ∷ rest) left moment e =
    let parts = taken word rest left moment (number_of_bits 64 word) e in
    ap (λ t. if t then stream_line rest else step_line word rest) (differs_so (number_of_bits 64) word (codes "stream") moment parts.0 refl)
    ∙ ap (λ o. o >>= (λ m. timed_line m rest)) parts.0
    ∙ ap (timed_line moment) parts.1

-- what a name is
name_parts : (n : ℕ) (word field : List ℕ) → padded_name n word ≡ Some field → (is_name word ≡ true) × ((nat_le (length word) n ≡ true) × (padded_to n word ≡ field))
name_parts n word field e = at (is_name word && nat_le (length word) n) refl
  where
    at : (test : Bool) → (is_name word && nat_le (length word) n) ≡ test → (is_name word ≡ true) × ((nat_le (length word) n ≡ true) × (padded_to n word ≡ field))
    at true is =
        let parts = and_parts (is_name word) (nat_le (length word) n) is in
        let some : Some (padded_to n word) ≡ Some field = sym (ap (λ t. if t then Some (padded_to n word) else None) is) ∙ e in
        (parts.0, (parts.1, ap (got field) some))
    at false is = let none : None ≡ Some field = sym (ap (λ t. if t then Some (padded_to n word) else None) is) ∙ e in cc

apart : (byte : ℕ) → not (is_space byte) ≡ true → (nat_eq 32 byte ≡ false) × (nat_eq byte 32 ≡ false)
apart byte clear = grind (arith, clear)

-- fields are the same where the words in them are
fields : (n : ℕ) (a b : List ℕ) → has_no_space a ≡ true → has_no_space b ≡ true → length a ≤ n → length b ≤ n → bytes_eq (padded_to n a) (padded_to n b) ≡ bytes_eq a b
fields n [] [] ca cb fa fb = (bytes_eq-Decides (padded_to n []) (padded_to n [])).1 refl
fields zero [] (y ∷ ys) ca cb fa fb = absurd (omega (arith, fb))
fields zero (x ∷ xs) b ca cb fa fb = absurd (omega (arith, fa))
fields (suc n) [] (y ∷ ys) ca cb fa fb =
    ap (λ k. bytes_eq (replicate k 32) (padded_to (suc n) (y ∷ ys))) (let e : suc n - 0 ≡ suc n = omega arith in e)
    ∙ ap (λ t. t && bytes_eq (replicate n 32) (ys ++ replicate (suc n - length (y ∷ ys)) 32)) (apart y (and_parts _ _ cb).0).0
fields (suc n) (x ∷ xs) [] ca cb fa fb =
    ap (λ k. bytes_eq (padded_to (suc n) (x ∷ xs)) (replicate k 32)) (let e : suc n - 0 ≡ suc n = omega arith in e)
    ∙ ap (λ t. t && bytes_eq (xs ++ replicate (suc n - length (x ∷ xs)) 32) (replicate n 32)) (apart x (and_parts _ _ ca).0).1
fields (suc n) (x ∷ xs) (y ∷ ys) ca cb fa fb =
    (λ i. bytes_eq (padded_behind x n xs i) (padded_behind y n ys i))
    ∙ ap (λ t. nat_eq x y && t) (fields n xs ys (and_parts _ _ ca).1 (and_parts _ _ cb).1 (omega (arith, fa)) (omega (arith, fb)))

-- a word is one that fits its field where the fields are the same
same_field : (word other field : List ℕ) → padded_name 6 word ≡ Some field → has_no_space other ≡ true → length other ≤ 6 → bytes_eq word other ≡ bytes_eq field (padded_to 6 other)
same_field word other field e clear fits =
    let parts = name_parts 6 word field e in
    let visible = (and_parts _ _ parts.0).1 in
    sym (fields 6 word other (visible_clear word visible) clear (leb-true (length word) 6 parts.1.0) fits)
    ∙ ap (λ f. bytes_eq f (padded_to 6 other)) parts.1.1

-- a user of whom something is asked
pub asked_so : (moment : ℕ) (words left : List (List ℕ)) (field : List ℕ) → first (padded_name 6) words ≡ Some (field, left) → is_done left ≡ false
    → timed_line moment words ≡ user_line moment (folded_user (record { bytes = field })) left
unfolding timed_line asked_line
asked_so moment [] left field e more = cc
asked_so moment (word ∷ rest) left field e more =
    let parts = taken word rest left field (padded_name 6 word) e in
    ap (λ d. if d && bytes_eq word (codes "match") then Some (Match moment) else (if d && bytes_eq word (codes "settle") then Some (Settle moment) else asked_line moment word rest)) (ap is_done parts.1 ∙ more)
    ∙ ap (λ o. option_map (λ bytes. folded_user (record { bytes = bytes })) o >>= (λ user. user_line moment user rest)) parts.0
    ∙ ap (user_line moment (folded_user (record { bytes = field }))) parts.1

-- the last word of a line
pub last_so : (moment : ℕ) (words left : List (List ℕ)) (field : List ℕ) → first (padded_name 6) words ≡ Some (field, left) → is_done left ≡ true
    → timed_line moment words ≡ last_line moment field
unfolding timed_line asked_line last_line user_line
last_so moment [] left field e done = cc
last_so moment (word ∷ []) left field e done =
    let parts = taken word [] left field (padded_name 6 word) e in
    let none : asked_line moment word [] ≡ None = ap (λ o. option_map (λ bytes. folded_user (record { bytes = bytes })) o >>= (λ user. user_line moment user [])) parts.0 in
    (λ i. if same_field word (codes "match") field parts.0 refl (omega arith) i then Some (Match moment)
    else (if same_field word (codes "settle") field parts.0 refl (omega arith) i then Some (Settle moment) else none i))
last_so moment (word ∷ (next ∷ rest)) left field e done =
    let parts = taken word (next ∷ rest) left field (padded_name 6 word) e in
    let clash : false ≡ true = ap is_done parts.1 ∙ done in
    cc

-- no user
pub unnamed : (moment : ℕ) (words : List (List ℕ)) → first (padded_name 6) words ≡ None → timed_line moment words ≡ None
unfolding timed_line asked_line
unnamed moment [] e = refl
unnamed moment (word ∷ rest) e =
    let none = nothing rest (padded_name 6 word) e in
    (λ i. if is_done rest && differs (padded_name 6) word (codes "match") (codes "match ") none refl i then Some (Match moment)
    else (if is_done rest && differs (padded_name 6) word (codes "settle") (codes "settle") none refl i then Some (Settle moment) else asked_line moment word rest))
    ∙ neither (is_done rest) (Some (Match moment)) (Some (Settle moment)) (asked_line moment word rest)
    ∙ ap (λ o. option_map (λ bytes. folded_user (record { bytes = bytes })) o >>= (λ user. user_line moment user rest)) none
  where
    neither : (d : Bool) (x y z : Option ScriptLine) → (if d && false then x else (if d && false then y else z)) ≡ z
    neither true x y z = refl
    neither false x y z = refl
