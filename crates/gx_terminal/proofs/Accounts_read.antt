-- The words of a line that names accounts, one more.
use Rattle.std.proofs.{Common.{◌≡◌, ℕ, ◌+◌, Bool, true, false, List, [], ◌∷◌, ◌++◌, Ok, Err, is_some, if◌then◌else◌, ap, sym, ◌∙◌}, lemmas.List.{append_assoc, append-nil}}
use Rattle.gx_units.specs.declared.names.AccountName.{AccountName}
use Rattle.gx_script_text.specs.Words.{padded_name}
use Rattle.gx_terminal.specs.{declared.{wish.Wish.Wish, wrong.ExpectedInput.ExpectedInput}, Cursor.{wrong_at}, Wishes.{with_more, account_in, accounts_in}}

pub goes_on : (wish : Wish) (taken next : ℕ) (words rest : List (List ℕ)) (word : List ℕ)
    → words ≡ word ∷ rest → next ≡ taken + 1 → is_some (padded_name 8 word) ≡ true
    → with_more wish taken words ≡ with_more Wish.KillEach next rest
unfolding with_more
goes_on wish taken next words rest word first after is =
    ap (λ (w : List (List ℕ)). with_more wish taken w) first
    ∙ ap (λ (b : Bool). if b then with_more Wish.KillEach (taken + 1) rest else Err (wrong_at (taken + 1) ExpectedInput.Account)) is
    ∙ ap (λ (n : ℕ). with_more Wish.KillEach n rest) (sym after)

pub stops : (wish : Wish) (taken next told : ℕ) (words rest : List (List ℕ)) (word : List ℕ)
    → words ≡ word ∷ rest → next ≡ taken + 1 → told ≡ next → is_some (padded_name 8 word) ≡ false
    → Err (wrong_at told ExpectedInput.Account) ≡ with_more wish taken words
unfolding with_more
stops wish taken next told words rest word first after tells is =
    ap (λ (n : ℕ). Err (wrong_at n ExpectedInput.Account)) (tells ∙ after)
    ∙ sym (ap (λ (b : Bool). if b then with_more Wish.KillEach (taken + 1) rest else Err (wrong_at (taken + 1) ExpectedInput.Account)) is)
    ∙ sym (ap (λ (w : List (List ℕ)). with_more wish taken w) first)

pub ends : (wish : Wish) (taken : ℕ) (words : List (List ℕ)) → words ≡ [] → with_more wish taken words ≡ Ok wish
unfolding with_more
ends wish taken words none = ap (λ (w : List (List ℕ)). with_more wish taken w) none

pub one_more : (words rest : List (List ℕ)) (word : List ℕ) (names more all : List AccountName)
    → words ≡ word ∷ rest → more ≡ names ++ account_in (padded_name 8 word)
    → names ++ accounts_in words ≡ all → more ++ accounts_in rest ≡ all
unfolding accounts_in
one_more words rest word names more all first pushed before =
    ap (λ (m : List AccountName). m ++ accounts_in rest) pushed
    ∙ append_assoc names (account_in (padded_name 8 word)) (accounts_in rest)
    ∙ ap (λ (w : List (List ℕ)). names ++ accounts_in w) (sym first)
    ∙ before

pub none_left : (words : List (List ℕ)) (names all : List AccountName) → words ≡ [] → names ++ accounts_in words ≡ all → names ≡ all
unfolding accounts_in
none_left words names all none before = sym (ap (λ (w : List (List ℕ)). names ++ accounts_in w) none ∙ append-nil names) ∙ before
