-- One Kill more of those of a list of accounts.
use Rattle.std.proofs.{Common.{◌≡◌, ℕ, List, [], ◌∷◌, ◌++◌, ap, sym, ◌∙◌}, lemmas.List.{append_assoc, append-nil}}
use Rattle.gx_units.specs.declared.names.AccountName.{AccountName}
use Rattle.gx_operator.specs.{declared.asked.ClientRequest.ClientRequest, Asking.{next_serial, kill_of, kills_of}}

pub one_more : (number next : ℕ) (account : AccountName) (left rest : List AccountName) (kills more all : List ClientRequest)
    → left ≡ account ∷ rest → more ≡ kills ++ kill_of number account ∷ [] → next ≡ next_serial number
    → kills ++ kills_of number left ≡ all → more ++ kills_of next rest ≡ all
unfolding kills_of
one_more number next account left rest kills more all first pushed after before =
    ap (λ (k : List ClientRequest). k ++ kills_of next rest) pushed
    ∙ ap (λ (n : ℕ). (kills ++ kill_of number account ∷ []) ++ kills_of n rest) after
    ∙ append_assoc kills (kill_of number account ∷ []) (kills_of (next_serial number) rest)
    ∙ ap (λ (l : List AccountName). kills ++ kills_of number l) (sym first)
    ∙ before

pub none_left : (number : ℕ) (left : List AccountName) (kills all : List ClientRequest) → left ≡ [] → kills ++ kills_of number left ≡ all → kills ≡ all
unfolding kills_of
none_left number left kills all none before = sym (ap (λ (l : List AccountName). kills ++ kills_of number l) none ∙ append-nil kills) ∙ before
