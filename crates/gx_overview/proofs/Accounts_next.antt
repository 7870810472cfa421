-- What is found of an account, once something is put under an account.
use Rattle.std.proofs.Common.{◌≡◌, Bool, true, false, cond, List, [], ◌∷◌, refl, ap, sym, ◌∙◌, true≢false}
use Rattle.std.specs.{Prelude.{Some}, Map.lookup}
use Rattle.indexmap.specs.IndexMap.{insert_entry}
use Rattle.gx_units.specs.{Names.same_account, declared.names.AccountName.AccountName}
use Rattle.gx_units.proofs.Names_equal.{account_is}

pub inserted : {V : Type 0} (name account : AccountName) (v : V) (entries : List (AccountName × V))
    → lookup (same_account name) (insert_entry same_account entries account v) ≡ cond (same_account name account) (Some v) (lookup (same_account name) entries)
inserted name account v [] = refl
inserted {V} name account v (e ∷ es) = by (same_account account e.0) refl (inserted name account v es)
  where
    there : (c d : Bool) → d ≡ c → cond d (Some v) (lookup (same_account name) es) ≡ cond c (Some v) (cond d (Some e.1) (lookup (same_account name) es))
    there true d is = ap (λ (b : Bool). cond b (Some v) (lookup (same_account name) es)) is
    there false d is = ap (λ (b : Bool). cond b (Some v) (lookup (same_account name) es)) is ∙ ap (λ (b : Bool). cond b (Some e.1) (lookup (same_account name) es)) (sym is)

    other : (c d : Bool) → same_account name account ≡ c → same_account name e.0 ≡ d → same_account account e.0 ≡ false
        → lookup (same_account name) (insert_entry same_account es account v) ≡ cond c (Some v) (lookup (same_account name) es)
        → cond d (Some e.1) (lookup (same_account name) (insert_entry same_account es account v)) ≡ cond c (Some v) (cond d (Some e.1) (lookup (same_account name) es))
    other true true at_account at_key apart rest =
        absurd (true≢false (sym at_key ∙ ap (λ (a : AccountName). same_account a e.0) (account_is name account at_account) ∙ apart))
    other true false at_account at_key apart rest = rest
    other false true at_account at_key apart rest = refl
    other false false at_account at_key apart rest = rest

    by : (b : Bool) → same_account account e.0 ≡ b → lookup (same_account name) (insert_entry same_account es account v) ≡ cond (same_account name account) (Some v) (lookup (same_account name) es)
        → lookup (same_account name) (cond b ((e.0, v) ∷ es) (e ∷ insert_entry same_account es account v)) ≡ cond (same_account name account) (Some v) (cond (same_account name e.0) (Some e.1) (lookup (same_account name) es))
    by true is rest = there (same_account name account) (same_account name e.0) (ap (same_account name) (sym (account_is account e.0 is)))
    by false is rest = other (same_account name account) (same_account name e.0) refl refl is rest
