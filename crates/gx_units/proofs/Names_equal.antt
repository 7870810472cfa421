-- Names that are the same byte for byte are equal.
use Rattle.std.proofs.{Common.{◌≡◌, ℕ, true, List, refl, ap}, lemmas.Slice.Eq.bytes_eq-Decides}
use Rattle.std.specs.Cmp.Lexicographic.{nat_list_eq_equiv}
use Rattle.gx_units.specs.{Names.{same_account, same_rule, same_stock, same_token, same_user}, declared.names.{AccountName.AccountName, RuleId.RuleId, Symbol.Symbol, Token.Token, UserName.UserName}}

pub same_user_flip : (a b : UserName) → same_user a b ≡ same_user b a
same_user_flip a b = nat_list_eq_equiv.symm a.bytes b.bytes

pub same_account_flip : (a b : AccountName) → same_account a b ≡ same_account b a
same_account_flip a b = nat_list_eq_equiv.symm a.bytes b.bytes

pub same_token_flip : (a b : Token) → same_token a b ≡ same_token b a
same_token_flip a b = nat_list_eq_equiv.symm a.bytes b.bytes

pub user_is : (a b : UserName) → same_user a b ≡ true → a ≡ b
user_is a b h = let name : List ℕ → UserName = λ (bytes : List ℕ). record { bytes = bytes } in ap name ((bytes_eq-Decides a.bytes b.bytes).0 h)

pub token_is : (a b : Token) → same_token a b ≡ true → a ≡ b
token_is a b h = let name : List ℕ → Token = λ (bytes : List ℕ). record { bytes = bytes } in ap name ((bytes_eq-Decides a.bytes b.bytes).0 h)

pub account_is : (a b : AccountName) → same_account a b ≡ true → a ≡ b
account_is a b h = let name : List ℕ → AccountName = λ (bytes : List ℕ). record { bytes = bytes } in ap name ((bytes_eq-Decides a.bytes b.bytes).0 h)

pub stock_is : (a b : Symbol) → same_stock a b ≡ true → a ≡ b
stock_is a b h = let name : List ℕ → Symbol = λ (bytes : List ℕ). record { bytes = bytes } in ap name ((bytes_eq-Decides a.bytes b.bytes).0 h)

pub rule_is : (a b : RuleId) → same_rule a b ≡ true → a ≡ b
rule_is a b h = let name : List ℕ → RuleId = λ (bytes : List ℕ). record { bytes = bytes } in ap name ((bytes_eq-Decides a.bytes b.bytes).0 h)

pub user_is_itself : (a : UserName) → same_user a a ≡ true
user_is_itself a = (bytes_eq-Decides a.bytes a.bytes).1 refl

pub token_is_itself : (a : Token) → same_token a a ≡ true
token_is_itself a = (bytes_eq-Decides a.bytes a.bytes).1 refl

pub account_is_itself : (a : AccountName) → same_account a a ≡ true
account_is_itself a = (bytes_eq-Decides a.bytes a.bytes).1 refl

pub rule_is_itself : (a : RuleId) → same_rule a a ≡ true
rule_is_itself a = (bytes_eq-Decides a.bytes a.bytes).1 refl

pub stock_is_itself : (a : Symbol) → same_stock a a ≡ true
stock_is_itself a = (bytes_eq-Decides a.bytes a.bytes).1 refl
