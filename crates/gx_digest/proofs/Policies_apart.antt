-- Two policies of one text say the same, but for passwords.
use Rattle.gx_policy.specs.{declared.{kinds.KindName.KindName, policy.{PolicyData.PolicyData, Account.Account, Stock.Stock, User.User, Powers.Powers, Role.Role, Scope.Scope, Count.Count, FileRule.FileRule, RuleKind.RuleKind, Lifters.Lifters}}, Kinds.{kind_letter, kind_name}}
use Rattle.gx_policy.proofs.KindLetters_apart.{same_kind}
use Rattle.std.proofs.{Common.{◌≡◌, ℕ, ◌<◌, ◌^◌, ◌==◌, Bool, true, false, List, [], ◌∷◌, ◌++◌, length, map, take, drop, refl, sym, ap, ◌∙◌, append_assoc}, lemmas.{List.{take_at, drop_at, append-nil}, Nat.from_be_bytes-to_be_bytes_8}}
use Rattle.std.specs.{Prelude.codes, List.AllByRecursion, Int.{w64, to_be_bytes, from_be_bytes}}
use Rattle.gx_units.specs.declared.names.{AccountName.AccountName, Symbol.Symbol}
use Rattle.gx_digest.specs.{PolicyText.{policy_text, items_text, list_text, number_text, account_name_text, symbol_text, account_text, stock_text, scope_text, power_text, powers_text, role_text, user_text, count_text, stocks_or_none, limit_or_zero, back_of, count_of, kind_text, rule_text, lifters_text}, PoliciesApart.{without_password, IsAccountNameSized, IsSymbolSized, IsAccountSized, IsStockSized, IsScopeSized, IsRoleSized, IsUserSized, IsKindSized, IsRuleSized, IsToldApart, HasNoPasswords}}

-- where two texts with more behind them are the same, so is what they tell of two values, and so is what stands behind
abbrev Tells : {X Y : Type 0} → (X → Type 0) → (X → List ℕ) → (X → Y) → Type 0
Tells {X} Fits text seen = (a b : X) (r s : List ℕ) → Fits a → Fits b → text a ++ r ≡ text b ++ s → (seen a ≡ seen b) × (r ≡ s)

same_head : (x y : ℕ) (xs ys : List ℕ) → x ∷ xs ≡ y ∷ ys → x ≡ y
same_head x y xs ys e = cc

same_tail : (x y : ℕ) (xs ys : List ℕ) → x ∷ xs ≡ y ∷ ys → xs ≡ ys
same_tail x y xs ys e = cc

true_or_false : true ≡ false → ⊥
true_or_false e = cc

-- two texts begin with different bytes
other_head : (x y : ℕ) (xs ys : List ℕ) → (x == x) ≡ true → (x == y) ≡ false → x ∷ xs ≡ y ∷ ys → ⊥
other_head x y xs ys same other e = true_or_false (sym same ∙ ap (λ (n : ℕ). x == n) (same_head x y xs ys e) ∙ other)

-- fields of one size
same_field : (n : ℕ) (xs ys r s : List ℕ) → length xs ≡ n → length ys ≡ n → xs ++ r ≡ ys ++ s → (xs ≡ ys) × (r ≡ s)
same_field n xs ys r s one other e =
    (sym (take_at xs r n one) ∙ ap (take n) e ∙ take_at ys s n other, sym (drop_at xs r n one) ∙ ap (drop n) e ∙ drop_at ys s n other)

-- a field, and a text behind it
behind : (xs ys r : List ℕ) → (xs ++ ys) ++ r ≡ xs ++ (ys ++ r)
behind xs ys r = append_assoc xs ys r

regroup : (xs ys r xs' ys' s : List ℕ) → (xs ++ ys) ++ r ≡ (xs' ++ ys') ++ s → xs ++ (ys ++ r) ≡ xs' ++ (ys' ++ s)
regroup xs ys r xs' ys' s e = sym (behind xs ys r) ∙ e ∙ behind xs' ys' s

number_told : (n m : ℕ) (r s : List ℕ) → n < 2 ^ 64 → m < 2 ^ 64 → number_text n ++ r ≡ number_text m ++ s → (n ≡ m) × (r ≡ s)
unfolding number_text
number_told n m r s one other e =
    let (bytes, rest) = same_field 8 (to_be_bytes w64 n) (to_be_bytes w64 m) r s refl refl e in
    (sym (from_be_bytes-to_be_bytes_8 n one) ∙ ap (from_be_bytes w64) bytes ∙ from_be_bytes-to_be_bytes_8 m other, rest)

-- an item, and those behind it
next_item : {X : Type 0} (text : X → List ℕ) (x : X) (xs : List X) (r : List ℕ) → list_text text (x ∷ xs) ++ r ≡ 44 ∷ (text x ++ (list_text text xs ++ r))
unfolding items_text
next_item text x xs r =
    append_assoc ((44 ∷ text x) ++ items_text text xs) (59 ∷ []) r
    ∙ append_assoc (44 ∷ text x) (items_text text xs) (59 ∷ r)
    ∙ ap (λ (bytes : List ℕ). 44 ∷ (text x ++ bytes)) (sym (append_assoc (items_text text xs) (59 ∷ []) r))

no_item : {X : Type 0} (text : X → List ℕ) (r : List ℕ) → list_text text [] ++ r ≡ 59 ∷ r
unfolding items_text
no_item text r = refl

end_or_item : (r s : List ℕ) → 59 ∷ r ≡ 44 ∷ s → ⊥
end_or_item r s e = cc

list_told : {X Y : Type 0} (Fits : X → Type 0) (text : X → List ℕ) (seen : X → Y) → Tells Fits text seen → (xs ys : List X) (r s : List ℕ) → AllByRecursion Fits xs → AllByRecursion Fits ys
    → list_text text xs ++ r ≡ list_text text ys ++ s → (map seen xs ≡ map seen ys) × (r ≡ s)
list_told Fits text seen tells [] [] r s one other e = (refl, same_tail 59 59 r s (sym (no_item text r) ∙ e ∙ no_item text s))
list_told Fits text seen tells [] (y ∷ ys) r s one other e = absurd (end_or_item _ _ (sym (no_item text r) ∙ e ∙ next_item text y ys s))
list_told Fits text seen tells (x ∷ xs) [] r s one other e = absurd (end_or_item _ _ (sym (no_item text s) ∙ sym e ∙ next_item text x xs r))
list_told Fits text seen tells (x ∷ xs) (y ∷ ys) r s one other e =
    let first = tells x y (list_text text xs ++ r) (list_text text ys ++ s) one.0 other.0
    (same_tail 44 44 _ _ (sym (next_item text x xs r) ∙ e ∙ next_item text y ys s)) in
    let more = list_told Fits text seen tells xs ys r s one.1 other.1 first.1 in
    (λ i. first.0 i ∷ more.0 i, more.1)

same_all : {X : Type 0} (xs : List X) → map (λ (x : X). x) xs ≡ xs
same_all [] = refl
same_all (x ∷ xs) = λ i. x ∷ same_all xs i

-- lists of what is told whole
whole_list : {X : Type 0} (Fits : X → Type 0) (text : X → List ℕ) → Tells Fits text (λ (x : X). x) → (xs ys : List X) (r s : List ℕ) → AllByRecursion Fits xs → AllByRecursion Fits ys
    → list_text text xs ++ r ≡ list_text text ys ++ s → (xs ≡ ys) × (r ≡ s)
whole_list Fits text tells xs ys r s one other e =
    let told = list_told Fits text _ tells xs ys r s one other e in
    (sym (same_all xs) ∙ told.0 ∙ same_all ys, told.1)

account_name_told : Tells IsAccountNameSized account_name_text (λ (name : AccountName). name)
account_name_told a b r s one other e =
    let told = same_field 8 a.bytes b.bytes r s one other e in
    (λ i. record { bytes = told.0 i }, told.1)

symbol_told : Tells IsSymbolSized symbol_text (λ (name : Symbol). name)
symbol_told a b r s one other e =
    let told = same_field 8 a.bytes b.bytes r s one other e in
    (λ i. record { bytes = told.0 i }, told.1)

account_told : Tells IsAccountSized account_text (λ (a : Account). a)
account_told a b r s one other e =
    let name = same_field 8 a.name.bytes b.name.bytes _ _ one.0 other.0 (regroup a.name.bytes a.firm.bytes r b.name.bytes b.firm.bytes s e) in
    let firm = same_field 4 a.firm.bytes b.firm.bytes r s one.1 other.1 name.1 in
    (λ i. record { name = record { bytes = name.0 i }; firm = record { bytes = firm.0 i } }, firm.1)

stock_told : Tells IsStockSized stock_text (λ (s : Stock). s)
stock_told a b r s one other e =
    let name = same_field 8 a.name.bytes b.name.bytes _ _ one.0 other.0 (regroup a.name.bytes (number_text a.reference) r b.name.bytes (number_text b.reference) s e) in
    let reference = number_told a.reference b.reference r s one.1 other.1 name.1 in
    (λ i. record { name = record { bytes = name.0 i }; reference = reference.0 i }, reference.1)

scope_told : Tells IsScopeSized scope_text (λ (scope : Scope). scope)
scope_told Scope.All Scope.All r s one other e = (refl, same_tail 65 65 r s e)
scope_told Scope.All (Scope.Only names) r s one other e = absurd (other_head 65 79 _ _ refl refl e)
scope_told (Scope.Only names) Scope.All r s one other e = absurd (other_head 79 65 _ _ refl refl e)
scope_told (Scope.Only names) (Scope.Only others) r s one other e =
    let told = whole_list IsAccountNameSized account_name_text account_name_told names others r s one other (same_tail 79 79 _ _ e) in
    (λ i. Scope.Only (told.0 i), told.1)

power_told : (a b : Bool) → power_text a ≡ power_text b → a ≡ b
power_told true true e = refl
power_told true false e = absurd (other_head 89 78 [] [] refl refl (λ i. e i ∷ []))
power_told false true e = absurd (other_head 78 89 [] [] refl refl (λ i. e i ∷ []))
power_told false false e = refl

powers_told : (a b : Powers) (r s : List ℕ) → powers_text a ++ r ≡ powers_text b ++ s → (a ≡ b) × (r ≡ s)
powers_told a b r s e =
    let kill = power_told a.kill b.kill (same_head _ _ _ _ e) in
    let e1 = same_tail _ _ _ _ e in
    let lift = power_told a.lift b.lift (same_head _ _ _ _ e1) in
    let e2 = same_tail _ _ _ _ e1 in
    let limits = power_told a.limits b.limits (same_head _ _ _ _ e2) in
    let e3 = same_tail _ _ _ _ e2 in
    let symbols = power_told a.symbols b.symbols (same_head _ _ _ _ e3) in
    let e4 = same_tail _ _ _ _ e3 in
    let people = power_told a.people b.people (same_head _ _ _ _ e4) in
    let e5 = same_tail _ _ _ _ e4 in
    let close = power_told a.close b.close (same_head _ _ _ _ e5) in
    (λ i. record { kill = kill i; lift = lift i; limits = limits i; symbols = symbols i; people = people i; close = close i }, same_tail _ _ _ _ e5)

role_told : Tells IsRoleSized role_text (λ (role : Role). role)
role_told (Role.Trader account) (Role.Trader another) r s one other e =
    let told = same_field 8 account.bytes another.bytes r s one other (same_tail 84 84 _ _ e) in
    (λ i. Role.Trader (record { bytes = told.0 i }), told.1)
role_told (Role.Officer powers scope) (Role.Officer others scope') r s one other e =
    let powers_are = powers_told powers others (scope_text scope ++ r) (scope_text scope' ++ s)
    (regroup (powers_text powers) (scope_text scope) r (powers_text others) (scope_text scope') s (same_tail 79 79 _ _ e)) in
    let scope_is = scope_told scope scope' r s one other powers_are.1 in
    (λ i. Role.Officer (powers_are.0 i) (scope_is.0 i), scope_is.1)
role_told (Role.Reader names) (Role.Reader others) r s one other e =
    let told = whole_list IsAccountNameSized account_name_text account_name_told names others r s one other (same_tail 82 82 _ _ e) in
    (λ i. Role.Reader (told.0 i), told.1)
role_told (Role.Trader account) (Role.Officer powers scope) r s one other e = absurd (other_head 84 79 _ _ refl refl e)
role_told (Role.Trader account) (Role.Reader names) r s one other e = absurd (other_head 84 82 _ _ refl refl e)
role_told (Role.Officer powers scope) (Role.Trader account) r s one other e = absurd (other_head 79 84 _ _ refl refl e)
role_told (Role.Officer powers scope) (Role.Reader names) r s one other e = absurd (other_head 79 82 _ _ refl refl e)
role_told (Role.Reader names) (Role.Trader account) r s one other e = absurd (other_head 82 84 _ _ refl refl e)
role_told (Role.Reader names) (Role.Officer powers scope) r s one other e = absurd (other_head 82 79 _ _ refl refl e)

user_told : Tells IsUserSized user_text without_password
user_told a b r s one other e =
    let name = same_field 6 a.name.bytes b.name.bytes _ _ one.0 other.0 (regroup a.name.bytes (role_text a.role) r b.name.bytes (role_text b.role) s e) in
    let role = role_told a.role b.role r s one.1 other.1 name.1 in
    (λ i. record { name = record { bytes = name.0 i }; password = record { bytes = codes "          " }; role = role.0 i }, role.1)

count_told : (a b : Count) (r s : List ℕ) → count_text a ++ r ≡ count_text b ++ s → (a ≡ b) × (r ≡ s)
count_told Count.Each Count.Each r s e = (refl, same_tail 69 69 r s e)
count_told Count.Each Count.Together r s e = absurd (other_head 69 84 _ _ refl refl e)
count_told Count.Together Count.Each r s e = absurd (other_head 84 69 _ _ refl refl e)
count_told Count.Together Count.Together r s e = (refl, same_tail 84 84 r s e)

-- a kind by its name and its settings
abbrev kind_by : KindName → List Symbol → ℕ → ℕ → Count → RuleKind
kind_by (KindName.Listed kind) stocks limit back count = RuleKind.Listed kind stocks
kind_by (KindName.Plain kind) stocks limit back count = RuleKind.Plain kind
kind_by (KindName.Order kind) stocks limit back count = RuleKind.Order kind limit
kind_by (KindName.Exposure kind) stocks limit back count = RuleKind.Exposure kind limit count
kind_by KindName.Rate stocks limit back count = RuleKind.Rate (record { limit = limit; window = back }) count
kind_by KindName.Repeat stocks limit back count = RuleKind.Repeat (record { limit = limit; span = back }) count

kind_is : (k : RuleKind) → kind_by (kind_name k) (stocks_or_none k) (limit_or_zero k) (back_of k) (count_of k) ≡ k
kind_is (RuleKind.Listed kind stocks) = refl
kind_is (RuleKind.Plain kind) = refl
kind_is (RuleKind.Order kind limit) = refl
kind_is (RuleKind.Exposure kind limit count) = refl
kind_is (RuleKind.Rate rate count) = refl
kind_is (RuleKind.Repeat repeat count) = refl

-- five pieces and what stands behind them
five : (a b c d e r : List ℕ) → (a ++ b ++ c ++ d ++ e) ++ r ≡ a ++ (b ++ (c ++ (d ++ (e ++ r))))
five a b c d e r = simp append_assoc

kind_told : Tells IsKindSized kind_text (λ (k : RuleKind). k)
kind_told a b r s one other e =
    let whole = sym (five (kind_letter (kind_name a) ∷ []) (list_text symbol_text (stocks_or_none a)) (number_text (limit_or_zero a)) (number_text (back_of a)) (count_text (count_of a)) r)
    ∙ e ∙ five (kind_letter (kind_name b) ∷ []) (list_text symbol_text (stocks_or_none b)) (number_text (limit_or_zero b)) (number_text (back_of b)) (count_text (count_of b)) s in
    let name = same_kind (kind_name a) (kind_name b) (same_head (kind_letter (kind_name a)) (kind_letter (kind_name b)) _ _ whole) in
    let stocks = whole_list IsSymbolSized symbol_text symbol_told (stocks_or_none a) (stocks_or_none b) _ _ one.0 other.0 (same_tail (kind_letter (kind_name a)) (kind_letter (kind_name b)) _ _ whole) in
    let limit = number_told (limit_or_zero a) (limit_or_zero b) _ _ one.1 other.1 stocks.1 in
    let back = number_told (back_of a) (back_of b) _ _ one.2 other.2 limit.1 in
    let count = count_told (count_of a) (count_of b) r s back.1 in
    (sym (kind_is a) ∙ (λ i. kind_by (name i) (stocks.0 i) (limit.0 i) (back.0 i) (count.0 i)) ∙ kind_is b, count.1)

three : (a b c r : List ℕ) → (a ++ b ++ c) ++ r ≡ a ++ (b ++ (c ++ r))
three a b c r = simp append_assoc

rule_told : Tells IsRuleSized rule_text (λ (rule : FileRule). rule)
rule_told a b r s one other e =
    let whole = sym (three a.name.bytes (kind_text a.kind) (scope_text a.scope) r) ∙ e ∙ three b.name.bytes (kind_text b.kind) (scope_text b.scope) s in
    let name = same_field 8 a.name.bytes b.name.bytes _ _ one.0 other.0 whole in
    let kind = kind_told a.kind b.kind (scope_text a.scope ++ r) (scope_text b.scope ++ s) one.1 other.1 name.1 in
    let scope = scope_told a.scope b.scope r s one.2 other.2 kind.1 in
    (λ i. record { name = record { bytes = name.0 i }; kind = kind.0 i; scope = scope.0 i }, scope.1)

lifters_told : (a b : Lifters) (r s : List ℕ) → lifters_text a ++ r ≡ lifters_text b ++ s → (a ≡ b) × (r ≡ s)
lifters_told Lifters.One Lifters.One r s e = (refl, same_tail 49 49 r s e)
lifters_told Lifters.One Lifters.Two r s e = absurd (other_head 49 50 _ _ refl refl e)
lifters_told Lifters.Two Lifters.One r s e = absurd (other_head 50 49 _ _ refl refl e)
lifters_told Lifters.Two Lifters.Two r s e = (refl, same_tail 50 50 r s e)

-- seven pieces
seven : (a b c d e f g : List ℕ) → a ++ b ++ c ++ d ++ e ++ f ++ g ≡ a ++ (b ++ (c ++ (d ++ (e ++ (f ++ (g ++ []))))))
seven a b c d e f g = simp (append_assoc, append-nil)

parted : (p : PolicyData) → policy_text p
    ≡ codes "GXP1" ++ (p.session.bytes ++ (lifters_text p.lifters ++ (list_text account_text p.accounts ++ (list_text stock_text p.stocks ++ (list_text user_text p.users ++ (list_text rule_text p.rules ++ []))))))
unfolding policy_text
parted p =
    seven (codes "GXP1") p.session.bytes (lifters_text p.lifters) (list_text account_text p.accounts) (list_text stock_text p.stocks) (list_text user_text p.users) (list_text rule_text p.rules)

-- policies of one text say the same, but for passwords
pub told_apart : (p : PolicyData) → IsToldApart p
told_apart p q one other e =
    let whole = sym (parted p) ∙ e ∙ parted q in
    let mark = same_field 4 (codes "GXP1") (codes "GXP1") _ _ refl refl whole in
    let session = same_field 10 p.session.bytes q.session.bytes _ _ one.session other.session mark.1 in
    let asked = lifters_told p.lifters q.lifters _ _ session.1 in
    let accounts = whole_list IsAccountSized account_text account_told p.accounts q.accounts _ _ one.accounts other.accounts asked.1 in
    let stocks = whole_list IsStockSized stock_text stock_told p.stocks q.stocks _ _ one.stocks other.stocks accounts.1 in
    let users = list_told IsUserSized user_text without_password user_told p.users q.users _ _ one.users other.users stocks.1 in
    let rules = whole_list IsRuleSized rule_text rule_told p.rules q.rules [] [] one.rules other.rules users.1 in
    λ i. record {
      session = record { bytes = session.0 i };
      lifters = asked.0 i;
      accounts = accounts.0 i;
      stocks = stocks.0 i;
      users = users.0 i;
      rules = rules.0 i;
    }

blank_users : (users : List User) → items_text user_text (map without_password users) ≡ items_text user_text users
unfolding items_text
blank_users [] = refl
blank_users (u ∷ users) = ap (λ (bytes : List ℕ). (44 ∷ user_text u) ++ bytes) (blank_users users)

-- passwords are not told
pub no_passwords : (p : PolicyData) → HasNoPasswords p
unfolding policy_text
no_passwords p =
    ap (λ (users : List ℕ). codes "GXP1" ++ p.session.bytes ++ lifters_text p.lifters ++ list_text account_text p.accounts ++ list_text stock_text p.stocks ++ (users ++ codes ";") ++ list_text rule_text p.rules)
    (blank_users p.users)
