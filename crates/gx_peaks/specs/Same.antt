-- Keys that are the same are equal.
use Rattle.std.proofs.{Common.{◌≡◌, Bool, true, false, refl, ap}, lemmas.Bool.{and_parts, and_from}}
use Rattle.std.specs.{Prelude.{Option, Some, None, ◌&&◌}, Bool.beq, Option.option_eq}
use Rattle.gx_units.specs.Names.{same_account, same_rule, same_stock}
use Rattle.gx_units.proofs.Names_equal.{account_is, account_is_itself, rule_is, rule_is_itself, stock_is, stock_is_itself}
use Rattle.gx_history.specs.declared.facts.StockSide.{StockSide}
use Rattle.gx_peaks.specs.{declared.key.PeakKey.PeakKey, Keys.{key_bytes, same_key, same_side}}

-- so too of truth values
bool_is : (a b : Bool) → beq a b ≡ true → a ≡ b
bool_is true true h = refl
bool_is true false h = cc
bool_is false true h = cc
bool_is false false h = refl

bool_is_itself : (a : Bool) → beq a a ≡ true
bool_is_itself true = refl
bool_is_itself false = refl

-- sides of stocks
pub side_is : (a b : StockSide) → same_side a b ≡ true → a ≡ b
side_is a b h =
    let parts : (same_stock a.stock b.stock ≡ true) × (beq a.buys b.buys ≡ true) = and_parts (same_stock a.stock b.stock) (beq a.buys b.buys) h in
    λ i. record { stock = stock_is a.stock b.stock parts.0 i; buys = bool_is a.buys b.buys parts.1 i }

side_is_itself : (a : StockSide) → same_side a a ≡ true
side_is_itself a = and_from (same_stock a.stock a.stock) (beq a.buys a.buys) (stock_is_itself a.stock) (bool_is_itself a.buys)

-- what may be there
option_is : {X : Type 0} (same : X → X → Bool) → ((a b : X) → same a b ≡ true → a ≡ b) → (a b : Option X) → option_eq same a b ≡ true → a ≡ b
option_is same is None None h = refl
option_is same is None (Some y) h = cc
option_is same is (Some x) None h = cc
option_is same is (Some x) (Some y) h = ap Some (is x y h)

option_is_itself : {X : Type 0} (same : X → X → Bool) → ((a : X) → same a a ≡ true) → (a : Option X) → option_eq same a a ≡ true
option_is_itself same is None = refl
option_is_itself same is (Some x) = is x

-- keys
pub key_is : (a b : PeakKey) → same_key a b ≡ true → a ≡ b
key_is a b h =
    let first : (same_rule a.rule b.rule ≡ true) × ((option_eq same_account a.whose b.whose && option_eq same_side a.side b.side) ≡ true) =
    and_parts (same_rule a.rule b.rule) (option_eq same_account a.whose b.whose && option_eq same_side a.side b.side) h in
    let rest : (option_eq same_account a.whose b.whose ≡ true) × (option_eq same_side a.side b.side ≡ true) =
    and_parts (option_eq same_account a.whose b.whose) (option_eq same_side a.side b.side) first.1 in
    λ i. record {
      rule = rule_is a.rule b.rule first.0 i;
      whose = option_is same_account account_is a.whose b.whose rest.0 i;
      side = option_is same_side side_is a.side b.side rest.1 i;
    }

pub key_is_itself : (a : PeakKey) → same_key a a ≡ true
key_is_itself a =
    and_from (same_rule a.rule a.rule) (option_eq same_account a.whose a.whose && option_eq same_side a.side a.side) (rule_is_itself a.rule)
    (and_from (option_eq same_account a.whose a.whose) (option_eq same_side a.side a.side) (option_is_itself same_account account_is_itself a.whose) (option_is_itself same_side side_is_itself a.side))

-- and are hashed alike
pub same_bytes : (a b : PeakKey) → same_key a b ≡ true → key_bytes a ≡ key_bytes b
same_bytes a b h = ap key_bytes (key_is a b h)
