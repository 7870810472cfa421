-- How deep the values of a policy file are.
use Rattle.std.proofs.{Common.{◌≡◌, ◌≤◌, ℕ, max, Bool, true, ◌&&◌, List, [], ◌∷◌, Some, refl, ap, sym, ◌∙◌, arith}, lemmas.Bool.{and_parts, false≢true}}
use Rattle.std.specs.{List.list_all, Map.values_of}
use Rattle.toml.specs.{Data.{Data, string, integer, float, boolean, datetime, array, table, Items, no_items, item, Members, no_members, member, depth, items_depth, members_depth}, View.{view, items_view, members_view}, declared.value.Value.Value, Parse.parse_document}
use Rattle.toml.proofs.Views.{Entry}
use Rattle.gx_policytext.specs.Shallow.{all_items, all_members, is_plain, is_field, is_entry, is_shallow}

pub all_items_view : (p : Data → Bool) (values : List Value) → list_all (λ v. p (view v)) values ≡ all_items p (items_view values)
all_items_view p [] = refl
all_items_view p (v ∷ values) = ap (λ b. p (view v) && b) (all_items_view p values)

pub all_members_view : (p : Data → Bool) (entries : List Entry) → list_all (λ v. p (view v)) (values_of entries) ≡ all_members p (members_view entries)
all_members_view p [] = refl
all_members_view p (e ∷ entries) = ap (λ b. p (view e.1) && b) (all_members_view p entries)

larger_of : (a b n : ℕ) → a ≤ n → b ≤ n → max a b ≤ n
larger_of a b n p q = grind arith

items_deep : (p : Data → Bool) (n : ℕ) → ((value : Data) → p value ≡ true → depth value ≤ n) → (items : Items) → all_items p items ≡ true → items_depth items ≤ n
items_deep p n deep no_items h = omega arith
items_deep p n deep (item value items) h =
    let (here, more) = and_parts (p value) (all_items p items) h in
    larger_of (depth value) (items_depth items) n (deep value here) (items_deep p n deep items more)

members_deep : (p : Data → Bool) (n : ℕ) → ((value : Data) → p value ≡ true → depth value ≤ n) → (entry : Members) → all_members p entry ≡ true → members_depth entry ≤ n
members_deep p n deep no_members h = omega arith
members_deep p n deep (member key value entry) h =
    let (here, more) = and_parts (p value) (all_members p entry) h in
    larger_of (depth value) (members_depth entry) n (deep value here) (members_deep p n deep entry more)

plain_deep : (value : Data) → is_plain value ≡ true → depth value ≤ 0
plain_deep (string s) h = omega arith
plain_deep (integer n) h = omega arith
plain_deep (float x) h = absurd (false≢true h)
plain_deep (boolean b) h = absurd (false≢true h)
plain_deep (datetime d) h = absurd (false≢true h)
plain_deep (array items) h = absurd (false≢true h)
plain_deep (table entry) h = absurd (false≢true h)

field_deep : (value : Data) → is_field value ≡ true → depth value ≤ 1
field_deep (string s) h = omega arith
field_deep (integer n) h = omega arith
field_deep (float x) h = absurd (false≢true h)
field_deep (boolean b) h = absurd (false≢true h)
field_deep (datetime d) h = absurd (false≢true h)
field_deep (array items) h = omega (arith, items_deep is_plain 0 plain_deep items h)
field_deep (table entry) h = absurd (false≢true h)

entry_deep : (value : Data) → is_entry value ≡ true → depth value ≤ 2
entry_deep (string s) h = omega arith
entry_deep (integer n) h = omega arith
entry_deep (float x) h = absurd (false≢true h)
entry_deep (boolean b) h = absurd (false≢true h)
entry_deep (datetime d) h = absurd (false≢true h)
entry_deep (array items) h = omega (arith, items_deep is_plain 0 plain_deep items h)
entry_deep (table entry) h = omega (arith, members_deep is_field 1 field_deep entry h)

pub shallow_deep : (value : Data) → is_shallow value ≡ true → depth value ≤ 80
shallow_deep (string s) h = omega arith
shallow_deep (integer n) h = omega arith
shallow_deep (float x) h = absurd (false≢true h)
shallow_deep (boolean b) h = absurd (false≢true h)
shallow_deep (datetime d) h = absurd (false≢true h)
shallow_deep (array items) h = omega (arith, items_deep is_entry 2 entry_deep items h)
shallow_deep (table entry) h = absurd (false≢true h)

-- two values that print alike are the same
pub prints_alike : (key text other_text : List ℕ) (one other : Data)
    → (depth one ≤ 80 → parse_document text ≡ Some (member key one no_members))
    → (depth other ≤ 80 → parse_document other_text ≡ Some (member key other no_members))
    → text ≡ other_text → depth one ≤ 80 → depth other ≤ 80 → one ≡ other
prints_alike key text other_text one other reads other_reads same h g =
    let e : Some (member key one no_members) ≡ Some (member key other no_members) = sym (reads h) ∙ ap parse_document same ∙ other_reads g in
    cc
