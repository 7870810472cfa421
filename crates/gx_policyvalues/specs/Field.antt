-- A key of a table: whether it is there, and what its value has to be.
use Rattle.std.specs.{Prelude.{ℕ, ℤ, pos, negsuc, Bool, true, false, ◌&&◌, ◌||◌, ◌==◌, List, [], ◌∷◌, length, Option, Some, None, Result, Ok, Err, if◌then◌else◌, ◌≡◌, bytes_eq}, List.{list_all, list_any}, Option.{ok_or, option_map_or, option_and_then}, Int.is_in_range, Char.{is_ascii_uppercase, is_ascii_digit, is_ascii_graphic}}
use Rattle.toml.specs.Data.{Data, Items, no_items, item, Members, no_members, member, get_member, as_integer, as_str}
use Rattle.gx_units.specs.Spelling.{padded_to}
use Rattle.gx_policyvalues.specs.declared.fault.{FaultKind.{FaultKind, TheVariants.{MissingKey, UnknownKey, BadValue, OutOfMemory}}, PolicyFault.PolicyFault, Letters.{Letters, TheVariants.{Plain, Visible}}}

-- the first fault, or what follows
infixl 10 ◌>>=◌
abbrev pub ◌>>=◌ : {A B : Type 0} → Result A FaultKind → (A → Result B FaultKind) → Result B FaultKind
(Ok x) >>= f = f x
(Err e) >>= f = Err e

-- what was answered: the value as it is seen, or the fault's kind
abbrev pub seen_result : {X Y : Type 0} → (X → Y) → Result X PolicyFault → Result Y FaultKind
seen_result view (Ok x) = Ok (view x)
seen_result view (Err e) = Err e.kind

-- memory ran out
abbrev pub is_memory : FaultKind → Bool
is_memory OutOfMemory = true
is_memory other = false

-- What was answered is what is meant, unless memory ran out.
abbrev pub Gives : {X Y : Type 0} → (X → Y) → Result X PolicyFault → Result Y FaultKind → Type 0
Gives view (Ok x) meant = meant ≡ Ok (view x)
Gives view (Err e) meant = is_memory e.kind ≡ false → meant ≡ Err e.kind

-- A to Z, 0 to 9 and _; or ! to ~
abbrev pub is_letter : Letters → ℕ → Bool
is_letter Plain = λ byte. is_ascii_uppercase byte || is_ascii_digit byte || byte == 95
is_letter Visible = is_ascii_graphic

-- this is one of the keys
abbrev pub is_key : List (List ℕ) → List ℕ → Bool
is_key keys key = list_any (λ known. bytes_eq known key) keys

-- each key of the table is among these
abbrev pub has_only : List (List ℕ) → Members → Bool
has_only keys no_members = true
has_only keys (member key value entry) = is_key keys key && has_only keys entry

-- no key but these
abbrev pub only_keys : List (List ℕ) → Members → Result Unit FaultKind
only_keys keys entry = if has_only keys entry then Ok tt else Err UnknownKey

-- the value of a key that has to be there
abbrev pub value_at : List ℕ → Members → Result Data FaultKind
value_at key entry = ok_or (get_member key entry) MissingKey

-- the value of a key, and this where the key is absent
abbrev pub optional : {X : Type 0} → List ℕ → (Data → Result X FaultKind) → X → Members → Result X FaultKind
optional key meant absent entry = option_map_or meant (get_member key entry) (Ok absent)

-- no number below 0, and none outside the range
abbrev pub whole : ℕ → ℕ → ℤ → Result ℕ FaultKind
whole least most (pos n) = if is_in_range least most n then Ok n else Err BadValue
whole least most (negsuc n) = Err BadValue

-- an integer of this range
abbrev pub number : ℕ → ℕ → Data → Result ℕ FaultKind
number least most value = ok_or (as_integer value) BadValue >>= whole least most

-- an integer of this range under a key
abbrev pub number_at : List ℕ → ℕ → ℕ → Members → Result ℕ FaultKind
number_at key least most entry = value_at key entry >>= number least most

-- one to so many bytes, each such a letter
abbrev pub checked_text : Letters → ℕ → List ℕ → Result (List ℕ) FaultKind
checked_text letters most bytes = if is_in_range 1 most (length bytes) && list_all (is_letter letters) bytes then Ok bytes else Err BadValue

-- a string of one to so many of these letters
abbrev pub text : Letters → ℕ → Data → Result (List ℕ) FaultKind
text letters most value = ok_or (as_str value) BadValue >>= checked_text letters most

-- such a string with spaces behind it, as a name's field holds it
abbrev pub field : Letters → ℕ → Data → Result (List ℕ) FaultKind
field letters width value = text letters width value >>= λ s. Ok (padded_to width s)

-- such a string under a key
abbrev pub field_at : List ℕ → Letters → ℕ → Members → Result (List ℕ) FaultKind
field_at key letters width entry = value_at key entry >>= field letters width

-- what a word means in a list of words
abbrev pub word_in : {X : Type 0} → List (List ℕ × X) → List ℕ → Option X
word_in [] s = None
word_in (word ∷ words) s = if bytes_eq word.0 s then Some word.1 else word_in words s

-- a string that is one of these words
abbrev pub choice : {X : Type 0} → List (List ℕ × X) → Data → Result X FaultKind
choice words value = ok_or (as_str value) BadValue >>= λ s. ok_or (word_in words s) BadValue

-- one of these words under a key
abbrev pub choice_at : {X : Type 0} → List ℕ → List (List ℕ × X) → Members → Result X FaultKind
choice_at key words entry = value_at key entry >>= choice words

-- the word of a key, if it has one of these
abbrev pub word_at : {X : Type 0} → List ℕ → List (List ℕ × X) → Members → Option X
word_at key words entry = option_and_then (word_in words) (option_and_then as_str (get_member key entry))

-- the items of an array, each taken in turn
abbrev pub each_item : {A X : Type 0} → (Data → Result A FaultKind) → (X → A → X) → X → Items → Result X FaultKind
each_item meant with_one sofar no_items = Ok sofar
each_item meant with_one sofar (item value items) = meant value >>= λ a. each_item meant with_one (with_one sofar a) items
