-- A message that is read of a payload is written as the payload.
use Rattle.gx_units.proofs.Lists_hold.{IsBytes}
use Rattle.std.proofs.{Common.{◌≡◌, ℕ, ◌+◌, ◌≤◌, ◌==◌, Bool, true, false, List, [], ◌∷◌, ◌++◌, length, take, drop, map, get_or, slice_index, inl, inr, refl, sym, ap, ◌∙◌, arith}, Math.Seq.take-add, lemmas.{Bool.{cases_lt, eqb-true, and_parts}, List.{take_all, length-take, length-drop, get_or-drop, get_or-take, get_or_past}, Nat.{be_bytes_2, be_bytes_4, be_bytes_8}}}
use Rattle.std.specs.{Prelude.{Option, Some, None, option_map, if◌then◌else◌}, Option.{option_or, unwrap_or}, Int.{w8, w16, w32, w64, to_be_bytes, from_be_bytes}}
use Rattle.gx_ouch.specs.{Layout.{Field, Layout, IsWithoutGaps, bytes_at, field_bytes, is_of, laid_out, with_fields, offsets_from, end_from}, Writing.letter, Messages.{enter_order, replace_order, cancel_order}, Reading.{inbound_of, enter_of, replace_of, cancel_of}, declared.inbound.{Inbound.Inbound, EnterOrder.EnterOrder, ReplaceOrder.ReplaceOrder}, Contents.{enter_contents, replace_contents}}
use Rattle.gx_desk.specs.{Messages.{kill, lift, set_limit, restrict, unrestrict, grant, revoke, close_day}, Reading.{command_of, limit_command_of}, declared.{Command.Command}}
use Rattle.gx_history.specs.{Payloads.{asked_by, message_of, request_of, unreadable_request}, declared.record.Request.Request}
use Rattle.gx_audit_bytes.specs.{Bodies.request_body}
use Rattle.gx_ouch.proofs.{Requests_read.one_byte, Fields_placed.{same_head, same_tail}}

-- ---- fields

pub bytes-drop : (n : ℕ) (bytes : List ℕ) → IsBytes bytes → IsBytes (drop n bytes)
bytes-drop n bytes h i = rw get_or-drop (h (n + i))

pub bytes-take : (n : ℕ) (bytes : List ℕ) → IsBytes bytes → IsBytes (take n bytes)
bytes-take n bytes h i =
    elim (cases_lt i n) [
      | inl lt ↦ rw (get_or-take n bytes i 0 lt) (h i)
      | inr le ↦ rw (get_or_past (take n bytes) i 0 (omega (arith, length-take n bytes))) (omega arith)
    ]

-- a field within the bytes has its size
pub sized : (offset size : ℕ) (bytes : List ℕ) → offset + size ≤ length bytes → length (take size (drop offset bytes)) ≡ size
sized offset size bytes within = omega (arith, length-take size (drop offset bytes), length-drop offset bytes)

at_place : (offset size : ℕ) (bytes : List ℕ) → IsBytes bytes → IsBytes (take size (drop offset bytes))
at_place offset size bytes h = bytes-take size (drop offset bytes) (bytes-drop offset bytes h)

-- a number is written as the field that it was read from
pub two : (offset : ℕ) (bytes : List ℕ) → IsBytes bytes → offset + 2 ≤ length bytes → to_be_bytes w16 (from_be_bytes w16 (take 2 (drop offset bytes))) ≡ take 2 (drop offset bytes)
two offset bytes h within = be_bytes_2 (take 2 (drop offset bytes)) _ (sized offset 2 bytes within) (at_place offset 2 bytes h) refl

pub four : (offset : ℕ) (bytes : List ℕ) → IsBytes bytes → offset + 4 ≤ length bytes → to_be_bytes w32 (from_be_bytes w32 (take 4 (drop offset bytes))) ≡ take 4 (drop offset bytes)
four offset bytes h within = be_bytes_4 (take 4 (drop offset bytes)) _ (sized offset 4 bytes within) (at_place offset 4 bytes h) refl

pub eight : (offset : ℕ) (bytes : List ℕ) → IsBytes bytes → offset + 8 ≤ length bytes → to_be_bytes w64 (from_be_bytes w64 (take 8 (drop offset bytes))) ≡ take 8 (drop offset bytes)
eight offset bytes h within = be_bytes_8 (take 8 (drop offset bytes)) _ (sized offset 8 bytes within) (at_place offset 8 bytes h) refl

single : (field : List ℕ) → length field ≡ 1 → letter (from_be_bytes w8 field) ≡ field
single [] one = absurd (omega (arith, one))
single (byte ∷ []) one = ap letter (one_byte byte)
single (byte ∷ other ∷ rest) one = absurd (omega (arith, one))

pub one : (offset : ℕ) (bytes : List ℕ) → offset + 1 ≤ length bytes → letter (from_be_bytes w8 (take 1 (drop offset bytes))) ≡ take 1 (drop offset bytes)
one offset bytes within = single (take 1 (drop offset bytes)) (sized offset 1 bytes within)

-- ---- layouts

pub fields_back : (fields : List Field) (bytes : List ℕ) (n : ℕ) → map (λ (f : Field). f.offset) fields ≡ offsets_from n fields
    → with_fields (take n bytes) (map (λ (f : Field). bytes_at f bytes) fields) ≡ take (end_from n fields) bytes
fields_back [] bytes n o = refl
fields_back (f ∷ fs) bytes n o =
    ap (λ (front : List ℕ). with_fields front (map (λ (g : Field). bytes_at g bytes) fs))
    (ap (λ (m : ℕ). take n bytes ++ take f.size (drop m bytes)) (same_head f.offset n (map (λ (g : Field). g.offset) fs) (offsets_from (n + f.size) fs) o)
    ∙ sym (take-add n f.size bytes))
    ∙ fields_back fs bytes (n + f.size) (same_tail f.offset n (map (λ (g : Field). g.offset) fs) (offsets_from (n + f.size) fs) o)

-- bytes of the layout's type and length are its fields, laid out
pub laid_back : (layout : Layout) (bytes : List ℕ) → IsWithoutGaps layout → 1 ≤ layout.size → slice_index bytes 0 ≡ layout.kind → length bytes ≡ layout.size → laid_out layout (field_bytes layout bytes) ≡ bytes
laid_back layout [] gapless some head size = absurd (omega (arith, some, size))
laid_back layout (x ∷ xs) gapless some head size =
    ap (λ (kind : ℕ). with_fields (kind ∷ []) (field_bytes layout (x ∷ xs))) (sym head)
    ∙ fields_back layout.fields (x ∷ xs) 1 gapless.offsets
    ∙ ap (λ (n : ℕ). take n (x ∷ xs)) (gapless.size ∙ sym size)
    ∙ take_all (length (x ∷ xs)) (x ∷ xs) (omega arith)

-- ---- messages

-- what is found in the bytes, if there is something, is written as them
abbrev Writes : List ℕ → Option Request → Type 0
Writes bytes found = (q : Request) → found ≡ Some q → request_body q ≡ bytes

told : (bytes : List ℕ) (x : Request) → request_body x ≡ bytes → Writes bytes (Some x)
told bytes x is q h = ap (λ (found : Option Request). body_of found) (sym h) ∙ is
  where
    body_of : Option Request → List ℕ
    body_of None = bytes
    body_of (Some r) = request_body r

nothing : (bytes : List ℕ) → Writes bytes None
nothing bytes q h = cc

-- a choice by the layout's type and length
chosen : (bytes : List ℕ) (layout : Layout) (b : Bool) (this rest : Option Request) → is_of layout bytes ≡ b
    → (slice_index bytes 0 ≡ layout.kind → length bytes ≡ layout.size → Writes bytes this) → Writes bytes rest → Writes bytes (if b then this else rest)
chosen bytes layout true this rest h here there =
    here (eqb-true (slice_index bytes 0) layout.kind (and_parts (slice_index bytes 0 == layout.kind) (length bytes == layout.size) h).0)
    (eqb-true (length bytes) layout.size (and_parts (slice_index bytes 0 == layout.kind) (length bytes == layout.size) h).1)
chosen bytes layout false this rest h here there = there

order_chosen : (b : Bool) (this rest : Option Inbound) → option_map asked_by (if b then this else rest) ≡ (if b then option_map asked_by this else option_map asked_by rest)
order_chosen true this rest = refl
order_chosen false this rest = refl

command_chosen : (b : Bool) (this rest : Option Command) → option_map Request.Command (if b then this else rest) ≡ (if b then option_map Request.Command this else option_map Request.Command rest)
command_chosen true this rest = refl
command_chosen false this rest = refl

along : (bytes : List ℕ) (found other : Option Request) → found ≡ other → Writes bytes other → Writes bytes found
along bytes found other same writes q h = writes q (sym same ∙ h)

an_order : (bytes : List ℕ) (layout : Layout) (this rest : Option Inbound)
    → (slice_index bytes 0 ≡ layout.kind → length bytes ≡ layout.size → Writes bytes (option_map asked_by this)) → Writes bytes (option_map asked_by rest)
    → Writes bytes (option_map asked_by (if is_of layout bytes then this else rest))
an_order bytes layout this rest here there =
    along bytes _ _ (order_chosen (is_of layout bytes) this rest) (chosen bytes layout (is_of layout bytes) _ _ refl here there)

a_command : (bytes : List ℕ) (layout : Layout) (this rest : Option Command)
    → (slice_index bytes 0 ≡ layout.kind → length bytes ≡ layout.size → Writes bytes (option_map Request.Command this)) → Writes bytes (option_map Request.Command rest)
    → Writes bytes (option_map Request.Command (if is_of layout bytes then this else rest))
a_command bytes layout this rest here there =
    along bytes _ _ (command_chosen (is_of layout bytes) this rest) (chosen bytes layout (is_of layout bytes) _ _ refl here there)

-- the fields of an Enter Order
enter_fields : (bytes : List ℕ) (m : EnterOrder) → enter_of (field_bytes enter_order bytes) ≡ Some (Inbound.Enter m) → IsBytes bytes → length bytes ≡ 49 → enter_contents m ≡ field_bytes enter_order bytes
enter_fields bytes m read h size =
    ap (λ (found : Option Inbound). contents_of found) (sym read)
    ∙ (λ i. bytes_at (record { offset = 1; size = 14 }) bytes ∷ one 15 bytes (omega (arith, size)) i ∷ four 16 bytes h (omega (arith, size)) i ∷ bytes_at (record { offset = 20; size = 8 }) bytes
    ∷ four 28 bytes h (omega (arith, size)) i ∷ four 32 bytes h (omega (arith, size)) i ∷ bytes_at (record { offset = 36; size = 4 }) bytes ∷ one 40 bytes (omega (arith, size)) i ∷ one 41 bytes (omega (arith, size)) i
    ∷ one 42 bytes (omega (arith, size)) i ∷ four 43 bytes h (omega (arith, size)) i ∷ one 47 bytes (omega (arith, size)) i ∷ one 48 bytes (omega (arith, size)) i ∷ [])
  where
    contents_of : Option Inbound → List (List ℕ)
    contents_of (Some (Inbound.Enter m)) = enter_contents m
    contents_of (Some (Inbound.Replace m)) = []
    contents_of (Some (Inbound.Cancel m)) = []
    contents_of None = []

enter_back : (bytes : List ℕ) → IsBytes bytes → slice_index bytes 0 ≡ 79 → length bytes ≡ 49 → Writes bytes (option_map asked_by (enter_of (field_bytes enter_order bytes)))
unfolding request_body
enter_back bytes h head size =
    told bytes _ (ap (laid_out enter_order) (enter_fields bytes _ refl h size) ∙ laid_back enter_order bytes (record { offsets = refl; size = refl }) (omega arith) head size)

replace_fields : (bytes : List ℕ) (m : ReplaceOrder) → replace_of (field_bytes replace_order bytes) ≡ Some (Inbound.Replace m) → IsBytes bytes → length bytes ≡ 47 → replace_contents m ≡ field_bytes replace_order bytes
replace_fields bytes m read h size =
    ap (λ (found : Option Inbound). contents_of found) (sym read)
    ∙ (λ i. bytes_at (record { offset = 1; size = 14 }) bytes ∷ bytes_at (record { offset = 15; size = 14 }) bytes ∷ four 29 bytes h (omega (arith, size)) i ∷ four 33 bytes h (omega (arith, size)) i
    ∷ four 37 bytes h (omega (arith, size)) i ∷ one 41 bytes (omega (arith, size)) i ∷ one 42 bytes (omega (arith, size)) i ∷ four 43 bytes h (omega (arith, size)) i ∷ [])
  where
    contents_of : Option Inbound → List (List ℕ)
    contents_of (Some (Inbound.Enter m)) = []
    contents_of (Some (Inbound.Replace m)) = replace_contents m
    contents_of (Some (Inbound.Cancel m)) = []
    contents_of None = []

replace_back : (bytes : List ℕ) → IsBytes bytes → slice_index bytes 0 ≡ 85 → length bytes ≡ 47 → Writes bytes (option_map asked_by (replace_of (field_bytes replace_order bytes)))
unfolding request_body
replace_back bytes h head size =
    told bytes _ (ap (laid_out replace_order) (replace_fields bytes _ refl h size) ∙ laid_back replace_order bytes (record { offsets = refl; size = refl }) (omega arith) head size)

cancel_back : (bytes : List ℕ) → IsBytes bytes → slice_index bytes 0 ≡ 88 → length bytes ≡ 19 → Writes bytes (option_map asked_by (cancel_of (field_bytes cancel_order bytes)))
unfolding request_body
cancel_back bytes h head size =
    told bytes _ (ap (laid_out cancel_order) fields ∙ laid_back cancel_order bytes (record { offsets = refl; size = refl }) (omega arith) head size)
  where
    fields : take 14 (drop 1 bytes) ∷ to_be_bytes w32 (from_be_bytes w32 (take 4 (drop 15 bytes))) ∷ [] ≡ field_bytes cancel_order bytes
    fields = λ i. take 14 (drop 1 bytes) ∷ four 15 bytes h (omega (arith, size)) i ∷ []

orders_back : (bytes : List ℕ) → IsBytes bytes → Writes bytes (option_map asked_by (inbound_of bytes))
unfolding inbound_of
orders_back bytes h =
    an_order bytes enter_order _ _ (enter_back bytes h)
    (an_order bytes replace_order _ _ (replace_back bytes h)
    (an_order bytes cancel_order _ _ (cancel_back bytes h) (nothing bytes)))

-- a command whose fields are cut from the bytes as they are written
command_back : (bytes : List ℕ) (layout : Layout) → IsWithoutGaps layout → 1 ≤ layout.size → (c : Command) → request_body (Request.Command c) ≡ laid_out layout (field_bytes layout bytes)
    → slice_index bytes 0 ≡ layout.kind → length bytes ≡ layout.size → Writes bytes (Some (Request.Command c))
command_back bytes layout gapless some c written head size = told bytes (Request.Command c) (written ∙ laid_back layout bytes gapless some head size)

limit_back : (bytes : List ℕ) → IsBytes bytes → slice_index bytes 0 ≡ 77 → length bytes ≡ 31 → Writes bytes (option_map Request.Command (limit_command_of (field_bytes set_limit bytes)))
unfolding request_body
limit_back bytes h head size =
    command_back bytes set_limit (record { offsets = refl; size = refl }) (omega arith) _ (ap (laid_out set_limit) fields) head size
  where
    fields : take 14 (drop 1 bytes) ∷ take 8 (drop 15 bytes) ∷ to_be_bytes w64 (from_be_bytes w64 (take 8 (drop 23 bytes))) ∷ [] ≡ field_bytes set_limit bytes
    fields = λ i. take 14 (drop 1 bytes) ∷ take 8 (drop 15 bytes) ∷ eight 23 bytes h (omega (arith, size)) i ∷ []

commands_back : (bytes : List ℕ) → IsBytes bytes → Writes bytes (option_map Request.Command (command_of bytes))
unfolding command_of request_body
commands_back bytes h =
    a_command bytes kill _ _ (command_back bytes kill (record { offsets = refl; size = refl }) (omega arith) _ refl)
    (a_command bytes lift _ _ (command_back bytes lift (record { offsets = refl; size = refl }) (omega arith) _ refl)
    (a_command bytes set_limit _ _ (limit_back bytes h)
    (a_command bytes restrict _ _ (command_back bytes restrict (record { offsets = refl; size = refl }) (omega arith) _ refl)
    (a_command bytes unrestrict _ _ (command_back bytes unrestrict (record { offsets = refl; size = refl }) (omega arith) _ refl)
    (a_command bytes grant _ _ (command_back bytes grant (record { offsets = refl; size = refl }) (omega arith) _ refl)
    (a_command bytes revoke _ _ (command_back bytes revoke (record { offsets = refl; size = refl }) (omega arith) _ refl)
    (a_command bytes close_day _ _ (command_back bytes close_day (record { offsets = refl; size = refl }) (omega arith) _ refl)
    (nothing bytes))))))))

either : (bytes : List ℕ) (order command : Option Request) → Writes bytes order → Writes bytes command → Writes bytes (option_or order command)
either bytes (Some q) command here there = here
either bytes None command here there = there

-- what is asked by a message
abbrev pub is_message : Request → Bool
is_message (Request.Login m) = false
is_message Request.Logout = false
is_message (Request.Unreadable m) = false
is_message (Request.Enter m) = true
is_message (Request.Replace m) = true
is_message (Request.Cancel m) = true
is_message (Request.Command c) = true

found_in : (found : Option Request) (bytes : List ℕ) (q : Request) → unwrap_or found (unreadable_request bytes) ≡ q → is_message q ≡ true → found ≡ Some q
found_in (Some x) bytes q is message = ap (λ (r : Request). Some r) is
found_in None bytes q is message = absurd (no (ap is_message is ∙ message))
  where
    no : false ≡ true → ⊥
    no e = cc

-- a message is written as the payload that it was read of
pub message_back : (bytes : List ℕ) (q : Request) → IsBytes bytes → request_of bytes ≡ q → is_message q ≡ true → request_body q ≡ bytes
unfolding request_of
message_back bytes q h is message =
    either bytes (option_map asked_by (inbound_of bytes)) (option_map Request.Command (command_of bytes)) (orders_back bytes h) (commands_back bytes h) q
    (found_in (message_of bytes) bytes q is message)
