-- An order, a replace and a cancel that are laid out so are read as themselves.
use Rattle.std.proofs.{Common.{◌≡◌, ℕ, ◌<◌, ◌^◌, List, [], ◌∷◌, length, refl, ap, ◌∙◌, arith}, lemmas.Nat.from_be_bytes-to_be_bytes_4}
use Rattle.std.specs.Prelude.{Option, Some, None, ◌&&◌, ◌==◌, slice_index, if◌then◌else◌}
use Rattle.gx_ouch.specs.{Contents.{enter_contents, replace_contents, cancel_contents}, Layout.{HasSizes, field_bytes, laid_out}, Messages.{enter_order, replace_order, cancel_order}, Reading.{byte, inbound_of, enter_of, replace_of, cancel_of}, declared.inbound.{Inbound.Inbound, EnterOrder.EnterOrder, ReplaceOrder.ReplaceOrder, CancelOrder.CancelOrder}}
use Rattle.gx_ouch.proofs.Fields_placed.{known_to_lie}

-- a field of one byte shows the byte
pub one_byte : (n : ℕ) → byte (n ∷ []) ≡ n
one_byte n = omega arith

-- the message of a trader, by its first byte and its length
abbrev pub inbound_at : ℕ → ℕ → List ℕ → Option Inbound
inbound_at head size bytes =
    if (head == enter_order.kind) && (size == enter_order.size) then enter_of (field_bytes enter_order bytes)
    else (if (head == replace_order.kind) && (size == replace_order.size) then replace_of (field_bytes replace_order bytes)
    else (if (head == cancel_order.kind) && (size == cancel_order.size) then cancel_of (field_bytes cancel_order bytes)
    else None))

pub inbound_by : (bytes : List ℕ) (head size : ℕ) → slice_index bytes 0 ≡ head → length bytes ≡ size → inbound_of bytes ≡ inbound_at head size bytes
unfolding inbound_of
inbound_by bytes head size h s = ap (λ (n : ℕ). inbound_at n (length bytes) bytes) h ∙ ap (λ (n : ℕ). inbound_at head n bytes) s

-- the bytes of an Enter Order are read as it
pub enter_read : (m : EnterOrder) (bytes : List ℕ) → bytes ≡ laid_out enter_order (enter_contents m) → length bytes ≡ 49 → HasSizes enter_order (enter_contents m)
    → m.shares < 2 ^ 32 → m.price < 2 ^ 32 → m.time_in_force < 2 ^ 32 → m.minimum_quantity < 2 ^ 32 → inbound_of bytes ≡ Some (Inbound.Enter m)
enter_read m bytes known size sizes shares price tif minimum =
    inbound_by bytes 79 49 (ap (λ (bs : List ℕ). slice_index bs 0) known) size
    ∙ ap enter_of (known_to_lie enter_order (enter_contents m) bytes known (record { offsets = refl; size = refl }) sizes).fields
    ∙ same
  where
    same : enter_of (enter_contents m) ≡ Some (Inbound.Enter m)
    same = λ i. Some (Inbound.Enter (record {
      token = m.token;
      side = one_byte m.side i;
      shares = from_be_bytes-to_be_bytes_4 m.shares shares i;
      stock = m.stock;
      price = from_be_bytes-to_be_bytes_4 m.price price i;
      time_in_force = from_be_bytes-to_be_bytes_4 m.time_in_force tif i;
      firm = m.firm;
      display = one_byte m.display i;
      capacity = one_byte m.capacity i;
      intermarket_sweep = one_byte m.intermarket_sweep i;
      minimum_quantity = from_be_bytes-to_be_bytes_4 m.minimum_quantity minimum i;
      cross_type = one_byte m.cross_type i;
      customer_type = one_byte m.customer_type i;
    }))

-- the bytes of a Replace Order are read as it
pub replace_read : (m : ReplaceOrder) (bytes : List ℕ) → bytes ≡ laid_out replace_order (replace_contents m) → length bytes ≡ 47 → HasSizes replace_order (replace_contents m)
    → m.shares < 2 ^ 32 → m.price < 2 ^ 32 → m.time_in_force < 2 ^ 32 → m.minimum_quantity < 2 ^ 32 → inbound_of bytes ≡ Some (Inbound.Replace m)
replace_read m bytes known size sizes shares price tif minimum =
    inbound_by bytes 85 47 (ap (λ (bs : List ℕ). slice_index bs 0) known) size
    ∙ ap replace_of (known_to_lie replace_order (replace_contents m) bytes known (record { offsets = refl; size = refl }) sizes).fields
    ∙ same
  where
    same : replace_of (replace_contents m) ≡ Some (Inbound.Replace m)
    same = λ i. Some (Inbound.Replace (record {
      existing_token = m.existing_token;
      replacement_token = m.replacement_token;
      shares = from_be_bytes-to_be_bytes_4 m.shares shares i;
      price = from_be_bytes-to_be_bytes_4 m.price price i;
      time_in_force = from_be_bytes-to_be_bytes_4 m.time_in_force tif i;
      display = one_byte m.display i;
      intermarket_sweep = one_byte m.intermarket_sweep i;
      minimum_quantity = from_be_bytes-to_be_bytes_4 m.minimum_quantity minimum i;
    }))

-- the bytes of a Cancel Order are read as it
pub cancel_read : (m : CancelOrder) (bytes : List ℕ) → bytes ≡ laid_out cancel_order (cancel_contents m) → length bytes ≡ 19 → HasSizes cancel_order (cancel_contents m)
    → m.shares < 2 ^ 32 → inbound_of bytes ≡ Some (Inbound.Cancel m)
cancel_read m bytes known size sizes shares =
    inbound_by bytes 88 19 (ap (λ (bs : List ℕ). slice_index bs 0) known) size
    ∙ ap cancel_of (known_to_lie cancel_order (cancel_contents m) bytes known (record { offsets = refl; size = refl }) sizes).fields
    ∙ same
  where
    same : cancel_of (cancel_contents m) ≡ Some (Inbound.Cancel m)
    same = λ i. Some (Inbound.Cancel (record { token = m.token; shares = from_be_bytes-to_be_bytes_4 m.shares shares i }))
