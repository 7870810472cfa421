-- The message that some bytes are. Numbers are unsigned, the highest byte first.
use Rattle.std.specs.{Prelude.{ℕ, List, [], ◌∷◌, Option, Some, None, if◌then◌else◌}, Int.{w8, w32, from_be_bytes}}
use Rattle.gx_ouch.specs.{declared.inbound.Inbound.Inbound, Layout.{field_bytes, is_of}, Messages.{enter_order, replace_order, cancel_order}}

-- a field of one byte
abbrev pub byte : List ℕ → ℕ
byte bytes = from_be_bytes w8 bytes

-- a field of four bytes
abbrev pub number : List ℕ → ℕ
number bytes = from_be_bytes w32 bytes

-- the Enter Order of these fields
abbrev pub enter_of : List (List ℕ) → Option Inbound
enter_of (token ∷ side ∷ shares ∷ stock ∷ price ∷ time_in_force ∷ firm ∷ display ∷ capacity ∷ sweep ∷ minimum ∷ cross ∷ customer ∷ []) =
    Some (Inbound.Enter (record {
      token = record { bytes = token };
      side = byte side;
      shares = number shares;
      stock = record { bytes = stock };
      price = number price;
      time_in_force = number time_in_force;
      firm = record { bytes = firm };
      display = byte display;
      capacity = byte capacity;
      intermarket_sweep = byte sweep;
      minimum_quantity = number minimum;
      cross_type = byte cross;
      customer_type = byte customer;
    }))
enter_of _ = None

-- the Replace Order of these fields
abbrev pub replace_of : List (List ℕ) → Option Inbound
replace_of (existing ∷ replacement ∷ shares ∷ price ∷ time_in_force ∷ display ∷ sweep ∷ minimum ∷ []) =
    Some (Inbound.Replace (record {
      existing_token = record { bytes = existing };
      replacement_token = record { bytes = replacement };
      shares = number shares;
      price = number price;
      time_in_force = number time_in_force;
      display = byte display;
      intermarket_sweep = byte sweep;
      minimum_quantity = number minimum;
    }))
replace_of _ = None

-- the Cancel Order of these fields
abbrev pub cancel_of : List (List ℕ) → Option Inbound
cancel_of (token ∷ shares ∷ []) =
    Some (Inbound.Cancel (record { token = record { bytes = token }; shares = number shares }))
cancel_of _ = None

-- the message whose type and length are those of the bytes, with the fields that stand at its places
unfoldable pub inbound_of : List ℕ → Option Inbound
inbound_of bytes =
    if is_of enter_order bytes then enter_of (field_bytes enter_order bytes)
    else (if is_of replace_order bytes then replace_of (field_bytes replace_order bytes)
    else (if is_of cancel_order bytes then cancel_of (field_bytes cancel_order bytes)
    else None))
