-- What stands at the places of a message that the gate writes. Numbers are unsigned, the highest byte first.
use Rattle.std.specs.{Prelude.{ℕ, List, [], Option, Some, None, option_map, option_and_then, bytes_eq, length, ◌==◌, slice_index_or, if◌then◌else◌}, Int.{w64, from_be_bytes}}
use Rattle.gx_ouch.specs.{declared.{outbound.{Outbound.Outbound, OrderTerms.OrderTerms, Executed.Executed}, letters.Liquidity.Liquidity}, Layout.{field, bytes_at, field_bytes, is_of}, Messages.{system_event, accepted_layout, replaced_layout, canceled_layout, executed_layout, rejected_layout}, Reading.{byte, number}}
use Rattle.gx_desk.specs.{declared.{Answer.Answer, DropCopy.DropCopy}, Messages.{answer, drop_copy}}
use Rattle.gx_client.specs.{declared.reading.Stamped.Stamped, Letters.{event_in, liquidity_in, cancel_reason_in, reject_reason_in, answer_code_in}}

-- a field of eight bytes
abbrev pub long : List ℕ → ℕ
long bytes = from_be_bytes w64 bytes

-- the moment stands behind the type
abbrev pub moment_shown : List ℕ → ℕ
moment_shown bytes = long (bytes_at (field 1 8) bytes)

-- a message with its moment, where these are its bytes
abbrev pub stamped_message : {M : Type 0} → (ℕ → M → List ℕ) → List ℕ → ℕ → M → Option (Stamped M)
stamped_message bytes_of bytes timestamp message =
    if bytes_eq (bytes_of timestamp message) bytes then Some (record { timestamp = timestamp; message = message }) else None

-- the message that stands at its places, where these are its bytes
abbrev pub message_in : {M : Type 0} → (List ℕ → Option M) → (ℕ → M → List ℕ) → List ℕ → Option (Stamped M)
message_in shown bytes_of bytes = option_and_then (λ message. stamped_message bytes_of bytes (moment_shown bytes) message) (shown bytes)

-- a field by its number in its layout: 0 is the moment, 1 the token
abbrev pub part : List (List ℕ) → ℕ → List ℕ
part parts i = slice_index_or parts i []

-- the terms of an Accepted's or a Replaced's fields
abbrev pub terms_of : List (List ℕ) → OrderTerms
terms_of parts = record {
  side = byte (part parts 2);
  shares = number (part parts 3);
  stock = record { bytes = part parts 4 };
  price = number (part parts 5);
  time_in_force = number (part parts 6);
  firm = record { bytes = part parts 7 };
  display = byte (part parts 8);
  capacity = byte (part parts 10);
  intermarket_sweep = byte (part parts 11);
  minimum_quantity = number (part parts 12);
  cross_type = byte (part parts 13);
}

-- the Executed of these fields
abbrev pub executed_of : List (List ℕ) → Liquidity → Executed
executed_of parts liquidity = record {
  token = record { bytes = part parts 1 };
  shares = number (part parts 2);
  price = number (part parts 3);
  liquidity = liquidity;
  match_number = long (part parts 5);
}

-- the Executed of these fields, where they have a flag
abbrev pub executed_in : List (List ℕ) → Option Executed
executed_in parts = option_map (executed_of parts) (liquidity_in (byte (part parts 4)))

-- the message of these fields, by its type
abbrev pub event_in_parts : List (List ℕ) → Option Outbound
event_in_parts parts = option_map Outbound.SystemEvent (event_in (byte (part parts 1)))

abbrev pub accepted_in_parts : List (List ℕ) → Outbound
accepted_in_parts parts = Outbound.Accepted (record {
  token = record { bytes = part parts 1 };
  terms = terms_of parts;
  order_reference = long (part parts 9);
})

abbrev pub replaced_in_parts : List (List ℕ) → Outbound
replaced_in_parts parts = Outbound.Replaced (record {
  token = record { bytes = part parts 1 };
  terms = terms_of parts;
  order_reference = long (part parts 9);
  previous_token = record { bytes = part parts 15 };
})

abbrev pub canceled_in_parts : List (List ℕ) → Option Outbound
canceled_in_parts parts =
    option_map (λ reason. Outbound.Canceled (record {
      token = record { bytes = part parts 1 };
      decrement = number (part parts 2);
      reason = reason;
    })) (cancel_reason_in (byte (part parts 3)))

abbrev pub executed_in_parts : List (List ℕ) → Option Outbound
executed_in_parts parts = option_map Outbound.Executed (executed_in parts)

abbrev pub rejected_in_parts : List (List ℕ) → Option Outbound
rejected_in_parts parts =
    option_map (λ reason. Outbound.Rejected (record {
      token = record { bytes = part parts 1 };
      reason = reason;
    })) (reject_reason_in (byte (part parts 2)))

-- the message at the places that the bytes' type and length give
unfoldable pub outbound_shown : List ℕ → Option Outbound
outbound_shown bytes =
    if is_of system_event bytes then event_in_parts (field_bytes system_event bytes)
    else (if is_of accepted_layout bytes then Some (accepted_in_parts (field_bytes accepted_layout bytes))
    else (if is_of replaced_layout bytes then Some (replaced_in_parts (field_bytes replaced_layout bytes))
    else (if is_of canceled_layout bytes then canceled_in_parts (field_bytes canceled_layout bytes)
    else (if is_of executed_layout bytes then executed_in_parts (field_bytes executed_layout bytes)
    else (if is_of rejected_layout bytes then rejected_in_parts (field_bytes rejected_layout bytes)
    else None)))))

-- the answer at its places, in bytes of its length
abbrev pub answer_in_parts : List (List ℕ) → Option Answer
answer_in_parts parts =
    option_map (λ code. record {
      tag = record { bytes = part parts 1 };
      command_type = byte (part parts 2);
      code = code;
      record_number = long (part parts 4);
    }) (answer_code_in (part parts 3))

abbrev pub answer_shown : List ℕ → Option Answer
answer_shown bytes = if length bytes == answer.size then answer_in_parts (field_bytes answer bytes) else None

-- the drop copy at its places, in bytes of its length
abbrev pub drop_copy_in_parts : List (List ℕ) → Option DropCopy
drop_copy_in_parts parts =
    option_map (λ filled. record {
      executed = filled;
      account = record { bytes = part parts 6 };
      side = byte (part parts 7);
    }) (executed_in parts)

abbrev pub drop_copy_shown : List ℕ → Option DropCopy
drop_copy_shown bytes = if length bytes == drop_copy.size then drop_copy_in_parts (field_bytes drop_copy bytes) else None
