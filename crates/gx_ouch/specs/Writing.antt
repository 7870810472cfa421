-- The bytes of a message that is written. Numbers are unsigned, the highest byte first.
use Rattle.std.specs.{Prelude.{ℕ, List, [], ◌∷◌, ◌++◌}, Int.{w32, w64, to_be_bytes}}
use Rattle.gx_ouch.specs.{declared.outbound.{OrderTerms.OrderTerms, Outbound.Outbound}, Layout.{Layout, laid_out}, Letters.{event_letter, liquidity_letter, cancel_letter, reject_letter, order_state, weight_indicator}, Messages.{system_event, accepted_layout, replaced_layout, canceled_layout, executed_layout, rejected_layout}}

-- a field of one byte
abbrev pub letter : ℕ → List ℕ
letter code = code ∷ []

-- what Accepted and Replaced say alike of an order
abbrev pub order_contents : OrderTerms → ℕ → List (List ℕ)
order_contents terms order_reference =
    letter terms.side ∷
    to_be_bytes w32 terms.shares ∷
    terms.stock.bytes ∷
    to_be_bytes w32 terms.price ∷
    to_be_bytes w32 terms.time_in_force ∷
    terms.firm.bytes ∷
    letter terms.display ∷
    to_be_bytes w64 order_reference ∷
    letter terms.capacity ∷
    letter terms.intermarket_sweep ∷
    to_be_bytes w32 terms.minimum_quantity ∷
    letter terms.cross_type ∷
    letter order_state ∷
    []

abbrev pub outbound_layout : Outbound → Layout
outbound_layout (Outbound.SystemEvent event) = system_event
outbound_layout (Outbound.Accepted m) = accepted_layout
outbound_layout (Outbound.Replaced m) = replaced_layout
outbound_layout (Outbound.Canceled m) = canceled_layout
outbound_layout (Outbound.Executed m) = executed_layout
outbound_layout (Outbound.Rejected m) = rejected_layout

-- the fields behind the timestamp
abbrev pub contents_behind : Outbound → List (List ℕ)
contents_behind (Outbound.SystemEvent event) = letter (event_letter event) ∷ []
contents_behind (Outbound.Accepted m) =
    m.token.bytes ∷ order_contents m.terms m.order_reference ++ letter weight_indicator ∷ []
contents_behind (Outbound.Replaced m) =
    m.token.bytes ∷ order_contents m.terms m.order_reference ++ m.previous_token.bytes ∷ letter weight_indicator ∷ []
contents_behind (Outbound.Canceled m) =
    m.token.bytes ∷ to_be_bytes w32 m.decrement ∷ letter (cancel_letter m.reason) ∷ []
contents_behind (Outbound.Executed m) =
    m.token.bytes ∷ to_be_bytes w32 m.shares ∷ to_be_bytes w32 m.price ∷ letter (liquidity_letter m.liquidity) ∷ to_be_bytes w64 m.match_number ∷ []
contents_behind (Outbound.Rejected m) =
    m.token.bytes ∷ letter (reject_letter m.reason) ∷ []

-- the fields of a message of this moment
abbrev pub outbound_contents : ℕ → Outbound → List (List ℕ)
outbound_contents timestamp message = to_be_bytes w64 timestamp ∷ contents_behind message

-- the bytes of a message of this moment
unfoldable pub outbound_bytes : ℕ → Outbound → List ℕ
outbound_bytes timestamp message = laid_out (outbound_layout message) (outbound_contents timestamp message)
