-- The fields of a message that was asked, behind its type, by the layout from which it is read.
use Rattle.std.specs.{Prelude.{ℕ, List, [], ◌∷◌}, Int.{w32, to_be_bytes}}
use Rattle.gx_ouch.specs.{Writing.letter, declared.inbound.{EnterOrder.EnterOrder, ReplaceOrder.ReplaceOrder, CancelOrder.CancelOrder}}

-- the fields of an Enter Order
abbrev pub enter_contents : EnterOrder → List (List ℕ)
enter_contents m =
    m.token.bytes ∷
    letter m.side ∷
    to_be_bytes w32 m.shares ∷
    m.stock.bytes ∷
    to_be_bytes w32 m.price ∷
    to_be_bytes w32 m.time_in_force ∷
    m.firm.bytes ∷
    letter m.display ∷
    letter m.capacity ∷
    letter m.intermarket_sweep ∷
    to_be_bytes w32 m.minimum_quantity ∷
    letter m.cross_type ∷
    letter m.customer_type ∷
    []

-- the fields of a Replace Order
abbrev pub replace_contents : ReplaceOrder → List (List ℕ)
replace_contents m =
    m.existing_token.bytes ∷
    m.replacement_token.bytes ∷
    to_be_bytes w32 m.shares ∷
    to_be_bytes w32 m.price ∷
    to_be_bytes w32 m.time_in_force ∷
    letter m.display ∷
    letter m.intermarket_sweep ∷
    to_be_bytes w32 m.minimum_quantity ∷
    []

-- the fields of a Cancel Order
abbrev pub cancel_contents : CancelOrder → List (List ℕ)
cancel_contents m = m.token.bytes ∷ to_be_bytes w32 m.shares ∷ []
