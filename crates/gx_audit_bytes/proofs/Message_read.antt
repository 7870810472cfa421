-- A message that is written is read as itself.
use Rattle.std.proofs.Common.{◌≡◌, ℕ, ◌<◌, ◌^◌, List, ◌∷◌, length, slice_index, refl, ap, ◌∙◌}
use Rattle.std.specs.{Prelude.{Option, Some, None, option_map}, Option.{option_or, unwrap_or}}
use Rattle.gx_ouch.proofs.Requests_read as orders
use Rattle.gx_ouch.specs.{Contents.{enter_contents, replace_contents, cancel_contents}, Layout.{HasSizes, laid_out}, Messages.{enter_order, replace_order, cancel_order}, Reading.inbound_of, declared.inbound.{Inbound.Inbound, EnterOrder.EnterOrder, ReplaceOrder.ReplaceOrder, CancelOrder.CancelOrder}}
use Rattle.gx_desk.proofs.Commands_read as commands
use Rattle.gx_desk.specs.{Contents.{command_layout, action_contents, command_contents, LimitFits}, Reading.command_of, declared.{Action.Action, Command.Command, Tag.Tag}}
use Rattle.gx_history.specs.{Payloads.{asked_by, request_of, unreadable_request}, declared.record.Request.Request}

-- what a payload asks for, by what is found in it
abbrev asked_of : Option Inbound → Option Command → List ℕ → Request
asked_of order command bytes = unwrap_or (option_or (option_map asked_by order) (option_map Request.Command command)) (unreadable_request bytes)

asks : (bytes : List ℕ) (order : Option Inbound) (command : Option Command) → inbound_of bytes ≡ order → command_of bytes ≡ command → request_of bytes ≡ asked_of order command bytes
unfolding request_of
asks bytes order command o c = ap (λ (x : Option Inbound). asked_of x (command_of bytes) bytes) o ∙ ap (λ (x : Option Command). asked_of order x bytes) c

-- the bytes of an Enter Order ask for it
pub enter_read : (m : EnterOrder) (bytes : List ℕ) → bytes ≡ laid_out enter_order (enter_contents m) → length bytes ≡ 49 → HasSizes enter_order (enter_contents m)
    → m.shares < 2 ^ 32 → m.price < 2 ^ 32 → m.time_in_force < 2 ^ 32 → m.minimum_quantity < 2 ^ 32 → request_of bytes ≡ Request.Enter m
enter_read m bytes known size sizes shares price tif minimum =
    asks bytes (Some (Inbound.Enter m)) (command_of bytes) (orders.enter_read m bytes known size sizes shares price tif minimum) refl

-- the bytes of a Replace Order ask for it
pub replace_read : (m : ReplaceOrder) (bytes : List ℕ) → bytes ≡ laid_out replace_order (replace_contents m) → length bytes ≡ 47 → HasSizes replace_order (replace_contents m)
    → m.shares < 2 ^ 32 → m.price < 2 ^ 32 → m.time_in_force < 2 ^ 32 → m.minimum_quantity < 2 ^ 32 → request_of bytes ≡ Request.Replace m
replace_read m bytes known size sizes shares price tif minimum =
    asks bytes (Some (Inbound.Replace m)) (command_of bytes) (orders.replace_read m bytes known size sizes shares price tif minimum) refl

-- the bytes of a Cancel Order ask for it
pub cancel_read : (m : CancelOrder) (bytes : List ℕ) → bytes ≡ laid_out cancel_order (cancel_contents m) → length bytes ≡ 19 → HasSizes cancel_order (cancel_contents m)
    → m.shares < 2 ^ 32 → request_of bytes ≡ Request.Cancel m
cancel_read m bytes known size sizes shares =
    asks bytes (Some (Inbound.Cancel m)) (command_of bytes) (orders.cancel_read m bytes known size sizes shares) refl

-- they are those of no order
no_order : (tag : Tag) (action : Action) (bytes : List ℕ) → bytes ≡ laid_out (command_layout action) (tag.bytes ∷ action_contents action)
    → length bytes ≡ (command_layout action).size → inbound_of bytes ≡ None
no_order tag (Action.Kill account) bytes known size = orders.inbound_by bytes 75 23 (ap (λ (bs : List ℕ). slice_index bs 0) known) size
no_order tag (Action.Lift account) bytes known size = orders.inbound_by bytes 76 23 (ap (λ (bs : List ℕ). slice_index bs 0) known) size
no_order tag (Action.SetLimit rule limit) bytes known size = orders.inbound_by bytes 77 31 (ap (λ (bs : List ℕ). slice_index bs 0) known) size
no_order tag (Action.Restrict rule stock) bytes known size = orders.inbound_by bytes 82 31 (ap (λ (bs : List ℕ). slice_index bs 0) known) size
no_order tag (Action.Unrestrict rule stock) bytes known size = orders.inbound_by bytes 78 31 (ap (λ (bs : List ℕ). slice_index bs 0) known) size
no_order tag (Action.Grant reader account) bytes known size = orders.inbound_by bytes 71 29 (ap (λ (bs : List ℕ). slice_index bs 0) known) size
no_order tag (Action.Revoke reader account) bytes known size = orders.inbound_by bytes 86 29 (ap (λ (bs : List ℕ). slice_index bs 0) known) size
no_order tag Action.CloseDay bytes known size = orders.inbound_by bytes 90 15 (ap (λ (bs : List ℕ). slice_index bs 0) known) size

-- the bytes of a command ask for it
pub command_read : (c : Command) (bytes : List ℕ) → bytes ≡ laid_out (command_layout c.action) (command_contents c) → length bytes ≡ (command_layout c.action).size
    → HasSizes (command_layout c.action) (command_contents c) → LimitFits c.action → request_of bytes ≡ Request.Command c
command_read c bytes known size sizes fits =
    asks bytes None (Some c) (no_order c.tag c.action bytes known size) (commands.command_read c bytes known size sizes fits)
