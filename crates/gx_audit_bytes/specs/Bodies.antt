-- What a record's body shows of its step.
use Rattle.std.specs.{Prelude.{ℕ, Bool, List, [], ◌∷◌, ◌++◌, ◌-◌, length, replicate, if◌then◌else◌}, Int.{w16, w64, to_be_bytes}}
use Rattle.gx_ouch.specs.{Layout.{laid_out, with_fields}, Messages.{enter_order, replace_order, cancel_order}, Writing.letter, Contents.{enter_contents, replace_contents, cancel_contents}}
use Rattle.gx_desk.specs.{Names.command_type, Contents.{command_layout, command_contents}}
use Rattle.gx_history.specs.declared.record.Request.{Request}

-- `Y` or `N`
abbrev pub yes_or_no : Bool → ℕ
yes_or_no right = if right then 89 else 78

-- a message's type, `1` Login, `2` Logout, `3` Unreadable
abbrev pub request_kind : Request → ℕ
request_kind (Request.Login m) = 49
request_kind Request.Logout = 50
request_kind (Request.Unreadable m) = 51
request_kind (Request.Enter m) = 79
request_kind (Request.Replace m) = 85
request_kind (Request.Cancel m) = 88
request_kind (Request.Command c) = command_type c.action

-- a message as it is sent; of a Login whether password and session name were right, and the wanted number; of a
-- payload that is no message its length and its first byte; of a Logout nothing
unfoldable pub request_body : Request → List ℕ
request_body (Request.Login m) =
    with_fields [] (letter (yes_or_no m.password_is_right) ∷ letter (yes_or_no m.session_is_right) ∷ to_be_bytes w64 m.wanted ∷ [])
request_body Request.Logout = []
request_body (Request.Unreadable m) = with_fields [] (to_be_bytes w16 m.length ∷ letter m.first ∷ [])
request_body (Request.Enter m) = laid_out enter_order (enter_contents m)
request_body (Request.Replace m) = laid_out replace_order (replace_contents m)
request_body (Request.Cancel m) = laid_out cancel_order (cancel_contents m)
request_body (Request.Command c) = laid_out (command_layout c.action) (command_contents c)

-- zero bytes behind the others, up to n
abbrev pub zero_padded : ℕ → List ℕ → List ℕ
zero_padded n bytes = bytes ++ replicate (n - length bytes) 0
