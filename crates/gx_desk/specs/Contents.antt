-- The fields of a command, behind its type, by the layout from which it is read.
use Rattle.std.specs.{Prelude.{ℕ, ◌<◌, ◌^◌, List, [], ◌∷◌}, Int.{w64, to_be_bytes}}
use Rattle.gx_ouch.specs.Layout.{Layout}
use Rattle.gx_desk.specs.{Messages.{kill, lift, set_limit, restrict, unrestrict, grant, revoke, close_day}, declared.{Action.Action, Command.Command}}

-- where the fields of a command stand
abbrev pub command_layout : Action → Layout
command_layout (Action.Kill account) = kill
command_layout (Action.Lift account) = lift
command_layout (Action.SetLimit rule limit) = set_limit
command_layout (Action.Restrict rule stock) = restrict
command_layout (Action.Unrestrict rule stock) = unrestrict
command_layout (Action.Grant reader account) = grant
command_layout (Action.Revoke reader account) = revoke
command_layout Action.CloseDay = close_day

-- the fields behind the tag
abbrev pub action_contents : Action → List (List ℕ)
action_contents (Action.Kill account) = account.bytes ∷ []
action_contents (Action.Lift account) = account.bytes ∷ []
action_contents (Action.SetLimit rule limit) = rule.bytes ∷ to_be_bytes w64 limit ∷ []
action_contents (Action.Restrict rule stock) = rule.bytes ∷ stock.bytes ∷ []
action_contents (Action.Unrestrict rule stock) = rule.bytes ∷ stock.bytes ∷ []
action_contents (Action.Grant reader account) = reader.bytes ∷ account.bytes ∷ []
action_contents (Action.Revoke reader account) = reader.bytes ∷ account.bytes ∷ []
action_contents Action.CloseDay = []

-- the fields of a command
abbrev pub command_contents : Command → List (List ℕ)
command_contents c = c.tag.bytes ∷ action_contents c.action

-- a limit has eight bytes
abbrev pub LimitFits : Action → Type 0
LimitFits (Action.SetLimit rule limit) = limit < 2 ^ 64
LimitFits other = Unit {0}
