-- What a setting asks of the rules, whose fills a reader gets behind it, and which of them take memory.
use Rattle.std.specs.{Prelude.{Bool, true, false, IsTrue, List, Option, is_some}, Option.option_map_or}
use Rattle.gx_desk.specs.declared.Action.{Action}
use Rattle.gx_policy.specs.{declared.policy.{FileRule.FileRule, PolicyData.PolicyData, User.User}, People.rule_in}
use Rattle.gx_history.specs.{Asking.knows_stocks, Masks.mask_by, Readers.reader_in}
use Rattle.gx_people.specs.Entitled.{has_room, sees}
use Rattle.gx_streams.specs.Streams.{AllStreams, with_reader_entitled}
use Rattle.gx_rules.specs.Settings.{limit_in}

-- the rule that a setting names has it
abbrev pub HasSetting : List FileRule → Action → Type 0
HasSetting rules (Action.SetLimit rule limit) = IsTrue (is_some (limit_in rules rule))
HasSetting rules (Action.Restrict rule stock) = IsTrue (knows_stocks (rule_in rules rule))
HasSetting rules (Action.Unrestrict rule stock) = IsTrue (knows_stocks (rule_in rules rule))
HasSetting rules (Action.Grant reader account) = Unit {0}
HasSetting rules (Action.Revoke reader account) = Unit {0}
HasSetting rules (Action.Kill account) = Unit {0}
HasSetting rules (Action.Lift account) = Unit {0}
HasSetting rules Action.CloseDay = Unit {0}

-- the reader whom a Grant names has room for the account
abbrev pub HasRoomForReader : List User → Action → Type 0
HasRoomForReader people (Action.Grant written account) = IsTrue (option_map_or (λ (u : User). has_room people u.name account) (reader_in people written) true)
HasRoomForReader people (Action.Revoke written account) = Unit {0}
HasRoomForReader people (Action.SetLimit rule limit) = Unit {0}
HasRoomForReader people (Action.Restrict rule stock) = Unit {0}
HasRoomForReader people (Action.Unrestrict rule stock) = Unit {0}
HasRoomForReader people (Action.Kill account) = Unit {0}
HasRoomForReader people (Action.Lift account) = Unit {0}
HasRoomForReader people Action.CloseDay = Unit {0}

-- the reader of this name gets the fills of what he sees among these people
abbrev pub sent_to : PolicyData → List User → AllStreams → Option User → AllStreams
sent_to policy people streams found = option_map_or (λ (u : User). with_reader_entitled u.name (mask_by (sees people u.name) policy.accounts) streams) found streams

-- the streams after the command: whom a Grant or a Revoke names gets the fills of what he sees now
abbrev pub sent_on : PolicyData → List User → List User → AllStreams → Action → AllStreams
sent_on policy before now streams (Action.Grant written account) = sent_to policy now streams (reader_in before written)
sent_on policy before now streams (Action.Revoke written account) = sent_to policy now streams (reader_in before written)
sent_on policy before now streams other = streams

-- one more stock in a list, or one more span of a reader's fills
abbrev pub grows : Action → Bool
grows (Action.Restrict rule stock) = true
grows (Action.Grant reader account) = true
grows (Action.Revoke reader account) = true
grows other = false
