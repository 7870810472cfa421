-- A request is read from its body as itself.
use Rattle.std.proofs.{Common.{◌≡◌, ℕ, ◌<◌, ◌^◌, ◌-◌, ◌==◌, Bool, true, false, List, [], ◌∷◌, length, take, refl, sym, ap, ◌∙◌}, lemmas.{List.take_at, Nat.{from_be_bytes-to_be_bytes_2, from_be_bytes-to_be_bytes_8}}}
use Rattle.std.specs.{Prelude.{Some, option_map, replicate, if◌then◌else◌}, Int.{w8, from_be_bytes}}
use Rattle.gx_ouch.specs.declared.inbound.{EnterOrder.EnterOrder, ReplaceOrder.ReplaceOrder, CancelOrder.CancelOrder}
use Rattle.gx_desk.specs.{declared.{Action.Action, Command.Command, Tag.Tag}, Names.command_type, Contents.command_layout}
use Rattle.gx_history.specs.{Payloads.request_of, declared.record.{Login.Login, Unreadable.Unreadable, Request.Request, Step.Step, Asked.Asked}}
use Rattle.gx_audit_bytes.specs.{Bodies.{yes_or_no, zero_padded, request_body, request_kind}, Reading.{request_in, step_of_bytes, login_in, unreadable_in, StepIsRead}}
use Rattle.gx_ouch.proofs.Requests_read.{one_byte}

-- a message, and zero bytes behind it
message_in : (size : ℕ) (q : Request) (bytes : List ℕ) → length bytes ≡ size → request_of bytes ≡ q → Some (request_of (take size (zero_padded 58 bytes))) ≡ Some q
message_in size q bytes len asks =
    ap (λ (bs : List ℕ). Some (request_of bs)) (take_at bytes (replicate (58 - length bytes) 0) size len) ∙ ap (λ (x : Request). Some x) asks

pub enter_in : (m : EnterOrder) (bytes : List ℕ) → length bytes ≡ 49 → request_of bytes ≡ Request.Enter m → request_in 79 (zero_padded 58 bytes) ≡ Some (Request.Enter m)
unfolding request_in
enter_in m bytes len asks = message_in 49 (Request.Enter m) bytes len asks

pub replace_in : (m : ReplaceOrder) (bytes : List ℕ) → length bytes ≡ 47 → request_of bytes ≡ Request.Replace m → request_in 85 (zero_padded 58 bytes) ≡ Some (Request.Replace m)
unfolding request_in
replace_in m bytes len asks = message_in 47 (Request.Replace m) bytes len asks

pub cancel_in : (m : CancelOrder) (bytes : List ℕ) → length bytes ≡ 19 → request_of bytes ≡ Request.Cancel m → request_in 88 (zero_padded 58 bytes) ≡ Some (Request.Cancel m)
unfolding request_in
cancel_in m bytes len asks = message_in 19 (Request.Cancel m) bytes len asks

action_in : (tag : Tag) (action : Action) (bytes : List ℕ) → length bytes ≡ (command_layout action).size
    → request_of bytes ≡ Request.Command (record { tag = tag; action = action })
    → request_in (command_type action) (zero_padded 58 bytes) ≡ Some (Request.Command (record { tag = tag; action = action }))
unfolding request_in
action_in tag (Action.Kill account) bytes len asks = message_in 23 _ bytes len asks
action_in tag (Action.Lift account) bytes len asks = message_in 23 _ bytes len asks
action_in tag (Action.SetLimit rule limit) bytes len asks = message_in 31 _ bytes len asks
action_in tag (Action.Restrict rule stock) bytes len asks = message_in 31 _ bytes len asks
action_in tag (Action.Unrestrict rule stock) bytes len asks = message_in 31 _ bytes len asks
action_in tag (Action.Grant reader account) bytes len asks = message_in 29 _ bytes len asks
action_in tag (Action.Revoke reader account) bytes len asks = message_in 29 _ bytes len asks
action_in tag Action.CloseDay bytes len asks = message_in 15 _ bytes len asks

pub command_in : (c : Command) (bytes : List ℕ) → length bytes ≡ (command_layout c.action).size → request_of bytes ≡ Request.Command c
    → request_in (command_type c.action) (zero_padded 58 bytes) ≡ Some (Request.Command c)
command_in c bytes len asks = action_in c.tag c.action bytes len asks

yes_read : (b : Bool) → (from_be_bytes w8 (yes_or_no b ∷ []) == 89) ≡ b
yes_read true = refl
yes_read false = refl

login_back : (m : Login) → m.wanted < 2 ^ 64 → login_in (zero_padded 58 (request_body (Request.Login m))) ≡ Request.Login m
unfolding request_body
login_back m fits = λ i. Request.Login (record {
  password_is_right = yes_read m.password_is_right i;
  session_is_right = yes_read m.session_is_right i;
  wanted = from_be_bytes-to_be_bytes_8 m.wanted fits i;
})

pub login_read : (m : Login) (bytes : List ℕ) → bytes ≡ request_body (Request.Login m) → m.wanted < 2 ^ 64 → request_in 49 (zero_padded 58 bytes) ≡ Some (Request.Login m)
unfolding request_in
login_read m bytes known fits = ap (λ (bs : List ℕ). Some (login_in (zero_padded 58 bs))) known ∙ ap (λ (q : Request). Some q) (login_back m fits)

unreadable_back : (m : Unreadable) → m.length < 2 ^ 16 → unreadable_in (zero_padded 58 (request_body (Request.Unreadable m))) ≡ Request.Unreadable m
unfolding request_body
unreadable_back m fits = λ i. Request.Unreadable (record {
  length = from_be_bytes-to_be_bytes_2 m.length fits i;
  first = one_byte m.first i;
})

pub unreadable_read : (m : Unreadable) (bytes : List ℕ) → bytes ≡ request_body (Request.Unreadable m) → m.length < 2 ^ 16 → request_in 51 (zero_padded 58 bytes) ≡ Some (Request.Unreadable m)
unfolding request_in
unreadable_read m bytes known fits = ap (λ (bs : List ℕ). Some (unreadable_in (zero_padded 58 bs))) known ∙ ap (λ (q : Request). Some q) (unreadable_back m fits)

pub logout_read : (bytes : List ℕ) → request_in 50 (zero_padded 58 bytes) ≡ Some Request.Logout
unfolding request_in
logout_read bytes = refl

-- no request has the kind of a matching step
asked_by_kind : (tag : Tag) (action : Action) → (command_type action == 52) ≡ false
asked_by_kind tag (Action.Kill account) = refl
asked_by_kind tag (Action.Lift account) = refl
asked_by_kind tag (Action.SetLimit rule limit) = refl
asked_by_kind tag (Action.Restrict rule stock) = refl
asked_by_kind tag (Action.Unrestrict rule stock) = refl
asked_by_kind tag (Action.Grant reader account) = refl
asked_by_kind tag (Action.Revoke reader account) = refl
asked_by_kind tag Action.CloseDay = refl

no_match : (q : Request) → (request_kind q == 52) ≡ false
no_match (Request.Login m) = refl
no_match Request.Logout = refl
no_match (Request.Unreadable m) = refl
no_match (Request.Enter m) = refl
no_match (Request.Replace m) = refl
no_match (Request.Cancel m) = refl
no_match (Request.Command c) = asked_by_kind c.tag c.action

-- a step is read from its parts as itself
asked_back : (a : Asked) (body : List ℕ) → request_in (request_kind a.request) body ≡ Some a.request
    → step_of_bytes (request_kind a.request) a.handed a.line a.user.bytes body ≡ Some (Step.Asked a)
unfolding step_of_bytes
asked_back a body read =
    ap (λ (matches : Bool). if matches then Some (Step.Matching a.handed) else option_map (λ (q : Request). made q) (request_in (request_kind a.request) body)) (no_match a.request)
    ∙ ap (option_map (λ (q : Request). made q)) read
  where
    made : Request → Step
    made q = Step.Asked (record { line = a.line; user = record { bytes = a.user.bytes }; request = q; handed = a.handed })

pub asked_read : (a : Asked) (bytes : List ℕ) → bytes ≡ request_body a.request → request_in (request_kind a.request) (zero_padded 58 bytes) ≡ Some a.request → StepIsRead (Step.Asked a)
asked_read a bytes known read =
    asked_back a (zero_padded 58 (request_body a.request))
    (ap (λ (bs : List ℕ). request_in (request_kind a.request) (zero_padded 58 bs)) (sym known) ∙ read)

pub matching_read : (handed : ℕ) → StepIsRead (Step.Matching handed)
unfolding step_of_bytes
matching_read handed = refl
