-- What follows a row of events, by the phase.
use Rattle.std.proofs.{Common.{◌≡◌, ℕ, ◌+◌, ◌≤◌, Bool, true, false, cond, List, [], ◌∷◌, refl, arith, count_by, lit≤}, lemmas.{List.Sums.sum_by-cons, Bool.{and_from, and_parts}}}
use Rattle.std.specs.List.{list_all}
use Rattle.gx_soup.specs.declared.packet.ClientPacket.{ClientPacket}
use Rattle.gx_access_gate.specs.declared.outcome.LoginAnswer.{LoginAnswer}
use Rattle.gx_session.specs.{Happenings.Happening, declared.session.{Phase.{Phase, TheVariants.{Fresh, Waiting, On, Abandoned, Done}}, Row.Row}, Table.{SessionData, fresh_packet, on_packet, row_in, turn, new_session}, Events.{Timed, replies, is_phase_on, is_over, is_last, is_parting, is_wordless, is_no_answer, is_acceptance, asks_login, asks_logout}}
use Rattle.gx_session.specs.Happenings as happens

-- After a logout or a close the session is over.

abbrev EndsOver : Row → Type 0
EndsOver r = is_last r.reply.next ≡ true → is_over r.phase ≡ true

fresh_ends : (p : ClientPacket) → EndsOver (fresh_packet p)
fresh_ends (ClientPacket.Login login) h = cc
fresh_ends (ClientPacket.Data payload) h = refl
fresh_ends ClientPacket.Logout h = refl
fresh_ends ClientPacket.Heartbeat h = cc
fresh_ends ClientPacket.Debug h = cc

on_ends : (p : ClientPacket) → EndsOver (on_packet p)
on_ends (ClientPacket.Login login) h = refl
on_ends (ClientPacket.Data payload) h = cc
on_ends ClientPacket.Logout h = refl
on_ends ClientPacket.Heartbeat h = cc
on_ends ClientPacket.Debug h = cc

row_ends : (p : Phase) (e : Happening) (silent quiet : Bool) → EndsOver (row_in p e silent quiet)
row_ends Fresh (happens.Packet p) silent quiet h = fresh_ends p h
row_ends Fresh (happens.Answered a) silent quiet h = cc
row_ends Fresh (happens.Refused f) silent quiet h = refl
row_ends Fresh (happens.Pulled n e) silent quiet h = cc
row_ends Fresh happens.Tick true quiet h = refl
row_ends Fresh happens.Tick false quiet h = cc
row_ends Fresh happens.Fault silent quiet h = refl
row_ends Fresh happens.End silent quiet h = refl
row_ends Waiting (happens.Packet p) silent quiet h = cc
row_ends Waiting (happens.Answered (LoginAnswer.Accepted name next)) silent quiet h = cc
row_ends Waiting (happens.Answered (LoginAnswer.Rejected reason)) silent quiet h = refl
row_ends Waiting (happens.Refused f) silent quiet h = refl
row_ends Waiting (happens.Pulled n e) silent quiet h = cc
row_ends Waiting happens.Tick true quiet h = refl
row_ends Waiting happens.Tick false quiet h = cc
row_ends Waiting happens.Fault silent quiet h = refl
row_ends Waiting happens.End silent quiet h = refl
row_ends On (happens.Packet p) silent quiet h = on_ends p h
row_ends On (happens.Answered a) silent quiet h = cc
row_ends On (happens.Refused f) silent quiet h = refl
row_ends On (happens.Pulled n true) silent quiet h = refl
row_ends On (happens.Pulled n false) silent quiet h = cc
row_ends On happens.Tick true quiet h = refl
row_ends On happens.Tick false true h = cc
row_ends On happens.Tick false false h = cc
row_ends On happens.Fault silent quiet h = refl
row_ends On happens.End silent quiet h = refl
row_ends Abandoned (happens.Packet p) silent quiet h = cc
row_ends Abandoned (happens.Answered (LoginAnswer.Accepted name next)) silent quiet h = refl
row_ends Abandoned (happens.Answered (LoginAnswer.Rejected reason)) silent quiet h = refl
row_ends Abandoned (happens.Refused f) silent quiet h = cc
row_ends Abandoned (happens.Pulled n e) silent quiet h = cc
row_ends Abandoned happens.Tick silent quiet h = cc
row_ends Abandoned happens.Fault silent quiet h = cc
row_ends Abandoned happens.End silent quiet h = cc
row_ends Done e silent quiet h = refl

pub turn_ends : (session : SessionData) (event : Happening) (moment : ℕ) → is_last (turn session event moment).reply.next ≡ true → is_over (turn session event moment).session.phase ≡ true
unfolding turn
turn_ends session event moment h = row_ends session.phase event _ _ h

-- Once the session is over, replies are silent.

row_parts : (p : Phase) (e : Happening) (silent quiet : Bool) → is_over p ≡ true → (is_parting (row_in p e silent quiet).reply ≡ true) × (is_over (row_in p e silent quiet).phase ≡ true)
row_parts Fresh e silent quiet h = cc
row_parts Waiting e silent quiet h = cc
row_parts On e silent quiet h = cc
row_parts Abandoned (happens.Packet p) silent quiet h = (refl, refl)
row_parts Abandoned (happens.Answered (LoginAnswer.Accepted name next)) silent quiet h = (refl, refl)
row_parts Abandoned (happens.Answered (LoginAnswer.Rejected reason)) silent quiet h = (refl, refl)
row_parts Abandoned (happens.Refused f) silent quiet h = (refl, refl)
row_parts Abandoned (happens.Pulled n e) silent quiet h = (refl, refl)
row_parts Abandoned happens.Tick silent quiet h = (refl, refl)
row_parts Abandoned happens.Fault silent quiet h = (refl, refl)
row_parts Abandoned happens.End silent quiet h = (refl, refl)
row_parts Done e silent quiet h = (refl, refl)

turn_parts : (session : SessionData) (event : Happening) (moment : ℕ) → is_over session.phase ≡ true → (is_parting (turn session event moment).reply ≡ true) × (is_over (turn session event moment).session.phase ≡ true)
unfolding turn
turn_parts session event moment h = row_parts session.phase event _ _ h

pub all_parting : (session : SessionData) (hs : List Timed) → is_over session.phase ≡ true → list_all is_parting (replies session hs) ≡ true
all_parting session [] h = refl
all_parting session (x ∷ hs) h =
    let step = turn_parts session x.event x.moment h in
    and_from _ _ step.0 (all_parting (turn session x.event x.moment).session hs step.1)

-- How many logins and logouts a session may still ask for.

abbrev logins_left : Phase → ℕ
logins_left Fresh = 1
logins_left other = 0

abbrev late_left : Phase → ℕ
late_left Abandoned = 1
late_left other = 0

abbrev users_on : Phase → ℕ
users_on phase = cond (is_phase_on phase) 1 0

counted : {X : Type 0} (p : X → Bool) → (x : X) (xs : List X) → count_by p (x ∷ xs) ≡ cond (p x) 1 0 + count_by p xs
counted p x xs = sum_by-cons (λ y. cond (p y) 1 0) x xs

one_step : (all now left later before : ℕ) → all ≡ now + later → now + left ≤ before → later ≤ left → all ≤ before
one_step all now left later before e h k = omega arith

two_steps : (all some now left later before here there : ℕ) → all ≡ now + later → some ≡ here + there → now + left ≤ before + here → later ≤ left + there → all ≤ before + some
two_steps all some now left later before here there e f h k = omega arith

abbrev logins_of : Row → ℕ
logins_of r = cond (asks_login r.reply) 1 0 + logins_left r.phase

fresh_logins : (p : ClientPacket) → logins_of (fresh_packet p) ≤ 1
fresh_logins (ClientPacket.Login login) = lit≤ tt
fresh_logins (ClientPacket.Data payload) = lit≤ tt
fresh_logins ClientPacket.Logout = lit≤ tt
fresh_logins ClientPacket.Heartbeat = lit≤ tt
fresh_logins ClientPacket.Debug = lit≤ tt

on_logins : (p : ClientPacket) → logins_of (on_packet p) ≤ 0
on_logins (ClientPacket.Login login) = lit≤ tt
on_logins (ClientPacket.Data payload) = lit≤ tt
on_logins ClientPacket.Logout = lit≤ tt
on_logins ClientPacket.Heartbeat = lit≤ tt
on_logins ClientPacket.Debug = lit≤ tt

row_logins : (p : Phase) (e : Happening) (silent quiet : Bool) → logins_of (row_in p e silent quiet) ≤ logins_left p
row_logins Fresh (happens.Packet p) silent quiet = fresh_logins p
row_logins Fresh (happens.Answered (LoginAnswer.Accepted name next)) silent quiet = lit≤ tt
row_logins Fresh (happens.Answered (LoginAnswer.Rejected reason)) silent quiet = lit≤ tt
row_logins Fresh (happens.Refused f) silent quiet = lit≤ tt
row_logins Fresh (happens.Pulled n e) silent quiet = lit≤ tt
row_logins Fresh happens.Tick true quiet = lit≤ tt
row_logins Fresh happens.Tick false quiet = lit≤ tt
row_logins Fresh happens.Fault silent quiet = lit≤ tt
row_logins Fresh happens.End silent quiet = lit≤ tt
row_logins Waiting (happens.Packet p) silent quiet = lit≤ tt
row_logins Waiting (happens.Answered (LoginAnswer.Accepted name next)) silent quiet = lit≤ tt
row_logins Waiting (happens.Answered (LoginAnswer.Rejected reason)) silent quiet = lit≤ tt
row_logins Waiting (happens.Refused f) silent quiet = lit≤ tt
row_logins Waiting (happens.Pulled n e) silent quiet = lit≤ tt
row_logins Waiting happens.Tick true quiet = lit≤ tt
row_logins Waiting happens.Tick false quiet = lit≤ tt
row_logins Waiting happens.Fault silent quiet = lit≤ tt
row_logins Waiting happens.End silent quiet = lit≤ tt
row_logins On (happens.Packet p) silent quiet = on_logins p
row_logins On (happens.Answered (LoginAnswer.Accepted name next)) silent quiet = lit≤ tt
row_logins On (happens.Answered (LoginAnswer.Rejected reason)) silent quiet = lit≤ tt
row_logins On (happens.Refused f) silent quiet = lit≤ tt
row_logins On (happens.Pulled n true) silent quiet = lit≤ tt
row_logins On (happens.Pulled n false) silent quiet = lit≤ tt
row_logins On happens.Tick true quiet = lit≤ tt
row_logins On happens.Tick false true = lit≤ tt
row_logins On happens.Tick false false = lit≤ tt
row_logins On happens.Fault silent quiet = lit≤ tt
row_logins On happens.End silent quiet = lit≤ tt
row_logins Abandoned (happens.Packet p) silent quiet = lit≤ tt
row_logins Abandoned (happens.Answered (LoginAnswer.Accepted name next)) silent quiet = lit≤ tt
row_logins Abandoned (happens.Answered (LoginAnswer.Rejected reason)) silent quiet = lit≤ tt
row_logins Abandoned (happens.Refused f) silent quiet = lit≤ tt
row_logins Abandoned (happens.Pulled n e) silent quiet = lit≤ tt
row_logins Abandoned happens.Tick silent quiet = lit≤ tt
row_logins Abandoned happens.Fault silent quiet = lit≤ tt
row_logins Abandoned happens.End silent quiet = lit≤ tt
row_logins Done e silent quiet = lit≤ tt

turn_logins : (session : SessionData) (event : Happening) (moment : ℕ) → cond (asks_login (turn session event moment).reply) 1 0 + logins_left (turn session event moment).session.phase ≤ logins_left session.phase
unfolding turn
turn_logins session event moment = row_logins session.phase event _ _

pub logins_within : (session : SessionData) (hs : List Timed) → count_by asks_login (replies session hs) ≤ logins_left session.phase
logins_within session [] = omega arith
logins_within session (x ∷ hs) =
    one_step _ _ _ _ _ (counted asks_login (turn session x.event x.moment).reply (replies (turn session x.event x.moment).session hs)) (turn_logins session x.event x.moment) (logins_within (turn session x.event x.moment).session hs)

abbrev logouts_of : Row → ℕ
logouts_of r = cond (asks_logout r.reply) 1 0 + users_on r.phase

fresh_logouts : (p : ClientPacket) → logouts_of (fresh_packet p) ≤ 0
fresh_logouts (ClientPacket.Login login) = lit≤ tt
fresh_logouts (ClientPacket.Data payload) = lit≤ tt
fresh_logouts ClientPacket.Logout = lit≤ tt
fresh_logouts ClientPacket.Heartbeat = lit≤ tt
fresh_logouts ClientPacket.Debug = lit≤ tt

on_logouts : (p : ClientPacket) → logouts_of (on_packet p) ≤ 1
on_logouts (ClientPacket.Login login) = lit≤ tt
on_logouts (ClientPacket.Data payload) = lit≤ tt
on_logouts ClientPacket.Logout = lit≤ tt
on_logouts ClientPacket.Heartbeat = lit≤ tt
on_logouts ClientPacket.Debug = lit≤ tt

row_logouts : (p : Phase) (e : Happening) (silent quiet : Bool) → logouts_of (row_in p e silent quiet) ≤ users_on p + cond (is_acceptance e) 1 0
row_logouts Fresh (happens.Packet p) silent quiet = fresh_logouts p
row_logouts Fresh (happens.Answered (LoginAnswer.Accepted name next)) silent quiet = lit≤ tt
row_logouts Fresh (happens.Answered (LoginAnswer.Rejected reason)) silent quiet = lit≤ tt
row_logouts Fresh (happens.Refused f) silent quiet = lit≤ tt
row_logouts Fresh (happens.Pulled n e) silent quiet = lit≤ tt
row_logouts Fresh happens.Tick true quiet = lit≤ tt
row_logouts Fresh happens.Tick false quiet = lit≤ tt
row_logouts Fresh happens.Fault silent quiet = lit≤ tt
row_logouts Fresh happens.End silent quiet = lit≤ tt
row_logouts Waiting (happens.Packet p) silent quiet = lit≤ tt
row_logouts Waiting (happens.Answered (LoginAnswer.Accepted name next)) silent quiet = lit≤ tt
row_logouts Waiting (happens.Answered (LoginAnswer.Rejected reason)) silent quiet = lit≤ tt
row_logouts Waiting (happens.Refused f) silent quiet = lit≤ tt
row_logouts Waiting (happens.Pulled n e) silent quiet = lit≤ tt
row_logouts Waiting happens.Tick true quiet = lit≤ tt
row_logouts Waiting happens.Tick false quiet = lit≤ tt
row_logouts Waiting happens.Fault silent quiet = lit≤ tt
row_logouts Waiting happens.End silent quiet = lit≤ tt
row_logouts On (happens.Packet p) silent quiet = on_logouts p
row_logouts On (happens.Answered (LoginAnswer.Accepted name next)) silent quiet = lit≤ tt
row_logouts On (happens.Answered (LoginAnswer.Rejected reason)) silent quiet = lit≤ tt
row_logouts On (happens.Refused f) silent quiet = lit≤ tt
row_logouts On (happens.Pulled n true) silent quiet = lit≤ tt
row_logouts On (happens.Pulled n false) silent quiet = lit≤ tt
row_logouts On happens.Tick true quiet = lit≤ tt
row_logouts On happens.Tick false true = lit≤ tt
row_logouts On happens.Tick false false = lit≤ tt
row_logouts On happens.Fault silent quiet = lit≤ tt
row_logouts On happens.End silent quiet = lit≤ tt
row_logouts Abandoned (happens.Packet p) silent quiet = lit≤ tt
row_logouts Abandoned (happens.Answered (LoginAnswer.Accepted name next)) silent quiet = lit≤ tt
row_logouts Abandoned (happens.Answered (LoginAnswer.Rejected reason)) silent quiet = lit≤ tt
row_logouts Abandoned (happens.Refused f) silent quiet = lit≤ tt
row_logouts Abandoned (happens.Pulled n e) silent quiet = lit≤ tt
row_logouts Abandoned happens.Tick silent quiet = lit≤ tt
row_logouts Abandoned happens.Fault silent quiet = lit≤ tt
row_logouts Abandoned happens.End silent quiet = lit≤ tt
row_logouts Done e silent quiet = omega arith

turn_logouts : (session : SessionData) (event : Happening) (moment : ℕ) → cond (asks_logout (turn session event moment).reply) 1 0 + users_on (turn session event moment).session.phase ≤ users_on session.phase + cond (is_acceptance event) 1 0
unfolding turn
turn_logouts session event moment = row_logouts session.phase event _ _

pub logouts_within : (session : SessionData) (hs : List Timed) → count_by asks_logout (replies session hs) ≤ users_on session.phase + count_by (λ (h : Timed). is_acceptance h.event) hs
logouts_within session [] = omega arith
logouts_within session (x ∷ hs) =
    two_steps _ _ _ _ _ _ _ _ (counted asks_logout (turn session x.event x.moment).reply (replies (turn session x.event x.moment).session hs)) (counted (λ (h : Timed). is_acceptance h.event) x hs) (turn_logouts session x.event x.moment) (logouts_within (turn session x.event x.moment).session hs)

pub logouts_of_new : (moment : ℕ) (hs : List Timed) → count_by asks_logout (replies (new_session moment) hs) ≤ count_by (λ (h : Timed). is_acceptance h.event) hs
logouts_of_new moment hs = omega (arith, logouts_within (new_session moment) hs)

row_late : (p : Phase) (e : Happening) (silent quiet : Bool) → is_over p ≡ true → cond (asks_logout (row_in p e silent quiet).reply) 1 0 + late_left (row_in p e silent quiet).phase ≤ late_left p
row_late Fresh e silent quiet h = cc
row_late Waiting e silent quiet h = cc
row_late On e silent quiet h = cc
row_late Abandoned (happens.Packet p) silent quiet h = lit≤ tt
row_late Abandoned (happens.Answered (LoginAnswer.Accepted name next)) silent quiet h = lit≤ tt
row_late Abandoned (happens.Answered (LoginAnswer.Rejected reason)) silent quiet h = lit≤ tt
row_late Abandoned (happens.Refused f) silent quiet h = lit≤ tt
row_late Abandoned (happens.Pulled n e) silent quiet h = lit≤ tt
row_late Abandoned happens.Tick silent quiet h = lit≤ tt
row_late Abandoned happens.Fault silent quiet h = lit≤ tt
row_late Abandoned happens.End silent quiet h = lit≤ tt
row_late Done e silent quiet h = lit≤ tt

turn_late : (session : SessionData) (event : Happening) (moment : ℕ) → is_over session.phase ≡ true → cond (asks_logout (turn session event moment).reply) 1 0 + late_left (turn session event moment).session.phase ≤ late_left session.phase
unfolding turn
turn_late session event moment h = row_late session.phase event _ _ h

late_within : (session : SessionData) (hs : List Timed) → is_over session.phase ≡ true → count_by asks_logout (replies session hs) ≤ late_left session.phase
late_within session [] h = omega arith
late_within session (x ∷ hs) h =
    one_step _ _ _ _ _ (counted asks_logout (turn session x.event x.moment).reply (replies (turn session x.event x.moment).session hs)) (turn_late session x.event x.moment h) (late_within (turn session x.event x.moment).session hs (turn_parts session x.event x.moment h).1)

one_at_most : (p : Phase) → late_left p ≤ 1
one_at_most Fresh = lit≤ tt
one_at_most Waiting = lit≤ tt
one_at_most On = lit≤ tt
one_at_most Abandoned = lit≤ tt
one_at_most Done = lit≤ tt

pub late_once : (session : SessionData) (hs : List Timed) → is_over session.phase ≡ true → count_by asks_logout (replies session hs) ≤ 1
late_once session hs h = omega (arith, late_within session hs h, one_at_most session.phase)

-- Nothing is sent before an answer.

abbrev IsQuiet : Row → Type 0
IsQuiet r = (is_wordless r.reply ≡ true) × (users_on r.phase ≡ 0)

fresh_wordless : (p : ClientPacket) → IsQuiet (fresh_packet p)
fresh_wordless (ClientPacket.Login login) = (refl, refl)
fresh_wordless (ClientPacket.Data payload) = (refl, refl)
fresh_wordless ClientPacket.Logout = (refl, refl)
fresh_wordless ClientPacket.Heartbeat = (refl, refl)
fresh_wordless ClientPacket.Debug = (refl, refl)

row_wordless : (p : Phase) (e : Happening) (silent quiet : Bool) → users_on p ≡ 0 → is_no_answer e ≡ true → IsQuiet (row_in p e silent quiet)
row_wordless Fresh (happens.Packet p) silent quiet h k = fresh_wordless p
row_wordless Fresh (happens.Answered (LoginAnswer.Accepted name next)) silent quiet h k = cc
row_wordless Fresh (happens.Answered (LoginAnswer.Rejected reason)) silent quiet h k = cc
row_wordless Fresh (happens.Refused f) silent quiet h k = (refl, refl)
row_wordless Fresh (happens.Pulled n e) silent quiet h k = (refl, refl)
row_wordless Fresh happens.Tick true quiet h k = (refl, refl)
row_wordless Fresh happens.Tick false quiet h k = (refl, refl)
row_wordless Fresh happens.Fault silent quiet h k = (refl, refl)
row_wordless Fresh happens.End silent quiet h k = (refl, refl)
row_wordless Waiting (happens.Packet p) silent quiet h k = (refl, refl)
row_wordless Waiting (happens.Answered (LoginAnswer.Accepted name next)) silent quiet h k = cc
row_wordless Waiting (happens.Answered (LoginAnswer.Rejected reason)) silent quiet h k = cc
row_wordless Waiting (happens.Refused f) silent quiet h k = (refl, refl)
row_wordless Waiting (happens.Pulled n e) silent quiet h k = (refl, refl)
row_wordless Waiting happens.Tick true quiet h k = (refl, refl)
row_wordless Waiting happens.Tick false quiet h k = (refl, refl)
row_wordless Waiting happens.Fault silent quiet h k = (refl, refl)
row_wordless Waiting happens.End silent quiet h k = (refl, refl)
row_wordless On e silent quiet h k = cc
row_wordless Abandoned (happens.Packet p) silent quiet h k = (refl, refl)
row_wordless Abandoned (happens.Answered (LoginAnswer.Accepted name next)) silent quiet h k = cc
row_wordless Abandoned (happens.Answered (LoginAnswer.Rejected reason)) silent quiet h k = cc
row_wordless Abandoned (happens.Refused f) silent quiet h k = (refl, refl)
row_wordless Abandoned (happens.Pulled n e) silent quiet h k = (refl, refl)
row_wordless Abandoned happens.Tick silent quiet h k = (refl, refl)
row_wordless Abandoned happens.Fault silent quiet h k = (refl, refl)
row_wordless Abandoned happens.End silent quiet h k = (refl, refl)
row_wordless Done e silent quiet h k = (refl, refl)

turn_wordless : (session : SessionData) (event : Happening) (moment : ℕ) → users_on session.phase ≡ 0 → is_no_answer event ≡ true → (is_wordless (turn session event moment).reply ≡ true) × (users_on (turn session event moment).session.phase ≡ 0)
unfolding turn
turn_wordless session event moment h k = row_wordless session.phase event _ _ h k

all_wordless : (session : SessionData) (hs : List Timed) → users_on session.phase ≡ 0 → list_all (λ (h : Timed). is_no_answer h.event) hs ≡ true → list_all is_wordless (replies session hs) ≡ true
all_wordless session [] h k = refl
all_wordless session (x ∷ hs) h k =
    let step = turn_wordless session x.event x.moment h (and_parts _ _ k).0 in
    and_from _ _ step.0 (all_wordless (turn session x.event x.moment).session hs step.1 (and_parts _ _ k).1)

pub new_wordless : (moment : ℕ) (hs : List Timed) → list_all (λ (h : Timed). is_no_answer h.event) hs ≡ true → list_all is_wordless (replies (new_session moment) hs) ≡ true
new_wordless moment hs k = all_wordless (new_session moment) hs refl k

pub one_login_at_most : (moment : ℕ) (hs : List Timed) → count_by asks_login (replies (new_session moment) hs) ≤ 1
one_login_at_most moment hs = logins_within (new_session moment) hs
