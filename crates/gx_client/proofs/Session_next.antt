-- A session that hears one more packet.
use Rattle.std.proofs.{Common.{◌≡◌, ℕ, ◌+◌, ◌≤◌, ◌<◌, min, nat_lt, Bool, true, false, List, [], ◌∷◌, ◌++◌, refl, sym, ap, ◌∙◌, arith}, lemmas.{Bool.Decides.nat_tests, List.Folds.list_any-append}}
use Rattle.std.specs.{Prelude.{◌||◌, if◌then◌else◌}, List.list_any}
use Rattle.gx_units.specs.declared.names.SessionName.{SessionName}
use Rattle.gx_soup.specs.{declared.packet.{LoginRequest.LoginRequest, ServerPacket.{ServerPacket, TheVariants.{Accepted, Rejected, Sequenced, Heartbeat, EndOfSession}}}, Login.greatest}
use Rattle.gx_client.specs.{declared.heard.{Stage.{Stage, TheVariants.{On, Over}}, Heard.Heard}, Session.{is_end, reports_in, stage_of, next_of, heard_after, heard_as, SessionView, HasHeard, standing_after}}

-- once the session has ended, nothing counts
ended : (packets : List ServerPacket) (p : ServerPacket) → list_any is_end packets ≡ true → (list_any is_end (packets ++ p ∷ []) ≡ true) × (reports_in (packets ++ p ∷ []) ≡ reports_in packets)
ended [] p h = cc
ended (Accepted session next ∷ more) p h = ended more p h
ended (Rejected why ∷ more) p h = ended more p h
ended (Sequenced payload ∷ more) p h = let e = ended more p h in (e.0, ap (λ (n : ℕ). n + 1) e.1)
ended (Heartbeat ∷ more) p h = ended more p h
ended (EndOfSession ∷ more) p h = (refl, refl)

-- until then the last packet counts
going_on : (packets : List ServerPacket) (p : ServerPacket) → list_any is_end packets ≡ false → (list_any is_end (packets ++ p ∷ []) ≡ list_any is_end (p ∷ [])) × (reports_in (packets ++ p ∷ []) ≡ reports_in packets + reports_in (p ∷ []))
going_on [] p h = (refl, omega arith)
going_on (Accepted session next ∷ more) p h = going_on more p h
going_on (Rejected why ∷ more) p h = going_on more p h
going_on (Sequenced payload ∷ more) p h = let g = going_on more p h in (g.0, one_more _ _ _ g.1)
  where
    one_more : (after before one : ℕ) → after ≡ before + one → after + 1 ≡ before + 1 + one
    one_more after before one e = omega arith
going_on (Heartbeat ∷ more) p h = going_on more p h
going_on (EndOfSession ∷ more) p h = cc

abbrev standing : LoginRequest → Stage → ℕ → SessionView
standing login stage next = record { login = login; stage = stage; next = next }

less : (m : ℕ) → nat_lt m greatest ≡ true → m < greatest
less m h = grind (arith, nat_tests)

is_less : (m : ℕ) → m < greatest → nat_lt m greatest ≡ true
is_less m h = grind (arith, nat_tests)

not_less : (m : ℕ) → nat_lt m greatest ≡ false → greatest ≤ m
not_less m h = grind (arith, nat_tests)

-- one more report, where there is a number for it and where there is none
counted : (first before after : ℕ) → after ≡ before + 1 → min (first + before) greatest < greatest → min (min (first + before) greatest + 1) greatest ≡ min (first + after) greatest
counted first before after e h = omega arith

used_up : (first before after : ℕ) → after ≡ before + 1 → greatest ≤ min (first + before) greatest → min (first + before) greatest ≡ min (first + after) greatest
used_up first before after e h = omega arith

same_next : (first before after : ℕ) → after ≡ before + 0 → min (first + before) greatest ≡ min (first + after) greatest
same_next first before after e = omega arith

same_standing : (login : LoginRequest) (s t : Stage) (m n : ℕ) → s ≡ t → m ≡ n → standing login s m ≡ standing login t n
same_standing login s t m n e f = λ i. standing login (e i) (f i)

goes_on : (ends : Bool) → ends ≡ false → On ≡ (if ends then Over else On)
goes_on ends e = sym (ap (λ (b : Bool). if b then Over else On) e)

is_over : (ends : Bool) → ends ≡ true → Over ≡ (if ends then Over else On)
is_over ends e = sym (ap (λ (b : Bool). if b then Over else On) e)

-- a session that is on hears a report
report_heard : (login : LoginRequest) (first before after : ℕ) (ends b : Bool) → ends ≡ false → after ≡ before + 1 → nat_lt (min (first + before) greatest) greatest ≡ b
    → standing_after (standing login On (min (first + before) greatest)) (if b then Heard.Report (min (first + before) greatest) else Heard.Unexpected) ≡ standing login (if ends then Over else On) (min (first + after) greatest)
report_heard login first before after ends true e f h = same_standing login _ _ _ _ (goes_on ends e) (counted first before after f (less _ h))
report_heard login first before after ends false e f h = same_standing login _ _ _ _ (goes_on ends e) (used_up first before after f (not_less _ h))

-- a session that is on hears a packet
on_hears : (login : LoginRequest) (first before after : ℕ) (p : ServerPacket) (ends : Bool) → ends ≡ list_any is_end (p ∷ []) → after ≡ before + reports_in (p ∷ [])
    → standing_after (standing login On (min (first + before) greatest)) (heard_as On (min (first + before) greatest) p) ≡ standing login (if ends then Over else On) (min (first + after) greatest)
on_hears login first before after (Accepted session next) ends e f = same_standing login _ _ _ _ (goes_on ends e) (same_next first before after f)
on_hears login first before after (Rejected why) ends e f = same_standing login _ _ _ _ (goes_on ends e) (same_next first before after f)
on_hears login first before after (Sequenced payload) ends e f = report_heard login first before after ends (nat_lt (min (first + before) greatest) greatest) e f refl
on_hears login first before after Heartbeat ends e f = same_standing login _ _ _ _ (goes_on ends e) (same_next first before after f)
on_hears login first before after EndOfSession ends e f = same_standing login _ _ _ _ (is_over ends e) (same_next first before after f)

-- a session that was accepted hears a packet
accepted_hears : (login : LoginRequest) (first : ℕ) (more : List ServerPacket) (p : ServerPacket) (b : Bool) → list_any is_end more ≡ b
    → standing_after (standing login (if b then Over else On) (min (first + reports_in more) greatest)) (heard_as (if b then Over else On) (min (first + reports_in more) greatest) p)
    ≡ standing login (if list_any is_end (more ++ p ∷ []) then Over else On) (min (first + reports_in (more ++ p ∷ [])) greatest)
accepted_hears login first more p true h =
    let e = ended more p h in
    same_standing login _ _ _ _ (is_over _ e.0) (sym (ap (λ (n : ℕ). min (first + n) greatest) e.1))
accepted_hears login first more p false h =
    let g = going_on more p h in
    on_hears login first (reports_in more) (reports_in (more ++ p ∷ [])) p (list_any is_end (more ++ p ∷ [])) g.0 g.1

first_next : (first : ℕ) → min first greatest ≡ min (first + 0) greatest
first_next first = omega arith

-- a session hears one more packet
steps : (login : LoginRequest) (wanted : ℕ) (packets : List ServerPacket) (p : ServerPacket)
    → standing_after (standing login (stage_of packets) (next_of wanted packets)) (heard_as (stage_of packets) (next_of wanted packets) p) ≡ standing login (stage_of (packets ++ p ∷ [])) (next_of wanted (packets ++ p ∷ []))
steps login wanted [] (Accepted session next) = same_standing login _ _ _ _ refl (first_next next)
steps login wanted [] (Rejected why) = refl
steps login wanted [] (Sequenced payload) = refl
steps login wanted [] Heartbeat = refl
steps login wanted [] EndOfSession = refl
steps login wanted (Accepted session next ∷ more) p = accepted_hears login next more p (list_any is_end more) refl
steps login wanted (Rejected why ∷ more) p = refl
steps login wanted (Sequenced payload ∷ more) p = steps login wanted more p
steps login wanted (Heartbeat ∷ more) p = steps login wanted more p
steps login wanted (EndOfSession ∷ more) p = refl

pub has_heard : (before after : SessionView) (asked : LoginRequest) (packets : List ServerPacket) (p : ServerPacket) → HasHeard before asked packets → after ≡ standing_after before (heard_as before.stage before.next p)
    → HasHeard after asked (packets ++ p ∷ [])
has_heard before after asked packets p h e =
    let known : before ≡ standing asked (stage_of packets) (next_of asked.wanted packets) = λ i. standing (h.login i) (h.stage i) (h.next i) in
    let whole : after ≡ standing asked (stage_of (packets ++ p ∷ [])) (next_of asked.wanted (packets ++ p ∷ [])) = e ∙ (ap (λ (s : SessionView). standing_after s (heard_as s.stage s.next p)) known ∙ steps asked asked.wanted packets p) in
    record {
      login = ap (λ (s : SessionView). s.login) whole;
      stage = ap (λ (s : SessionView). s.stage) whole;
      next = ap (λ (s : SessionView). s.next) whole;
    }

pub is_heard_as : (before : SessionView) (asked : LoginRequest) (packets : List ServerPacket) (p : ServerPacket) → HasHeard before asked packets → heard_as before.stage before.next p ≡ heard_after asked.wanted packets p
is_heard_as before asked packets p h = λ i. heard_as (h.stage i) (h.next i) p

report_at : (m n : ℕ) → m ≡ n → n < greatest → (if nat_lt m greatest then Heard.Report m else Heard.Unexpected) ≡ Heard.Report n
report_at m n e h =
    ap (λ (x : ℕ). if nat_lt x greatest then Heard.Report x else Heard.Unexpected) e ∙ ap (λ (t : Bool). if t then Heard.Report n else Heard.Unexpected) (is_less n h)

not_capped : (first before : ℕ) → first + before < greatest → min (first + before) greatest ≡ first + before
not_capped first before h = omega arith

-- a report behind a Login Accepted has the number that is its own
pub reports_are_numbered : (name : SessionName) (first wanted : ℕ) (packets : List ServerPacket) (payload : List ℕ) → list_any is_end packets ≡ false → first + reports_in packets < greatest
    → heard_after wanted (Accepted name first ∷ packets) (Sequenced payload) ≡ Heard.Report (first + reports_in packets)
reports_are_numbered name first wanted packets payload on fits =
    ap (λ (b : Bool). heard_as (if b then Over else On) (min (first + reports_in packets) greatest) (Sequenced payload)) on
    ∙ report_at (min (first + reports_in packets) greatest) (first + reports_in packets) (not_capped first (reports_in packets) fits) fits

-- a session that is over expects nothing
pub nothing_expected : (wanted : ℕ) (packets : List ServerPacket) (p : ServerPacket) → stage_of packets ≡ Over → heard_after wanted packets p ≡ Heard.Unexpected
nothing_expected wanted packets p h = ap (λ (s : Stage). heard_as s (next_of wanted packets) p) h

any_more : (b : Bool) → (if b then Over else On) ≡ Over → b ≡ true
any_more true h = refl
any_more false h = cc

pub stays_over : (packets more : List ServerPacket) → stage_of packets ≡ Over → stage_of (packets ++ more) ≡ Over
stays_over [] more h = cc
stays_over (Accepted name first ∷ packets) more h =
    ap (λ (b : Bool). if b then Over else On) (list_any-append is_end packets more ∙ ap (λ (b : Bool). b || list_any is_end more) (any_more (list_any is_end packets) h))
stays_over (Rejected why ∷ packets) more h = refl
stays_over (Sequenced payload ∷ packets) more h = stays_over packets more h
stays_over (Heartbeat ∷ packets) more h = stays_over packets more h
stays_over (EndOfSession ∷ packets) more h = refl
