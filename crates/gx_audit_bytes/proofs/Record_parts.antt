-- A record is written as the bytes that show it where its parts stand there.
use Rattle.gx_units.proofs.{Lists_hold.IsBytes, Test_known.is_true}
use Rattle.std.proofs.{Common.{◌≡◌, ℕ, ◌+◌, ◌-◌, ◌≤◌, ◌&&◌, ◌||◌, ◌==◌, Bool, true, false, List, [], ◌∷◌, ◌++◌, length, take, drop, map, get_or, slice_index, refl, sym, ap, ◌∙◌, arith}, lemmas.{Bool.{eqb-true, and_parts, and_from, eq-eqb}, List.{take-append-drop, drop_at, length-append}, Slice.Eq.bytes_eq-Decides, Option.same_Some}}
use Rattle.std.specs.{Prelude.{Option, Some, None, option_map, option_and_then, replicate, codes, unwrap_or, if◌then◌else◌, bytes_eq, IsTrue}, List.find, Int.{w8, w16, w32, w64, to_be_bytes, from_be_bytes}}
use Rattle.gx_ouch.proofs.{Fields_placed.{known_to_lie, same_head, same_tail}, Requests_read.one_byte}
use Rattle.gx_ouch.specs.{Layout.{field, bytes_at, field_bytes, laid_out, with_fields}, Writing.letter}
use Rattle.gx_desk.specs.{declared.{Action.Action, Tag.Tag}, Contents.command_layout}
use Rattle.gx_policy.specs.{declared.rule_name.RuleName.RuleName, RuleNames.{rule_id, rules_before, rules_behind}}
use Rattle.gx_history.specs.{Payloads.request_of, Requests.{handed_moment, line_asked}, declared.«record».{RecordData.RecordData, Request.Request, Step.Step, Asked.Asked, Verdict.Verdict, Fill.Fill}}
use Rattle.gx_audit_bytes.specs.{declared.version.AuditVersion.AuditVersion, Versions.mark_of, Bodies.{yes_or_no, zero_padded, request_body, request_kind}, Records.{audit_record, record_contents, record_bytes, HasPlaces, number_place, handed_place, moment_place, line_place, user_place, kind_place, body_place, verdict_place, rule_place, order_place, maker_place, shares_place, price_place, user_shown, kind_shown, body_shown, verdict_letter, rule_shown, order_shown, maker_shown, shares_shown, price_shown}, Reading.{part, login_in, unreadable_in, request_in, step_of_bytes, step_shown, rule_of_bytes, verdict_of_bytes, verdict_shown, content_in, content_with, record_of, IsRecordShown}, Written.{has_mark, body_size, is_free, is_answer, has_answers, is_request_written, is_step_written, has_no_rule, has_no_order, has_no_fill, is_verdict_written, has_parts}}
use Rattle.gx_audit_bytes.proofs.{Message_written.{bytes-take, bytes-drop, sized, one, two, four, eight, fields_back, laid_back, is_message, message_back}}
use Rattle.gx_policy.proofs.Name_whole.{take_whole}

-- ---- tests

same : (xs ys : List ℕ) → bytes_eq xs ys ≡ true → xs ≡ ys
same xs ys h = (bytes_eq-Decides xs ys).0 h

tests : (xs ys : List ℕ) → xs ≡ ys → bytes_eq xs ys ≡ true
tests xs ys h = (bytes_eq-Decides xs ys).1 h

agree : (b : Bool) (xs ys : List ℕ) → (b ≡ true → xs ≡ ys) → (xs ≡ ys → b ≡ true) → b ≡ bytes_eq xs ys
agree true xs ys there back = sym (tests xs ys (there refl))
agree false xs ys there back = go (bytes_eq xs ys) refl
  where
    go : (t : Bool) → bytes_eq xs ys ≡ t → false ≡ t
    go true e = back (same xs ys e)
    go false e = refl

-- ---- the request

answer_back : (byte : ℕ) → is_answer byte ≡ true → yes_or_no (byte == 89) ≡ byte
answer_back byte h = go (byte == 89) refl
  where
    go : (t : Bool) → (byte == 89) ≡ t → yes_or_no t ≡ byte
    go true e = sym (eqb-true byte 89 e)
    go false e = sym (eqb-true byte 78 (ap (λ (t : Bool). t || (byte == 78)) (sym e) ∙ h))

is_an_answer : (right : Bool) → is_answer (yes_or_no right) ≡ true
is_an_answer true = refl
is_an_answer false = refl

login_laid : (body : List ℕ) → IsBytes body → length body ≡ 58 → is_answer (from_be_bytes w8 (part 0 1 body)) ≡ true → is_answer (from_be_bytes w8 (part 1 1 body)) ≡ true → request_body (login_in body) ≡ take 10 body
unfolding request_body
login_laid body h size password session =
    (λ i. with_fields [] (first i ∷ second i ∷ eight 2 body h (omega (arith, size)) i ∷ []))
    ∙ fields_back (field 0 1 ∷ field 1 1 ∷ field 2 8 ∷ []) body 0 refl
  where
    first : letter (yes_or_no (from_be_bytes w8 (part 0 1 body) == 89)) ≡ part 0 1 body
    first = ap letter (answer_back (from_be_bytes w8 (part 0 1 body)) password) ∙ one 0 body (omega (arith, size))

    second : letter (yes_or_no (from_be_bytes w8 (part 1 1 body) == 89)) ≡ part 1 1 body
    second = ap letter (answer_back (from_be_bytes w8 (part 1 1 body)) session) ∙ one 1 body (omega (arith, size))

unreadable_laid : (body : List ℕ) → IsBytes body → length body ≡ 58 → request_body (unreadable_in body) ≡ take 3 body
unfolding request_body
unreadable_laid body h size =
    (λ i. with_fields [] (two 0 body h (omega (arith, size)) i ∷ one 2 body (omega (arith, size)) i ∷ []))
    ∙ fields_back (field 0 2 ∷ field 2 1 ∷ []) body 0 refl

logout_laid : (body : List ℕ) → request_body Request.Logout ≡ take 0 body
unfolding request_body
logout_laid body = refl

-- a message in front of the body
message_laid : (size : ℕ) (body : List ℕ) (q : Request) → IsBytes body → Some (request_of (take size body)) ≡ Some q → is_message q ≡ true → request_body q ≡ take size body
message_laid size body q h read message = message_back (take size body) q (bytes-take size body h) (same_Some _ _ read) message

command_laid : (tag : Tag) (action : Action) (body : List ℕ) → IsBytes body → request_in (request_kind (Request.Command (record { tag = tag; action = action }))) body ≡ Some (Request.Command (record { tag = tag; action = action }))
    → request_body (Request.Command (record { tag = tag; action = action })) ≡ take (command_layout action).size body
unfolding request_in
command_laid tag (Action.Kill account) body h read = message_laid 23 body _ h read refl
command_laid tag (Action.Lift account) body h read = message_laid 23 body _ h read refl
command_laid tag (Action.SetLimit rule limit) body h read = message_laid 31 body _ h read refl
command_laid tag (Action.Restrict rule stock) body h read = message_laid 31 body _ h read refl
command_laid tag (Action.Unrestrict rule stock) body h read = message_laid 31 body _ h read refl
command_laid tag (Action.Grant reader account) body h read = message_laid 29 body _ h read refl
command_laid tag (Action.Revoke reader account) body h read = message_laid 29 body _ h read refl
command_laid tag Action.CloseDay body h read = message_laid 15 body _ h read refl

-- what is read of a body is written as its front
request_laid : (q : Request) (body : List ℕ) → IsBytes body → length body ≡ 58 → request_in (request_kind q) body ≡ Some q → has_answers q body ≡ true → request_body q ≡ take (body_size q) body
unfolding request_in
request_laid (Request.Login m) body h size read answers =
    let two_answers = and_parts (is_answer (from_be_bytes w8 (part 0 1 body))) (is_answer (from_be_bytes w8 (part 1 1 body))) answers in
    ap request_body (sym (same_Some _ _ read)) ∙ login_laid body h size two_answers.0 two_answers.1
request_laid Request.Logout body h size read answers = logout_laid body
request_laid (Request.Unreadable m) body h size read answers = ap request_body (sym (same_Some _ _ read)) ∙ unreadable_laid body h size
request_laid (Request.Enter m) body h size read answers = message_laid 49 body _ h read refl
request_laid (Request.Replace m) body h size read answers = message_laid 47 body _ h read refl
request_laid (Request.Cancel m) body h size read answers = message_laid 19 body _ h read refl
request_laid (Request.Command c) body h size read answers = command_laid c.tag c.action body h read

command_fits : (action : Action) → (command_layout action).size ≤ 58
command_fits (Action.Kill account) = omega arith
command_fits (Action.Lift account) = omega arith
command_fits (Action.SetLimit rule limit) = omega arith
command_fits (Action.Restrict rule stock) = omega arith
command_fits (Action.Unrestrict rule stock) = omega arith
command_fits (Action.Grant reader account) = omega arith
command_fits (Action.Revoke reader account) = omega arith
command_fits Action.CloseDay = omega arith

body_fits : (q : Request) → body_size q ≤ 58
body_fits (Request.Login m) = omega arith
body_fits Request.Logout = omega arith
body_fits (Request.Unreadable m) = omega arith
body_fits (Request.Enter m) = omega arith
body_fits (Request.Replace m) = omega arith
body_fits (Request.Cancel m) = omega arith
body_fits (Request.Command c) = command_fits c.action

-- zero bytes behind the front
padded : (n : ℕ) (front body : List ℕ) → n ≤ 58 → length body ≡ 58 → front ≡ take n body → drop n body ≡ replicate (58 - n) 0 → zero_padded 58 front ≡ body
padded n front body fits size is free =
    ap (zero_padded 58) is
    ∙ ap (λ (k : ℕ). take n body ++ replicate (58 - k) 0) (sized 0 n body (omega (arith, fits, size)))
    ∙ ap (λ (rest : List ℕ). take n body ++ rest) (sym free)
    ∙ take-append-drop n body

freed : (n : ℕ) (front body : List ℕ) → n ≤ 58 → length body ≡ 58 → front ≡ take n body → zero_padded 58 front ≡ body → drop n body ≡ replicate (58 - n) 0
freed n front body fits size is whole =
    ap (drop n) (sym whole)
    ∙ drop_at front (replicate (58 - length front) 0) n long
    ∙ ap (λ (k : ℕ). replicate (58 - k) 0) long
  where
    long : length front ≡ n
    long = ap length is ∙ sized 0 n body (omega (arith, fits, size))

-- a Login that is written has its answers
answered : (q : Request) (body : List ℕ) → zero_padded 58 (request_body q) ≡ body → has_answers q body ≡ true
unfolding request_body
answered (Request.Login m) body whole =
    and_from (is_answer (from_be_bytes w8 (part 0 1 body))) (is_answer (from_be_bytes w8 (part 1 1 body)))
    (ap (λ (bs : List ℕ). is_answer (from_be_bytes w8 (part 0 1 bs))) (sym whole) ∙ ap is_answer (one_byte (yes_or_no m.password_is_right)) ∙ is_an_answer m.password_is_right)
    (ap (λ (bs : List ℕ). is_answer (from_be_bytes w8 (part 1 1 bs))) (sym whole) ∙ ap is_answer (one_byte (yes_or_no m.session_is_right)) ∙ is_an_answer m.session_is_right)
answered Request.Logout body whole = refl
answered (Request.Unreadable m) body whole = refl
answered (Request.Enter m) body whole = refl
answered (Request.Replace m) body whole = refl
answered (Request.Cancel m) body whole = refl
answered (Request.Command c) body whole = refl

read_by : (kind : ℕ) (q : Request) (body : List ℕ) → request_in kind body ≡ Some q → kind ≡ request_kind q → request_in (request_kind q) body ≡ Some q
read_by kind q body read is = ap (λ (k : ℕ). request_in k body) (sym is) ∙ read

-- the request's kind and its body stand there
request_stands : (q : Request) (kind : ℕ) (body : List ℕ) → IsBytes body → length body ≡ 58 → request_in kind body ≡ Some q → is_request_written q kind body ≡ true
    → (kind ≡ request_kind q) × (zero_padded 58 (request_body q) ≡ body)
request_stands q kind body h size read tested =
    let by_kind = and_parts (kind == request_kind q) (has_answers q body && is_free (body_size q) body) tested in
    let by_body = and_parts (has_answers q body) (is_free (body_size q) body) by_kind.1 in
    let is = eqb-true kind (request_kind q) by_kind.0 in
    (is, padded (body_size q) (request_body q) body (body_fits q) size (request_laid q body h size (read_by kind q body read is) by_body.0) (same _ _ by_body.1))

request_tested : (q : Request) (kind : ℕ) (body : List ℕ) → IsBytes body → length body ≡ 58 → request_in kind body ≡ Some q → kind ≡ request_kind q → zero_padded 58 (request_body q) ≡ body
    → is_request_written q kind body ≡ true
request_tested q kind body h size read is whole =
    and_from (kind == request_kind q) _ (eq-eqb kind (request_kind q) is)
    (and_from (has_answers q body) _ (answered q body whole)
    (tests _ _ (freed (body_size q) (request_body q) body (body_fits q) size (request_laid q body h size (read_by kind q body read is) (answered q body whole)) whole)))

-- ---- the step

abbrev asked_with : ℕ → ℕ → List ℕ → Request → Step
asked_with handed line user q = Step.Asked (record { line = line; user = record { bytes = user }; request = q; handed = handed })

-- the parts of a step are those that it was read from
record IsAskedOf (a : Asked) (handed line : ℕ) (user : List ℕ) (found : Option Request) : Type 0 where
  handed_is : handed ≡ a.handed
  line_is : line ≡ a.line
  user_is : user ≡ a.user.bytes
  request_is : found ≡ Some a.request

asked_same : (x a : Asked) → Some (Step.Asked x) ≡ Some (Step.Asked a) → x ≡ a
asked_same x a e = cc

asked_inside : (matches : Bool) (handed line : ℕ) (user : List ℕ) (found : Option Request) (a : Asked)
    → (if matches then Some (Step.Matching handed) else option_map (asked_with handed line user) found) ≡ Some (Step.Asked a) → IsAskedOf a handed line user found
asked_inside true handed line user found a e = absurd cc
asked_inside false handed line user None a e = absurd cc
asked_inside false handed line user (Some q) a e =
    let is = asked_same (record { line = line; user = record { bytes = user }; request = q; handed = handed }) a e in
    record {
      handed_is = ap (λ (x : Asked). x.handed) is;
      line_is = ap (λ (x : Asked). x.line) is;
      user_is = ap (λ (x : Asked). x.user.bytes) is;
      request_is = ap (λ (x : Asked). Some x.request) is;
    }

matching_inside : (matches : Bool) (handed line : ℕ) (user : List ℕ) (found : Option Request) (moment : ℕ)
    → (if matches then Some (Step.Matching handed) else option_map (asked_with handed line user) found) ≡ Some (Step.Matching moment) → (matches ≡ true) × (handed ≡ moment)
matching_inside true handed line user found moment e = (refl, cc)
matching_inside false handed line user None moment e = absurd cc
matching_inside false handed line user (Some q) moment e = absurd cc

-- each part of the step stands at its place
record StepStands (s : Step) (bytes : List ℕ) : Type 0 where
  line : to_be_bytes w16 (line_asked s) ≡ bytes_at line_place bytes
  user : user_shown s ≡ bytes_at user_place bytes
  kind : letter (kind_shown s) ≡ bytes_at kind_place bytes
  body : zero_padded 58 (body_shown s) ≡ bytes_at body_place bytes

body_bytes : (bytes : List ℕ) → IsBytes bytes → IsBytes (bytes_at body_place bytes)
body_bytes bytes h = bytes-take 58 (drop 37 bytes) (bytes-drop 37 bytes h)

asked_of : (a : Asked) (bytes : List ℕ) → step_shown bytes ≡ Some (Step.Asked a)
    → IsAskedOf a (from_be_bytes w64 (bytes_at handed_place bytes)) (from_be_bytes w16 (bytes_at line_place bytes)) (bytes_at user_place bytes) (request_in (from_be_bytes w8 (bytes_at kind_place bytes)) (bytes_at body_place bytes))
unfolding step_shown step_of_bytes
asked_of a bytes shown = asked_inside (from_be_bytes w8 (bytes_at kind_place bytes) == 52) _ _ _ _ a shown

matching_of : (moment : ℕ) (bytes : List ℕ) → step_shown bytes ≡ Some (Step.Matching moment) → ((from_be_bytes w8 (bytes_at kind_place bytes) == 52) ≡ true) × (from_be_bytes w64 (bytes_at handed_place bytes) ≡ moment)
unfolding step_shown step_of_bytes
matching_of moment bytes shown =
    matching_inside (from_be_bytes w8 (bytes_at kind_place bytes) == 52) (from_be_bytes w64 (bytes_at handed_place bytes)) (from_be_bytes w16 (bytes_at line_place bytes)) (bytes_at user_place bytes) (request_in (from_be_bytes w8 (bytes_at kind_place bytes)) (bytes_at body_place bytes)) moment shown

handed_stands : (s : Step) (bytes : List ℕ) → IsBytes bytes → length bytes ≡ 128 → step_shown bytes ≡ Some s → to_be_bytes w64 (handed_moment s) ≡ bytes_at handed_place bytes
handed_stands (Step.Asked a) bytes h size shown = ap (to_be_bytes w64) (sym (asked_of a bytes shown).handed_is) ∙ eight 12 bytes h (omega (arith, size))
handed_stands (Step.Matching moment) bytes h size shown = ap (to_be_bytes w64) (sym (matching_of moment bytes shown).1) ∙ eight 12 bytes h (omega (arith, size))

user_size : (s : Step) (bytes : List ℕ) → length bytes ≡ 128 → step_shown bytes ≡ Some s → length (user_shown s) ≡ 6
user_size (Step.Asked a) bytes size shown = ap length (sym (asked_of a bytes shown).user_is) ∙ sized 30 6 bytes (omega (arith, size))
user_size (Step.Matching moment) bytes size shown = refl

step_stands : (s : Step) (bytes : List ℕ) → IsBytes bytes → length bytes ≡ 128 → step_shown bytes ≡ Some s → is_step_written s bytes ≡ true → StepStands s bytes
step_stands (Step.Asked a) bytes h size shown tested =
    let is = asked_of a bytes shown in
    let stands = request_stands a.request (from_be_bytes w8 (bytes_at kind_place bytes)) (bytes_at body_place bytes) (body_bytes bytes h) (sized 37 58 bytes (omega (arith, size))) is.request_is tested in
    record {
      line = ap (to_be_bytes w16) (sym is.line_is) ∙ two 28 bytes h (omega (arith, size));
      user = sym is.user_is;
      kind = ap letter (sym stands.0) ∙ one 36 bytes (omega (arith, size));
      body = stands.1;
    }
step_stands (Step.Matching moment) bytes h size shown tested =
    let by_line = and_parts (bytes_eq (bytes_at line_place bytes) (replicate 2 0)) _ tested in
    let by_user = and_parts (bytes_eq (bytes_at user_place bytes) (codes "      ")) _ by_line.1 in
    record {
      line = sym (same _ _ by_line.0);
      user = sym (same _ _ by_user.0);
      kind = ap letter (sym (eqb-true (from_be_bytes w8 (bytes_at kind_place bytes)) 52 (matching_of moment bytes shown).0)) ∙ one 36 bytes (omega (arith, size));
      body = sym (same _ _ by_user.1);
    }

step_tested : (s : Step) (bytes : List ℕ) → IsBytes bytes → length bytes ≡ 128 → step_shown bytes ≡ Some s → StepStands s bytes → is_step_written s bytes ≡ true
step_tested (Step.Asked a) bytes h size shown stands =
    request_tested a.request (from_be_bytes w8 (bytes_at kind_place bytes)) (bytes_at body_place bytes) (body_bytes bytes h) (sized 37 58 bytes (omega (arith, size))) (asked_of a bytes shown).request_is
    (ap (from_be_bytes w8) (sym stands.kind) ∙ one_byte (request_kind a.request)) stands.body
step_tested (Step.Matching moment) bytes h size shown stands =
    and_from (bytes_eq (bytes_at line_place bytes) (replicate 2 0)) _ (tests _ _ (sym stands.line))
    (and_from (bytes_eq (bytes_at user_place bytes) (codes "      ")) _ (tests _ _ (sym stands.user)) (tests _ _ (sym stands.body)))

-- ---- the verdict

-- what is found, if it is something, has this letter
abbrev Tells : ℕ → Option Verdict → Type 0
Tells n found = (v : Verdict) → found ≡ Some v → n ≡ verdict_letter v

tell : (n : ℕ) (x : Verdict) → n ≡ verdict_letter x → Tells n (Some x)
tell n x is v e = is ∙ ap (λ (found : Option Verdict). letter_of found) e
  where
    letter_of : Option Verdict → ℕ
    letter_of None = n
    letter_of (Some y) = verdict_letter y

by_letter : (n k : ℕ) (this rest : Option Verdict) → (n ≡ k → Tells n this) → Tells n rest → Tells n (if n == k then this else rest)
by_letter n k this rest here there = go (n == k) refl
  where
    go : (t : Bool) → (n == k) ≡ t → Tells n (if t then this else rest)
    go true e = here (eqb-true n k e)
    go false e = there

letter_read : (n : ℕ) (rule : List ℕ) (order maker shares price : ℕ) (v : Verdict) → verdict_of_bytes n rule order maker shares price ≡ Some v → n ≡ verdict_letter v
unfolding verdict_of_bytes
letter_read n rule order maker shares price v =
    by_letter n 71 _ _ (tell n _)
    (by_letter n 68 _ _ (tell n _)
    (by_letter n 70 _ _ (tell n _)
    (by_letter n 82 _ _ (tell n _)
    (by_letter n 69 _ _ (tell n _) (λ w e. cc))))) v

found_named : (name : List ℕ) (rules : List RuleName) (x : RuleName) → find (λ rule. bytes_eq (rule_id rule).bytes name) rules ≡ Some x → (rule_id x).bytes ≡ name
found_named name [] x e = cc
found_named name (rule ∷ rules) x e = go (bytes_eq (rule_id rule).bytes name) refl (found_named name rules x) e
  where
    behind : Option RuleName
    behind = find (λ r. bytes_eq (rule_id r).bytes name) rules

    go : (t : Bool) → bytes_eq (rule_id rule).bytes name ≡ t → (behind ≡ Some x → (rule_id x).bytes ≡ name) → (if t then Some rule else behind) ≡ Some x → (rule_id x).bytes ≡ name
    go true is others found = ap (λ (r : RuleName). (rule_id r).bytes) (sym (same_Some rule x found)) ∙ same _ _ is
    go false is others found = others found

named : (name : List ℕ) (found : Option RuleName) → length name ≡ 8 → ((x : RuleName) → found ≡ Some x → (rule_id x).bytes ≡ name) → (rule_id (unwrap_or found (RuleName.File (record { bytes = name })))).bytes ≡ name
named name None size is = take_whole name (codes "        ") size
named name (Some x) size is = is x refl

-- a rule is named by the field that it was read from
rule_back : (name : List ℕ) → length name ≡ 8 → (rule_id (rule_of_bytes name)).bytes ≡ name
unfolding rule_of_bytes
rule_back name size = named name (find (λ rule. bytes_eq (rule_id rule).bytes name) (rules_before ++ rules_behind)) size (found_named name (rules_before ++ rules_behind))

denied_same : (x y : RuleName) → Some (Verdict.Denied x) ≡ Some (Verdict.Denied y) → x ≡ y
denied_same x y e = cc

filled_same : (x y : Fill) → Some (Verdict.Filled x) ≡ Some (Verdict.Filled y) → x ≡ y
filled_same x y e = cc

rested_same : (x y : ℕ) → Some (Verdict.Rested x) ≡ Some (Verdict.Rested y) → x ≡ y
rested_same x y e = cc

expired_same : (x y : ℕ) → Some (Verdict.Expired x) ≡ Some (Verdict.Expired y) → x ≡ y
expired_same x y e = cc

-- each part of the verdict stands at its place
record VerdictStands (v : Verdict) (bytes : List ℕ) : Type 0 where
  rule : rule_shown v ≡ bytes_at rule_place bytes
  order : to_be_bytes w64 (order_shown v) ≡ bytes_at order_place bytes
  maker : to_be_bytes w64 (maker_shown v) ≡ bytes_at maker_place bytes
  shares : to_be_bytes w32 (shares_shown v) ≡ bytes_at shares_place bytes
  price : to_be_bytes w32 (price_shown v) ≡ bytes_at price_place bytes

-- the verdict, by its letter
abbrev lettered : ℕ → List ℕ → Option Verdict
lettered n bytes =
    verdict_of_bytes n (bytes_at rule_place bytes) (from_be_bytes w64 (bytes_at order_place bytes)) (from_be_bytes w64 (bytes_at maker_place bytes)) (from_be_bytes w32 (bytes_at shares_place bytes)) (from_be_bytes w32 (bytes_at price_place bytes))

letter_shown : (v : Verdict) (bytes : List ℕ) → verdict_shown bytes ≡ Some v → from_be_bytes w8 (bytes_at verdict_place bytes) ≡ verdict_letter v
unfolding verdict_shown
letter_shown v bytes shown = letter_read (from_be_bytes w8 (bytes_at verdict_place bytes)) _ _ _ _ _ v shown

by_its_letter : (v : Verdict) (bytes : List ℕ) → verdict_shown bytes ≡ Some v → lettered (verdict_letter v) bytes ≡ Some v
unfolding verdict_shown
by_its_letter v bytes shown = ap (λ (n : ℕ). lettered n bytes) (sym (letter_shown v bytes shown)) ∙ shown

denied_rule : (rule : RuleName) (bytes : List ℕ) → length bytes ≡ 128 → verdict_shown bytes ≡ Some (Verdict.Denied rule) → (rule_id rule).bytes ≡ bytes_at rule_place bytes
unfolding verdict_of_bytes
denied_rule rule bytes size shown =
    ap (λ (r : RuleName). (rule_id r).bytes) (sym (denied_same (rule_of_bytes (bytes_at rule_place bytes)) rule (by_its_letter (Verdict.Denied rule) bytes shown)))
    ∙ rule_back (bytes_at rule_place bytes) (sized 96 8 bytes (omega (arith, size)))

filled_of : (fill : Fill) (bytes : List ℕ) → verdict_shown bytes ≡ Some (Verdict.Filled fill)
    → record { taker = from_be_bytes w64 (bytes_at order_place bytes); maker = from_be_bytes w64 (bytes_at maker_place bytes); shares = from_be_bytes w32 (bytes_at shares_place bytes); price = from_be_bytes w32 (bytes_at price_place bytes) } ≡ fill
unfolding verdict_of_bytes
filled_of fill bytes shown = filled_same _ fill (by_its_letter (Verdict.Filled fill) bytes shown)

rested_of : (order : ℕ) (bytes : List ℕ) → verdict_shown bytes ≡ Some (Verdict.Rested order) → from_be_bytes w64 (bytes_at order_place bytes) ≡ order
unfolding verdict_of_bytes
rested_of order bytes shown = rested_same _ order (by_its_letter (Verdict.Rested order) bytes shown)

expired_of : (order : ℕ) (bytes : List ℕ) → verdict_shown bytes ≡ Some (Verdict.Expired order) → from_be_bytes w64 (bytes_at order_place bytes) ≡ order
unfolding verdict_of_bytes
expired_of order bytes shown = expired_same _ order (by_its_letter (Verdict.Expired order) bytes shown)

rule_size : (v : Verdict) (bytes : List ℕ) → length bytes ≡ 128 → verdict_shown bytes ≡ Some v → length (rule_shown v) ≡ 8
rule_size Verdict.Granted bytes size shown = refl
rule_size (Verdict.Denied rule) bytes size shown = ap length (denied_rule rule bytes size shown) ∙ sized 96 8 bytes (omega (arith, size))
rule_size (Verdict.Filled fill) bytes size shown = refl
rule_size (Verdict.Rested order) bytes size shown = refl
rule_size (Verdict.Expired order) bytes size shown = refl

-- no fill is shown
record NoFill (bytes : List ℕ) : Type 0 where
  maker : replicate 8 0 ≡ bytes_at maker_place bytes
  shares : replicate 4 0 ≡ bytes_at shares_place bytes
  price : replicate 4 0 ≡ bytes_at price_place bytes

no_fill : (bytes : List ℕ) → has_no_fill bytes ≡ true → NoFill bytes
no_fill bytes tested =
    let by_maker = and_parts (bytes_eq (bytes_at maker_place bytes) (replicate 8 0)) _ tested in
    let by_shares = and_parts (bytes_eq (bytes_at shares_place bytes) (replicate 4 0)) _ by_maker.1 in
    record { maker = sym (same _ _ by_maker.0); shares = sym (same _ _ by_shares.0); price = sym (same _ _ by_shares.1) }

no_fill_tested : (bytes : List ℕ) → NoFill bytes → has_no_fill bytes ≡ true
no_fill_tested bytes none =
    and_from (bytes_eq (bytes_at maker_place bytes) (replicate 8 0)) _ (tests _ _ (sym none.maker))
    (and_from (bytes_eq (bytes_at shares_place bytes) (replicate 4 0)) _ (tests _ _ (sym none.shares)) (tests _ _ (sym none.price)))

verdict_stands : (v : Verdict) (bytes : List ℕ) → IsBytes bytes → length bytes ≡ 128 → verdict_shown bytes ≡ Some v → is_verdict_written v bytes ≡ true → VerdictStands v bytes
verdict_stands Verdict.Granted bytes h size shown tested =
    let by_rule = and_parts (has_no_rule bytes) (has_no_order bytes && has_no_fill bytes) tested in
    let by_order = and_parts (has_no_order bytes) (has_no_fill bytes) by_rule.1 in
    let none = no_fill bytes by_order.1 in
    record { rule = sym (same _ _ by_rule.0); order = sym (same _ _ by_order.0); maker = none.maker; shares = none.shares; price = none.price }
verdict_stands (Verdict.Denied rule) bytes h size shown tested =
    let by_order = and_parts (has_no_order bytes) (has_no_fill bytes) tested in
    let none = no_fill bytes by_order.1 in
    record { rule = denied_rule rule bytes size shown; order = sym (same _ _ by_order.0); maker = none.maker; shares = none.shares; price = none.price }
verdict_stands (Verdict.Filled fill) bytes h size shown tested =
    let is = filled_of fill bytes shown in
    record {
      rule = sym (same _ _ tested);
      order = ap (λ (f : Fill). to_be_bytes w64 f.taker) (sym is) ∙ eight 104 bytes h (omega (arith, size));
      maker = ap (λ (f : Fill). to_be_bytes w64 f.maker) (sym is) ∙ eight 112 bytes h (omega (arith, size));
      shares = ap (λ (f : Fill). to_be_bytes w32 f.shares) (sym is) ∙ four 120 bytes h (omega (arith, size));
      price = ap (λ (f : Fill). to_be_bytes w32 f.price) (sym is) ∙ four 124 bytes h (omega (arith, size));
    }
verdict_stands (Verdict.Rested order) bytes h size shown tested =
    let by_rule = and_parts (has_no_rule bytes) (has_no_fill bytes) tested in
    let none = no_fill bytes by_rule.1 in
    record { rule = sym (same _ _ by_rule.0); order = ap (to_be_bytes w64) (sym (rested_of order bytes shown)) ∙ eight 104 bytes h (omega (arith, size)); maker = none.maker; shares = none.shares; price = none.price }
verdict_stands (Verdict.Expired order) bytes h size shown tested =
    let by_rule = and_parts (has_no_rule bytes) (has_no_fill bytes) tested in
    let none = no_fill bytes by_rule.1 in
    record { rule = sym (same _ _ by_rule.0); order = ap (to_be_bytes w64) (sym (expired_of order bytes shown)) ∙ eight 104 bytes h (omega (arith, size)); maker = none.maker; shares = none.shares; price = none.price }

verdict_tested : (v : Verdict) (bytes : List ℕ) → VerdictStands v bytes → is_verdict_written v bytes ≡ true
verdict_tested Verdict.Granted bytes stands =
    and_from (has_no_rule bytes) _ (tests _ _ (sym stands.rule))
    (and_from (has_no_order bytes) _ (tests _ _ (sym stands.order)) (no_fill_tested bytes (record { maker = stands.maker; shares = stands.shares; price = stands.price })))
verdict_tested (Verdict.Denied rule) bytes stands =
    and_from (has_no_order bytes) _ (tests _ _ (sym stands.order)) (no_fill_tested bytes (record { maker = stands.maker; shares = stands.shares; price = stands.price }))
verdict_tested (Verdict.Filled fill) bytes stands = tests _ _ (sym stands.rule)
verdict_tested (Verdict.Rested order) bytes stands =
    and_from (has_no_rule bytes) _ (tests _ _ (sym stands.rule)) (no_fill_tested bytes (record { maker = stands.maker; shares = stands.shares; price = stands.price }))
verdict_tested (Verdict.Expired order) bytes stands =
    and_from (has_no_rule bytes) _ (tests _ _ (sym stands.rule)) (no_fill_tested bytes (record { maker = stands.maker; shares = stands.shares; price = stands.price }))

-- ---- the record

-- the step and the verdict that were read, and the numbers
record IsContentOf (r : RecordData) (bytes : List ℕ) (step : Option Step) (verdict : Option Verdict) : Type 0 where
  step_is : step ≡ Some r.step
  verdict_is : verdict ≡ Some r.verdict
  number_is : from_be_bytes w64 (bytes_at number_place bytes) ≡ r.number
  moment_is : from_be_bytes w64 (bytes_at moment_place bytes) ≡ r.moment

content_inside : (r : RecordData) (bytes : List ℕ) (step : Option Step) (verdict : Option Verdict)
    → option_and_then (λ (s : Step). option_map (content_with bytes s) verdict) step ≡ Some r → IsContentOf r bytes step verdict
content_inside r bytes None verdict e = absurd cc
content_inside r bytes (Some s) None e = absurd cc
content_inside r bytes (Some s) (Some v) e =
    let is = same_Some (content_with bytes s v) r e in
    record {
      step_is = ap (λ (x : RecordData). Some x.step) is;
      verdict_is = ap (λ (x : RecordData). Some x.verdict) is;
      number_is = ap (λ (x : RecordData). x.number) is;
      moment_is = ap (λ (x : RecordData). x.moment) is;
    }

content_of : (r : RecordData) (bytes : List ℕ) → content_in bytes ≡ Some r → IsContentOf r bytes (step_shown bytes) (verdict_shown bytes)
unfolding content_in
content_of r bytes shown = content_inside r bytes (step_shown bytes) (verdict_shown bytes) shown

mark_in : (mark bytes : List ℕ) → take 4 bytes ≡ 71 ∷ mark → (slice_index bytes 0 ≡ 71) × (mark ≡ take 3 (drop 1 bytes))
mark_in mark [] e = absurd cc
mark_in mark (x ∷ xs) e = (same_head x 71 (take 3 xs) mark e, sym (same_tail x 71 (take 3 xs) mark e))

mark_kept : (version : AuditVersion) (r : RecordData) → has_mark version (record_bytes version r) ≡ true
unfolding record_bytes
mark_kept AuditVersion.One r = refl
mark_kept AuditVersion.Two r = refl
mark_kept (AuditVersion.Three day) r = refl

mark_size : (version : AuditVersion) → length (mark_of version) ≡ 3
mark_size AuditVersion.One = refl
mark_size AuditVersion.Two = refl
mark_size (AuditVersion.Three day) = refl

-- the parts of the record are those that are cut from the bytes
parts_are : (version : AuditVersion) (r : RecordData) (bytes : List ℕ) → IsBytes bytes → length bytes ≡ 128 → content_in bytes ≡ Some r → has_parts version r bytes ≡ true → record_contents version r ≡ field_bytes audit_record bytes
parts_are version r bytes h size shown tested =
    let is = content_of r bytes shown in
    let by_mark = and_parts (has_mark version bytes) (is_step_written r.step bytes && is_verdict_written r.verdict bytes) tested in
    let by_step = and_parts (is_step_written r.step bytes) (is_verdict_written r.verdict bytes) by_mark.1 in
    let step = step_stands r.step bytes h size is.step_is by_step.0 in
    let verdict = verdict_stands r.verdict bytes h size is.verdict_is by_step.1 in
    let mark = (mark_in (mark_of version) bytes (same _ _ by_mark.0)).1 in
    let number : to_be_bytes w64 r.number ≡ bytes_at number_place bytes = ap (to_be_bytes w64) (sym is.number_is) ∙ eight 4 bytes h (omega (arith, size)) in
    let moment : to_be_bytes w64 r.moment ≡ bytes_at moment_place bytes = ap (to_be_bytes w64) (sym is.moment_is) ∙ eight 20 bytes h (omega (arith, size)) in
    let handed = handed_stands r.step bytes h size is.step_is in
    let its_letter : letter (verdict_letter r.verdict) ≡ bytes_at verdict_place bytes = ap letter (sym (letter_shown r.verdict bytes is.verdict_is)) ∙ one 95 bytes (omega (arith, size)) in
    λ i. mark i ∷ number i ∷ handed i ∷ moment i ∷ step.line i ∷ step.user i ∷ step.kind i ∷ step.body i ∷ its_letter i ∷ verdict.rule i ∷ verdict.order i ∷ verdict.maker i ∷ verdict.shares i ∷ verdict.price i ∷ []

written_so : (version : AuditVersion) (r : RecordData) (bytes : List ℕ) → IsBytes bytes → length bytes ≡ 128 → content_in bytes ≡ Some r → has_parts version r bytes ≡ true → record_bytes version r ≡ bytes
unfolding record_bytes
written_so version r bytes h size shown tested =
    let by_mark = and_parts (has_mark version bytes) (is_step_written r.step bytes && is_verdict_written r.verdict bytes) tested in
    ap (laid_out audit_record) (parts_are version r bytes h size shown tested)
    ∙ laid_back audit_record bytes (record { offsets = refl; size = refl }) (omega arith) (mark_in (mark_of version) bytes (same _ _ by_mark.0)).0 size

cut_sizes : (bytes : List ℕ) → length bytes ≡ 128 → map length (field_bytes audit_record bytes) ≡ 3 ∷ 8 ∷ 8 ∷ 8 ∷ 2 ∷ 6 ∷ 1 ∷ 58 ∷ 1 ∷ 8 ∷ 8 ∷ 8 ∷ 4 ∷ 4 ∷ []
cut_sizes bytes size =
    λ i. sized 1 3 bytes (omega (arith, size)) i ∷ sized 4 8 bytes (omega (arith, size)) i ∷ sized 12 8 bytes (omega (arith, size)) i ∷ sized 20 8 bytes (omega (arith, size)) i ∷ sized 28 2 bytes (omega (arith, size)) i ∷ sized 30 6 bytes (omega (arith, size)) i
    ∷ sized 36 1 bytes (omega (arith, size)) i ∷ sized 37 58 bytes (omega (arith, size)) i ∷ sized 95 1 bytes (omega (arith, size)) i ∷ sized 96 8 bytes (omega (arith, size)) i ∷ sized 104 8 bytes (omega (arith, size)) i ∷ sized 112 8 bytes (omega (arith, size)) i
    ∷ sized 120 4 bytes (omega (arith, size)) i ∷ sized 124 4 bytes (omega (arith, size)) i ∷ []

-- each part has as many bytes as its place
pub has_places : (version : AuditVersion) (r : RecordData) (bytes : List ℕ) (result : Bool) → IsBytes bytes → length bytes ≡ 128 → content_in bytes ≡ Some r → result ≡ has_parts version r bytes → IsTrue result → HasPlaces version r
has_places version r bytes result h size shown is true_so =
    ap (map length) (parts_are version r bytes h size shown (sym is ∙ is_true result true_so)) ∙ cut_sizes bytes size

-- how many bytes there are with these fields behind so many
abbrev summed : ℕ → List (List ℕ) → ℕ
summed n [] = n
summed n (c ∷ cs) = summed (n + length c) cs

all_summed : (bytes : List ℕ) (contents : List (List ℕ)) → length (with_fields bytes contents) ≡ summed (length bytes) contents
all_summed bytes [] = refl
all_summed bytes (c ∷ cs) = all_summed (bytes ++ c) cs ∙ ap (λ (n : ℕ). summed n cs) (length-append bytes c)

body_left : (version : AuditVersion) (r : RecordData) (bytes : List ℕ) → length bytes ≡ 128 → length (user_shown r.step) ≡ 6 → length (rule_shown r.verdict) ≡ 8 → record_bytes version r ≡ bytes → length (zero_padded 58 (body_shown r.step)) ≡ 58
unfolding record_bytes
body_left version r bytes size user rule is =
    let mark = mark_size version in
    let whole : summed 1 (record_contents version r) ≡ 128 = sym (all_summed (71 ∷ []) (record_contents version r)) ∙ ap length is ∙ size in
    omega (arith, mark, user, rule, whole)

-- what is written so has all its parts there
tested_so : (version : AuditVersion) (r : RecordData) (bytes : List ℕ) → IsBytes bytes → length bytes ≡ 128 → content_in bytes ≡ Some r → record_bytes version r ≡ bytes → has_parts version r bytes ≡ true
unfolding record_bytes
tested_so version r bytes h size shown is =
    let content = content_of r bytes shown in
    let user = user_size r.step bytes size content.step_is in
    let rule = rule_size r.verdict bytes size content.verdict_is in
    let body = body_left version r bytes size user rule is in
    let mark = mark_size version in
    let places : HasPlaces version r = λ i. mark i ∷ 8 ∷ 8 ∷ 8 ∷ 2 ∷ user i ∷ 1 ∷ body i ∷ 1 ∷ rule i ∷ 8 ∷ 8 ∷ 4 ∷ 4 ∷ [] in
    let parts : field_bytes audit_record bytes ≡ record_contents version r = (known_to_lie audit_record (record_contents version r) bytes (sym is) (record { offsets = refl; size = refl }) places).fields in
    let at = λ (n : ℕ). ap (λ (ps : List (List ℕ)). get_or ps n []) (sym parts) in
    and_from (has_mark version bytes) _ (ap (has_mark version) (sym is) ∙ mark_kept version r)
    (and_from (is_step_written r.step bytes) _
    (step_tested r.step bytes h size content.step_is (record { line = at 4; user = at 5; kind = at 6; body = at 7 }))
    (verdict_tested r.verdict bytes (record { rule = at 9; order = at 10; maker = at 11; shares = at 12; price = at 13 })))

-- the parts tell whether the bytes are those that the record is written as
pub parts_tell : (version : AuditVersion) (r : RecordData) (bytes : List ℕ) (result : Bool) → IsBytes bytes → length bytes ≡ 128 → content_in bytes ≡ Some r → result ≡ has_parts version r bytes → result ≡ bytes_eq (record_bytes version r) bytes
parts_tell version r bytes result h size shown is =
    is ∙ agree (has_parts version r bytes) (record_bytes version r) bytes (written_so version r bytes h size shown) (tested_so version r bytes h size shown)

-- a record that is read has the places of one that is written
pub shown_so : (version : AuditVersion) (r : RecordData) (bytes : List ℕ) → HasPlaces version r → record_of version bytes ≡ Some r → record_bytes version r ≡ bytes → IsRecordShown version r
shown_so version r bytes places read is = record { places = places; read_back = ap (record_of version) is ∙ read }
