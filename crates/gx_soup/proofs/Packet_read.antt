-- A client's packet is read back as itself.
use Rattle.std.proofs.{Common.{◌≡◌, ℕ, ◌+◌, ◌-◌, ◌*◌, ◌/◌, ◌%◌, ◌^◌, ◌<◌, Bool, true, false, cond, not, ◌&&◌, ◌==◌, nat_lt, List, [], ◌∷◌, ◌++◌, length, take, drop, Some, refl, sym, ap, ◌∙◌, append_assoc, arith, decimal, replicate}, lemmas.{Bool.Decides.nat_tests, List.{take_at, take_all, drop_at, length-append, length-replicate}, Fmt.length-decimal-le}}
use Rattle.gx_soup.specs.{declared.{packet.{ClientPacket.ClientPacket, LoginRequest.LoginRequest, SoupFault.{SoupFault, TheVariants.ZeroLength}}}, Standard.{login_request, login_length, unsequenced_data, client_heartbeat, logout_request, debug}, Login.number_of, Packets.{Front, Short, Faulty, Whole, front, counted_front, typed_front, whole_front, login_front, is_client_type, with_packet, packets_of}, Writing.{framed_packet, number_field, login_payload, FitsFields, client_bytes, IsPacket}}
use Rattle.gx_soup.proofs.{Packets_next.packets_whole, Number_read.number_read}

told : (u l s : Bool) (x y : SoupFault) (w : Front) → u ≡ true → l ≡ false → s ≡ false → cond (not u) (Faulty x) (cond l (Faulty y) (cond s Short w)) ≡ w
told true false false x y w a b c = refl
told true false true x y w a b c = cc
told true true s x y w a b c = cc
told false l s x y w a b c = cc

at_login : (b : Bool) (n : ℕ) → (b ≡ true → n ≡ login_length) → (b && not (n == login_length)) ≡ false
at_login true n h = rw (h refl) refl
at_login false n h = refl

pub not_zero : (n : ℕ) → ((n + 1) == 0) ≡ false
not_zero n = grind (arith, nat_tests)

pub enough : (payload rest : List ℕ) → nat_lt (length (payload ++ rest)) (length payload + 1 - 1) ≡ false
enough payload rest = let e = length-append payload rest in grind (arith, nat_tests)

pub cut_at : (payload rest : List ℕ) → take (length payload + 1 - 1) (payload ++ rest) ≡ payload
cut_at payload rest = take_at payload rest (length payload + 1 - 1) (omega arith)

pub count_is : (n : ℕ) → 256 * (n / 256) + n % 256 ≡ n
count_is n = omega arith

typed_is : (kind : ℕ) (payload rest : List ℕ) → is_client_type kind ≡ true → ((kind == login_request) ≡ true → length payload ≡ 46) → typed_front (length payload + 1) (kind ∷ (payload ++ rest)) ≡ whole_front kind payload
typed_is kind payload rest known login =
    told (is_client_type kind) ((kind == login_request) && not (length payload + 1 == login_length)) (nat_lt (length (payload ++ rest)) (length payload + 1 - 1)) _ _ (whole_front kind (take (length payload + 1 - 1) (payload ++ rest))) known (at_login (kind == login_request) (length payload + 1) (λ b. let l = login b in omega arith)) (enough payload rest) ∙ ap (whole_front kind) (cut_at payload rest)

framed_front : (kind : ℕ) (payload rest : List ℕ) → is_client_type kind ≡ true → ((kind == login_request) ≡ true → length payload ≡ 46) → front (framed_packet kind payload ++ rest) ≡ whole_front kind payload
unfolding front
framed_front kind payload rest known login =
    ap (λ n. counted_front n (kind ∷ (payload ++ rest))) (count_is (length payload + 1)) ∙ (ap (λ b. cond b (Faulty ZeroLength) (typed_front (length payload + 1) (kind ∷ (payload ++ rest)))) (not_zero (length payload)) ∙ typed_is kind payload rest known login)

pub past : (kind : ℕ) (payload rest : List ℕ) → drop (length payload + 3) (framed_packet kind payload ++ rest) ≡ rest
past kind payload rest = drop_at (framed_packet kind payload) rest (length payload + 3) (omega arith)

framed_read : (kind : ℕ) (payload rest : List ℕ) (p : ClientPacket) → is_client_type kind ≡ true → ((kind == login_request) ≡ true → length payload ≡ 46) → whole_front kind payload ≡ Whole p (length payload + 3) → packets_of (framed_packet kind payload ++ rest) ≡ with_packet p (packets_of rest)
framed_read kind payload rest p known login e =
    packets_whole (framed_packet kind payload ++ rest) p (length payload + 3) (framed_front kind payload rest known login ∙ e) ∙ ap (λ r. with_packet p (packets_of r)) (past kind payload rest)

pub padded_len : (n : ℕ) → n < 2 ^ 64 → length (number_field n) ≡ 20
padded_len n h = omega (arith, length-append (replicate (20 - length (decimal n)) 32) (decimal n), length-replicate {A = ℕ} (20 - length (decimal n)) 32, length-decimal-le 20 n (omega arith) (omega arith) h)

abbrev login_with : List ℕ → List ℕ → List ℕ → ℕ → LoginRequest
login_with user password session wanted = record { user = record { bytes = user }; password = record { bytes = password }; session = record { bytes = session }; wanted = wanted }

-- the parts of a login's payload
module _ (user password session number : List ℕ) (u : length user ≡ 6) (p : length password ≡ 10) (s : length session ≡ 10) (n : length number ≡ 20) where
  behind_user : drop 6 (user ++ (password ++ (session ++ number))) ≡ password ++ (session ++ number)
  behind_user = drop_at user (password ++ (session ++ number)) 6 u

  behind_password : drop 16 (user ++ (password ++ (session ++ number))) ≡ session ++ number
  behind_password = ap (drop 16) (sym (append_assoc user password (session ++ number))) ∙ drop_at (user ++ password) (session ++ number) 16 (omega (arith, length-append user password))

  behind_session : drop 26 (user ++ (password ++ (session ++ number))) ≡ number
  behind_session = ap (drop 26) (sym (append_assoc user password (session ++ number)) ∙ sym (append_assoc (user ++ password) session number)) ∙ drop_at ((user ++ password) ++ session) number 26 (omega (arith, length-append user password, length-append (user ++ password) session))

  at_number : take 20 (drop 26 (user ++ (password ++ (session ++ number)))) ≡ number
  at_number = ap (take 20) behind_session ∙ take_all 20 number (omega (arith, n))

  at_user : take 6 (user ++ (password ++ (session ++ number))) ≡ user
  at_user = take_at user (password ++ (session ++ number)) 6 u

  at_password : take 10 (drop 6 (user ++ (password ++ (session ++ number)))) ≡ password
  at_password = ap (take 10) behind_user ∙ take_at password (session ++ number) 10 p

  at_session : take 10 (drop 16 (user ++ (password ++ (session ++ number)))) ≡ session
  at_session = ap (take 10) behind_password ∙ take_at session number 10 s

  payload_len : length (user ++ (password ++ (session ++ number))) ≡ 46
  payload_len = omega (arith, length-append user (password ++ (session ++ number)), length-append password (session ++ number), length-append session number)

  login_front_is : (wanted : ℕ) → number_of number ≡ Some wanted → login_front (user ++ (password ++ (session ++ number))) (number_of (take 20 (drop 26 (user ++ (password ++ (session ++ number)))))) ≡ Whole (ClientPacket.Login (record { user = record { bytes = user }; password = record { bytes = password }; session = record { bytes = session }; wanted = wanted })) (length (user ++ (password ++ (session ++ number))) + 3)
  login_front_is wanted e =
      let payload = user ++ (password ++ (session ++ number)) in
      ap (login_front payload) (ap number_of at_number ∙ e)
      ∙ (ap (λ x. Whole (ClientPacket.Login (login_with x (take 10 (drop 6 payload)) (take 10 (drop 16 payload)) wanted)) 49) at_user
      ∙ (ap (λ x. Whole (ClientPacket.Login (login_with user x (take 10 (drop 16 payload)) wanted)) 49) at_password
      ∙ (ap (λ x. Whole (ClientPacket.Login (login_with user password x wanted)) 49) at_session
      ∙ ap (λ m. Whole (ClientPacket.Login (login_with user password session wanted)) (m + 3)) (sym payload_len))))

login_read : (login : LoginRequest) (rest : List ℕ) → FitsFields login → packets_of (framed_packet login_request (login_payload login) ++ rest) ≡ with_packet (ClientPacket.Login login) (packets_of rest)
login_read login rest h =
    let n = padded_len login.wanted h.3 in
    framed_read login_request (login_payload login) rest (ClientPacket.Login login) refl
    (λ e. payload_len login.user.bytes login.password.bytes login.session.bytes (number_field login.wanted) h.0 h.1 h.2 n)
    (login_front_is login.user.bytes login.password.bytes login.session.bytes (number_field login.wanted) h.0 h.1 h.2 n login.wanted (number_read login.wanted h.3))

pub packet_read : (packet : ClientPacket) (rest : List ℕ) → IsPacket packet → packets_of (client_bytes packet ++ rest) ≡ with_packet packet (packets_of rest)
unfolding client_bytes
packet_read (ClientPacket.Login login) rest h = login_read login rest h
packet_read (ClientPacket.Data payload) rest h = framed_read unsequenced_data payload rest _ refl (λ e. cc) refl
packet_read ClientPacket.Heartbeat rest h = framed_read client_heartbeat [] rest _ refl (λ e. cc) refl
packet_read ClientPacket.Logout rest h = framed_read logout_request [] rest _ refl (λ e. cc) refl
packet_read ClientPacket.Debug rest h = framed_read debug [] rest _ refl (λ e. cc) refl
