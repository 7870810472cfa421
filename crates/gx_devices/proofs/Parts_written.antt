-- What is written in parts.
use Rattle.std.proofs.{Common.{◌≡◌, ℕ, ◌+◌, ◌-◌, ◌≤◌, sym, ap, ◌∙◌, subst, List, [], ◌++◌, append-nil, append_assoc, take-append-drop, length, take, drop, Option, None, Some, arith}, lemmas.List.take_rest, Math.Seq.take-add, KnownBytes.Appends-trans}
use Rattle.std.specs.Io.KnownBytes.{Appends, Keeps}
use Rattle.gx_devices.specs.Devices.{IsFront, counted_on, one_more}

pub written_more : (a b c : Option (List ℕ)) (bytes : List ℕ) (done n : ℕ) → Appends a b (take done bytes) → Appends b c (take n (take (length bytes - done) (drop done bytes))) → Appends a c (take (done + n) bytes)
written_more a b c bytes done n p q = rw (take-add done n bytes) (Appends-trans a b c _ _ p (rw (take_rest bytes done) at q))

-- one call more
pub counted_next : (before now later n : ℕ) → counted_on before n ≤ now → later ≡ one_more now → counted_on before (n + 1) ≤ later
counted_next before now later n h k = omega arith

none_is : (n : ℕ) → n ≤ 0 → n ≡ 0
none_is n h = omega arith

-- what stood there stayed
Appends-kept : (a b c : Option (List ℕ)) (bs : List ℕ) → Appends a b bs → Keeps b c → Appends a c bs
Appends-kept None b c bs p q = tt
Appends-kept (Some x) None c bs p q = absurd p
Appends-kept (Some x) (Some y) None bs p q = absurd q
Appends-kept (Some x) (Some y) (Some z) bs p q = q ∙ p

-- a front was written, and then nothing
pub front_kept : (a b c : Option (List ℕ)) (bytes : List ℕ) (done : ℕ) → Appends a b (take done bytes) → Keeps b c → IsFront a c bytes
front_kept a b c bytes done p k = record {
  front = take done bytes;
  rest = drop done bytes;
  written = Appends-kept a b c (take done bytes) p k;
  whole = sym (take-append-drop done bytes);
}

-- a front was written, and then nothing of some bytes
pub front_still : (a b c : Option (List ℕ)) (bytes more : List ℕ) (done n : ℕ) → Appends a b (take done bytes) → Appends b c (take n more) → n ≤ 0 → IsFront a c bytes
front_still a b c bytes more done n p q none =
    let nothing : take n more ≡ [] = ap (λ k. take k more) (none_is n none) in
    record {
      front = take done bytes;
      rest = drop done bytes;
      written = subst (Appends a c) (append-nil (take done bytes)) (Appends-trans a b c _ _ p (subst (Appends b c) nothing q));
      whole = sym (take-append-drop done bytes);
    }

-- text behind text
pub front_behind : (text more : List ℕ) (output mid left : Option (List ℕ)) → Appends output mid text → IsFront mid left more → IsFront output left (text ++ more)
front_behind text more output mid left w f = record {
  front = text ++ f.front;
  rest = f.rest;
  written = Appends-trans output mid left text f.front w f.written;
  whole = ap (λ t. text ++ t) f.whole ∙ sym (append_assoc text f.front f.rest);
}

pub front_longer : (text more : List ℕ) (output left : Option (List ℕ)) → IsFront output left text → IsFront output left (text ++ more)
front_longer text more output left f = record { front = f.front; rest = f.rest ++ more; written = f.written; whole = ap (λ t. t ++ more) f.whole ∙ append_assoc f.front f.rest more }
