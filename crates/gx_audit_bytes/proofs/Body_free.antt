-- Zero bytes behind what a body shows.
use Rattle.std.proofs.{Common.{◌≡◌, ℕ, ◌-◌, Bool, List, length, take, drop, length-drop, ap, arith, sym, ◌∙◌}, lemmas.List.take_all}
use Rattle.std.specs.Prelude.{bytes_eq, replicate}
use Rattle.gx_audit_bytes.specs.Written.{is_free}

-- all that stands behind so many bytes of it was looked at
pub free_behind : (free : Bool) (size shown : ℕ) (body : List ℕ) → shown ≡ size → free ≡ bytes_eq (take (length body - size) (drop size body)) (replicate (58 - size) 0) → free ≡ is_free shown body
free_behind free size shown body is e =
    e
    ∙ ap (λ behind. bytes_eq behind (replicate (58 - size) 0)) (take_all (length body - size) (drop size body) (omega (arith, length-drop {A = ℕ})))
    ∙ ap (λ n. is_free n body) (sym is)
