-- The orders that have ended are taken out.
use Rattle.std.proofs.{Common.{◌≡◌, ◌<◌, ℕ, zero, suc, ◌+◌, Bool, true, false, cond, List, [], ◌∷◌, length, take, refl, ◌∙◌, sym, ap, arith}, lemmas.Option.{slice_get_within, same_Some}}
use Rattle.std.specs.Prelude.{Some, None, slice_get}
use Rattle.gx_history.specs.declared.live_order.LiveOrder.{LiveOrder}
use Rattle.gx_slab.specs.Slabs.{CanBePlaced, IsPlaced, is_open, open_ones}

-- where a live row stood among all, and so many live ones before it
record Came (rows : List LiveOrder) (k : ℕ) (o : LiveOrder) : Type 0 where
  from : ℕ
  stood : slice_get rows from ≡ Some o
  lives : is_open o ≡ true
  before : k ≡ length (open_ones (take from rows))

came : (rows : List LiveOrder) (k : ℕ) (o : LiveOrder) → slice_get (open_ones rows) k ≡ Some o → Came rows k o
came [] k o at = let never : None ≡ Some o = at in cc
came (x ∷ rows) k o at = by (is_open x) refl k at (λ m h. came rows m o h)
  where
    counted : (b : Bool) (f : ℕ) → is_open x ≡ b → length (open_ones (take (suc f) (x ∷ rows))) ≡ (cond b 1 0) + length (open_ones (take f rows))
    counted true f e = ap (λ (b : Bool). length (cond b (x ∷ open_ones (take f rows)) (open_ones (take f rows)))) e ∙ omega arith
    counted false f e = ap (λ (b : Bool). length (cond b (x ∷ open_ones (take f rows)) (open_ones (take f rows)))) e ∙ omega arith

    by : (b : Bool) → is_open x ≡ b → (m : ℕ) → slice_get (cond b (x ∷ open_ones rows) (open_ones rows)) m ≡ Some o → ((m : ℕ) → slice_get (open_ones rows) m ≡ Some o → Came rows m o) → Came (x ∷ rows) m o
    by true e zero h later = record { from = 0; stood = h; lives = ap is_open (sym (same_Some _ _ h)) ∙ e; before = refl }
    by true e (suc m) h later =
        let c = later m h in
        record { from = suc c.from; stood = c.stood; lives = c.lives; before = omega (arith, c.before, counted true c.from e) }
    by false e m h later =
        let c = later m h in
        record { from = suc c.from; stood = c.stood; lives = c.lives; before = omega (arith, c.before, counted false c.from e) }

pub can_be_placed : (places : List ℕ) (rows : List LiveOrder) → IsPlaced places rows → CanBePlaced places (open_ones rows)
can_be_placed places rows placed = record {
  differ = λ i k o p at_i at_k same. apart i k o p same (came rows i o at_i) (came rows k p at_k);
  within = λ i o at. inside o (came rows i o at);
}
  where
    inside : {i : ℕ} (o : LiveOrder) → Came rows i o → o.number < length places
    inside o c = slice_get_within places o.number c.from (placed c.from o c.stood c.lives)

    apart : (i k : ℕ) (o p : LiveOrder) → o.number ≡ p.number → Came rows i o → Came rows k p → i ≡ k
    apart i k o p same c d =
        let place : c.from ≡ d.from = same_Some _ _ (sym (placed c.from o c.stood c.lives) ∙ ap (slice_get places) same ∙ placed d.from p d.stood d.lives) in
        c.before ∙ ap (λ (f : ℕ). length (open_ones (take f rows))) place ∙ sym d.before

-- ---- noting where each stands

-- so many have been noted
pub record AreNoted (room : List ℕ) (rows : List LiveOrder) (n : ℕ) (places : List ℕ) : Type 0 where
  pub size : length places ≡ length room
  pub placed : (i : ℕ) (o : LiveOrder) → i < n → slice_get rows i ≡ Some o → slice_get places o.number ≡ Some i
