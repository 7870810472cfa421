-- Names are compared as numbers of eight bytes: of all bytes, with zeros behind them, or of two parts that overlap.
use Rattle.std.proofs.{Common.{◌≡◌, ℕ, Bool, ◌&&◌, List, [], ◌∷◌, ◌++◌, take, drop, refl, sym, ap, ◌∙◌, bytes_eq, nat_eq, w64, take-append-drop}, lemmas.{Bool.{and_from, and_parts}, Bool.Decides.{same_from_decides, Decides-like, Decides-eqb}, List.append_cancel_right, Slice.Eq.bytes_eq-Decides}}
use Rattle.std.specs.{Bool.Decides, Int.{to_le_bytes, from_le_bytes}}

pub as_numbers : (left right : List ℕ) (m n : ℕ) → to_le_bytes w64 m ≡ left → to_le_bytes w64 n ≡ right → m ≡ from_le_bytes w64 left → n ≡ from_le_bytes w64 right → nat_eq m n ≡ bytes_eq left right
as_numbers left right m n l r of_left of_right =
    same_from_decides (nat_eq m n) (bytes_eq left right)
    (Decides-like (nat_eq m n) (λ e. sym l ∙ ap (to_le_bytes w64) e ∙ r) (λ e. of_left ∙ ap (from_le_bytes w64) e ∙ sym of_right) (Decides-eqb m n))
    (bytes_eq-Decides left right)

pub as_widened : (left right behind : List ℕ) → bytes_eq (left ++ behind) (right ++ behind) ≡ bytes_eq left right
as_widened left right behind =
    same_from_decides (bytes_eq (left ++ behind) (right ++ behind)) (bytes_eq left right)
    (Decides-like (bytes_eq (left ++ behind) (right ++ behind)) (append_cancel_right left right behind) (ap (λ l. l ++ behind)) (bytes_eq-Decides (left ++ behind) (right ++ behind)))
    (bytes_eq-Decides left right)

dropped : (bytes : List ℕ) → drop 2 (drop 6 bytes) ≡ drop 8 bytes
dropped [] = refl
dropped (a ∷ []) = refl
dropped (a ∷ b ∷ []) = refl
dropped (a ∷ b ∷ c ∷ []) = refl
dropped (a ∷ b ∷ c ∷ d ∷ []) = refl
dropped (a ∷ b ∷ c ∷ d ∷ e ∷ []) = refl
dropped (a ∷ b ∷ c ∷ d ∷ e ∷ f ∷ behind) = refl

module _ (left right : List ℕ) where
  abbrev first : Bool
  first = bytes_eq (take 8 left) (take 8 right)

  abbrev last : Bool
  last = bytes_eq (drop 6 left) (drop 6 right)

  joined : take 8 left ≡ take 8 right → drop 6 left ≡ drop 6 right → left ≡ right
  joined before behind =
      sym (take-append-drop 8 left)
      ∙ ap (λ l. l ++ drop 8 left) before
      ∙ ap (λ l. take 8 right ++ l) (sym (dropped left) ∙ ap (drop 2) behind ∙ dropped right)
      ∙ take-append-drop 8 right

  both_decide : Decides (first && last) (left ≡ right)
  both_decide = (
    λ e. let parts = and_parts first last e in joined ((bytes_eq-Decides _ _).0 parts.0) ((bytes_eq-Decides _ _).0 parts.1),
    λ e. and_from first last ((bytes_eq-Decides _ _).1 (ap (take 8) e)) ((bytes_eq-Decides _ _).1 (ap (drop 6) e)),
  )

  pub as_overlapping : first && last ≡ bytes_eq left right
  as_overlapping = same_from_decides (first && last) (bytes_eq left right) both_decide (bytes_eq-Decides left right)
