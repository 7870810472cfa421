-- What is taken in piece by piece.
use Rattle.std.proofs.{Common.{◌≡◌, ℕ, ◌+◌, ◌<◌, List, [], ◌∷◌, ◌++◌, take, length, get_or, append_assoc, subst, ap, sym, ◌∙◌, refl}, lemmas.List.{append-nil, take_more}}
use Rattle.sha2.specs.{declared.Sha256.Sha256, Hashers.Holds256}
use Rattle.gx_digest.specs.{Hashing.TakesIn, PolicyText.items_text}

-- two pieces are one
pub two : (a b c : Sha256) (xs ys : List ℕ) → TakesIn a b xs → TakesIn b c ys → TakesIn a c (xs ++ ys)
two a b c xs ys first second = λ held holds. subst (Holds256 c) (append_assoc held xs ys) (second (held ++ xs) (first held holds))

-- nothing is taken in
pub nothing : {X : Type 0} (text : X → List ℕ) (a : Sha256) → TakesIn a a (items_text text [])
unfolding items_text
nothing text a = λ held holds. subst (Holds256 a) (sym (append-nil held)) holds

-- an item alone is a comma and its text
pub one_item : {X : Type 0} (text : X → List ℕ) (x : X) → items_text text (x ∷ []) ≡ (44 ∷ []) ++ text x
unfolding items_text
one_item text x = append-nil (44 ∷ text x)

-- and one more behind others
more_items : {X : Type 0} (text : X → List ℕ) (xs : List X) (x : X) → items_text text (xs ++ x ∷ []) ≡ items_text text xs ++ items_text text (x ∷ [])
unfolding items_text
more_items text [] x = refl
more_items text (y ∷ ys) x =
    ap (λ (bytes : List ℕ). (44 ∷ text y) ++ bytes) (more_items text ys x) ∙ sym (append_assoc (44 ∷ text y) (items_text text ys) (items_text text (x ∷ [])))

pub next_item : {X : Type 0} (text : X → List ℕ) (a b c : Sha256) (xs : List X) (i : ℕ) (x d : X) → i < length xs → x ≡ get_or xs i d
    → TakesIn a b (items_text text (take i xs)) → TakesIn b c (items_text text (x ∷ [])) → TakesIn a c (items_text text (take (i + 1) xs))
next_item {X} text a b c xs i x d within is before now =
    subst (TakesIn a c) (sym grown) (two a b c (items_text text (take i xs)) (items_text text (x ∷ [])) before now)
  where
    grown : items_text text (take (i + 1) xs) ≡ items_text text (take i xs) ++ items_text text (x ∷ [])
    grown =
        ap (items_text text) (take_more xs i d within ∙ ap (λ (y : X). take i xs ++ y ∷ []) (sym is))
        ∙ more_items text (take i xs) x

-- and seven pieces
pub seven : (h0 h1 h2 h3 h4 h5 h6 h7 : Sha256) (a b c d e f g : List ℕ)
    → TakesIn h0 h1 a → TakesIn h1 h2 b → TakesIn h2 h3 c → TakesIn h3 h4 d → TakesIn h4 h5 e → TakesIn h5 h6 f → TakesIn h6 h7 g
    → TakesIn h0 h7 (a ++ b ++ c ++ d ++ e ++ f ++ g)
seven h0 h1 h2 h3 h4 h5 h6 h7 a b c d e f g one next third fourth fifth sixth last =
    two h0 h6 h7 (a ++ b ++ c ++ d ++ e ++ f) g
    (two h0 h5 h6 (a ++ b ++ c ++ d ++ e) f
    (two h0 h4 h5 (a ++ b ++ c ++ d) e
    (two h0 h3 h4 (a ++ b ++ c) d
    (two h0 h2 h3 (a ++ b) c (two h0 h1 h2 a b one next) third) fourth) fifth) sixth) last
