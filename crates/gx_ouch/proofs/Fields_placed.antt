-- Fields that are written one behind the other stand at the places of a layout that has no gaps.
use Rattle.std.proofs.{Common.{◌≡◌, ℕ, ◌+◌, true, ◌==◌, List, [], ◌∷◌, ◌++◌, length, take, map, slice_index, refl, sym, ap, subst, ◌∙◌, append_assoc, arith}, lemmas.{List.{take_at, drop_at, length-append, append-nil}, Bool.{Decides.nat_tests, and_from}}}
use Rattle.std.specs.List.{concat}
use Rattle.gx_ouch.specs.{declared.outbound.Outbound.Outbound, Writing.{outbound_layout, outbound_contents, outbound_bytes}, Layout.{Field, Layout, LiesIn, HasSizes, IsWithoutGaps, bytes_at, laid_out, with_fields, offsets_from, end_from}}

joined : (bytes : List ℕ) (contents : List (List ℕ)) → with_fields bytes contents ≡ bytes ++ concat contents
joined bytes [] = sym (append-nil bytes)
joined bytes (c ∷ cs) = joined (bytes ++ c) cs ∙ append_assoc bytes c (concat cs)

pub same_head : {A : Type 0} (x y : A) (xs ys : List A) → x ∷ xs ≡ y ∷ ys → x ≡ y
same_head x y xs ys e = cc

pub same_tail : {A : Type 0} (x y : A) (xs ys : List A) → x ∷ xs ≡ y ∷ ys → xs ≡ ys
same_tail x y xs ys e = cc

same_cons : {A : Type 0} (x y : A) (xs ys : List A) → x ≡ y → xs ≡ ys → x ∷ xs ≡ y ∷ ys
same_cons x y xs ys p q = cc

same_test : (n : ℕ) → (n == n) ≡ true
same_test n = grind (arith, nat_tests)

-- the field behind the bytes
next : (f : Field) (bytes c rest : List ℕ) (n : ℕ) → length bytes ≡ n → f.offset ≡ n → length c ≡ f.size → bytes_at f (bytes ++ (c ++ rest)) ≡ c
next f bytes c rest n at_n begins size =
    ap (take f.size) (drop_at bytes (c ++ rest) f.offset (at_n ∙ sym begins)) ∙ take_at c rest f.size size

placed : (fields : List Field) (contents : List (List ℕ)) (bytes : List ℕ) (n : ℕ) → length bytes ≡ n → map (λ (f : Field). f.offset) fields ≡ offsets_from n fields → map length contents ≡ map (λ (f : Field). f.size) fields → map (λ f. bytes_at f (with_fields bytes contents)) fields ≡ contents
placed [] [] bytes n l o s = refl
placed [] (c ∷ cs) bytes n l o s = cc
placed (f ∷ fs) [] bytes n l o s = cc
placed (f ∷ fs) (c ∷ cs) bytes n l o s =
    let begins = same_head f.offset n (map (λ (f : Field). f.offset) fs) (offsets_from (n + f.size) fs) o in
    let size = same_head (length c) f.size (map length cs) (map (λ (f : Field). f.size) fs) s in
    let behind : length (bytes ++ c) ≡ n + f.size = omega (arith, length-append bytes c) in
    same_cons _ _ _ _
    (ap (bytes_at f) (joined bytes (c ∷ cs)) ∙ next f bytes c (concat cs) n l begins size)
    (placed fs cs (bytes ++ c) (n + f.size) behind (same_tail f.offset n (map (λ (f : Field). f.offset) fs) (offsets_from (n + f.size) fs) o) (same_tail (length c) f.size (map length cs) (map (λ (f : Field). f.size) fs) s))

sized : (fields : List Field) (contents : List (List ℕ)) (bytes : List ℕ) (n : ℕ) → length bytes ≡ n → map length contents ≡ map (λ (f : Field). f.size) fields → length (with_fields bytes contents) ≡ end_from n fields
sized [] [] bytes n l s = l
sized [] (c ∷ cs) bytes n l s = cc
sized (f ∷ fs) [] bytes n l s = cc
sized (f ∷ fs) (c ∷ cs) bytes n l s =
    let size = same_head (length c) f.size (map length cs) (map (λ (f : Field). f.size) fs) s in
    let behind : length (bytes ++ c) ≡ n + f.size = omega (arith, length-append bytes c) in
    sized fs cs (bytes ++ c) (n + f.size) behind (same_tail (length c) f.size (map length cs) (map (λ (f : Field). f.size) fs) s)

pub lies : (layout : Layout) (contents : List (List ℕ)) → IsWithoutGaps layout → HasSizes layout contents → LiesIn layout contents (laid_out layout contents)
lies layout contents gapless sizes =
    let kind = layout.kind ∷ [] in
    record {
      is_of = and_from _ _
          (ap (λ bytes. slice_index bytes 0 == layout.kind) (joined kind contents) ∙ same_test layout.kind)
          (ap (λ n. n == layout.size) (sized layout.fields contents kind 1 refl sizes ∙ gapless.size) ∙ same_test layout.size);
      fields = placed layout.fields contents kind 1 refl gapless.offsets sizes;
    }

outbound_lies : (timestamp : ℕ) (message : Outbound) → HasSizes (outbound_layout message) (outbound_contents timestamp message) → LiesIn (outbound_layout message) (outbound_contents timestamp message) (outbound_bytes timestamp message)
unfolding outbound_bytes
outbound_lies timestamp (Outbound.SystemEvent event) sizes = lies _ _ (record { offsets = refl; size = refl }) sizes
outbound_lies timestamp (Outbound.Accepted m) sizes = lies _ _ (record { offsets = refl; size = refl }) sizes
outbound_lies timestamp (Outbound.Replaced m) sizes = lies _ _ (record { offsets = refl; size = refl }) sizes
outbound_lies timestamp (Outbound.Canceled m) sizes = lies _ _ (record { offsets = refl; size = refl }) sizes
outbound_lies timestamp (Outbound.Executed m) sizes = lies _ _ (record { offsets = refl; size = refl }) sizes
outbound_lies timestamp (Outbound.Rejected m) sizes = lies _ _ (record { offsets = refl; size = refl }) sizes

-- the same of bytes that are known to be these
pub known_to_lie : (layout : Layout) (contents : List (List ℕ)) (bytes : List ℕ) → bytes ≡ laid_out layout contents → IsWithoutGaps layout → HasSizes layout contents → LiesIn layout contents bytes
known_to_lie layout contents bytes known gapless sizes = subst (LiesIn layout contents) (sym known) (lies layout contents gapless sizes)

-- the same of bytes that are known to be a message's
pub outbound_known_to_lie : (timestamp : ℕ) (message : Outbound) (bytes : List ℕ) → bytes ≡ outbound_bytes timestamp message → HasSizes (outbound_layout message) (outbound_contents timestamp message) → LiesIn (outbound_layout message) (outbound_contents timestamp message) bytes
outbound_known_to_lie timestamp message bytes known sizes = subst (LiesIn (outbound_layout message) (outbound_contents timestamp message)) (sym known) (outbound_lies timestamp message sizes)
