-- Sixteen bytes of a line at once.
use Rattle.std.proofs.{Common.{◌≡◌, ◌≢◌, ℕ, suc, zero, ◌+◌, ◌-◌, ◌%◌, ◌^◌, ◌≤◌, ◌<◌, Bool, true, false, not, ◌&&◌, ◌||◌, cond, List, [], ◌∷◌, ◌++◌, length, take, slice_get, slice_index_or, replicate, map, leb, ltb, eqb, bit_or, w8, subst, refl, sym, ap, ◌∙◌, arith}, lemmas.{Bool.{and_from, eqb-true, le-ltb, lt-ltb}, List.{length-map, length-take, take-replicate}, Simd.{bitmask_splat, first_set_mask_l, mask_l-mod, map-map, tops_compared, zip2_of_maps, zip2_splat, zip2_splat_left}}}
use Rattle.std.specs.{List.{prefix_len, range_with_len, list_all}, Prelude.{IfSome, IsFalse}, Simd.Lanes.{mask_l, sel_l, top, zip2}}
use lib.Count.{count_trailing_zeros}
use Rattle.gx_units.specs.Spelling.{is_space, padded_to, is_visible}

either : (a b : Bool) → top 7 (bit_or (cond a 255 0) (cond b 255 0)) ≡ (a || b)
either true true = refl
either true false = refl
either false true = refl
either false false = refl

-- a byte that is low or high is not visible
hidden_is : (byte : ℕ) → (ltb byte 33 || ltb 126 byte) ≡ not (leb 33 byte && leb byte 126)
hidden_is byte = grind arith

-- which bytes are not visible
pub hidden_mask : (bytes : List ℕ) → length bytes ≡ 16
    → mask_l (map (top 7) (zip2 bit_or (zip2 (λ a b. cond (ltb a b) 255 0) bytes (replicate 16 33)) (zip2 (λ a b. cond (ltb a b) 255 0) (replicate 16 126) bytes))) % 2 ^ 64
    ≡ mask_l (map (λ byte. not (is_visible byte)) bytes)
hidden_mask bytes long =
    let less = λ (a b : ℕ). cond (ltb a b) 255 0 in
    ap (λ l. mask_l (map (top 7) l) % 2 ^ 64) (zip2_of_maps bit_or (λ x. less x 33) (λ x. less 126 x) bytes (zip2_splat less bytes 16 33 long) (zip2_splat_left less 126 16 bytes long))
    ∙ ap (λ l. mask_l l % 2 ^ 64) (map-map (top 7) (λ x. bit_or (less x 33) (less 126 x)) bytes)
    ∙ mask_l-mod (map (λ x. top 7 (bit_or (less x 33) (less 126 x))) bytes) 64 (omega (arith, long, length-map bytes (λ x. top 7 (bit_or (less x 33) (less 126 x)))))
    ∙ ap (λ f. mask_l (map f bytes)) (λ i byte. (either (ltb byte 33) (ltb 126 byte) ∙ hidden_is byte) i)

-- which bytes are spaces
pub space_mask : (bytes : List ℕ) → length bytes ≡ 16
    → mask_l (map (top 7) (zip2 (λ a b. cond (eqb a b) 255 0) bytes (replicate 16 32))) % 2 ^ 64 ≡ mask_l (map is_space bytes)
space_mask bytes long = bitmask_splat w8 eqb bytes 16 32 long (omega arith)

not_none : (mask : ℕ) → mask ≢ 0 → eqb mask 0 ≡ false
not_none mask some = at (eqb mask 0) refl
  where
    at : (none : Bool) → eqb mask 0 ≡ none → none ≡ false
    at true is = absurd (some (eqb-true mask 0 is))
    at false is = refl

-- the lowest bit stands for the first byte that passes; where there is none, none passes
pub none_set : (p : ℕ → Bool) (bytes : List ℕ) (mask : ℕ) → length bytes ≡ 16 → mask ≡ mask_l (map p bytes) → mask ≡ 0 → 16 ≡ prefix_len (λ byte. not (p byte)) bytes
none_set p bytes mask long is none =
    sym (ap (λ none. cond none 16 (count_trailing_zeros 64 (mask_l (map p bytes)))) (sym (ap (λ m. eqb m 0) is) ∙ ap (λ m. eqb m 0) none))
    ∙ first_set_mask_l p bytes 16 long (omega arith)

pub lowest_set : (p : ℕ → Bool) (bytes : List ℕ) (mask : ℕ) → length bytes ≡ 16 → mask ≡ mask_l (map p bytes) → mask ≢ 0 → count_trailing_zeros 64 mask ≡ prefix_len (λ byte. not (p byte)) bytes
lowest_set p bytes mask long is some =
    ap (count_trailing_zeros 64) is
    ∙ sym (ap (λ none. cond none 16 (count_trailing_zeros 64 (mask_l (map p bytes)))) (sym (ap (λ m. eqb m 0) is) ∙ not_none mask some))
    ∙ first_set_mask_l p bytes 16 long (omega arith)

past_end : (start end : ℕ) (bytes : List ℕ) → end ≤ start
    → sel_l (map (λ k. ltb k end) (range_with_len start (length bytes))) bytes (replicate (length bytes) 32) ≡ replicate (length bytes) 32
past_end start end [] past = refl
past_end start end (b ∷ bs) past =
    ap (λ t. cond t b 32 ∷ sel_l (map (λ k. ltb k end) (range_with_len (start + 1) (length bs))) bs (replicate (length bs) 32)) (le-ltb start end past)
    ∙ ap (λ l. 32 ∷ l) (past_end (start + 1) end bs (omega (arith, past)))

spaced : (start count end : ℕ) (bytes : List ℕ) → end ≡ start + count → count ≤ length bytes
    → sel_l (map (λ k. ltb k end) (range_with_len start (length bytes))) bytes (replicate (length bytes) 32) ≡ take count bytes ++ replicate (length bytes - count) 32
spaced start zero end [] is within = refl
spaced start (suc count) end [] is within = absurd (omega (arith, within))
spaced start zero end (b ∷ bs) is within =
    past_end start end (b ∷ bs) (omega (arith, is))
    ∙ ap (λ n. replicate n 32) (let e : length (b ∷ bs) ≡ length (b ∷ bs) - 0 = omega arith in e)
spaced start (suc count) end (b ∷ bs) is within =
    ap (λ t. cond t b 32 ∷ sel_l (map (λ k. ltb k end) (range_with_len (start + 1) (length bs))) bs (replicate (length bs) 32)) (lt-ltb start end (omega (arith, is)))
    ∙ ap (λ l. b ∷ l) (spaced (start + 1) count end bs (omega (arith, is)) (omega (arith, within)))
    ∙ ap (λ n. b ∷ (take count bs ++ replicate n 32)) (let e : length bs - count ≡ length (b ∷ bs) - suc count = omega arith in e)

-- the first bytes, with spaces behind them
pub spaced_from : (end : ℕ) (bytes : List ℕ) → length bytes ≡ 16 → end ≤ 16
    → sel_l (map (top 7) (zip2 (λ a b. cond (ltb a b) 255 0) (range_with_len 0 16) (replicate 16 end))) bytes (replicate 16 32) ≡ take end bytes ++ replicate (16 - end) 32
spaced_from end bytes long within =
    ap (λ ms. sel_l ms bytes (replicate 16 32)) (tops_compared w8 ltb (range_with_len 0 16) (replicate 16 end))
    ∙ subst (λ n. sel_l (map (λ k. ltb k end) (range_with_len 0 n)) bytes (replicate n 32) ≡ take end bytes ++ replicate (n - end) 32) long
    (spaced 0 end end bytes (omega arith) (omega (arith, long, within)))

-- how many visible bytes a text begins with
abbrev seen : List ℕ → ℕ
seen text = prefix_len (λ byte. not (not (is_visible byte))) text

seen_more : (byte : ℕ) (bytes : List ℕ) → is_visible byte ≡ true → seen (byte ∷ bytes) ≡ suc (seen bytes)
seen_more byte bytes is = ap (λ t. cond (not (not t)) (1 + seen bytes) 0) is ∙ omega arith

seen_none : (byte : ℕ) (bytes : List ℕ) → is_visible byte ≡ false → seen (byte ∷ bytes) ≡ 0
seen_none byte bytes is = ap (λ t. cond (not (not t)) (1 + seen bytes) 0) is

-- the bytes in front of the first that is not visible are visible
pub front_visible : (count width : ℕ) (text : List ℕ) → count ≤ seen (take width text) → list_all is_visible (take count text) ≡ true
front_visible zero width [] within = refl
front_visible zero width (b ∷ bs) within = refl
front_visible (suc count) width [] within = refl
front_visible (suc count) zero (b ∷ bs) within = absurd (omega (arith, within))
front_visible (suc count) (suc width) (b ∷ bs) within = at (front_visible count width bs) (is_visible b) refl
  where
    at : (count ≤ seen (take width bs) → list_all is_visible (take count bs) ≡ true) → (test : Bool) → is_visible b ≡ test → (is_visible b && list_all is_visible (take count bs)) ≡ true
    at behind true is = and_from (is_visible b) (list_all is_visible (take count bs)) is (behind (omega (arith, within, seen_more b (take width bs) is)))
    at behind false is = absurd (omega (arith, within, seen_none b (take width bs) is))

-- and the byte behind them is not
stops : (width : ℕ) (text : List ℕ) → seen (take width text) < width → width ≤ length text → is_visible (slice_index_or text (seen (take width text)) 0) ≡ false
stops zero text within room = absurd (omega (arith, within))
stops (suc width) [] within room = absurd (omega (arith, room))
stops (suc width) (b ∷ bs) within room = at (stops width bs) (is_visible b) refl
  where
    at : (seen (take width bs) < width → width ≤ length bs → is_visible (slice_index_or bs (seen (take width bs)) 0) ≡ false) → (test : Bool) → is_visible b ≡ test
        → is_visible (slice_index_or (b ∷ bs) (seen (b ∷ take width bs)) 0) ≡ false
    at behind true is =
        ap (λ k. is_visible (slice_index_or (b ∷ bs) k 0)) (seen_more b (take width bs) is)
        ∙ behind (omega (arith, within, seen_more b (take width bs) is)) (omega (arith, room))
    at behind false is = ap (λ k. is_visible (slice_index_or (b ∷ bs) k 0)) (seen_none b (take width bs) is) ∙ is

ends_if : (P : Type 0) (end : ℕ) (text : List ℕ) → (P → end < length text → is_visible (slice_index_or text end 0) ≡ false)
    → IfSome (slice_get text end) (λ byte. P → IsFalse (is_visible byte))
ends_if P end [] hidden = tt
ends_if P zero (b ∷ bs) hidden = λ p. hidden p (omega arith)
ends_if P (suc e) (b ∷ bs) hidden = ends_if P e bs (λ p within. hidden p (omega (arith, within)))

-- a byte behind them that a name has room for is not visible
pub front_ends : (n count end : ℕ) (text : List ℕ) → n ≤ 16 → 16 ≤ length text → count ≡ seen (take 16 text)
    → (end < n → end ≡ count) → IfSome (slice_get text end) (λ byte. end < n → IsFalse (is_visible byte))
front_ends n count end text few long counted is =
    ends_if (end < n) end text
    (λ below within.
    let same : end ≡ seen (take 16 text) = is below ∙ counted in
    ap (λ k. is_visible (slice_index_or text k 0)) same ∙ stops 16 text (omega (arith, same, below, few)) long)

take_padded : (n m : ℕ) (word : List ℕ) → length word ≤ n → n ≤ length word + m → take n (word ++ replicate m 32) ≡ padded_to n word
take_padded n m [] fits within =
    take-replicate n m 32 (omega (arith, within))
    ∙ ap (λ k. replicate k 32) (let e : n ≡ n - 0 = omega arith in e)
take_padded zero m (b ∷ bs) fits within = absurd (omega (arith, fits))
take_padded (suc n) m (b ∷ bs) fits within =
    ap (λ l. b ∷ l) (take_padded n m bs (omega (arith, fits)) (omega (arith, within)))
    ∙ ap (λ k. b ∷ (bs ++ replicate k 32)) (let e : n - length bs ≡ suc n - length (b ∷ bs) = omega arith in e)

take_front : (end width : ℕ) (text : List ℕ) → end ≤ width → take end (take width text) ≡ take end text
take_front zero zero [] within = refl
take_front zero zero (b ∷ bs) within = refl
take_front zero (suc width) [] within = refl
take_front zero (suc width) (b ∷ bs) within = refl
take_front (suc end) zero text within = absurd (omega (arith, within))
take_front (suc end) (suc width) [] within = refl
take_front (suc end) (suc width) (b ∷ bs) within = ap (λ l. b ∷ l) (take_front end width bs (omega (arith, within)))

-- a field of these bytes, with spaces behind them
pub front_field : (n end : ℕ) (text : List ℕ) → n ≤ 16 → end ≤ n → 16 ≤ length text → take n (take end (take 16 text) ++ replicate (16 - end) 32) ≡ padded_to n (take end text)
front_field n end text few fits long =
    ap (λ l. take n (l ++ replicate (16 - end) 32)) (take_front end 16 text (omega (arith, few, fits)))
    ∙ take_padded n (16 - end) (take end text) (omega (arith, fits, length-take end text)) (omega (arith, few, fits, long, length-take end text))
