-- No two kinds have one letter.
use Rattle.std.proofs.Common.{◌≡◌, ℕ, ◌==◌, List, ◌++◌, find, Option, Some, option_map, refl, sym, ap, ◌∙◌}
use Rattle.gx_policy.specs.{Kinds.{first_kind_words, kind_letter, later_kind_words}, declared.kinds.{ExposureLimit.ExposureLimit, KindName.KindName, ListKind.ListKind, OrderLimit.OrderLimit, PlainKind.PlainKind}}

-- the first kind of the table that has this letter
abbrev kind_with : ℕ → Option KindName
kind_with letter = option_map (λ (word : List ℕ × KindName). word.1) (find (λ (word : List ℕ × KindName). kind_letter word.1 == letter) (first_kind_words ++ later_kind_words))

found : (kind : KindName) → kind_with (kind_letter kind) ≡ Some kind
found (KindName.Listed ListKind.Halt) = refl
found (KindName.Listed ListKind.Restricted) = refl
found (KindName.Plain PlainKind.NoShort) = refl
found (KindName.Plain PlainKind.NoIso) = refl
found (KindName.Plain PlainKind.OddLot) = refl
found (KindName.Order OrderLimit.Shares) = refl
found (KindName.Order OrderLimit.Value) = refl
found (KindName.Order OrderLimit.Collar) = refl
found (KindName.Exposure ExposureLimit.GrossShares) = refl
found (KindName.Exposure ExposureLimit.GrossValue) = refl
found (KindName.Exposure ExposureLimit.NetShares) = refl
found KindName.Rate = refl
found KindName.Repeat = refl

pub same_kind : (one other : KindName) → kind_letter one ≡ kind_letter other → one ≡ other
same_kind one other letters = let same : Some one ≡ Some other = sym (found one) ∙ ap kind_with letters ∙ found other in cc
