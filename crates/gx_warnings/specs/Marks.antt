-- Under what a warning is kept: figures of one key are one figure.
use Rattle.std.proofs.{Common.{◌≡◌, ℕ, Bool, true, List}, lemmas.Bool.and_parts}
use Rattle.std.specs.Prelude.{◌&&◌, ◌==◌}
use Rattle.gx_policy.specs.declared.policy.PolicyData.{PolicyData}
use Rattle.gx_peaks.specs.{declared.{figure.Figure.Figure}, Keys.{key_bytes, key_of, same_key}, Same.same_bytes}
use Rattle.gx_warnings.specs.declared.mark.Mark.{Mark}

-- the mark of a share of the figure's limit
abbrev pub mark_of : PolicyData → Figure → ℕ → Mark
mark_of policy figure share = record { key = key_of policy figure; share = share }

-- the marks are the same
abbrev pub same_mark : Mark → Mark → Bool
same_mark a b = same_key a.key b.key && a.share == b.share

-- the bytes that a mark is hashed by
abbrev pub mark_bytes : Mark → List (List ℕ)
mark_bytes mark = key_bytes mark.key

-- marks that are the same are hashed alike
pub same_mark_bytes : (a b : Mark) → same_mark a b ≡ true → mark_bytes a ≡ mark_bytes b
same_mark_bytes a b h = same_bytes a.key b.key (and_parts (same_key a.key b.key) (a.share == b.share) h).0
