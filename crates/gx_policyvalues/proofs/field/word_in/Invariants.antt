use Rattle.std.proofs.Common.{◌≡◌, map, drop}
use Rattle.gx_policyvalues.specs.Field.{word_in}
use Rattle.gx_policyvalues.proofs.field.word_in.Given as goal

-- no word before this one is the text
abbrev pub invariant-loop-word : goal.invariant-loop-word
invariant-loop-word g l = word_in (map (λ w. (w.0.now, w.1)) (drop l.word-index l.words)) l.s ≡ word_in (map (λ w. (w.0.now, w.1)) l.words) l.s
