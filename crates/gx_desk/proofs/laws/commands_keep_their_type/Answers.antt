use Rattle.std.proofs.{Common.{◌≡◌, ℕ, Bool, true, false, List, refl, ◌∙◌, sym, ap}, lemmas.Bool.{eqb-true, and_parts}}
use Rattle.std.specs.Prelude.{◌==◌, Option, Some, None, length, slice_index, if◌then◌else◌}
use Rattle.gx_ouch.specs.Layout.{Layout, is_of}
use Rattle.gx_desk.specs.{declared.Command.Command, Messages.{kill, lift, set_limit, restrict, unrestrict, grant, revoke, close_day}, Names.command_type, Reading.{KeepTheirType, command_of}}
use Rattle.gx_desk.proofs.laws.commands_keep_their_type.Goals as goal

-- a command, if there is one, has the type that these bytes begin with
abbrev Keeps : List ℕ → Option Command → Type 0
Keeps bytes found = (c : Command) → found ≡ Some c → command_type c.action ≡ slice_index bytes 0

-- a command of the layout's type
told : (k : ℕ) (bytes : List ℕ) (x : Command) → k ≡ slice_index bytes 0 → command_type x.action ≡ k → Keeps bytes (Some x)
told k bytes x begins typed c h = ap (λ (found : Option Command). kind_of k found) (sym h) ∙ typed ∙ begins
  where
    kind_of : ℕ → Option Command → ℕ
    kind_of other None = other
    kind_of other (Some c) = command_type c.action

-- a choice by the layout's type and length
chosen : (bytes : List ℕ) (layout : Layout) (b : Bool) (this rest : Option Command) → is_of layout bytes ≡ b
    → (layout.kind ≡ slice_index bytes 0 → Keeps bytes this) → Keeps bytes rest → Keeps bytes (if b then this else rest)
chosen bytes layout true this rest h here there =
    here (sym (eqb-true (slice_index bytes 0) layout.kind (and_parts (slice_index bytes 0 == layout.kind) (length bytes == layout.size) h).0))
chosen bytes layout false this rest h here there = there

either : (bytes : List ℕ) (layout : Layout) (this rest : Option Command)
    → (layout.kind ≡ slice_index bytes 0 → Keeps bytes this) → Keeps bytes rest → Keeps bytes (if is_of layout bytes then this else rest)
either bytes layout this rest here there = chosen bytes layout (is_of layout bytes) this rest refl here there

keep_their_type : KeepTheirType
unfolding command_of
keep_their_type bytes =
    either bytes kill _ _ (λ h. told 75 bytes _ h refl)
    (either bytes lift _ _ (λ h. told 76 bytes _ h refl)
    (either bytes set_limit _ _ (λ h. told 77 bytes _ h refl)
    (either bytes restrict _ _ (λ h. told 82 bytes _ h refl)
    (either bytes unrestrict _ _ (λ h. told 78 bytes _ h refl)
    (either bytes grant _ _ (λ h. told 71 bytes _ h refl)
    (either bytes revoke _ _ (λ h. told 86 bytes _ h refl)
    (either bytes close_day _ _ (λ h. told 90 bytes _ h refl)
    (λ c h. cc))))))))

pub returns : goal.returns
returns c = keep_their_type
