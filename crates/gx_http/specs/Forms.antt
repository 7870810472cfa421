-- The form that asks for a kill.
use Rattle.std.specs.Prelude.{ℕ, ◌&&◌, List, [], ◌∷◌, Option, None, option_map, option_and_then, if◌then◌else◌, bytes_eq, codes}
use Rattle.form_urlencoded.specs.Form.{raw_pairs}
use Rattle.gx_http.specs.{declared.forms.KillForm.KillForm, Credentials.padded_in}

-- of this account, with this token
abbrev pub form_of : Option (List ℕ) → Option (List ℕ) → Option KillForm
form_of account token =
    option_and_then (λ (a : List ℕ). option_map {U = KillForm} (λ (t : List ℕ). record { account = record { bytes = a }; token = record { bytes = t } }) token) account

-- the account and the token, in this order, and nothing else
abbrev pub form_in : List (List ℕ × List ℕ) → Option KillForm
form_in (account ∷ token ∷ []) =
    if bytes_eq account.0 (codes "account") && bytes_eq token.0 (codes "token") then form_of (padded_in 8 account.1) (padded_in 32 token.1) else None
form_in others = None

-- the form that a body has; names of accounts and tokens stand in it as they are
abbrev pub kill_form : List ℕ → Option KillForm
kill_form body = form_in (raw_pairs body)
