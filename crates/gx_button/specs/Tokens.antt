-- What a page is given, so that no page of another server can ask for anything in a user's name.
use Rattle.std.specs.Prelude.{ℕ, Bool, List, ◌++◌, take, bit_or, bit_xor, fold, zip, bytes_eq}
use Rattle.hex.specs.Hex.{encode_lower}
use Rattle.sha2.specs.Sha256.{sha256}
use Rattle.gx_units.specs.declared.names.UserName.{UserName}
use Rattle.gx_http.specs.declared.forms.PageToken.{PageToken}

-- half of the digest of the server's secret and the user's name, in hexadecimal digits
abbrev pub page_token : List ℕ → UserName → PageToken
page_token secret user = record { bytes = encode_lower (take 16 (sha256 (secret ++ user.bytes))) }

-- what differs between the bytes, one over the other
abbrev pub differences : List ℕ → List ℕ → ℕ
differences one other = fold (λ (seen : ℕ) (p : ℕ × ℕ). bit_or seen (bit_xor p.0 p.1)) 0 (zip one other)

abbrev pub same_page_token : PageToken → PageToken → Bool
same_page_token one other = bytes_eq one.bytes other.bytes
