-- A run over the items that bytes are cut into, read in pieces: what it read and wrote, whole or stopped by a fault.
use Rattle.std.specs.{Prelude.{◌≡◌, ℕ, ◌≤◌, Bool, true, ◌⊎◌, List, ◌++◌, length, Option, IfSome}, Io.KnownBytes.{Consumes, Appends, IsAtEnd}}
use Rattle.gx_devices.specs.{Devices.CountedData, Stopping.{Cause, Mark, Stops, trail}}

-- what a reader had and has left, and what a writer had written and has now
pub record Flow : Type 0 where
  pub input : Option (List ℕ)
  pub left : Option (List ℕ)
  pub output : Option (List ℕ)
  pub written : Option (List ℕ)

-- of a reader and a writer, before and after
abbrev pub flow_of : {R W : Type 0} → (R → Option (List ℕ)) → (W → Option (List ℕ)) → (reader reader' : CountedData R) (writer writer' : CountedData W) → Flow
flow_of remaining contents reader reader' writer writer' =
    record { input = remaining reader.device; left = remaining reader'.device; output = contents writer.device; written = contents writer'.device }

-- where such a run stands, the marks of an item, where the run stands behind it, and where behind all items of some bytes
pub record Way (S I R K : Type 0) : Type 0 where
  pub mark : S → Mark R K
  pub marks : S → I → List (Mark R K)
  pub next : S → I → S
  pub so_far : List ℕ → S

-- A fault stopped a run on the way through these marks; where it stopped, `There` holds; `told` is what was written on that way.
pub record StopsIn {R K : Type 0} (Refused : Cause → List R → Type 0) (There : Mark R K → Type 0) (cause : Cause) (here : Mark R K) (marks : List (Mark R K)) (output left : Option (List ℕ)) : Type 0 where
  pub stop : Mark R K
  pub stops : Stops Refused cause here marks stop
  pub there : There stop
  pub told : List ℕ
  pub text : stop.text ≡ here.text ++ told
  pub written : Appends output left told

-- the items that end in a piece were done, and their text was written; `Follows` then holds behind all the bytes
pub record TakesPiece {S I R K : Type 0} (way : Way S I R K) (Follows : List ℕ → Type 0) (bytes piece : List ℕ) (output left : Option (List ℕ)) : Type 0 where
  pub follows : Follows (bytes ++ piece)
  pub told : List ℕ
  pub written : Appends output left told
  pub more : (way.mark (way.so_far (bytes ++ piece))).text ≡ (way.mark (way.so_far bytes)).text ++ told

-- in the items that are next in a piece the run stopped
pub record IsBroken {S I R K : Type 0} (way : Way S I R K) (Refused : Cause → List R → Type 0) (There : S → Mark R K → Type 0) (AreNext : List ℕ → List ℕ → List I → Type 0) (cause : Cause) (bytes piece : List ℕ) (output left : Option (List ℕ)) : Type 0 where
  pub items : List I
  pub are_next : AreNext bytes piece items
  pub cut : let here = way.so_far bytes in
      StopsIn Refused (There here) cause (way.mark here) (trail way.marks way.next here items) output left

-- The items of what was read before the last piece were done whole (`earlier`); in the items of that piece the run stopped. A
-- piece has at most 4,096 bytes.
pub record IsCutShort {S I R K : Type 0} (way : Way S I R K) (Refused : Cause → List R → Type 0) (There : S → Mark R K → Type 0) (AreNext : List ℕ → List ℕ → List I → Type 0) (cause : Cause) (flow : Flow) : Type 0 where
  pub bytes : List ℕ
  pub piece : List ℕ
  pub consumed : Consumes flow.input flow.left (bytes ++ piece)
  pub small : length piece ≤ 4096
  pub behind : Option (List ℕ)
  pub earlier : Appends flow.output behind (way.mark (way.so_far bytes)).text
  pub broken : IsBroken way Refused There AreNext cause bytes piece behind flow.written

-- Of the bytes read, what is there and what was written are the whole run's; the bytes read are all, or no further one counts.
pub record IsWhole {R K : Type 0} (whole_of : List ℕ → Mark R K) (is_ended : List ℕ → Bool) (There : Mark R K → Type 0) (flow : Flow) : Type 0 where
  pub bytes : List ℕ
  pub consumed : Consumes flow.input flow.left bytes
  pub there : There (whole_of bytes)
  pub text : Appends flow.output flow.written (whole_of bytes).text
  pub whole : IsAtEnd flow.left ⊎ (is_ended bytes ≡ true)

-- where the reader tells its bytes, so it is of all of them
abbrev pub IsWholeOfAll : {R K : Type 0} → (List ℕ → Mark R K) → (Mark R K → Type 0) → Flow → Type 0
IsWholeOfAll whole_of There flow = IfSome flow.input (λ all. There (whole_of all) × Appends flow.output flow.written (whole_of all).text)
