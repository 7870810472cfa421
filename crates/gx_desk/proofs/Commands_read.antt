-- A command that is laid out so is read as itself.
use Rattle.std.proofs.{Common.{◌≡◌, ℕ, List, ◌∷◌, length, refl, ap, ◌∙◌}, lemmas.Nat.from_be_bytes-to_be_bytes_8}
use Rattle.std.specs.Prelude.{Option, Some, None, ◌&&◌, ◌==◌, slice_index, if◌then◌else◌}
use Rattle.gx_ouch.proofs.Fields_placed.{known_to_lie}
use Rattle.gx_ouch.specs.Layout.{Layout, HasSizes, IsWithoutGaps, field_bytes, laid_out}
use Rattle.gx_desk.specs.{Contents.{command_layout, action_contents, command_contents, LimitFits}, Messages.{kill, lift, set_limit, restrict, unrestrict, grant, revoke, close_day}, Reading.{command_of, account_command_of, limit_command_of, stock_command_of, reader_command_of, close_of, tagged_command}, declared.{Action.Action, Command.Command, Tag.Tag}}

-- the command, by its first byte and its length
abbrev command_at : ℕ → ℕ → List ℕ → Option Command
command_at head size bytes =
    if (head == kill.kind) && (size == kill.size) then account_command_of Action.Kill (field_bytes kill bytes)
    else (if (head == lift.kind) && (size == lift.size) then account_command_of Action.Lift (field_bytes lift bytes)
    else (if (head == set_limit.kind) && (size == set_limit.size) then limit_command_of (field_bytes set_limit bytes)
    else (if (head == restrict.kind) && (size == restrict.size) then stock_command_of Action.Restrict (field_bytes restrict bytes)
    else (if (head == unrestrict.kind) && (size == unrestrict.size) then stock_command_of Action.Unrestrict (field_bytes unrestrict bytes)
    else (if (head == grant.kind) && (size == grant.size) then reader_command_of Action.Grant (field_bytes grant bytes)
    else (if (head == revoke.kind) && (size == revoke.size) then reader_command_of Action.Revoke (field_bytes revoke bytes)
    else (if (head == close_day.kind) && (size == close_day.size) then close_of (field_bytes close_day bytes)
    else None)))))))

command_by : (bytes : List ℕ) (head size : ℕ) → slice_index bytes 0 ≡ head → length bytes ≡ size → command_of bytes ≡ command_at head size bytes
unfolding command_of
command_by bytes head size h s = ap (λ (n : ℕ). command_at n (length bytes) bytes) h ∙ ap (λ (n : ℕ). command_at head n bytes) s

fields_of : (layout : Layout) (contents : List (List ℕ)) (bytes : List ℕ) → bytes ≡ laid_out layout contents → IsWithoutGaps layout → HasSizes layout contents → field_bytes layout bytes ≡ contents
fields_of layout contents bytes known gapless sizes = (known_to_lie layout contents bytes known gapless sizes).fields

-- the bytes of a command are read as it
command_back : (tag : Tag) (action : Action) (bytes : List ℕ) → bytes ≡ laid_out (command_layout action) (tag.bytes ∷ action_contents action)
    → length bytes ≡ (command_layout action).size → HasSizes (command_layout action) (tag.bytes ∷ action_contents action) → LimitFits action
    → command_of bytes ≡ Some (record { tag = tag; action = action })
command_back tag (Action.Kill account) bytes known size sizes fits =
    command_by bytes 75 23 (ap (λ (bs : List ℕ). slice_index bs 0) known) size ∙ ap (account_command_of Action.Kill) (fields_of kill (tag.bytes ∷ action_contents (Action.Kill account)) bytes known (record { offsets = refl; size = refl }) sizes)
command_back tag (Action.Lift account) bytes known size sizes fits =
    command_by bytes 76 23 (ap (λ (bs : List ℕ). slice_index bs 0) known) size ∙ ap (account_command_of Action.Lift) (fields_of lift (tag.bytes ∷ action_contents (Action.Lift account)) bytes known (record { offsets = refl; size = refl }) sizes)
command_back tag (Action.SetLimit rule limit) bytes known size sizes fits =
    command_by bytes 77 31 (ap (λ (bs : List ℕ). slice_index bs 0) known) size ∙ ap limit_command_of (fields_of set_limit (tag.bytes ∷ action_contents (Action.SetLimit rule limit)) bytes known (record { offsets = refl; size = refl }) sizes)
    ∙ ap (λ (n : ℕ). Some (tagged_command tag.bytes (Action.SetLimit rule n))) (from_be_bytes-to_be_bytes_8 limit fits)
command_back tag (Action.Restrict rule stock) bytes known size sizes fits =
    command_by bytes 82 31 (ap (λ (bs : List ℕ). slice_index bs 0) known) size ∙ ap (stock_command_of Action.Restrict) (fields_of restrict (tag.bytes ∷ action_contents (Action.Restrict rule stock)) bytes known (record { offsets = refl; size = refl }) sizes)
command_back tag (Action.Unrestrict rule stock) bytes known size sizes fits =
    command_by bytes 78 31 (ap (λ (bs : List ℕ). slice_index bs 0) known) size ∙ ap (stock_command_of Action.Unrestrict) (fields_of unrestrict (tag.bytes ∷ action_contents (Action.Unrestrict rule stock)) bytes known (record { offsets = refl; size = refl }) sizes)
command_back tag (Action.Grant reader account) bytes known size sizes fits =
    command_by bytes 71 29 (ap (λ (bs : List ℕ). slice_index bs 0) known) size ∙ ap (reader_command_of Action.Grant) (fields_of grant (tag.bytes ∷ action_contents (Action.Grant reader account)) bytes known (record { offsets = refl; size = refl }) sizes)
command_back tag (Action.Revoke reader account) bytes known size sizes fits =
    command_by bytes 86 29 (ap (λ (bs : List ℕ). slice_index bs 0) known) size ∙ ap (reader_command_of Action.Revoke) (fields_of revoke (tag.bytes ∷ action_contents (Action.Revoke reader account)) bytes known (record { offsets = refl; size = refl }) sizes)
command_back tag Action.CloseDay bytes known size sizes fits =
    command_by bytes 90 15 (ap (λ (bs : List ℕ). slice_index bs 0) known) size ∙ ap close_of (fields_of close_day (tag.bytes ∷ action_contents Action.CloseDay) bytes known (record { offsets = refl; size = refl }) sizes)

-- the same of a whole command
pub command_read : (c : Command) (bytes : List ℕ) → bytes ≡ laid_out (command_layout c.action) (command_contents c) → length bytes ≡ (command_layout c.action).size
    → HasSizes (command_layout c.action) (command_contents c) → LimitFits c.action → command_of bytes ≡ Some c
command_read c bytes known size sizes fits = command_back c.tag c.action bytes known size sizes fits
