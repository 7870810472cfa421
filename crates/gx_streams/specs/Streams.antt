-- Streams: the reports of each user, the places reserved for more, and the mask in force of each reader.
use Rattle.std.specs.{Prelude.{ℕ, Bool, ◌&&◌, not, is_some, List, [], ◌∷◌, ◌++◌, Option, Some, map, option_map, if◌then◌else◌}, Option.option_map_or, List.{find, flat_map}}
use Rattle.gx_units.specs.{Names.same_user, declared.names.UserName.UserName}
use Rattle.gx_policy.specs.{declared.policy.{PolicyData.PolicyData, User.User}, People.is_reader}
use Rattle.gx_history.specs.declared.report.Report.{Report}
use Rattle.gx_streams.specs.{declared.fill.ReportedFill.ReportedFill, Fills.{fill_copies, executed_of}, Kept.{ReservedList, UserList, at_first, is_known, items_in, empty_lists, on_user}}

-- a reader, and the accounts whose later fills he gets, in the file's order, the first in the lowest bit
pub record ReaderMask : Type 0 where
  pub user : UserName
  pub mask : ℕ

-- the lists of all users, and the masks of the readers among them
pub record AllStreams : Type 0 where
  pub lists : List (UserList Report)
  pub readers : List ReaderMask

-- the user's reports; none of a user who is not known
abbrev pub reports_in : AllStreams → UserName → List Report
reports_in streams user = items_in streams.lists user

-- the mask of the reader of this name
abbrev pub mask_in : List ReaderMask → UserName → Option ℕ
mask_in readers user = option_map (λ (r : ReaderMask). r.mask) (find (λ (r : ReaderMask). same_user user r.user) readers)

-- the user's mask, if he is a reader
abbrev pub mask_of : AllStreams → UserName → Option ℕ
mask_of streams user = mask_in streams.readers user

-- the user is known and no reader: reports are put into his stream one by one
abbrev pub has_own_stream : AllStreams → UserName → Bool
has_own_stream streams user = is_known streams.lists user && not (is_some (mask_of streams user))

-- one user's list changed, and all else as it was
abbrev pub on_list_of : UserName → (ReservedList Report → ReservedList Report) → AllStreams → AllStreams
on_list_of user change streams = record { lists = on_user user change streams.lists; readers = streams.readers }

-- what a fill tells a user: a reader the drop copies by his mask, any other the reports of his sides
abbrev pub fill_reports : List ReaderMask → ReportedFill → UserName → List Report
fill_reports readers f user = option_map_or (λ (mask : ℕ). fill_copies mask f) (mask_in readers user) (executed_of f user)

-- a user's list with what the fill tells him last
abbrev pub with_fill_reports : List ReaderMask → ReportedFill → UserList Report → UserList Report
with_fill_reports readers f l = record { user = l.user; kept = record { items = l.kept.items ++ fill_reports readers f l.user; reserved = l.kept.reserved } }

-- the fill told to each user
abbrev pub with_fill : ReportedFill → AllStreams → AllStreams
with_fill f streams = record { lists = map (with_fill_reports streams.readers f) streams.lists; readers = streams.readers }

-- the reader gets the later fills of these accounts
abbrev pub with_mask : ℕ → ReaderMask → ReaderMask
with_mask mask r = record { user = r.user; mask = mask }

-- one reader gets the later fills of these accounts; no list changes
abbrev pub with_reader_entitled : UserName → ℕ → AllStreams → AllStreams
with_reader_entitled user mask streams = record {
  lists = streams.lists;
  readers = at_first (λ (r : ReaderMask). same_user user r.user) (with_mask mask) streams.readers;
}

-- a reader gets nothing yet
abbrev pub no_mask : User → List ReaderMask
no_mask u = if is_reader (Some u.role) then (record { user = u.name; mask = 0 }) ∷ [] else []

-- the policy's users, whom nothing was told, and its readers, who get nothing yet
abbrev pub empty_streams : PolicyData → AllStreams
empty_streams policy = record { lists = empty_lists policy; readers = flat_map no_mask policy.users }
