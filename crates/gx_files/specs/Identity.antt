-- Which files are one.
use Rattle.std.specs.Prelude.{Bool, false, ◌&&◌, nat_eq, Option, None, Some, if◌then◌else◌}
use Rattle.gx_files.specs.declared.identity.{FileIdentity.FileIdentity, SharedFile.{SharedFile, TheVariants.{PolicyAndJournal, PolicyAndAudit, JournalAndAudit}}}

-- both are there, on one device and of one number
abbrev pub are_one : Option FileIdentity → Option FileIdentity → Bool
are_one (Some one) (Some other) = nat_eq one.device other.device && nat_eq one.inode other.inode
are_one (Some one) None = false
are_one None other = false

-- which of a policy, a journal and an audit are one
abbrev pub shared_file : (policy journal audit : Option FileIdentity) → Option SharedFile
shared_file policy journal audit =
    if are_one policy journal then Some PolicyAndJournal else (if are_one policy audit then Some PolicyAndAudit else (if are_one journal audit then Some JournalAndAudit else None))
