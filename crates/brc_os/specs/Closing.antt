-- What a close asks of the system before it gives the file or the connection up.
use Rattle.std.specs.Prelude.{◌≡◌, Bool, false}
use Rattle.brc_os.specs.declared.os_resource.OsResource.{OsResource}
use Rattle.brc_os.specs.declared.os_resource.OsResource.TheVariants.{ReadFile, WrittenFile, Peer}

-- The close asks nothing of a file that was opened for reading only, and doesn't fail. It syncs a file that was opened
-- for writing, and shuts a connection: it fails just if that does.
abbrev pub IsClosedBy : {F P : Type 0} → (F → Bool → F → Type 0) → (P → Bool → P → Type 0) → OsResource F P → Bool
    → Type 0
IsClosedBy synced shut (ReadFile file) failed = failed ≡ false
IsClosedBy synced shut (WrittenFile file) failed = (later : _) × synced file failed later
IsClosedBy synced shut (Peer stream) failed = (later : _) × shut stream failed later
