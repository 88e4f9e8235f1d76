-- Directories that are open, and what of their names is told.
use Rattle.std.specs.Prelude.{◌≡◌, ◌≢◌, ⊤, ℕ, ◌+◌, nat_eq, nat_lt, List, [], ◌∷◌, ◌++◌, length, drop, replicate}
use Rattle.std.specs.Prelude.{Option, None, Some, false, if◌then◌else◌}
use Rattle.std.specs.HashMap as hash
use Rattle.lfs_types.specs.declared.answer.Answer.{Answer}
use Rattle.lfs_types.specs.declared.answer.Answer.TheVariants as answers
use Rattle.lfs_types.specs.declared.answer.Served.TheVariants as served
use Rattle.lfs_fuse_wire.specs.declared.handles.Read.{Read}
use Rattle.lfs_fuse_wire.specs.declared.kind.FileKind.{FileKind}
use Rattle.lfs_fuse_wire.specs.declared.kind.FileKind.TheVariants.{Directory}
use Rattle.lfs_fuse_wire.specs.Said.{Said, opendir, releasedir}
use Rattle.lfs_fuse_reply.specs.Listings.{dirent_type, fits_in, missing}
use Rattle.lfs_fuse_reply.specs.Numbers.{longs, words}
use Rattle.lfs_fuse_reply.specs.declared.errno.Errno.TheVariants as errno
use Rattle.lfs_fuse_calls.specs.Telling.{or_else}
use Rattle.lfs_fuse_calls.specs.declared.told.Told.{Told}
use Rattle.lfs_fuse_calls.specs.declared.told.Told.TheVariants as told
use Rattle.lfs_opens.specs.declared.listing.Listings.{Listings}

-- the names of the directory that is open by a handle
unfoldable pub names_at : Listings → ℕ → Option (List (List ℕ))
names_at listings handle = hash.get nat_eq listings.names handle

-- for the names of how many directories more there is room
unfoldable pub spare_in : Listings → ℕ
spare_in listings = hash.spare listings.names

-- as many directories are open, by the same handles, with the same names
abbrev pub AreSame : Listings → Listings → Type 0
AreSame before after = (handle : ℕ) → names_at after handle ≡ names_at before handle

-- ---- a directory that is opened or closed

abbrev pub names_of : Answer → Option (List (List ℕ))
names_of (answers.Served (served.Names names)) = Some names
names_of answer = None

-- the names that the first List among answers shows
abbrev pub names_in : List Answer → Option (List (List ℕ))
names_in [] = None
names_in (answer ∷ rest) = or_else (names_of answer) (names_in rest)

-- by a handle these names are kept, and by each other what was
pub record AreKept (names : List (List ℕ)) (handle : ℕ) (before after : Listings) : Type 0 where
  pub kept : names_at after handle ≡ Some names
  pub others : (other : ℕ) → other ≢ handle → names_at after other ≡ names_at before other

-- The handle that is told keeps the names of a directory; or memory for them is wanting, and nothing changed.
abbrev pub KeepsNames : List (List ℕ) → Listings → Listings → Told → Type 0
KeepsNames names before after (told.Open opened) =
    (opened.direct_io ≡ false) × AreKept names opened.handle before after
KeepsNames names before after (told.Error errno.ENOMEM) = AreSame before after
KeepsNames names before after reply = ⊥

-- what is told of a List that was served
abbrev pub KeepsShown : Option (List (List ℕ)) → Listings → Listings → Told → Type 0
KeepsShown None before after reply = (reply ≡ told.Error errno.EIO) × (after ≡ before)
KeepsShown (Some names) before after reply = KeepsNames names before after reply

-- a directory is closed, and no other
pub record IsClosed (handle : ℕ) (before after : Listings) : Type 0 where
  pub closed : names_at after handle ≡ None
  pub others : (other : ℕ) → other ≢ handle → names_at after other ≡ names_at before other

-- which directories are open changes by no message but those that open or close one
abbrev pub AreListed : Said → Listings → Listings → Type 0
AreListed (opendir fields) before after = ⊤
AreListed (releasedir fields) before after = IsClosed fields.handle before after
AreListed message before after = after ≡ before

-- ---- what is told of an open directory

-- an entry's place from which a listing has the names of a directory: the first two are itself and the one above it
abbrev pub all_names : List (List ℕ) → List (List ℕ)
all_names names = (46 ∷ []) ∷ (46 ∷ 46 ∷ []) ∷ names

-- the kind is known of the first two alone
abbrev pub kind_at : ℕ → Option FileKind
kind_at place = if nat_lt place 2 then Some Directory else None

-- The bytes of the entry of a name at a place: its inode number isn't known, and a listing goes on behind it at the
-- place that follows.
abbrev pub entry_bytes : ℕ → List ℕ → List ℕ
entry_bytes place name =
    longs (0xFFFF_FFFF ∷ (place + 1) ∷ [])
    ++ words (length name ∷ dirent_type (kind_at place) ∷ [])
    ++ name
    ++ replicate (missing (length name)) 0

-- a listing of at most so many bytes, and behind it the entries of names from a place on, up to the first that doesn't
-- fit
unfoldable pub listed_on : ℕ → ℕ → List (List ℕ) → List ℕ → List ℕ
listed_on most place [] listing = listing
listed_on most place (name ∷ names) listing =
    if fits_in most listing (entry_bytes place name)
    then listed_on most (place + 1) names (listing ++ entry_bytes place name)
    else listing

-- The entries of a directory from a place on: itself, the one above it, and its names in their order, as many as take
-- at most so many bytes.
abbrev pub listing_of : List (List ℕ) → ℕ → ℕ → List ℕ
listing_of names place most = listed_on most place (drop place (all_names names)) []

-- what a listing of an open directory tells, or that memory for it is wanting; and that a directory isn't open
abbrev pub TellsEntries : Option (List (List ℕ)) → Read → Told → Type 0
TellsEntries (Some names) wanted (told.Bytes bytes) = bytes.items
    ≡ listing_of names wanted.offset wanted.size
TellsEntries (Some names) wanted (told.Error errno.ENOMEM) = ⊤
TellsEntries (Some names) wanted reply = ⊥
TellsEntries None wanted reply = reply ≡ told.Error errno.EBADF
