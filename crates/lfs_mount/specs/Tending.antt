-- What is done between messages.
use Rattle.std.specs.Prelude.{ℕ, ◌-◌, ◌≤◌, min, [], length}
use Rattle.lfs_volume.specs.Seen.{Seen}

-- a volume whose entries were let go: its journal begins at its present tree
abbrev pub let_go : {F : Type 0} → Seen F → Seen F
let_go volume = record volume { since = volume.store; since_level = volume.level; journal = [] }

-- a volume whose journal takes no more entries: each call is refused JournalFull
abbrev pub closed : {F : Type 0} → Seen F → Seen F
closed volume = record volume { limit = length volume.journal }

-- a volume whose journal takes so many entries more, or as many as it may have
abbrev pub HasRoomFor : {F : Type 0} → ℕ → Seen F → Type 0
HasRoomFor wanted volume = min wanted volume.limit ≤ volume.limit - length volume.journal
