-- What flags keep, through any list of calls.
use Rattle.std.specs.Prelude.{◌≡◌, ℕ, ◌≤◌, true, false, List, ◌++◌, length, Some, IsSomeAnd}
use Rattle.std.specs.FinMap as map
use Rattle.lfs_types.specs.Caller.{Caller}
use Rattle.lfs_types.specs.Tree.{Row, World, root, attrs_of}
use Rattle.lfs_types.specs.declared.request.Request.{Request}
use Rattle.lfs_types.specs.declared.request.Request.TheVariants.{Chflags, SetLevel}
use Rattle.lfs_rules.specs.Bits.{has_bit}
use Rattle.lfs_rules.specs.Locks.{is_immutable, is_append_only}
use Rattle.lfs_rules.specs.Securelevel.{is_above_zero}
use Rattle.lfs_model.specs.declared.journal.Entry.{Entry}
use Rattle.lfs_model.specs.Rules.{reached}
use Rattle.lfs_laws.specs.LawMoved.{HangsStill}
use Rattle.lfs_laws.specs.LawOneThing.{DiffersInFlags, KeepsMode}
use Rattle.lfs_laws.specs.LawsRuns.{NoneServed}
use Rattle.lfs_model.specs.Steps.{IsLegal, world_after}

-- a call would set the flags of the row of this number
abbrev pub SetsFlags : ℕ → World → Caller → Request → Type 0
SetsFlags n w caller (Chflags path flags) = reached w.rows root path ≡ n
SetsFlags n w caller request = ⊥

-- init's call would let the level fall to 0 or below
abbrev pub DropsLevel : World → Caller → Request → Type 0
DropsLevel w caller (SetLevel level) =
    (caller.init ≡ true) × (is_above_zero w.level ≡ true) × (is_above_zero level ≡ false)
DropsLevel w caller request = ⊥

-- a row hangs where it hung, with its kind, owner and group and, but for its set-id bits, its mode; its bytes are those
-- that it had and maybe more
pub record Grows (old new : Row) : Type 0 where
  pub hangs : HangsStill old new
  pub kind : new.file.kind ≡ old.file.kind
  pub owner : new.file.uid ≡ old.file.uid
  pub group : new.file.gid ≡ old.file.gid
  pub mode : KeepsMode old.file.mode new.file.mode
  pub more : List ℕ
  pub bytes : new.file.bytes ≡ old.file.bytes ++ more
  pub size : length old.file.bytes ≤ length new.file.bytes

-- ---- until the flags are set

-- an immutable row stays what it is, through any calls of which none that is served sets its flags
abbrev pub ImmutableStays : Type 0
ImmutableStays =
    (numbers segments : ℕ) (entries : List Entry) (w : World) (n : ℕ) (r : Row)
    → IsLegal numbers segments entries w
    → NoneServed (SetsFlags n) numbers entries w
    → map.get w.rows n ≡ Some r
    → is_immutable (attrs_of r.file) ≡ true
    → map.get (world_after numbers entries w).rows n ≡ Some r

-- an append-only row stays and only grows, through any calls of which none that is served sets its flags
abbrev pub AppendOnlyGrows : Type 0
AppendOnlyGrows =
    (numbers segments : ℕ) (entries : List Entry) (w : World) (n : ℕ) (r : Row)
    → IsLegal numbers segments entries w
    → NoneServed (SetsFlags n) numbers entries w
    → map.get w.rows n ≡ Some r
    → is_append_only (attrs_of r.file) ≡ true
    → IsSomeAnd (map.get (world_after numbers entries w).rows n) (λ s. Grows r s × (s.file.flags ≡ r.file.flags))

-- ---- until the level falls to 0

-- Above level 0 a row with SF_IMMUTABLE keeps it, and all but its flags, through any calls of which none is served to
-- init and lets the level fall to 0 or below.
abbrev pub SystemImmutableStays : Type 0
SystemImmutableStays =
    (numbers segments : ℕ) (entries : List Entry) (w : World) (n : ℕ) (r : Row)
    → IsLegal numbers segments entries w
    → NoneServed DropsLevel numbers entries w
    → is_above_zero w.level ≡ true
    → map.get w.rows n ≡ Some r
    → has_bit r.file.flags 0x2_0000 ≡ true
    → IsSomeAnd (map.get (world_after numbers entries w).rows n)
    (λ s. DiffersInFlags r s × (has_bit s.file.flags 0x2_0000 ≡ true))

-- above level 0 a row with SF_APPEND keeps it and only grows, through any such calls
abbrev pub SystemAppendOnlyGrows : Type 0
SystemAppendOnlyGrows =
    (numbers segments : ℕ) (entries : List Entry) (w : World) (n : ℕ) (r : Row)
    → IsLegal numbers segments entries w
    → NoneServed DropsLevel numbers entries w
    → is_above_zero w.level ≡ true
    → map.get w.rows n ≡ Some r
    → has_bit r.file.flags 0x4_0000 ≡ true
    → IsSomeAnd (map.get (world_after numbers entries w).rows n)
    (λ s. Grows r s × (has_bit s.file.flags 0x4_0000 ≡ true))
