-- What a call brings decides nothing but where a rule says so: not which mode, which bytes, or which user flags.
use Rattle.std.specs.Prelude.{◌≡◌, ℕ, ◌+◌, ◌/◌, nat_le, Bool, true, List, length}
use Rattle.lfs_types.specs.Caller.{Caller}
use Rattle.lfs_types.specs.Tree.{World, root}
use Rattle.lfs_types.specs.declared.request.Place.{Place}
use Rattle.lfs_types.specs.declared.request.Request.{Request}
use Rattle.lfs_types.specs.declared.request.Request.TheVariants.{Read, Write, SetLength, Create, Mkdir, Chmod, Chown}
use Rattle.lfs_types.specs.declared.request.Request.TheVariants.{Chflags}
use Rattle.lfs_rules.specs.Owners.{is_in_group}
use Rattle.lfs_model.specs.Rules.{attrs_at, decide, file_max, is_end, reached, start_in}

-- whether bytes that go to a place of a file fit it
abbrev pub fits : World → List (List ℕ) → Place → List ℕ → Bool
fits w path place bytes =
    nat_le (start_in place (attrs_at w.rows (reached w.rows root path)).size + length bytes) file_max

-- Two calls of a caller differ only in the mode; in bytes, places and lengths, both at the end or both at a place,
-- both within or both past the limit of a file; in a Read's offset and length; in user flags; or in the group of a
-- Chown, both his.
abbrev pub BringsAlike : World → Caller → Request → Request → Type 0
BringsAlike w caller (Read path off len) (Read path2 off2 len2) = path ≡ path2
BringsAlike w caller (Write path place bytes) (Write path2 place2 bytes2) =
    (path ≡ path2) × (is_end place ≡ is_end place2) × (fits w path place bytes ≡ fits w path place2 bytes2)
BringsAlike w caller (SetLength path len) (SetLength path2 len2) =
    (path ≡ path2) × (nat_le len file_max ≡ nat_le len2 file_max)
BringsAlike w caller (Create path mode) (Create path2 mode2) = path ≡ path2
BringsAlike w caller (Mkdir path mode) (Mkdir path2 mode2) = path ≡ path2
BringsAlike w caller (Chmod path mode) (Chmod path2 mode2) = path ≡ path2
BringsAlike w caller (Chown path uid gid) (Chown path2 uid2 gid2) =
    (path ≡ path2) × (uid ≡ uid2) × (is_in_group caller gid ≡ true) × (is_in_group caller gid2 ≡ true)
BringsAlike w caller (Chflags path flags) (Chflags path2 flags2) =
    (path ≡ path2) × (flags / 0x1_0000 ≡ flags2 / 0x1_0000)
BringsAlike w caller request other = ⊥

-- such calls are decided alike
abbrev pub DecidesAlike : Type 0
DecidesAlike =
    (w : World) (caller : Caller) (request other : Request)
    → BringsAlike w caller request other → decide w caller request ≡ decide w caller other
