-- What a Stat, a Read or a List shows is of the row at the call's path, which the caller reaches and, but for Stat,
-- may read.
use Rattle.std.specs.Prelude.{◌≡◌, ◌↔◌, ℕ, true, List, Contains, min, Some}
use Rattle.std.specs.Cmp.Lexicographic.{slice_cmp}
use Rattle.std.specs.FinMap as map
use Rattle.std.specs.List.Sorted.{IsStrictlySortedBy}
use Rattle.std.specs.Ordering.{nat_cmp}
use Rattle.lfs_types.specs.Caller.{Caller}
use Rattle.lfs_types.specs.Stored.{slice_of}
use Rattle.lfs_types.specs.Tree.{Row, World, root, attrs_of}
use Rattle.lfs_types.specs.declared.answer.Answer.{Answer}
use Rattle.lfs_types.specs.declared.answer.Answer.TheVariants.{Served}
use Rattle.lfs_types.specs.declared.answer.Served.TheVariants as served
use Rattle.lfs_types.specs.declared.attrs.Bit.TheVariants as bits
use Rattle.lfs_types.specs.declared.attrs.Kind.TheVariants.{File as Regular, Directory}
use Rattle.lfs_types.specs.declared.request.Request.{Request}
use Rattle.lfs_types.specs.declared.request.Request.TheVariants.{Stat, Read, List as Names}
use Rattle.lfs_rules.specs.Grants.{grants_of}
use Rattle.lfs_model.specs.Rules.{reached}
use Rattle.lfs_model.specs.World.{Rows, IsChild}
use Rattle.lfs_model.specs.Effects.{read_max}
use Rattle.lfs_laws.specs.Rights.{Law, Reaches}

-- a row at a path that the caller reaches, of which P holds
pub record IsSeen (w : World) (caller : Caller) (path : List (List ℕ)) (P : ℕ → Row → Type 0) : Type 0 where
  pub number : ℕ
  pub row : Row
  pub there : map.get w.rows number ≡ Some row
  pub named : reached w.rows root path ≡ number
  pub reaches : Reaches w.rows caller number
  pub holds : P number row

-- names are those of what hangs in a directory, each once, in byte order
pub record AreNames (rows : Rows) (dir : ℕ) (names : List (List ℕ)) : Type 0 where
  pub ordered : IsStrictlySortedBy (slice_cmp nat_cmp) names
  pub each : (name : List ℕ) → Contains names name ↔ ((n : ℕ) × IsChild rows dir name n)

-- what a served call shows, and by what right
abbrev pub MayShow : World → Caller → Request → Answer → Type 0
MayShow w caller (Stat path) (Served shown) = IsSeen w caller path (λ n r. shown ≡ served.Stat n (attrs_of r.file))
MayShow w caller (Read path off len) (Served shown) = IsSeen w caller path (λ n r.
    (r.file.kind ≡ Regular)
    × (grants_of caller (attrs_of r.file) bits.Read ≡ true)
    × (shown ≡ served.Bytes (slice_of r.file.bytes off (min len read_max))))
MayShow w caller (Names path) (Served shown) = IsSeen w caller path (λ n r.
    (r.file.kind ≡ Directory)
    × (grants_of caller (attrs_of r.file) bits.Read ≡ true)
    × ((names : List (List ℕ)) × (shown ≡ served.Names names) × AreNames w.rows n names))
MayShow w caller request (Served shown) = shown ≡ served.Done
MayShow w caller request answer = Unit {0}

-- a call shows what its caller may see, and no other
abbrev pub Shown : Law
Shown numbers w caller request answer after = MayShow w caller request answer
