-- The world of a fresh volume, and the set-id bits, by number.
use Rattle.std.specs.Prelude.{◌≡◌, ◌≢◌, ℕ, ◌%◌, [], None, Some}
use Rattle.std.specs.FinMap as map
use Rattle.lfs_types.specs.Caller.{Caller}
use Rattle.lfs_types.specs.Tree.{Row, World, opening_world}
use Rattle.lfs_types.specs.declared.answer.Answer.{Answer}
use Rattle.lfs_types.specs.declared.answer.Served.TheVariants as served
use Rattle.lfs_types.specs.declared.attrs.Kind.TheVariants.{Directory}
use Rattle.lfs_types.specs.declared.request.Request.{Request}
use Rattle.lfs_types.specs.declared.request.Request.TheVariants.{Stat, Chmod}
use Rattle.lfs_model.specs.World.{IsTree}
use Rattle.lfs_model.specs.Effects.{answer_of}
use Rattle.lfs_model.specs.Steps.{IsAnswer, after_answer}
use Rattle.lfs_laws.specs.LawLevels.{height}

-- the root has number 2, is user 0's and group 0's, of mode 0755, with no flags
abbrev pub OpensWithRoot : Type 0
OpensWithRoot = answer_of opening_world (Stat [])
    ≡ served.Stat 2 (record { kind = Directory; uid = 0; gid = 0; mode = 0o755; flags = 0; size = 0 })

-- it is alone
abbrev pub OpensAlone : Type 0
OpensAlone = (n : ℕ) → n ≢ 2 → map.get opening_world.rows n ≡ None

-- the level is 0, one less than its height
abbrev pub OpensInsecure : Type 0
OpensInsecure = height opening_world.level ≡ 1

-- the call sets a mode
abbrev pub IsChmodCall : Request → Type 0
IsChmodCall (Chmod path mode) = Unit {0}
IsChmodCall request = ⊥

-- a mode, which is below 010000, that another call than a Chmod changes is then without 04000 and 02000, and as it was
-- below; the caller isn't user 0
abbrev pub SetIdsGo : Type 0
SetIdsGo =
    (numbers : ℕ) (w : World) (caller : Caller) (request : Request) (answer : Answer) (n : ℕ) (r s : Row)
    → IsTree w.rows
    → IsAnswer numbers w caller request answer
    → map.get w.rows n ≡ Some r
    → map.get (after_answer numbers w caller request answer).rows n ≡ Some s
    → s.file.mode ≢ r.file.mode
    → (IsChmodCall request → ⊥)
    → (caller.uid ≢ 0) × (s.file.mode ≡ r.file.mode % 0o2000)
