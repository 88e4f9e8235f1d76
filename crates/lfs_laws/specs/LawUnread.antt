-- Whoever may not read a file, or doesn't reach it, learns by a call nothing of its bytes but how many they are.
use Rattle.std.specs.Prelude.{◌≡◌, ℕ, true, Option, None, Some}
use Rattle.std.specs.FinMap as map
use Rattle.lfs_types.specs.Caller.{Caller}
use Rattle.lfs_types.specs.Tree.{Row, World, attrs_of}
use Rattle.lfs_types.specs.declared.answer.Answer.{Answer}
use Rattle.lfs_types.specs.declared.attrs.Bit.TheVariants as bits
use Rattle.lfs_types.specs.declared.request.Request.{Request}
use Rattle.lfs_rules.specs.Grants.{grants_of}
use Rattle.lfs_model.specs.World.{IsTree}
use Rattle.lfs_laws.specs.Rights.{Reaches}
use Rattle.lfs_model.specs.Steps.{IsAnswer}

-- A row looks like another to a caller: it hangs in the same place and has the same attributes, the size among them,
-- and where the caller reaches it and is granted to read it, the same bytes.
pub record LooksAlike (caller : Caller) (reaches : Type 0) (r s : Row) : Type 0 where
  pub parents : r.parent ≡ s.parent
  pub names : r.name ≡ s.name
  pub attrs : attrs_of r.file ≡ attrs_of s.file
  pub bytes : grants_of caller (attrs_of r.file) bits.Read ≡ true → reaches → r.file.bytes ≡ s.file.bytes

-- what two worlds have under a number looks alike to a caller: no row in both, or such rows
abbrev pub NumberLooksAlike : Caller → Type 0 → Option Row → Option Row → Type 0
NumberLooksAlike caller reaches None None = Unit {0}
NumberLooksAlike caller reaches None (Some s) = ⊥
NumberLooksAlike caller reaches (Some r) None = ⊥
NumberLooksAlike caller reaches (Some r) (Some s) = LooksAlike caller reaches r s

-- two worlds differ at most in the bytes of files that the caller isn't granted to read or doesn't reach
pub record DifferUnread (caller : Caller) (w v : World) : Type 0 where
  pub level : w.level ≡ v.level
  pub rows : (n : ℕ) → NumberLooksAlike caller (Reaches w.rows caller n) (map.get w.rows n) (map.get v.rows n)

-- each answer that a call may have in one of the worlds, it may have in the other; NoInodes, DirectoryFull and NoSpace
-- are among them
abbrev pub NobodyReads : Type 0
NobodyReads =
    (numbers : ℕ) (caller : Caller) (w v : World) (request : Request) (answer : Answer)
    → IsTree w.rows
    → DifferUnread caller w v
    → IsAnswer numbers w caller request answer
    → IsAnswer numbers v caller request answer
