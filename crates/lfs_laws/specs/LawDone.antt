-- A served call did what it asks.
use Rattle.std.specs.Prelude.{◌≡◌, ◌≢◌, ℕ, ◌+◌, max, false, List, [], ◌∷◌, length, get_or, None, Some}
use Rattle.std.specs.FinMap as map
use Rattle.lfs_types.specs.Caller.{Caller}
use Rattle.lfs_types.specs.Tree.{Row, World, root}
use Rattle.lfs_types.specs.declared.answer.Answer.TheVariants.{Served, Denied, Refused}
use Rattle.lfs_types.specs.declared.request.Request.{Request}
use Rattle.lfs_types.specs.declared.request.Request.TheVariants.{Write, SetLength, Create, Mkdir, Unlink, Rmdir, Rename}
use Rattle.lfs_types.specs.declared.request.Request.TheVariants.{Chmod, Chown, Chflags, SetLevel}
use Rattle.lfs_rules.specs.Bits.{has_bit}
use Rattle.lfs_laws.specs.LawsBytes.{Covers}
use Rattle.lfs_model.specs.World.{IsChild}
use Rattle.lfs_laws.specs.Rights.{Law}
use Rattle.lfs_model.specs.Rules.{front, last, reached, start_in}

-- the row of a number was there and still is, and P holds of what it was and what it is
pub record Became (w after : World) (n : ℕ) (P : Row → Row → Type 0) : Type 0 where
  pub old : Row
  pub new : Row
  pub was : map.get w.rows n ≡ Some old
  pub is : map.get after.rows n ≡ Some new
  pub holds : P old new

-- a row is new, of which P holds
pub record Appeared (w after : World) (P : Row → Type 0) : Type 0 where
  pub number : ℕ
  pub row : Row
  pub unused : map.get w.rows number ≡ None
  pub is : map.get after.rows number ≡ Some row
  pub holds : P row

-- by another than the superuser: no set-id bits
abbrev pub HasNoSetIds : Caller → Row → Type 0
HasNoSetIds caller r = caller.uid ≢ 0 → (has_bit r.file.mode 0o4000 ≡ false) × (has_bit r.file.mode 0o2000 ≡ false)

-- another row that had this parent and name is gone
abbrev pub GaveWay : World → World → ℕ → ℕ → List ℕ → Type 0
GaveWay w after n parent name = (m : ℕ) → IsChild w.rows parent name m → m ≢ n → map.get after.rows m ≡ None

-- what a call asks is so after
abbrev pub Did : World → Caller → Request → World → Type 0
Did w caller (Write path place []) after = after ≡ w
Did w caller (Write path place (b ∷ bs)) after = Became w after (reached w.rows root path) (λ r s.
    (length s.file.bytes ≡ max (length r.file.bytes) (start_in place (length r.file.bytes) + length (b ∷ bs)))
    × ((i value : ℕ) → Covers (start_in place (length r.file.bytes)) (b ∷ bs) i value → get_or s.file.bytes i 0 ≡ value)
    × HasNoSetIds caller s)
Did w caller (SetLength path len) after =
    Became w after (reached w.rows root path) (λ r s. (length s.file.bytes ≡ len) × HasNoSetIds caller s)
Did w caller (Create path mode) after = Appeared w after (λ s. (s.parent ≡ reached w.rows root (front path))
    × (s.name ≡ last path))
Did w caller (Mkdir path mode) after = Appeared w after (λ s. (s.parent ≡ reached w.rows root (front path))
    × (s.name ≡ last path))
Did w caller (Unlink path) after = map.get after.rows (reached w.rows root path) ≡ None
Did w caller (Rmdir path) after = map.get after.rows (reached w.rows root path) ≡ None
Did w caller (Rename from to) after =
    Became w after (reached w.rows root from) (λ r s. (s.parent ≡ reached w.rows root (front to)) × (s.name ≡ last to))
    × GaveWay w after (reached w.rows root from) (reached w.rows root (front to)) (last to)
Did w caller (Chmod path mode) after = Became w after (reached w.rows root path) (λ r s. s.file.mode ≡ mode)
Did w caller (Chown path uid gid) after =
    Became w after (reached w.rows root path) (λ r s. (s.file.uid ≡ uid) × (s.file.gid ≡ gid) × HasNoSetIds caller s)
Did w caller (Chflags path flags) after = Became w after (reached w.rows root path) (λ r s. s.file.flags ≡ flags)
Did w caller (SetLevel level) after = after.level ≡ level
Did w caller request after = after ≡ w

-- so of each served call
abbrev pub Done : Law
Done numbers w caller request (Served shown) after = Did w caller request after
Done numbers w caller request (Denied denial) after = Unit {0}
Done numbers w caller request (Refused resource) after = Unit {0}
