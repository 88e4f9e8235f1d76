-- The bytes of a file change only by a Write or a SetLength of a caller who may write it, and as the call says.
use Rattle.std.specs.Prelude.{◌≡◌, ◌≢◌, ◌<◌, ◌≤◌, ℕ, ◌+◌, max, true, List, [], ◌++◌, length, get_or, Some}
use Rattle.std.specs.FinMap as map
use Rattle.lfs_types.specs.Caller.{Caller}
use Rattle.lfs_types.specs.Tree.{Row, World, root, attrs_of}
use Rattle.lfs_types.specs.declared.attrs.Kind.TheVariants.{File as Regular}
use Rattle.lfs_types.specs.declared.request.Place.TheVariants.{End}
use Rattle.lfs_types.specs.declared.request.Request.{Request}
use Rattle.lfs_types.specs.declared.request.Request.TheVariants.{Write, SetLength}
use Rattle.lfs_rules.specs.Locks.{is_append_only}
use Rattle.lfs_model.specs.Rules.{file_max, reached, start_in}
use Rattle.lfs_laws.specs.LawsBytes.{Covers}
use Rattle.lfs_laws.specs.Rights.{Law, MayWrite}

-- the call is to change the bytes of the file of this number
abbrev pub Rewrites : World → ℕ → Request → Type 0
Rewrites w n (Write path place bytes) = reached w.rows root path ≡ n
Rewrites w n (SetLength path len) = reached w.rows root path ≡ n
Rewrites w n request = ⊥

-- the call brings this value for byte i of a file of this size
abbrev pub Brings : Request → ℕ → ℕ → ℕ → Type 0
Brings (Write path place bytes) size i value = Covers (start_in place size) bytes i value
Brings request size i value = ⊥

-- all bytes that a call brings
abbrev pub brought : Request → List ℕ
brought (Write path place bytes) = bytes
brought request = []

-- the call is to put bytes at the end
abbrev pub Appends : Request → Type 0
Appends (Write path End bytes) = Unit {0}
Appends request = ⊥

-- how many bytes a file of this size has after the call
abbrev pub new_size : Request → ℕ → ℕ
new_size (Write path place bytes) size = max size (start_in place size + length bytes)
new_size (SetLength path len) size = len
new_size request size = size

-- A caller may give a file these bytes by this call: they are as many as the call says, and no more than fit a file, if
-- the old ones did; each is the one that the call brings there, else the old one, else 0. An append-only file is
-- written at its end, and has its old bytes, followed by just those that the call brings.
pub record MayRewrite (w : World) (caller : Caller) (request : Request) (n : ℕ) (r : Row) (bytes : List ℕ)
    : Type 0 where
  pub regular : r.file.kind ≡ Regular
  pub writes : MayWrite w.rows caller n
  pub size : length bytes ≡ new_size request (length r.file.bytes)
  pub fits : length r.file.bytes ≤ file_max → length bytes ≤ file_max
  pub brings : (i value : ℕ) → Brings request (length r.file.bytes) i value → get_or bytes i 0 ≡ value
  pub keeps : (i : ℕ) → ((value : ℕ) → Brings request (length r.file.bytes) i value → ⊥) → i < length bytes
      → get_or bytes i 0 ≡ get_or r.file.bytes i 0
  pub appends : is_append_only (attrs_of r.file) ≡ true → Appends request × (bytes ≡ r.file.bytes ++ brought request)
  pub asked : Rewrites w n request

-- a file that has other bytes was written by whoever may
abbrev pub Rewritten : Law
Rewritten numbers w caller request answer after =
    (n : ℕ) (r s : Row) → map.get w.rows n ≡ Some r → map.get after.rows n ≡ Some s
    → s.file.bytes ≢ r.file.bytes → MayRewrite w caller request n r s.file.bytes
