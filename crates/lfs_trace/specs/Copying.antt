-- A plain store with the content of another.
use Rattle.std.specs.Prelude.{◌≡◌, ◌≢◌, ◌≤◌, ◌<◌, ◌==◌, ℕ, [], length, None, Some, IsSome, IsSomeAnd, if◌then◌else◌}
use Rattle.std.specs.FinMap as map
use Rattle.lfs_types.specs.Changes.{IsLength}
use Rattle.lfs_types.specs.Tree.{Content, File, root}
use Rattle.lfs_types.specs.declared.attrs.Attrs.{Attrs}
use Rattle.lfs_types.specs.declared.attrs.Kind.TheVariants.{Directory}

-- a plain store with so many inode numbers can have this content: its files have some of these numbers and a length
-- that they may have, and its root is a directory
pub record CanCopy (numbers : ℕ) (c : Content) : Type 0 where
  pub within : (n : ℕ) → IsSome (map.get c n) → n < numbers
  pub named : (n : ℕ) → IsSome (map.get c n) → n ≢ root → 4 ≤ n
  pub rooted : IsSomeAnd (map.get c root) (λ f. f.kind ≡ Directory)
  pub sizes : (n : ℕ) (f : File) → map.get c n ≡ Some f → IsLength f.kind (length f.bytes)

-- a content has of one number what another has, and of all others what it had
abbrev pub IsCopiedAt : ℕ → Content → Content → Content → Type 0
IsCopiedAt number from old new = (n : ℕ) → map.get new n ≡ (if n == number then map.get from n else map.get old n)

-- a number may get a file: the root's has one, which is an empty directory, and others' none
abbrev pub MayBegin : ℕ → ℕ → Attrs → Content → Type 0
MayBegin numbers number attrs c = (number ≡ root → IsSomeAnd (map.get c number)
    (λ f. (f.kind ≡ attrs.kind) × (f.bytes ≡ [])))
    × (number ≢ root → (4 ≤ number) × (number < numbers) × (map.get c number ≡ None))
