-- What changes of a store's content do, and when they may be asked for.
use Rattle.std.specs.Prelude.{◌≡◌, ℕ, ◌+◌, ◌%◌, ◌<◌, ◌≤◌, List, [], ◌∷◌, length, Option, None, Some, IsSome, IsSomeAnd}
use Rattle.std.specs.FinMap as map
use Rattle.lfs_types.specs.Splicing.{splice, resized}
use Rattle.lfs_types.specs.Tree.{File, Content, file_of}
use Rattle.lfs_types.specs.declared.attrs.Kind.{Kind}
use Rattle.lfs_types.specs.declared.attrs.Kind.TheVariants.{File as Regular, Directory}
use Rattle.lfs_types.specs.declared.store.Change.{Change}
use Rattle.lfs_types.specs.declared.store.Change.TheVariants.{Make, Remove, SetAttrs, Put, SetLength}

-- the content with the file of a number changed, where there is one
abbrev pub changed_at : Option File → ℕ → (File → File) → Content → Content
changed_at None ino change c = c
changed_at (Some f) ino change c = map.insert c ino (change f)

-- the content after a change
abbrev pub changed : Change → Content → Content
changed (Make ino attrs) c = map.insert c ino (file_of attrs [])
changed (Remove ino) c = map.remove c ino
changed (SetAttrs ino attrs) c = changed_at (map.get c ino) ino (λ f. file_of attrs f.bytes) c
changed (Put ino off bytes) c = changed_at (map.get c ino) ino
    (λ f. record f { bytes = splice f.bytes off bytes.now }) c
changed (SetLength ino len) c = changed_at (map.get c ino) ino (λ f. record f { bytes = resized f.bytes len }) c

-- the content after changes, in order
abbrev pub applied : List Change → Content → Content
applied [] c = c
applied (change ∷ changes) c = applied changes (changed change c)

-- a file of this kind may have this many bytes
abbrev pub IsLength : Kind → ℕ → Type 0
IsLength Regular len = len ≤ 8460288
IsLength Directory len = (len ≤ 8460288) × (len % 512 ≡ 0)

-- a change may be asked for, of a store with this many inode numbers
abbrev pub CanChange : ℕ → Change → Content → Type 0
CanChange numbers (Make ino attrs) c = (4 ≤ ino) × (ino < numbers) × (map.get c ino ≡ None)
CanChange numbers (Remove ino) c = IsSome (map.get c ino)
CanChange numbers (SetAttrs ino attrs) c = IsSomeAnd (map.get c ino) (λ f. f.kind ≡ attrs.kind)
CanChange numbers (Put ino off bytes) c =
    IsSomeAnd (map.get c ino) (λ f. IsLength f.kind (length (splice f.bytes off bytes.now)))
CanChange numbers (SetLength ino len) c = IsSomeAnd (map.get c ino) (λ f. IsLength f.kind len)

-- changes may be asked for, one after another
abbrev pub CanChangeAll : ℕ → List Change → Content → Type 0
CanChangeAll numbers [] c = Unit {0}
CanChangeAll numbers (change ∷ changes) c = CanChange numbers change c × CanChangeAll numbers changes (changed change c)

-- how many changes put bytes
abbrev pub puts_of : List Change → ℕ
puts_of [] = 0
puts_of (Make ino attrs ∷ changes) = puts_of changes
puts_of (Remove ino ∷ changes) = puts_of changes
puts_of (SetAttrs ino attrs ∷ changes) = puts_of changes
puts_of (Put ino off bytes ∷ changes) = 1 + puts_of changes
puts_of (SetLength ino len ∷ changes) = puts_of changes

-- how many changes set a length
abbrev pub lengths_of : List Change → ℕ
lengths_of [] = 0
lengths_of (Make ino attrs ∷ changes) = lengths_of changes
lengths_of (Remove ino ∷ changes) = lengths_of changes
lengths_of (SetAttrs ino attrs ∷ changes) = lengths_of changes
lengths_of (Put ino off bytes ∷ changes) = lengths_of changes
lengths_of (SetLength ino len ∷ changes) = 1 + lengths_of changes

-- how many bytes changes put
abbrev pub put_bytes : List Change → ℕ
put_bytes [] = 0
put_bytes (Make ino attrs ∷ changes) = put_bytes changes
put_bytes (Remove ino ∷ changes) = put_bytes changes
put_bytes (SetAttrs ino attrs ∷ changes) = put_bytes changes
put_bytes (Put ino off bytes ∷ changes) = length bytes.now + put_bytes changes
put_bytes (SetLength ino len ∷ changes) = put_bytes changes

-- changes may be asked for in one call: at most four, of them at most two that put bytes and one that sets a
-- length, and at most 4,096 bytes put
pub record CanApply (numbers : ℕ) (changes : List Change) (c : Content) : Type 0 where
  pub few : length changes ≤ 4
  pub few_puts : puts_of changes ≤ 2
  pub few_lengths : lengths_of changes ≤ 1
  pub few_bytes : put_bytes changes ≤ 4096
  pub each : CanChangeAll numbers changes c
