-- What is wrong with what a store contains, where it shows no tree.
use Rattle.std.specs.Prelude.{◌≡◌, ◌≢◌, ℕ, ◌/◌, ◌<◌, List, ◌∷◌, ◌++◌, length, IsSome, IsSomeAnd, None}
use Rattle.std.specs.FinMap as map
use Rattle.lfs_types.specs.declared.block.TheConstants.{BLOCK_SIZE}
use Rattle.lfs_types.specs.declared.limits.TheConstants.{FIRST_INODE}
use Rattle.lfs_types.specs.Changes.{IsLength}
use Rattle.lfs_types.specs.Stored.{bytes_of}
use Rattle.lfs_types.specs.Tree.{Content, root}
use Rattle.lfs_dirs.specs.Directory.{Entry, IsDirectoryBlock, number_in}
use Rattle.lfs_dirs.specs.Reading.{entries_of}
use Rattle.lfs_calls.specs.Content.{IsDirectoryAt, all_entries, block_at}
use Rattle.lfs_calls.specs.Names.{Lists}
use Rattle.lfs_trees.specs.declared.fault.TreeFault.{TreeFault}
use Rattle.lfs_trees.specs.declared.fault.TreeFault.TheVariants.{Root, Reserved, Length, Block, NameTwice, RootListed}
use Rattle.lfs_trees.specs.declared.fault.TreeFault.TheVariants.{Unused, NumberTwice, Unreached, Memory}

-- each number in use is below this one
abbrev pub IsBelow : ℕ → Content → Type 0
IsBelow numbers c = (n : ℕ) → IsSome (map.get c n) → n < numbers

-- names lead to a number: it is the root, or a directory lists it that names lead to
pub data Leads (c : Content) : ℕ → Type 0 where
  begins : Leads c root
  goes : (dir : ℕ) (name : List ℕ) (number : ℕ) → Leads c dir → Lists c dir name number → Leads c number

-- an entry of a number has the name of an entry before it
pub record StandsAgain (es : List Entry) (number : ℕ) : Type 0 where
  pub name : List ℕ
  pub before : List Entry
  pub behind : List Entry
  pub parts : es ≡ before ++ (number, name) ∷ behind
  pub again : IsSome (number_in name before)

-- a number is listed at two places
pub record IsListedTwice (c : Content) (number : ℕ) : Type 0 where
  pub one : ℕ
  pub one_name : List ℕ
  pub other : ℕ
  pub other_name : List ℕ
  pub first : Lists c one one_name number
  pub second : Lists c other other_name number
  pub apart : one ≡ other → one_name ≡ other_name → ⊥

-- a directory lists a number
abbrev pub IsListed : Content → ℕ → ℕ → Type 0
IsListed c dir number = (name : List ℕ) × Lists c dir name number

-- what a fault says of a content; want of memory says nothing of it
abbrev pub IsTreeFaultOf : Content → TreeFault → Type 0
IsTreeFaultOf c Root = IsDirectoryAt c root → ⊥
IsTreeFaultOf c (Reserved number) = IsSome (map.get c number) × (number ≢ root) × (number < FIRST_INODE)
IsTreeFaultOf c (Length number) = IsSomeAnd (map.get c number) (λ f. IsLength f.kind (length f.bytes) → ⊥)
IsTreeFaultOf c (Block directory index) =
    IsDirectoryAt c directory × (index < length (bytes_of c directory) / BLOCK_SIZE)
    × (IsDirectoryBlock (block_at (bytes_of c directory) index) (entries_of (block_at (bytes_of c directory) index))
    → ⊥)
IsTreeFaultOf c (NameTwice directory number) = IsDirectoryAt c directory
    × StandsAgain (all_entries (bytes_of c directory)) number
IsTreeFaultOf c (RootListed directory) = IsListed c directory root
IsTreeFaultOf c (Unused directory number) = IsListed c directory number × (map.get c number ≡ None)
IsTreeFaultOf c (NumberTwice number) = IsListedTwice c number
IsTreeFaultOf c (Unreached number) = IsSome (map.get c number) × (Leads c number → ⊥)
IsTreeFaultOf c Memory = Unit {0}
