-- Where an inode's blocks lie: the addresses of its record, and those of its indirect blocks.
use Rattle.std.specs.Prelude.{◌≡◌, ◌≤◌, ℕ, ◌+◌, ◌-◌, ◌*◌, ◌/◌, ◌%◌, ◌==◌, List, [], ◌∷◌, ◌++◌, length, map, replicate}
use Rattle.std.specs.Prelude.{slice_index, take, nat_lt, if◌then◌else◌}
use Rattle.std.specs.List.{range_with_len}
use Rattle.lfs_inodes.specs.declared.inode.Inode.{Inode}
use Rattle.lfs_inodes.specs.declared.inode.TheConstants.{DIRECT_COUNT, DOUBLE_PLACE, ENTRY_COUNT, ROOT_COUNT}
use Rattle.lfs_inodes.specs.declared.inode.TheConstants.{SINGLE_END}
use Rattle.lfs_inodes.specs.Bytes.{number_at}

-- the addresses that stand in the record: those of blocks 0 to 11, of the single and of the double indirect block
abbrev pub addresses : Inode → List ℕ
addresses v = v.direct ++ v.single ∷ v.double ∷ []

-- the first data block to which the address at a place of the record leads
abbrev pub first_at : ℕ → ℕ
first_at place = if place == DOUBLE_PLACE then SINGLE_END else place

-- those of them that lead to blocks below the n-th, the others being 0
unfoldable pub kept_roots : ℕ → List ℕ → List ℕ
kept_roots n xs = map (λ k. if nat_lt (first_at k) n then slice_index xs k else 0) (range_with_len 0 ROOT_COUNT)

-- the `count` numbers of 4 bytes from place `at` on
unfoldable pub numbers : List ℕ → ℕ → ℕ → List ℕ
numbers bytes at count = map (λ k. number_at bytes (at + 4 * k) 4) (range_with_len 0 count)

-- the 128 addresses of an indirect block
abbrev pub cells : List ℕ → List ℕ
cells block = numbers block 0 128

-- the address of block n: in the record below 12, below 140 in the single indirect block, else in the child that leads
-- to it
abbrev pub address_of : Inode → List ℕ → List ℕ → ℕ → ℕ
address_of v single child n =
    if nat_lt n DIRECT_COUNT then slice_index (addresses v) n
    else (if nat_lt n SINGLE_END then slice_index (cells single) (n - DIRECT_COUNT)
    else slice_index (cells child) ((n - SINGLE_END) % ENTRY_COUNT))

-- two blocks under the double indirect block are under one child of it
abbrev pub SameChild : ℕ → ℕ → Type 0
SameChild m n = SINGLE_END ≤ m → SINGLE_END ≤ n → (m - SINGLE_END) / ENTRY_COUNT ≡ (n - SINGLE_END) / ENTRY_COUNT

-- a list with zeros from place n on
abbrev pub zeroed_from : ℕ → List ℕ → List ℕ
zeroed_from n xs = take n xs ++ replicate (length xs - n) 0
