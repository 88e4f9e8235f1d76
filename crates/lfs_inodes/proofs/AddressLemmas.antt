-- The fourteen addresses of a record.
use Rattle.std.proofs.Common.{◌≡◌, ℕ, ◌<◌, [], ◌∷◌, length, slice_index, arith}
use Rattle.std.proofs.lemmas.List.{get_or_append_left, get_or-append_right, length-append}
use Rattle.lfs_inodes.specs.declared.inode.Inode.{Inode}
use Rattle.lfs_inodes.specs.Addresses.{addresses}

pub length-addresses : (v : Inode) → length (addresses v) ≡ 14
length-addresses v = omega (arith, length-append v.direct (v.single ∷ v.double ∷ []), v.whole)

pub slice_index-direct : (v : Inode) (n : ℕ) → n < 12 → slice_index (addresses v) n ≡ slice_index v.direct n
slice_index-direct v n lt = get_or_append_left v.direct (v.single ∷ v.double ∷ []) 0 n (omega (arith, v.whole))

pub slice_index-single : (v : Inode) → slice_index (addresses v) 12 ≡ v.single
slice_index-single v = get_or-append_right v.direct (v.single ∷ v.double ∷ []) 12 12 0 v.whole (omega arith)

pub slice_index-double : (v : Inode) → slice_index (addresses v) 13 ≡ v.double
slice_index-double v = get_or-append_right v.direct (v.single ∷ v.double ∷ []) 12 13 0 v.whole (omega arith)
