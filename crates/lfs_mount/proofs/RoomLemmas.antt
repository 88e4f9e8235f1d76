-- Sums over inode numbers: `taken_none` and `taken_more` for `room::taken`, `used_none` and `used_more` for
-- `room::used`. A sum below n + 1 is that below n and what number n adds.
use Rattle.std.proofs.Common.{◌≡◌, ℕ, suc, ◌+◌, refl, arith}
use Rattle.lfs_types.specs.Stored.{shown_attrs}
use Rattle.lfs_types.specs.Tree.{Content}
use Rattle.lfs_mount.specs.Room.{blocks_of, one_used, plus, taken_below, used_below}

pub taken_none : (content : Content) → 0 ≡ taken_below content 0
unfolding taken_below
taken_none content = refl

pub taken_more : (content : Content) (n count blocks : ℕ) → count ≡ taken_below content n → blocks
    ≡ blocks_of (shown_attrs content n) → plus count blocks ≡ taken_below content (n + 1)
unfolding taken_below
taken_more content n count blocks is here =
    let next : n + 1 ≡ suc n = omega arith in
    rw (next, is, here) refl

pub used_none : (content : Content) → 0 ≡ used_below content 0
unfolding used_below
used_none content = refl

pub used_more : (content : Content) (n count one : ℕ) → count ≡ used_below content n → one
    ≡ one_used (shown_attrs content n) → plus count one ≡ used_below content (n + 1)
unfolding used_below
used_more content n count one is here =
    let next : n + 1 ≡ suc n = omega arith in
    rw (next, is, here) refl
