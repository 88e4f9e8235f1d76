-- Sums over segments and numbers grow by one: `live_none` and `live_more` for `live`, `used_none`, `used_more` and
-- `one_few` for `used`, `used_there` and `used_not` for `one_used`. A sum below n + 1 is that below n and what is at n.
-- A number counts 1 where its row is used, which is just where the inode map has a place for it.
use Rattle.std.proofs.Common.{◌≡◌, ℕ, suc, ◌+◌, ◌≤◌, Bool, true, false, None, Some, IsSome, IsNone, cond, if◌then◌else◌}
use Rattle.std.proofs.Common.{subst, refl, sym, arith}
use Rattle.lfs_ifile.specs.Tables.{place_of, row_of}
use Rattle.lfs_ifile.specs.declared.inode.InodePlace.{InodePlace}
use Rattle.lfs_log.specs.Parts.{live_of}
use Rattle.lfs_parts.specs.declared.parts.Parts.{Parts}
use Rattle.lfs_view.specs.SpaceText.{live_below, one_used, used_below}

pub live_none : (p : Parts) → 0 ≡ live_below p 0
unfolding live_below
live_none p = refl

pub live_more : (p : Parts) (n bytes : ℕ) → bytes ≡ live_below p n → bytes + live_of p.log.tables n
    ≡ live_below p (n + 1)
unfolding live_below
live_more p n bytes is =
    let one : n + 1 ≡ suc n = omega arith in
    rw (one, is) refl

pub used_none : (p : Parts) → 0 ≡ used_below p 0
unfolding used_below
used_none p = refl

pub used_more : (p : Parts) (n count one : ℕ) → count ≡ used_below p n → one ≡ one_used p n → count + one
    ≡ used_below p (n + 1)
unfolding used_below
used_more p n count one is here =
    let next : n + 1 ≡ suc n = omega arith in
    rw (next, is, here) refl

-- a number is at most 1
pub one_few : (used : Bool) → cond {A = ℕ} used 1 0 ≤ 1
one_few true = omega arith
one_few false = omega arith

shown-used : (used : Bool) (place : InodePlace) → IsSome (if used then Some place else None) → cond {A = ℕ} used 1 0 ≡ 1
shown-used true place there = refl
shown-used false place there = absurd (cc)

shown-unused : (used : Bool) (place : InodePlace) → IsNone (if used then Some place else None) → cond {A = ℕ} used 1 0
    ≡ 0
shown-unused true place there = absurd (cc)
shown-unused false place there = refl

pub used_there : (p : Parts) (n : ℕ) (found : InodePlace) → place_of p.log.tables n ≡ Some found → 1 ≡ one_used p n
used_there p n found is = sym (shown-used (row_of p.log.tables n).used _ (subst IsSome (sym is) refl))

pub used_not : (p : Parts) (n : ℕ) → place_of p.log.tables n ≡ None → 0 ≡ one_used p n
used_not p n is = sym (shown-unused (row_of p.log.tables n).used _ (subst IsNone (sym is) refl))
