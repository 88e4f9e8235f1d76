-- No frame is given up where an indirect block that waits gets other bytes (`overwritten_frames`, for `set_entry`) or a
-- block is flushed (`flushed_frames`, for `land_block`); and so in steps, one behind the other (`KeepsFrames-trans`).
-- Neither of the two calls takes a frame, as the key has one.
use Rattle.std.proofs.Common.{◌≡◌, ℕ, ◌<◌, List, Option, None, Some, IsSome, is_some, false, refl, sym, ap, ap₂}
use Rattle.std.proofs.Common.{◌∙◌, subst, inl, inr, arith}
use Rattle.lfs_cache.specs.declared.key.Key.{Key}
use Rattle.lfs_cache.specs.Keys.{same_key}
use Rattle.lfs_cache.specs.Changes.{KeepsOthers, Overwrites}
use Rattle.lfs_cache.specs.Contents.{Contents, IsLocked, block_in, block_of, or_else}
use Rattle.lfs_cache.proofs.Cached.{some_is}
use Rattle.lfs_cache.proofs.Entries.{same_cases, same_is}
use Rattle.lfs_bmap.specs.declared.blocks.TheConstants.{FIRST_DATA_CODE}
use Rattle.lfs_staging.specs.Frames.{KeepsFrames}

-- where each key has the block that it had
frames_blocks : (old new : Contents) → ((key : Key) → block_of key new ≡ block_of key old) → KeepsFrames old new
frames_blocks old new same = record { keys = λ key. ap is_some (same key); bytes = λ key far. same key }

pub KeepsFrames-refl : (c : Contents) → KeepsFrames c c
KeepsFrames-refl c = frames_blocks c c (λ key. refl)

pub KeepsFrames-same : (old new : Contents) → new ≡ old → KeepsFrames old new
KeepsFrames-same old new same = subst (KeepsFrames old) (sym same) (KeepsFrames-refl old)

pub KeepsFrames-trans : (a b c : Contents) → KeepsFrames a b → KeepsFrames b c → KeepsFrames a c
KeepsFrames-trans a b c h g =
    record { keys = λ key. g.keys key ∙ h.keys key; bytes = λ key far. g.bytes key far ∙ h.bytes key far }

-- where a block was flushed
pub flushed_frames : (old new : Contents) (k : Key) → block_of k new ≡ block_of k old → KeepsOthers k old new
    → KeepsFrames old new
flushed_frames old new k kept keeps = frames_blocks old new
    (λ key. elim (same_cases k key) [
      | inl same ↦ subst (λ x. block_of x new ≡ block_of x old) (same_is k key same) kept
      | inr apart ↦ keeps.blocks key apart
    ])

dirty_held : (o p : Option (List ℕ)) → IsSome o → IsSome (or_else o p)
dirty_held None p some = absurd (cc)
dirty_held (Some b) p some = refl

-- where a block that waits, and isn't a data block, has other bytes
written_table : (old new : Contents) (k : Key) → k.lbn.0 < FIRST_DATA_CODE → IsSome (block_of k old)
    → IsSome (block_of k new)
    → ((other : Key) → same_key k other ≡ false → block_of other new ≡ block_of other old) → KeepsFrames old new
written_table old new k low had has others = record {
  keys = λ key. elim (same_cases k key) [
    | inl same ↦ subst (λ x. is_some (block_of x new) ≡ is_some (block_of x old)) (same_is k key same) (has ∙ sym had)
    | inr apart ↦ ap is_some (others key apart)
  ];
  bytes = λ key far. elim (same_cases k key) [
    | inl same ↦
        let is : k.lbn.0 ≡ key.lbn.0 = ap (λ (x : Key). x.lbn.0) (same_is k key same) in absurd (omega arith)
    | inr apart ↦ others key apart
  ];
}

pub overwritten_frames : (old new : Contents) (k : Key) (start : ℕ) (bytes : List ℕ) → Overwrites k start bytes old new
    → IsLocked k old → k.lbn.0 < FIRST_DATA_CODE → KeepsFrames old new
overwritten_frames old new k start bytes over locked low =
    let own = some_is (block_in k old.locked) locked in
    written_table old new k low (dirty_held (block_in k old.locked) (block_in k old.lru) locked)
    (dirty_held (block_in k new.locked) (block_in k new.lru) (ap is_some (over.block own.0 own.1).1))
    (λ other apart. ap₂ or_else (over.dirty other apart) (ap (block_in other) over.clean))
