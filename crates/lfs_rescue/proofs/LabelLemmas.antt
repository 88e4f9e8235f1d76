-- After a crash of a store block 0 tells how many inode numbers the store has, and is the label of so many (`label_told`).
use Rattle.std.proofs.Common.{◌≡◌, ℕ, ◌^◌, ◌<◌, ◌≤◌, List, length, sym, ap, ◌∙◌, arith}
use Rattle.std.proofs.lemmas.Nat.{from_be_bytes-to_be_bytes_4}
use Rattle.lfs_ifile.specs.Layout.{number_at}
use Rattle.lfs_segments.specs.Memory.{SegmentMemory, block_at, label}
use Rattle.lfs_parts.specs.declared.parts.Parts.{Parts}
use Rattle.lfs_durable.specs.Crashes.{IsCrashOf}
use Rattle.lfs_durable.specs.Names.{IsDurable}

-- so many inode numbers there may be, and a memory has their label
pub record HasLabel (m : SegmentMemory) (inodes : ℕ) : Type 0 where
  pub least : 16 ≤ inodes
  pub most : inodes ≤ 4096
  pub label : block_at m 0 ≡ label m.segments inodes

number_in : (segments inodes : ℕ) → inodes < 2 ^ 32 → number_at (label segments inodes) 8 ≡ inodes
unfolding label number_at
number_in segments inodes low = from_be_bytes-to_be_bytes_4 inodes low

pub label_told : (p : Parts) (m : SegmentMemory) (inodes : ℕ) → IsDurable p → IsCrashOf p m
    → inodes ≡ number_at (block_at m 0) 8 → HasLabel m inodes
label_told p m inodes d crash told =
    let formed = d.store.whole.parts.formed in
    let least = formed.inodes_least in
    let most = formed.inodes_most in
    let first : block_at m 0 ≡ label p.log.memory.segments (length p.log.tables.rows) = crash.label ∙ d.labelled in
    let is : inodes ≡ length p.log.tables.rows =
    told ∙ ap (λ (b : List ℕ). number_at b 8) first
    ∙ number_in p.log.memory.segments (length p.log.tables.rows) (omega arith) in
    record {
      least = omega arith;
      most = omega arith;
      label = first ∙ ap (λ (s : ℕ). label s (length p.log.tables.rows)) (sym crash.segments)
          ∙ ap (label m.segments) (sym is);
    }
