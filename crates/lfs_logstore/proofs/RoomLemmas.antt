-- What waits has room: `flushed_room` where nothing waits, `same_room` and `same_state` where only clean blocks of the
-- cache came or went, for `LogStore::gain`, `markv` and `read`. What waits takes a block for each entry and one for a
-- summary, and none where there is no entry. Clean blocks are no entries and no part of the content, so both the room
-- that is wanted and what the store shows stay as they were.
use Rattle.std.proofs.Common.{◌≡◌, ℕ, ◌+◌, List, length, None, ap, sym, ◌∙◌, inl, inr, arith}
use Rattle.std.specs.Prelude.{if◌then◌else◌, ◌==◌}
use Rattle.lfs_inodes.specs.declared.inode.Inode.{Inode}
use Rattle.lfs_segwrite.specs.Applying.{HasRoom, waiting_blocks}
use Rattle.lfs_cache.specs.declared.key.Key.{Key}
use Rattle.lfs_segments.specs.Memory.{room_of}
use Rattle.lfs_log.specs.Parts.{LogParts}
use Rattle.lfs_segwrite.specs.Collecting.{entries_of, inode_blocks}
use Rattle.lfs_segwrite.proofs.CollectingLemmas.{entries_of-length}
use Rattle.lfs_logstore.specs.States.{shape_of, state_of}
use Rattle.lfs_parts.specs.declared.parts.Parts.{Parts}
use Rattle.lfs_parts.proofs.FilledLemmas.{same_content}
use Rattle.lfs_parts.specs.Filling.{SameButClean}
use Rattle.lfs_parts.specs.Store.{IsFlushed}

pub flushed_room : (p : Parts) → IsFlushed p → HasRoom p
flushed_room p flushed =
    let frames : length p.cache.locked ≡ 0 = ap length flushed.no_frame in
    let records : length p.waiting ≡ 0 = ap (λ (vs : List Inode). length vs) flushed.no_record in
    let many : length (entries_of p) ≡ 0 = let all = entries_of-length p in omega arith in
    let none : waiting_blocks p ≡ 0 = ap (λ n. if n == 0 then 0 else n + 1) many in
    record { room = inl (omega arith) }

-- what waits takes as many blocks as before
pub same_waiting : (p q : Parts) → SameButClean p q → waiting_blocks q ≡ waiting_blocks p
same_waiting p q h =
    let now = entries_of-length q in
    let before = entries_of-length p in
    let many : length (entries_of q) ≡ length (entries_of p) =
    now ∙ ap (λ (es : List (Key × List ℕ)). length es + inode_blocks (length q.waiting)) h.dirty
    ∙ ap (λ (w : List Inode). length p.cache.locked + inode_blocks (length w)) h.waiting ∙ sym before in
    ap (λ n. if n == 0 then 0 else n + 1) many

pub same_room : (p q : Parts) → SameButClean p q → HasRoom p → HasRoom q
same_room p q h has =
    let waits = same_waiting p q h in
    let left : room_of q.log.memory ≡ room_of p.log.memory = ap (λ (l : LogParts). room_of l.memory) h.log in
    let clean : q.log.clean ≡ p.log.clean = ap (λ (l : LogParts). l.clean) h.log in
    record {
      room = elim has.room [
        | inl fits ↦ inl (omega (arith, waits, left, fits))
        | inr some ↦ inr (omega (arith, clean, some))
      ];
    }

pub same_state : (p q : Parts) → SameButClean p q → state_of q ≡ state_of p
same_state p q h =
    let content = same_content p q h in
    λ i. record {
      content = content i;
      clean = (ap (λ (l : LogParts). l.clean) h.log) i;
      shape = shape_of ((ap (λ (l : LogParts). length l.tables.rows) h.log) i)
          ((ap (λ (l : LogParts). l.memory.segments) h.log) i);
      base = None;
    }
