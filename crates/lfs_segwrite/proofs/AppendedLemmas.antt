-- A summary or a block of records put at the log's end changes no file, and makes 512 bytes spare: `appended_staged`,
-- `appended_advances`, `summary_put`, for `flushing::begin_partial` and RecordsLemmas. Each key's place lies before the
-- end of the log or in another segment, so no file has a block at the address that is written (`unread`), and all
-- readings stay (`kept_blocks` of `lfs_bmap`). A put into the middle of the log would need that fact for each address
-- anew.
use Rattle.std.proofs.Common.{◌≡◌, ℕ, zero, suc, ◌+◌, ◌<◌, ◌≤◌, List, [], length, IsSome, refl, sym, ap, ◌∙◌, subst}
use Rattle.std.proofs.Common.{inl, inr, arith}
use Rattle.std.specs.Prelude.{All}
use Rattle.lfs_ifile.specs.Tables.{Tables, row_of}
use Rattle.lfs_inodes.specs.declared.inode.Inode.{Inode}
use Rattle.lfs_cache.specs.Contents.{Contents, IsLocked, block_in}
use Rattle.lfs_segments.specs.declared.entry.SummaryEntry.{SummaryEntry}
use Rattle.lfs_segments.specs.Log.{Expects, Extends}
use Rattle.lfs_segments.specs.Memory.{block_at, next_address, room_of}
use Rattle.lfs_segments.specs.Rising.{IsRising}
use Rattle.lfs_log.specs.Parts.{IsParts, record_place}
use Rattle.lfs_log.specs.Parts as log
use Rattle.lfs_bmap.specs.declared.blocks.TheConstants.{BLOCK_CODES}
use Rattle.lfs_bmap.specs.Log.{Writes}
use Rattle.lfs_bmap.specs.Reading.{IsUnread, address}
use Rattle.lfs_bmap.specs.Ways.{code_at}
use Rattle.lfs_bmap.proofs.LogLemmas.{written_log}
use Rattle.lfs_bmap.proofs.ReadingLemmas.{kept_blocks}
use Rattle.lfs_parts.specs.declared.parts.Parts.{Parts}
use Rattle.lfs_segwrite.specs.Flushing.{Waits}
use Rattle.lfs_parts.specs.Keys.{log_state}
use Rattle.lfs_segwrite.specs.Landing.{AppendsBlock}
use Rattle.lfs_segwrite.specs.Recording.{Advances}
use Rattle.lfs_staging.specs.Staging.{IsStaged}
use Rattle.lfs_parts.specs.Store.{IsPresent}
use Rattle.lfs_parts.specs.View.{key_of, root_in, tree_of, version_of, waiting_in}
use Rattle.lfs_parts.specs.Waiting.{AreOnce}
use Rattle.lfs_segwrite.proofs.PutLemmas.{blocks_put, next_some, record_put, unread_next}
use Rattle.lfs_segwrite.proofs.AlikeLemmas.{AreAlike, alike_content, alike_files, alike_place, alike_staged}
use Rattle.lfs_staging.proofs.HeldFrames.{KeepsFrames-same}

-- spare bytes may be fewer
pub fewer_spare : (p : Parts) (more less : ℕ) → less ≤ more → IsStaged p more → IsStaged p less
fewer_spare p more less fewer staged = record {
  whole = staged.whole;
  log = record {
    segments = staged.log.segments;
    keys = staged.log.keys;
    counted = staged.log.counted;
    spared = let spared = staged.log.spared in omega arith;
  };
  parents = staged.parents;
  once = staged.once;
  few = staged.few;
  within = staged.within;
}

module _ (p q : Parts) (a : ℕ) (block : List ℕ) (put : AppendsBlock p q a block) where
  same_version : (n : ℕ) → version_of q n ≡ version_of p n
  same_version n = ap (λ (t : Tables). (row_of t n).version) put.tables

  pub appended_alike : AreAlike p q
  appended_alike = record {
    cache = put.cache;
    numbers = ap (λ (t : Tables). length t.rows) put.tables;
    used = λ n. ap (λ (t : Tables). (row_of t n).used) put.tables;
    versions = same_version;
    records = put.records;
    readings = λ n low. kept_blocks (tree_of p n) (tree_of q n) (ap root_in (put.records n))
        (λ way known. ap (λ m. block_in (key_of n m (code_at way)) q.cache.locked) (same_version n)
        ∙ ap (λ (c : Contents). block_in (key_of n (version_of p n) (code_at way)) c.locked) put.cache)
        (λ way known some. put.blocks (address (tree_of p n) way) (put.unread n low way known));
  }

  same_place : (n c : ℕ) → n < length p.log.tables.rows → c < BLOCK_CODES → (log_state q).at n c ≡ (log_state p).at n c
  same_place n zero low below = ap (λ (t : Tables). record_place t n) put.tables
  same_place n (suc c) low below = alike_place p q appended_alike n (suc c) low below (λ e. absurd (omega arith))

  writes : Writes (log_state p) (log_state q) 1
  writes =
      let step = put.step in
      record {
        keys = record {
          numbers = step.keys.numbers;
          segments = step.keys.segments;
          places = same_place;
          versions = step.keys.versions;
        };
        used = record { states = step.used.states; clean = step.used.clean };
        live = step.live;
        active = step.active;
        next = step.next;
        room = step.room;
        owners = step.owners;
      }

  pub appended_staged : IsParts q.log → IsStaged p 0 → IsStaged q 512
  appended_staged parts staged =
      let files = alike_files p q appended_alike staged.whole parts
      (subst (All (λ (w : Inode). IsPresent p w.number w.version)) (sym put.waiting) staged.whole.records) in
      let count = ap (λ (vs : List Inode). length vs) put.waiting in
      alike_staged p q appended_alike 0 512 staged files (written_log (log_state p) (log_state q) 0 1 staged.log writes)
      (subst AreOnce (sym put.waiting) staged.once) (omega arith)
      (λ key locked waits. subst (λ vs. IsSome (waiting_in vs key.ino)) (sym put.waiting) waits)

  waits_before : (n c : ℕ) → Waits q n c → Waits p n c
  waits_before n zero waits = subst (λ vs. IsSome (waiting_in vs n)) put.waiting waits
  waits_before n (suc c) waits = subst (λ m. IsLocked (key_of n m (suc c)) p.cache) (same_version n)
      (subst (IsLocked (key_of n (version_of q n) (suc c))) put.cache waits)

  waits_after : (n c : ℕ) → Waits p n c → Waits q n c
  waits_after n zero waits = subst (λ vs. IsSome (waiting_in vs n)) (sym put.waiting) waits
  waits_after n (suc c) waits =
      subst (IsLocked (key_of n (version_of q n) (suc c))) (sym put.cache)
      (subst (λ m. IsLocked (key_of n m (suc c)) p.cache) (sym (same_version n)) waits)

  pub appended_advances : (from : ℕ) → from ≤ next_address p.log.memory → Advances from p q
  appended_advances from first = record {
    content = alike_content p q appended_alike;
    segments = put.step.keys.segments;
    serials = put.serials;
    rising = put.rising;
    active = put.step.active;
    states = ap (λ (t : Tables). t.states) put.tables;
    clean = put.step.used.clean;
    numbers = ap (λ (t : Tables). length t.rows) put.tables;
    used = λ n. ap (λ (t : Tables). (row_of t n).used) put.tables;
    versions = same_version;
    next = let next = put.step.next in omega arith;
    only = λ n c low below waits. waits_before n c waits;
    still = λ n c low below none. same_place n c low below;
    moved = λ n c low below waits none. absurd (none (waits_after n c waits));
    blocks = λ b apart. put.blocks b (let end = put.end in let inside = put.inside in
        elim apart [ inl low ↦ λ e. omega arith | inr high ↦ λ e. omega arith ]);
    held = KeepsFrames-same p.cache q.cache put.cache;
  }

-- a summary is such a block
pub summary_put : (p q : Parts) (a : ℕ) (entries : List SummaryEntry) → IsStaged p 0 → Expects p.log.memory []
    → Expects q.log.memory entries → 1 ≤ room_of p.log.memory
    → a ≡ next_address p.log.memory → next_address q.log.memory ≡ next_address p.log.memory + 1
    → Extends p.log.memory q.log.memory → (IsRising p.log.memory → IsRising q.log.memory)
    → q.log.tables ≡ p.log.tables → q.cache ≡ p.cache → q.waiting ≡ p.waiting
    → Writes (log_state p) (log.log_state q.log (log_state p).at) 1
    → AppendsBlock p q a (block_at q.log.memory a)
summary_put p q a entries staged ready expects room end next extends rising tables cache waiting step =
    let parts = staged.whole.parts in
    record {
      end = end;
      somewhere = λ none. let some = next_some p.log.memory parts.laid_out in omega arith;
      inside = omega arith;
      serials = extends.serials;
      rising = rising;
      tables = tables;
      cache = cache;
      waiting = waiting;
      written = refl;
      blocks = λ b other. blocks_put p.log.memory q.log.memory [] entries extends next ready expects b
          (λ is. other (is ∙ sym end));
      unread = λ number low. subst (IsUnread (tree_of p number)) (sym end)
          (unread_next p number 0 parts staged.log room low);
      records = λ number. record_put p q number 0 parts staged.log extends tables
          (ap (λ v. waiting_in v number) waiting);
      step = step;
    }
