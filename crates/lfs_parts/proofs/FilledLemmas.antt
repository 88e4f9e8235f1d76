-- Reading changes no file: where clean blocks alone came or went (`SameButClean`), records, trees, content and store
-- are what they were (`same_trees`, `same_content`, `same_store`), for `Parts::read_blocks` and
-- `LogStoreFileStore::read`. A tree reads LOCKED frames and the log, never LRU, which stands in `Mirrors` alone; and
-- that holds still because the block that comes is what the log has (`held_clean`). A reader that left other bytes in
-- LRU would break `Mirrors`, and later reads.
use Rattle.std.proofs.Common.{◌≡◌, ℕ, ◌≤◌, List, [], All, length, None, Some, IsSome, is_some, true, refl, sym, ap, ◌∙◌}
use Rattle.std.proofs.Common.{subst, inl, inr}
use Rattle.lfs_inodes.specs.declared.inode.Inode.{Inode}
use Rattle.lfs_cache.specs.declared.key.Key.{Key}
use Rattle.lfs_cache.specs.Changes.{GainsOnly, IsContents, KeepsBlocks}
use Rattle.lfs_cache.specs.Contents.{Contents, IsLocked, block_in, block_of, or_else, used}
use Rattle.lfs_segments.specs.Log.{Expects}
use Rattle.lfs_segments.specs.Memory.{block_at}
use Rattle.lfs_log.specs.Parts.{LogParts}
use Rattle.lfs_bmap.specs.Blocks.{code_of}
use Rattle.lfs_bmap.specs.Pieces.{IsPadded}
use Rattle.lfs_bmap.specs.Reading.{address, data_block}
use Rattle.lfs_bmap.specs.Ways.{code_at, way_of}
use Rattle.lfs_parts.specs.declared.parts.Parts.{Parts}
use Rattle.lfs_parts.specs.Clean.{Holds}
use Rattle.lfs_parts.specs.Files.{content_of}
use Rattle.lfs_parts.specs.Filling.{SameButClean}
use Rattle.lfs_parts.specs.Store.{AreFiles, IsLogged, IsPresent, IsStore, Mirrors}
use Rattle.lfs_parts.specs.View.{key_of, record_of, root_in, tree_of, version_of, waiting_in}
use Rattle.lfs_parts.specs.Waiting.{AreOnce}
use Rattle.lfs_parts.proofs.CleanLemmas.{logged_kept}
use Rattle.lfs_parts.proofs.HeldLemmas.{filled_clean, keeps_clean, used_locked}
use Rattle.lfs_parts.proofs.SameLogLemmas.{files_kept, log_kept}
use Rattle.lfs_parts.proofs.SameContentLemmas.{content_of-same, file_at-kept}
use Rattle.lfs_parts.proofs.SameLogLemmas.{present_kept, record_same, version-same, holder_kept}

module _ (p q : Parts) (log : q.log ≡ p.log) (waiting : q.waiting ≡ p.waiting) (dirty : q.cache.locked
    ≡ p.cache.locked) where
  pub filled_record : (n : ℕ) → record_of q n ≡ record_of p n
  filled_record n = record_same p q n log (ap (λ vs. waiting_in vs n) waiting)

  pub filled_tree : (n : ℕ) → tree_of q n ≡ tree_of p n
  filled_tree n =
      let waits : (way : List ℕ) → (tree_of q n).waits way ≡ (tree_of p n).waits way
      = λ way. ap (block_in (key_of n (version_of q n) (code_at way))) dirty
      ∙ ap (λ version. block_in (key_of n version (code_at way)) p.cache.locked) (version-same p q n log) in
      let blocks : (a : ℕ) → block_at q.log.memory a
      ≡ block_at p.log.memory a = λ a. ap (λ (l : LogParts). block_at l.memory a) log in
      λ i. record { root = root_in (filled_record n i); waits = λ way. waits way i; block = λ a. blocks a i }

  pub filled_logged : (key : Key) (bytes : List ℕ) → IsLogged p key bytes → IsLogged q key bytes
  filled_logged key bytes was =
      logged_kept p q key bytes was (present_kept p q key.ino key.version log was.present)
      (ap (λ t. address t (way_of key.lbn.0)) (filled_tree key.ino))
      (ap (λ (l : LogParts). block_at l.memory (address (tree_of p key.ino) (way_of key.lbn.0))) log)

  still_locked : (key : Key) → IsLocked key q.cache → IsLocked key p.cache
  still_locked key locked = subst (λ es. is_some (block_in key es) ≡ true) dirty locked

  filled_files : AreFiles p → Mirrors q → IsContents q.cache → AreFiles q
  filled_files files mirrors formed =
      files_kept p q files log filled_record (λ n way known. ap (λ t. address t way) (filled_tree n))
      (λ n f is was. subst (λ t. IsPadded (data_block t) f.attributes.size) (sym (filled_tree n)) was)
      formed mirrors
      (subst (All (λ (v : Inode). IsPresent p v.number v.version)) (sym waiting) files.records)
      (λ key locked. files.frames key (still_locked key locked))
      (λ key locked. files.coded key (still_locked key locked))

  filled_store : IsStore p → AreFiles q → IsStore q
  filled_store store files = record {
    whole = files;
    log = log_kept p q 0 log (λ n way known. ap (λ t. address t way) (filled_tree n)) store.log;
    ready = subst (λ (l : LogParts). Expects l.memory []) (sym log) store.ready;
    parents = record {
      records = λ key locked. subst (λ vs. IsSome (waiting_in vs key.ino)) (sym waiting)
          (store.parents.records key (still_locked key locked));
      holders = λ key locked i up way.
          holder_kept p.cache q.cache key.ino key.version up
          (λ code was. subst (λ es. is_some (block_in (key_of key.ino key.version code) es) ≡ true) (sym dirty) was)
          (store.parents.holders key (still_locked key locked) i up way);
    };
    once = subst AreOnce (sym waiting) store.once;
    few = subst (λ (vs : List Inode). length vs ≤ 64) (sym waiting) store.few;
    within = λ n block f is can locked. store.within n block f (sym (filled_record n) ∙ is) can
        (subst (λ version. IsLocked (key_of n version (code_of block)) p.cache) (version-same p q n log)
        (still_locked (key_of n (version_of q n) (code_of block)) locked));
  }

  filled_content : content_of q ≡ content_of p
  filled_content =
      content_of-same p q (ap (λ (l : LogParts). length l.tables.rows) log)
      (λ n low. file_at-kept p q n (filled_record n) (λ k. ap (λ t. data_block t k) (filled_tree n)))

-- a key's block came to the front, if it is held
pub held_used : (p : Parts) (key : Key) (block : List ℕ) (s : Contents) → s ≡ used key p.cache
    → block_in key p.cache.locked ≡ None
    → KeepsBlocks p.cache (used key p.cache) → IsContents (used key p.cache)
    → Holds key block p (record p { cache = s })
held_used p key block s is free keeps formed = record {
  log = refl;
  waiting = refl;
  dirty = ap (λ (c : Contents). c.locked) is ∙ used_locked key p.cache free;
  formed = subst IsContents (sym is) formed;
  clean = λ other bytes there.
      inr ((keeps_clean p.cache (used key p.cache) keeps formed).each other bytes
      (subst (λ (c : Contents). block_in other c.lru ≡ Some bytes) is there));
}

-- or it took a frame
pub held_filled : (p : Parts) (key : Key) (block : List ℕ) (s t : Contents) → s ≡ used key p.cache
    → block_in key p.cache.locked ≡ None
    → KeepsBlocks p.cache (used key p.cache) → IsContents (used key p.cache)
    → t.locked ≡ s.locked → GainsOnly key s t → IsContents t → block_of key t ≡ Some block
    → Holds key block p (record p { cache = t })
held_filled p key block s t is free keeps formed locked gains whole here = record {
  log = refl;
  waiting = refl;
  dirty = locked ∙ ap (λ (c : Contents). c.locked) is ∙ used_locked key p.cache free;
  formed = whole;
  clean = λ other bytes there. elim (filled_clean s t key block whole gains here other bytes there) [
    | inl own ↦ inl own
    | inr was ↦
        inr ((keeps_clean p.cache (used key p.cache) keeps formed).each other bytes
        (subst (λ (c : Contents). block_in other c.lru ≡ Some bytes) is was))
  ];
}

-- a block that doesn't wait is the clean one
clean_shown : (key : Key) (s : Contents) → block_in key s.locked ≡ None → block_of key s ≡ block_in key s.lru
clean_shown key s free = ap (λ o. or_else o (block_in key s.lru)) free

-- the block that came to the front is clean, and what the log has
pub taken_used : (p : Parts) (key : Key) (block bytes : List ℕ) (s : Contents) → s ≡ used key p.cache
    → block_in key p.cache.locked ≡ None → KeepsBlocks p.cache (used key p.cache)
    → ((held : List ℕ) → block_in key p.cache.lru ≡ Some held → held ≡ block) → block_of key p.cache ≡ Some bytes
    → block_in key s.lru ≡ Some block
taken_used p key block bytes s is free keeps mirrors there =
    let t = used key p.cache in
    let was : block_in key p.cache.lru ≡ Some bytes = sym (clean_shown key p.cache free) ∙ there in
    let unlocked = ap (block_in key) (used_locked key p.cache free) ∙ free in
    let now : block_in key t.lru ≡ Some bytes = sym (clean_shown key t unlocked) ∙ keeps.blocks key ∙ there in
    subst (λ (c : Contents). block_in key c.lru ≡ Some block) (sym is) (now ∙ ap Some (mirrors bytes was))

-- and so is the one that took a frame
pub taken_filled : (p : Parts) (key : Key) (block : List ℕ) (s t : Contents) → s ≡ used key p.cache
    → block_in key p.cache.locked ≡ None → t.locked ≡ s.locked → block_of key t ≡ Some block
    → block_in key t.lru ≡ Some block
taken_filled p key block s t is free locked here =
    let same = locked ∙ ap (λ (c : Contents). c.locked) is ∙ used_locked key p.cache free in
    sym (clean_shown key t (ap (block_in key) same ∙ free)) ∙ here

-- a block that is what the log has came to be held
pub held_clean : (p q : Parts) (key : Key) (block : List ℕ) → Mirrors p → Holds key block p q → IsLogged p key block
    → SameButClean p q
held_clean p q key block mirrors h logged = record {
  log = h.log;
  waiting = h.waiting;
  dirty = h.dirty;
  formed = h.formed;
  mirrors = record {
    each = λ other bytes there. filled_logged p q h.log h.waiting h.dirty other bytes
        (elim (h.clean other bytes there) [
          | inl here ↦ subst (λ b. IsLogged p other b) (sym here.1)
              (subst (λ k. IsLogged p k block) (sym here.0) logged)
          | inr was ↦ mirrors.each other bytes was
        ]);
  };
}

module _ (p q : Parts) (h : SameButClean p q) where
  pub same_records : (n : ℕ) → record_of q n ≡ record_of p n
  same_records = filled_record p q h.log h.waiting h.dirty

  pub same_trees : (n : ℕ) → tree_of q n ≡ tree_of p n
  same_trees = filled_tree p q h.log h.waiting h.dirty

  pub same_files : AreFiles p → AreFiles q
  same_files files = filled_files p q h.log h.waiting h.dirty files h.mirrors h.formed

  pub same_store : IsStore p → IsStore q
  same_store store = filled_store p q h.log h.waiting h.dirty store (same_files store.whole)

  pub same_content : content_of q ≡ content_of p
  same_content = filled_content p q h.log h.waiting h.dirty

pub SameButClean-trans : (p q r : Parts) → SameButClean p q → SameButClean q r → SameButClean p r
SameButClean-trans p q r first second = record {
  log = second.log ∙ first.log;
  waiting = second.waiting ∙ first.waiting;
  dirty = second.dirty ∙ first.dirty;
  formed = second.formed;
  mirrors = second.mirrors;
}
