-- Each clean block that the cache holds is what the log has at its address (Mirrors), and stays so: `mirrors_log`,
-- `mirrors_read` and `logged_kept`, for GrowthLemmas, KeptLemmas, GivingLemmas and `lfs_segwrite`. A clean block is
-- kept if its number is in use, and its address and the log's block there are the same; a block that doesn't wait reads
-- as what the log has (`log_read`), so equal readings do as well. No call may make a block clean that the log hasn't; a
-- removal that left a clean block of its number would break `present`.
use Rattle.std.proofs.Common.{◌≡◌, ◌≢◌, ◌⊎◌, ℕ, ◌<◌, List, [], None, Some, length, false, true, refl, sym, ap, ◌∙◌}
use Rattle.std.proofs.Common.{subst, inl, inr}
use Rattle.std.proofs.lemmas.Bool.{cases_eq, false≢true}
use Rattle.std.proofs.lemmas.Option.{none-some}
use Rattle.lfs_cache.specs.declared.key.Key.{Key}
use Rattle.lfs_cache.specs.Keys.{same_key}
use Rattle.lfs_cache.specs.Changes.{IsContents}
use Rattle.lfs_cache.specs.Contents.{Contents, block_in}
use Rattle.lfs_cache.proofs.Entries.{same_self}
use Rattle.lfs_segments.specs.Memory.{block_at}
use Rattle.lfs_log.specs.Parts.{LogParts}
use Rattle.lfs_bmap.specs.declared.blocks.TheConstants.{BLOCK_CODES}
use Rattle.lfs_bmap.specs.declared.blocks.FileBlock.{FileBlock}
use Rattle.lfs_bmap.specs.Blocks.{IsFileBlock, code_of}
use Rattle.lfs_bmap.specs.Reading.{SameReadings, address, read}
use Rattle.lfs_bmap.specs.Ways.{IsBlockWay, way_of}
use Rattle.lfs_bmap.proofs.BlockLemmas.{code_of-below}
use Rattle.lfs_bmap.proofs.ReadingLemmas.{read-via, via-log}
use Rattle.lfs_bmap.proofs.WayLemmas.{code_at-way_of, way_of-known}
use Rattle.lfs_parts.specs.declared.parts.Parts.{Parts}
use Rattle.lfs_parts.specs.Clean.{GainsNoClean}
use Rattle.lfs_parts.specs.Store.{IsBlockCode, IsLogged, IsPresent, Mirrors}
use Rattle.lfs_parts.specs.View.{key_of, tree_of, version_of}
use Rattle.lfs_parts.proofs.SameLogLemmas.{used_low}
use Rattle.lfs_parts.proofs.HeldLemmas.{clean_waits}
use Rattle.lfs_parts.proofs.SameLogLemmas.{present_kept}

-- a code of a block that a cache may hold
pub coded_below : (code : ℕ) → IsBlockCode code → code < BLOCK_CODES
coded_below code h = subst (λ c. c < BLOCK_CODES) h.coded (code_of-below h.block h.is)

pub coded_block : (block : FileBlock) → IsFileBlock block → code_of block ≢ 0 → IsBlockCode (code_of block)
coded_block block can other = record { block = block; is = can; coded = refl; other = other }

-- where a cache holds nothing clean, there is nothing to show
pub mirrors_none : (p : Parts) → p.cache.lru ≡ [] → Mirrors p
mirrors_none p none = record {
  each = λ key bytes there. absurd (none-some bytes (sym (ap (block_in key) none) ∙ there));
}

-- a clean block is what the log has still, where its number is in use still and its address and the block there are the
-- same
pub logged_kept : (p q : Parts) (key : Key) (bytes : List ℕ) → IsLogged p key bytes → IsPresent q key.ino key.version
    → address (tree_of q key.ino) (way_of key.lbn.0) ≡ address (tree_of p key.ino) (way_of key.lbn.0)
    → block_at q.log.memory (address (tree_of p key.ino) (way_of key.lbn.0))
    ≡ block_at p.log.memory (address (tree_of p key.ino) (way_of key.lbn.0))
    → IsLogged q key bytes
logged_kept p q key bytes was present at block = record {
  present = present;
  coded = was.coded;
  somewhere = λ none. was.somewhere (sym at ∙ none);
  same = was.same ∙ sym block ∙ ap (block_at q.log.memory) (sym at);
}

-- so it is where the log and all addresses are the same
pub mirrors_log : (p q : Parts) → Mirrors p → GainsNoClean p.cache q.cache → q.log ≡ p.log
    → ((n : ℕ) (way : List ℕ) → IsBlockWay way → address (tree_of q n) way ≡ address (tree_of p n) way) → Mirrors q
mirrors_log p q mirrors clean log addresses = record {
  each = λ key bytes there.
      let was = mirrors.each key bytes (clean.each key bytes there) in
      logged_kept p q key bytes was (present_kept p q key.ino key.version log was.present)
      (addresses key.ino (way_of key.lbn.0) (way_of-known key.lbn.0 (coded_below key.lbn.0 was.coded)))
      (ap (λ (l : LogParts). block_at l.memory (address (tree_of p key.ino) (way_of key.lbn.0))) log);
}

-- a block that doesn't wait and has an address reads as what the log has there
log_read : (p : Parts) (key : Key) → IsPresent p key.ino key.version → block_in key p.cache.locked ≡ None
    → address (tree_of p key.ino) (way_of key.lbn.0) ≢ 0
    → read (tree_of p key.ino) (way_of key.lbn.0) ≡ block_at p.log.memory (address (tree_of p key.ino) (way_of key.lbn.0))
log_read p key here free some =
    let t = tree_of p key.ino in
    let way = way_of key.lbn.0 in
    let waits : t.waits way ≡ None
    = ap (λ c. block_in (key_of key.ino (version_of p key.ino) c) p.cache.locked) (code_at-way_of key.lbn.0)
    ∙ ap (λ n. block_in (key_of key.ino n key.lbn.0) p.cache.locked) (sym here.at_version) ∙ free in
    read-via t way ∙ via-log t way (address t way) waits some

-- and where the same is held, and each block has its address and its bytes
pub mirrors_read : (p q : Parts) → Mirrors p → IsContents p.cache → q.cache ≡ p.cache
    → ((n version : ℕ) → IsPresent p n version → IsPresent q n version)
    → ((n : ℕ) → n < length p.log.tables.rows → SameReadings (tree_of p n) (tree_of q n)) → Mirrors q
mirrors_read p q mirrors formed cache present readings = record {
  each = λ key bytes there.
      let held : block_in key p.cache.lru ≡ Some bytes = sym (ap (λ (c : Contents). block_in key c.lru) cache)
      ∙ there in
      let was = mirrors.each key bytes held in
      let free = clean_waits p.cache key bytes formed held in
      let same = readings key.ino (used_low p key.ino was.present.in_use) in
      let known = way_of-known key.lbn.0 (coded_below key.lbn.0 was.coded) in
      let at = same.addresses (way_of key.lbn.0) known in
      let somewhere : address (tree_of q key.ino) (way_of key.lbn.0) ≢ 0 = λ none. was.somewhere (sym at ∙ none) in
      let now = present key.ino key.version was.present in
      record {
        present = now;
        coded = was.coded;
        somewhere = somewhere;
        same = was.same ∙ sym (log_read p key was.present free was.somewhere) ∙ sym (same.bytes (way_of key.lbn.0) known)
            ∙ log_read q key now (ap (λ (c : Contents). block_in key c.locked) cache ∙ free) somewhere;
      };
}

-- of two keys of numbers in use that differ, the number or the code does
pub apart_present : (p : Parts) (k key : Key) → IsPresent p k.ino k.version → IsPresent p key.ino key.version
    → same_key k key ≡ false
    → (key.ino ≢ k.ino) ⊎ (key.lbn.0 ≢ k.lbn.0)
apart_present p k key a b apart = elim (cases_eq key.ino k.ino) [
  | inr ne ↦ inl ne
  | inl number ↦ inr (λ code.
      let version : k.version ≡ key.version = a.at_version ∙ ap (version_of p) (sym number) ∙ sym b.at_version in
      let is : k ≡ key = λ i. record { ino = sym number i; version = version i; lbn = record { 0 = sym code i } } in
      absurd (false≢true (sym apart ∙ subst (λ x. same_key k x ≡ true) is (same_self k))))
]
