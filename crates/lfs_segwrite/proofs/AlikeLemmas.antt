-- Parts whose records and readings are the same have the same content and keep what holds in the middle of a call:
-- `alike_content`, `alike_files` and `alike_staged`, for AppendedLemmas and NotedLemmas. All that IsStaged says of
-- files is said of records, addresses and blocks read, so it carries over; log, AreOnce and what waits are given by the
-- caller. A step that moves a block or a record needs more (LandedLemmas), as the places of its key change.
use Rattle.std.proofs.Common.{◌≡◌, ◌≢◌, ℕ, ◌*◌, ◌<◌, ◌≤◌, List, length, Some, IsSome, is_some, sym, ap, ◌∙◌, subst, inl}
use Rattle.std.proofs.Common.{inr, arith}
use Rattle.std.specs.Prelude.{All}
use Rattle.std.proofs.lemmas.Bool.{cases_lt}
use Rattle.std.proofs.lemmas.List.Elements.{All-weaker}
use Rattle.std.proofs.lemmas.Option.{none-some}
use Rattle.lfs_ifile.specs.Tables.{row_of}
use Rattle.lfs_inodes.specs.declared.inode.Inode.{Inode}
use Rattle.lfs_inodes.specs.Reading.{Fields}
use Rattle.lfs_cache.specs.declared.key.Key.{Key}
use Rattle.lfs_cache.specs.Changes.{IsContents}
use Rattle.lfs_cache.specs.Contents.{Contents, IsLocked}
use Rattle.lfs_log.specs.Parts.{IsParts}
use Rattle.lfs_bmap.specs.declared.blocks.TheConstants.{BLOCK_CODES}
use Rattle.lfs_bmap.specs.Blocks.{code_of, way_to}
use Rattle.lfs_bmap.specs.Log.{IsLog}
use Rattle.lfs_bmap.specs.Pieces.{IsPadded}
use Rattle.lfs_bmap.specs.Reading.{SameReadings, data_block}
use Rattle.lfs_bmap.specs.Ways.{way_of}
use Rattle.lfs_bmap.proofs.PlaceLemmas.{data_block-same}
use Rattle.lfs_bmap.proofs.WayLemmas.{way_of-known}
use Rattle.lfs_parts.specs.declared.parts.Parts.{Parts}
use Rattle.lfs_parts.specs.Files.{content_of}
use Rattle.lfs_parts.specs.Keys.{log_state}
use Rattle.lfs_staging.specs.Staging.{IsStaged}
use Rattle.lfs_parts.specs.Store.{AreFiles, HolderWaits, IsFile, IsPresent}
use Rattle.lfs_parts.specs.View.{key_of, record_of, tree_of, version_of, waiting_in}
use Rattle.lfs_parts.specs.Waiting.{AreOnce}
use Rattle.lfs_parts.proofs.CleanLemmas.{mirrors_read}
use Rattle.lfs_parts.proofs.FileLemmas.{record_of-past}
use Rattle.lfs_parts.proofs.KeyLemmas.{place-block}
use Rattle.lfs_parts.proofs.SameContentLemmas.{content_of-same, file_at-kept}
use Rattle.lfs_parts.proofs.SameLogLemmas.{block_known}

pub record AreAlike (p q : Parts) : Type 0 where
  pub cache : q.cache ≡ p.cache
  pub numbers : length q.log.tables.rows ≡ length p.log.tables.rows
  pub used : (n : ℕ) → (row_of q.log.tables n).used ≡ (row_of p.log.tables n).used
  pub versions : (n : ℕ) → version_of q n ≡ version_of p n
  pub records : (n : ℕ) → record_of q n ≡ record_of p n
  pub readings : (n : ℕ) → n < length p.log.tables.rows → SameReadings (tree_of p n) (tree_of q n)

module _ (p q : Parts) (h : AreAlike p q) where
  pub alike_content : content_of q ≡ content_of p
  alike_content = content_of-same p q h.numbers
      (λ n low. file_at-kept p q n (h.records n) (data_block-same (tree_of p n) (tree_of q n) (h.readings n low)))

  pub alike_present : (n version : ℕ) → IsPresent p n version → IsPresent q n version
  alike_present n version was = record {
    in_use = h.used n ∙ was.in_use;
    at_version = was.at_version
        ∙ sym (h.versions n);
  }

  alike_low : (n : ℕ) (f : Fields) → record_of p n ≡ Some f → n < length p.log.tables.rows
  alike_low n f is = elim (cases_lt n (length p.log.tables.rows)) [
    | inl low ↦ low
    | inr past ↦ absurd (none-some f (sym (record_of-past p n past) ∙ is))
  ]

  alike_padded : (n size : ℕ) → n < length p.log.tables.rows → IsPadded (data_block (tree_of p n)) size
      → IsPadded (data_block (tree_of q n)) size
  alike_padded n size low = subst (λ (g : ℕ → List ℕ). IsPadded g size)
      (λ i k. sym (data_block-same (tree_of p n) (tree_of q n) (h.readings n low) k) i)

  alike_file : (n : ℕ) (f : Fields) → record_of p n ≡ Some f → IsFile p n f → IsFile q n f
  alike_file n f is file = record {
    formed = file.formed;
    own_number = file.own_number;
    own_version = file.own_version ∙ sym (h.versions n);
    none_past = λ block can past. (h.readings n (alike_low n f is)).addresses (way_to block) (block_known block can)
        ∙ file.none_past block can past;
    padded = alike_padded n f.attributes.size (alike_low n f is) file.padded;
  }

  pub alike_files : AreFiles p → IsParts q.log
      → All (λ (v : Inode). IsPresent p v.number v.version) q.waiting → AreFiles q
  alike_files files parts present = record {
    parts = parts;
    cache = subst IsContents (sym h.cache) files.cache;
    reserved = λ n low other. h.used n ∙ files.reserved n low other;
    recorded = λ n used. ap is_some (h.records n) ∙ files.recorded n (sym (h.used n) ∙ used);
    files = λ n f is. let was = sym (h.records n) ∙ is in alike_file n f was (files.files n f was);
    records = All-weaker (λ (v : Inode). IsPresent p v.number v.version) (λ (v : Inode). IsPresent q v.number v.version)
        (λ v there. alike_present v.number v.version there) q.waiting present;
    frames = λ key locked. alike_present key.ino key.version (files.frames key (subst (IsLocked key) h.cache locked));
    coded = λ key locked. files.coded key (subst (IsLocked key) h.cache locked);
    mirrors = mirrors_read p q files.mirrors files.cache h.cache alike_present h.readings;
  }

  -- each key but a record's has the place that it had
  pub alike_place : (n c : ℕ) → n < length p.log.tables.rows → c < BLOCK_CODES → c ≢ 0 → (log_state q).at n c
      ≡ (log_state p).at n c
  alike_place n c low below some =
      place-block q n c some ∙ ap (λ a. 4 * a) ((h.readings n low).addresses (way_of c) (way_of-known c below))
      ∙ sym (place-block p n c some)

  -- what holds in the middle of a call is kept
  pub alike_staged : (was spare : ℕ) → IsStaged p was → AreFiles q → IsLog (log_state q) spare → AreOnce q.waiting
      → length q.waiting ≤ length p.waiting
      → ((key : Key) → IsLocked key p.cache → IsSome (waiting_in p.waiting key.ino)
      → IsSome (waiting_in q.waiting key.ino)) → IsStaged q spare
  alike_staged was spare staged files log once fewer kept = record {
    whole = files;
    log = log;
    parents = record {
      records = λ key locked. let there = subst (IsLocked key) h.cache locked in
          kept key there (staged.parents.records key there);
      holders = λ key locked i up way.
          subst (λ (c : Contents). HolderWaits c key.ino key.version up) (sym h.cache)
          (staged.parents.holders key (subst (IsLocked key) h.cache locked) i up way);
    };
    once = once;
    few = let few = staged.few in omega arith;
    within = λ n block f is file locked. staged.within n block f (sym (h.records n) ∙ is) file
        (subst (λ v. IsLocked (key_of n v (code_of block)) p.cache) (h.versions n)
        (subst (IsLocked (key_of n (version_of q n) (code_of block))) h.cache locked));
  }
