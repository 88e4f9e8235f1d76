-- The parts over the log of a store of which nothing waits are those of one (`flushed_stored`), and show the same files
-- (`flushed_files`): neither clean frames nor their number make a difference.
use Rattle.std.proofs.Common.{◌≡◌, ℕ, List, [], refl, sym, ap, ◌∙◌, subst, arith}
use Rattle.std.specs.Prelude.{IsSome, option_map}
use Rattle.std.proofs.lemmas.Bool.{false≢true}
use Rattle.std.proofs.lemmas.List.Elements.{All-nil}
use Rattle.std.proofs.lemmas.Option.{none-some}
use Rattle.lfs_segments.specs.Memory.{block_at}
use Rattle.lfs_inodes.specs.declared.inode.Inode.{Inode}
use Rattle.lfs_inodes.specs.Reading.{Fields}
use Rattle.lfs_cache.specs.declared.key.Key.{Key}
use Rattle.lfs_cache.specs.Changes.{IsContents}
use Rattle.lfs_cache.specs.Contents.{block_in, nothing_in}
use Rattle.lfs_bmap.specs.Blocks.{way_to}
use Rattle.lfs_bmap.specs.Log.{IsLog, LogState}
use Rattle.lfs_bmap.specs.Pieces.{IsPadded}
use Rattle.lfs_bmap.specs.Reading.{Tree, address, data_block, places}
use Rattle.lfs_bmap.specs.Ways.{code_at}
use Rattle.lfs_log.specs.Parts.{record_place}
use Rattle.lfs_log.specs.Parts as log
use Rattle.lfs_parts.specs.declared.parts.Parts.{Parts}
use Rattle.lfs_parts.specs.Files.{file_at, file_with}
use Rattle.lfs_parts.specs.Keys.{log_state}
use Rattle.lfs_parts.specs.Store.{IsFile, IsPresent, IsFlushed, IsStore}
use Rattle.lfs_parts.specs.View.{key_of, record_of, root_in, tree_of, version_of, waiting_in}
use Rattle.lfs_parts.proofs.CleanLemmas.{mirrors_none}
use Rattle.lfs_parts.proofs.ViewLemmas.{record_like}
use Rattle.lfs_parts.proofs.WaitingLemmas.{none_once}
use Rattle.lfs_fsck.specs.Stored.{IsStored, stored}

-- frames that hold nothing
nothing_formed : (n : ℕ) → IsContents (nothing_in n)
nothing_formed n = record {
  apart = tt;
  sized = λ key block held. absurd (none-some block held);
  limit = omega arith;
}

-- a file whose blocks lie in the log or wait in these frames
abbrev tree_over : Parts → ℕ → List ℕ → List (Key × List ℕ) → Tree
tree_over p number root locked = record {
  root = root;
  waits = λ way. block_in (key_of number (version_of p number) (code_at way)) locked;
  block = λ a. block_at p.log.memory a;
}

module _ (p : Parts) (done : IsFlushed p) (n : ℕ) where
  abbrev q : Parts
  q = stored n p.log

  same_record : (k : ℕ) → record_of q k ≡ record_of p k
  same_record k = record_like p q k refl refl (ap (λ vs. waiting_in vs k) (sym done.no_record))

  same_tree : (k : ℕ) → tree_of q k ≡ tree_of p k
  same_tree k =
      ap (λ r. tree_over p k (root_in r) []) (same_record k)
      ∙ ap (tree_over p k (root_in (record_of p k))) (sym done.no_frame)

  same_state : log_state q ≡ log_state p
  same_state = λ i. log.log_state p.log (places (record_place p.log.tables) (λ k. same_tree k i))

  same_file : (k : ℕ) (f : Fields) → IsFile p k f → IsFile q k f
  same_file k f h = record {
    formed = h.formed;
    own_number = h.own_number;
    own_version = h.own_version;
    none_past = λ block can past. ap (λ (t : Tree). address t (way_to block)) (same_tree k)
        ∙ h.none_past block can past;
    padded = subst (λ (t : Tree). IsPadded (data_block t) f.attributes.size) (sym (same_tree k)) h.padded;
  }

  flushed_over : IsStore p → IsStore q
  flushed_over h = record {
    whole = record {
      parts = h.whole.parts;
      cache = nothing_formed n;
      reserved = h.whole.reserved;
      recorded = λ k used. subst IsSome (sym (same_record k)) (h.whole.recorded k used);
      files = λ k f is. same_file k f (h.whole.files k f (sym (same_record k) ∙ is));
      records = All-nil (λ (v : Inode). IsPresent q v.number v.version);
      frames = λ key locked. absurd (false≢true locked);
      coded = λ key locked. absurd (false≢true locked);
      mirrors = mirrors_none q refl;
    };
    log = subst (λ (s : LogState). IsLog s 0) (sym same_state) h.log;
    ready = h.ready;
    parents = record {
      records = λ key locked. absurd (false≢true locked);
      holders = λ key locked i up way. absurd (false≢true locked);
    };
    once = none_once q.waiting refl;
    few = omega arith;
    within = λ k block f is can locked. absurd (false≢true locked);
  }

  pub flushed_files : (k : ℕ) → file_at q k ≡ file_at p k
  unfolding file_at
  flushed_files k =
      ap (λ t. option_map (file_with t) (record_of q k)) (same_tree k)
      ∙ ap (λ r. option_map (file_with (tree_of p k)) r) (same_record k)

-- a store may stand on the log of one of which nothing waits
pub flushed_stored : (p : Parts) → IsFlushed p → IsStore p → IsStored p.log
flushed_stored p done store = λ frames. flushed_over p done frames store
