-- What waits allows changes, and a change that only stages leaves the log: `staged_change` for `set_length`,
-- `parents_again` for `stage_with_parents`, the `stays-` lemmas for CutFileLemmas and the changes of `lfs_segwrite`. A
-- block staged with the bytes that it has leaves each file as it reads (SameFiles), so the content is the same and the
-- file's blocks may be staged on (`may_again`). Of the file one record waits at most, so the count is kept by what else
-- waits (`few_records`); a change that moved addresses would need more than `stays_same`.
use Rattle.std.proofs.Common.{◌≡◌, ℕ, ◌*◌, ◌<◌, List, length, true, refl, sym, ap, ◌∙◌, subst, arith}
use Rattle.std.specs.Prelude.{⊤}
use Rattle.lfs_ifile.specs.Tables.{row_of}
use Rattle.lfs_inodes.specs.declared.inode.Inode.{Inode}
use Rattle.lfs_log.specs.Parts.{LogParts}
use Rattle.lfs_bmap.specs.Blocks.{IsFileBlock, code_of, table_of, way_to}
use Rattle.lfs_bmap.specs.Reading.{address}
use Rattle.lfs_bmap.specs.Ways.{IsBlockWay, codes_on}
use Rattle.lfs_bmap.proofs.MoveLemmas.{moves-refl, moves-same, moves-trans}
use Rattle.lfs_bmap.proofs.PlaceLemmas.{data_block-same}
use Rattle.lfs_parts.specs.declared.records.TheConstants.{WAITING_LIMIT}
use Rattle.lfs_parts.specs.declared.parts.Parts.{Parts}
use Rattle.lfs_staging.specs.Changing.{StaysInLog}
use Rattle.lfs_parts.specs.Files.{content_of}
use Rattle.lfs_parts.specs.Keys.{log_state}
use Rattle.lfs_staging.specs.Putting.{MayChange}
use Rattle.lfs_staging.specs.Staging.{IsStaged, MayStage, SameFiles, StagesParents, StagesTable}
use Rattle.lfs_parts.specs.Store.{AreFiles, IsWithin, ParentsWait}
use Rattle.lfs_parts.specs.View.{tree_of}
use Rattle.lfs_parts.specs.Waiting.{without}
use Rattle.lfs_parts.proofs.SameLogLemmas.{block_known, keys_kept, log_kept}
use Rattle.lfs_staging.proofs.KeptLemmas.{few_records, taken_within, way_within}
use Rattle.lfs_parts.proofs.KeyLemmas.{lies_in}
use Rattle.lfs_parts.proofs.SameContentLemmas.{content_of-same, file_at-kept}
use Rattle.lfs_parts.proofs.SameLogLemmas.{version-same}
use Rattle.lfs_parts.proofs.WaitingLemmas.{length-without}
use Rattle.std.specs.List.{Contains}
use Rattle.lfs_bmap.specs.declared.blocks.FileBlock.{FileBlock}

-- a file in use may be changed where there is room for a record
pub staged_change : (p : Parts) (number spare : ℕ) → IsStaged p spare → number < length p.log.tables.rows
    → (row_of p.log.tables number).used ≡ true
    → length p.waiting < WAITING_LIMIT → MayChange p number
staged_change p number spare staged low used few = record {
  files = staged.whole;
  parents = staged.parents;
  inside = lies_in p number spare low staged.whole.parts.laid_out staged.log;
  in_range = low;
  in_use = used;
  records = let fewer = length-without p.waiting number in omega arith;
}

-- ---- what is staged with what it has
-- each file is the same, and so is the content
pub content_same : (old new : Parts) → SameFiles old new → content_of new ≡ content_of old
content_same old new same =
    content_of-same old new (ap (λ (l : LogParts). length l.tables.rows) same.log)
    (λ number low. file_at-kept old new number (same.records number)
    (λ n. data_block-same (tree_of old number) (tree_of new number) (same.readings number) n))

-- the blocks of the file may wait still
pub may_again : (old new : Parts) (v : Inode) → MayStage old v → SameFiles old new → AreFiles new → ParentsWait new
    → without v.number new.waiting ≡ without v.number old.waiting → MayStage new v
may_again old new v may same files parents room = record {
  files = files;
  parents = parents;
  inside = record {
    each = λ block is.
        subst (λ n. address (tree_of new v.number) (way_to block) < n)
        (sym (ap (λ (l : LogParts). l.memory.segments * 64) same.log))
        (subst (λ a. a < old.log.memory.segments * 64)
        (sym ((same.readings v.number).addresses (way_to block) (block_known block is)))
        (may.inside.each block is));
  };
  in_range = subst (λ n. v.number < n) (sym (ap (λ (l : LogParts). length l.tables.rows) same.log)) may.in_range;
  in_use = ap (λ (l : LogParts). (row_of l.tables v.number).used) same.log ∙ may.in_use;
  here = same.records v.number ∙ may.here;
  records = subst (λ (vs : List Inode). length vs < 64) (sym room) may.records;
}

-- ---- the parents of a block wait
module _ (old new : Parts) (v : Inode) (block : FileBlock) (may : MayStage old v)
    (h : StagesParents v.number block old new) where
  pub parents_again : MayStage new v
  parents_again = may_again old new v may h.same h.files h.parents h.room

  -- what holds in the middle of a call is kept, where what holds the block's address lies within the size
  pub parents_staged : (spare : ℕ) → IsStaged old spare
      → ((b : FileBlock) → IsFileBlock b → Contains (codes_on (way_to (table_of block))) (code_of b)
      → IsWithin b v.size)
      → IsStaged new spare
  parents_staged spare staged inside = record {
    whole = h.files;
    log = log_kept old new spare h.same.log (λ n way known. (h.same.readings n).addresses way known) staged.log;
    parents = h.parents;
    once = h.once staged.once;
    few = few_records new v.number (without v.number old.waiting) h.room may.records;
    within = taken_within old new v (codes_on (way_to (table_of block))) h.same.records
        (λ n. version-same old new n h.same.log) may.here inside h.takes staged.within;
  }

-- so it is with a block that waits with what it has, and its parents
pub table_staged_still : (old new : Parts) (v : Inode) (t : FileBlock) → MayStage old v → IsFileBlock t
    → IsWithin t v.size → StagesTable v.number t old new
    → (spare : ℕ) → IsStaged old spare → IsStaged new spare
table_staged_still old new v t may can within h spare staged = record {
  whole = h.files;
  log = log_kept old new spare h.same.log (λ n way known. (h.same.readings n).addresses way known) staged.log;
  parents = h.parents;
  once = h.once staged.once;
  few = few_records new v.number (without v.number old.waiting) h.takes.records may.records;
  within = taken_within old new v (codes_on (way_to t)) h.same.records (λ n. version-same old new n h.same.log) may.here
      (way_within t v.size can within) h.takes.takes staged.within;
}

-- ---- what a staged change leaves of the log
-- nothing was written where the log and all addresses stay
pub stays_same : (old new : Parts) → new.log ≡ old.log
    → ((n : ℕ) (way : List ℕ) → IsBlockWay way → address (tree_of new n) way ≡ address (tree_of old n) way)
    → StaysInLog old new
stays_same old new log addresses = record {
  memory = ap (λ (l : LogParts). l.memory) log;
  states = ap (λ (l : LogParts). l.tables.states) log;
  clean = ap (λ (l : LogParts). l.clean) log;
  numbers = ap (λ (l : LogParts). length l.tables.rows) log;
  moves = moves-same (λ segment. ⊤) (log_state old) (log_state new) (keys_kept old new log addresses);
}

-- or where the log and the files stay
pub stays_files : (old new : Parts) → new.log ≡ old.log → ((n : ℕ) → tree_of new n ≡ tree_of old n) → StaysInLog old new
stays_files old new log files = stays_same old new log (λ n way known. ap (λ t. address t way) (files n))

pub stays-refl : (p : Parts) → StaysInLog p p
stays-refl p = record {
  memory = refl;
  states = refl;
  clean = refl;
  numbers = refl;
  moves = moves-refl (λ segment. ⊤) (log_state p);
}

pub stays-trans : (a b c : Parts) → StaysInLog a b → StaysInLog b c → StaysInLog a c
stays-trans a b c p q = record {
  memory = q.memory ∙ p.memory;
  states = q.states ∙ p.states;
  clean = q.clean ∙ p.clean;
  numbers = q.numbers ∙ p.numbers;
  moves = moves-trans (λ segment. ⊤) (log_state a) (log_state b) (log_state c) p.moves q.moves;
}
