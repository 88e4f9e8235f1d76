-- What holds of parts whose log is as it was: each number has the record and the version that it had (`record_same`,
-- `version-same`, `present_kept`), each key its place (`keys_kept`), and the log and the files keep what holds of them
-- (`log_kept`, `files_kept`), for what is read through the cache here and for all that waits above. All of these read
-- the log's tables and memory alone, beside what waits, which is told apart; a call that writes the log has no use for
-- them.
use Rattle.std.proofs.Common.{All, List, Some, [], ap, arith, inl, inr, is_some, length, option_and_then, subst, sym}
use Rattle.std.proofs.Common.{true, ℕ, ◌*◌, ◌+◌, ◌<◌, ◌∙◌, ◌∷◌, ◌≡◌}
use Rattle.std.proofs.lemmas.Bool.{cases_eq, cases_lt, false≢true}
use Rattle.std.proofs.lemmas.List.{get_or_past}
use Rattle.std.proofs.lemmas.List.Elements.{All-weaker}
use Rattle.std.specs.Prelude.{if◌then◌else◌, ◌==◌}
use Rattle.lfs_bmap.proofs.BlockLemmas.{code_of-below}
use Rattle.lfs_bmap.proofs.LogLemmas.{written_log}
use Rattle.lfs_bmap.proofs.WayLemmas.{way_of-code_of, way_of-known}
use Rattle.lfs_bmap.specs.Blocks.{IsFileBlock, code_of, way_to}
use Rattle.lfs_bmap.specs.Log.{IsLog, SameKeys}
use Rattle.lfs_bmap.specs.Pieces.{IsPadded}
use Rattle.lfs_bmap.specs.Reading.{address, data_block}
use Rattle.lfs_bmap.specs.Ways.{IsBlockWay, code_at, way_of}
use Rattle.lfs_bmap.specs.declared.blocks.FileBlock.{FileBlock}
use Rattle.lfs_cache.specs.Changes.{IsContents}
use Rattle.lfs_cache.specs.Contents.{Contents, IsLocked}
use Rattle.lfs_cache.specs.declared.key.Key.{Key}
use Rattle.lfs_ifile.specs.Inode.{fresh_row}
use Rattle.lfs_ifile.specs.Tables.{place_of, row_of}
use Rattle.lfs_ifile.specs.declared.inode.InodePlace.{InodePlace}
use Rattle.lfs_ifile.specs.declared.inode.InodeRow.{InodeRow}
use Rattle.lfs_inodes.specs.Reading.{Fields}
use Rattle.lfs_inodes.specs.declared.inode.Inode.{Inode}
use Rattle.lfs_log.specs.Names.{named_at}
use Rattle.lfs_log.specs.Parts.{IsParts, LogParts, live_of, record_place, state_of}
use Rattle.lfs_segments.specs.Memory.{next_address}
use Rattle.lfs_parts.proofs.KeyLemmas.{place-block, place-record}
use Rattle.lfs_parts.specs.Keys.{log_state}
use Rattle.lfs_parts.specs.Store.{AreFiles, HolderWaits, IsBlockCode, IsPresent, Mirrors}
use Rattle.lfs_parts.specs.View.{fields_at, key_of, record_of, tree_of, version_of, waiting_in, waiting_or}
use Rattle.lfs_parts.specs.declared.parts.Parts.{Parts}

-- the place in a row of the inode map
abbrev pub place_in_row : InodeRow → ℕ
place_in_row row = if row.address == 0 then 0 else 4 * row.address + row.slot

-- a number in use is one of the volume
pub used_low : (p : Parts) (number : ℕ) → (row_of p.log.tables number).used ≡ true → number < length p.log.tables.rows
used_low p number used =
    elim (cases_lt number (length p.log.tables.rows)) [
      | inl low ↦ low
      | inr past ↦ absurd (false≢true (sym (ap (λ (r : InodeRow). r.used)
          (get_or_past p.log.tables.rows number fresh_row past)) ∙ used))
    ]

pub version-same : (old new : Parts) (n : ℕ) → new.log ≡ old.log → version_of new n ≡ version_of old n
version-same old new n log = ap (λ (l : LogParts). (row_of l.tables n).version) log

-- a number in use at its version stays so
pub present_kept : (p q : Parts) (number version : ℕ) → q.log ≡ p.log → IsPresent p number version
    → IsPresent q number version
present_kept p q number version log h = record {
  in_use = ap (λ (l : LogParts). (row_of l.tables number).used) log ∙ h.in_use;
  at_version = h.at_version ∙ ap (λ (l : LogParts). (row_of l.tables number).version) (sym log);
}

-- the record of a number is the same where the log is, and what waits for the number
pub record_same : (p q : Parts) (number : ℕ) → q.log ≡ p.log → waiting_in q.waiting number ≡ waiting_in p.waiting number
    → record_of q number ≡ record_of p number
unfolding record_of
record_same p q number log waits =
    ap (λ w. option_and_then (λ (place : InodePlace). waiting_or w (fields_at q.log.memory place))
    (place_of q.log.tables number)) waits
    ∙ ap (λ (l : LogParts). option_and_then (λ (place : InodePlace). waiting_or (waiting_in p.waiting number)
    (fields_at l.memory place)) (place_of l.tables number)) log

-- where more waits, it does
pub holder_kept : (c d : Contents) (number version : ℕ) (up : List ℕ)
    → ((code : ℕ) → IsLocked (key_of number version code) c → IsLocked (key_of number version code) d)
    → HolderWaits c number version up → HolderWaits d number version up
holder_kept c d number version [] more h = tt
holder_kept c d number version (i ∷ up) more h = more (code_at (i ∷ up)) h

-- the way of a block
pub block_known : (block : FileBlock) → IsFileBlock block → IsBlockWay (way_to block)
block_known block is = subst IsBlockWay (way_of-code_of block is)
    (way_of-known (code_of block) (code_of-below block is))

-- each key has the place that it had
pub keys_kept : (old new : Parts) → new.log ≡ old.log
    → ((n : ℕ) (way : List ℕ) → IsBlockWay way → address (tree_of new n) way ≡ address (tree_of old n) way)
    → SameKeys (log_state old) (log_state new)
keys_kept old new log addresses = record {
  numbers = ap (λ (l : LogParts). length l.tables.rows) log;
  segments = ap (λ (l : LogParts). l.memory.segments) log;
  places = λ n code low below. elim (cases_eq code 0) [
    | inl record_ ↦
        ap ((log_state new).at n) record_ ∙ place-record new n ∙ ap (λ (l : LogParts). record_place l.tables n) log
        ∙ sym (ap ((log_state old).at n) record_ ∙ place-record old n)
    | inr block ↦
        place-block new n code block ∙ ap (λ a. 4 * a) (addresses n (way_of code) (way_of-known code below))
        ∙ sym (place-block old n code block)
  ];
  versions = λ n low. version-same old new n log;
}

pub log_kept : (old new : Parts) (spare : ℕ) → new.log ≡ old.log
    → ((n : ℕ) (way : List ℕ) → IsBlockWay way → address (tree_of new n) way ≡ address (tree_of old n) way)
    → IsLog (log_state old) spare → IsLog (log_state new) spare
log_kept old new spare log addresses h =
    let to = h.segments.to in
    let next : next_address new.log.memory ≡ next_address old.log.memory =
    ap (λ (l : LogParts). next_address l.memory) log in
    let written = written_log (log_state old) (log_state new) spare 0 h (record {
      keys = keys_kept old new log addresses;
      used = record {
        states = λ s low. ap (λ (l : LogParts). state_of l.tables s) log;
        clean = ap (λ (l : LogParts). l.clean) log;
      };
      live = λ s low. ap (λ (l : LogParts). live_of l.tables s) log;
      active = ap (λ (l : LogParts). l.memory.active) log;
      next = omega arith;
      room = omega arith;
      owners = λ place written. ap (λ (l : LogParts). named_at l.memory place) log;
    }) in
    let none : spare + 512 * 0 ≡ spare = omega arith in
    subst (IsLog (log_state new)) none written

pub files_kept : (old new : Parts) → AreFiles old → new.log ≡ old.log → ((n : ℕ) → record_of new n ≡ record_of old n)
    → ((n : ℕ) (way : List ℕ) → IsBlockWay way → address (tree_of new n) way ≡ address (tree_of old n) way)
    → ((n : ℕ) (f : Fields) → record_of old n ≡ Some f → IsPadded (data_block (tree_of old n)) f.attributes.size
    → IsPadded (data_block (tree_of new n)) f.attributes.size)
    → IsContents new.cache → Mirrors new
    → All (λ (v : Inode). IsPresent old v.number v.version) new.waiting
    → ((key : Key) → IsLocked key new.cache → IsPresent old key.ino key.version)
    → ((key : Key) → IsLocked key new.cache → IsBlockCode key.lbn.0) → AreFiles new
files_kept old new h log records addresses padded formed mirrors waiting frames coded = record {
  parts = subst IsParts (sym log) h.parts;
  cache = formed;
  reserved = λ n low other. ap (λ (l : LogParts). (row_of l.tables n).used) log ∙ h.reserved n low other;
  recorded = λ n used. ap is_some (records n)
      ∙ h.recorded n (sym (ap (λ (l : LogParts). (row_of l.tables n).used) log) ∙ used);
  files = λ n f is.
      let is_old = sym (records n) ∙ is in
      let was = h.files n f is_old in
      record {
        formed = was.formed;
        own_number = was.own_number;
        own_version = was.own_version ∙ sym (version-same old new n log);
        none_past = λ block is past. addresses n (way_to block) (block_known block is) ∙ was.none_past block is past;
        padded = padded n f is_old was.padded;
      };
  records = All-weaker (λ (v : Inode). IsPresent old v.number v.version)
      (λ (v : Inode). IsPresent new v.number v.version)
      (λ v present. present_kept old new v.number v.version log present) new.waiting waiting;
  frames = λ key locked. present_kept old new key.ino key.version log (frames key locked);
  coded = coded;
  mirrors = mirrors;
}
