-- An address set in what holds it changes that one cell: `sets_record` and `stays_record`, `sets_entry` and
-- `stays_entry`, for the two arms of `set_address`. At the empty way the record that waits is replaced by one
-- with the same attributes; else four bytes of a LOCKED frame change, and the table of a block that waits is the cells
-- of its frame (`held_table`). It stands on `ParentsWait`: were the holder in the log alone, there would be nothing to
-- write into.
use Rattle.std.proofs.Common.{◌≡◌, ◌≢◌, ℕ, List, length, [], ◌∷◌, Option, None, Some, IsSome, false}
use Rattle.std.proofs.Common.{is_some, refl, sym, ap, ◌∙◌, subst}
use Rattle.std.specs.Prelude.{slice_set, All}
use Rattle.std.proofs.lemmas.Bool.{cond-true}
use Rattle.std.proofs.lemmas.List.Elements.{All-weaker}
use Rattle.lfs_cache.specs.Changes.{IsContents}
use Rattle.lfs_ifile.specs.Tables.{row_of}
use Rattle.lfs_inodes.specs.declared.inode.Inode.{Inode}
use Rattle.lfs_inodes.specs.Addresses.{addresses, cells}
use Rattle.lfs_inodes.specs.Attributes.{Attributes, attributes}
use Rattle.lfs_inodes.specs.Reading.{fields_of}
use Rattle.lfs_cache.specs.Contents.{Contents, IsLocked, block_in}
use Rattle.lfs_cache.specs.Keys.{same_key}
use Rattle.lfs_log.specs.Parts.{LogParts}
use Rattle.lfs_bmap.specs.Reading.{table}
use Rattle.lfs_bmap.specs.declared.blocks.FileBlock.{FileBlock}
use Rattle.lfs_bmap.specs.Blocks.{code_of, way_to}
use Rattle.lfs_bmap.specs.Ways.{code_at}
use Rattle.lfs_bmap.proofs.ReadingLemmas.{table-cells, table-root, read-waits}
use Rattle.lfs_parts.specs.declared.parts.Parts.{Parts}
use Rattle.lfs_parts.specs.Waiting.{numbers_of, Replaces, replaced}
use Rattle.lfs_staging.specs.Addressing.{IsWaiting, Sets, SetsEntry, StaysWaiting}
use Rattle.lfs_parts.specs.Store.{HolderWaits, IsPresent}
use Rattle.lfs_parts.specs.View.{key_of, record_of, root_in, tree_of, version_of, waiting_in}
use Rattle.lfs_parts.proofs.HeldLemmas.{GainsNoClean-same}
use Rattle.lfs_parts.proofs.ViewLemmas.{code_at-way_to, record_of-waiting}
use Rattle.lfs_parts.proofs.ReplacingLemmas.{each_replaced}
use Rattle.lfs_bmap.proofs.HolderLemmas.{no_end}
use Rattle.lfs_parts.proofs.SameLogLemmas.{present_kept, record_same}

-- the record that waits is the number's
pub waiting_record : (p : Parts) (v : Inode) → IsWaiting p v → record_of p v.number ≡ Some (fields_of v)
waiting_record p v h = record_of-waiting p v.number _ v (cond-true _ _ _ h.in_use) h.waits

-- what waits for a block that holds addresses
pub held_waits : (p : Parts) (v : Inode) (t : FileBlock) (o : Option (List ℕ)) → IsWaiting p v
    → block_in (key_of v.number v.version (code_of t)) p.cache.locked ≡ o
    → (tree_of p v.number).waits (way_to t) ≡ o
held_waits p v t o h waits =
    ap (λ c. block_in (key_of v.number (version_of p v.number) c) p.cache.locked) (code_at-way_to t)
    ∙ ap (λ n. block_in (key_of v.number n (code_of t)) p.cache.locked) (sym h.at_version) ∙ waits

pub held_table : (p : Parts) (v : Inode) (t : FileBlock) (b : List ℕ) → way_to t ≢ [] → IsWaiting p v
    → block_in (key_of v.number v.version (code_of t)) p.cache.locked ≡ Some b
    → table (tree_of p v.number) (way_to t) ≡ cells b
held_table p v t b some h waits =
    table-cells (tree_of p v.number) (way_to t) some
    ∙ ap cells (read-waits (tree_of p v.number) (way_to t) b (held_waits p v t (Some b) h waits))

-- what holds an address waits
pub holder_waits : (c : Contents) (number version : ℕ) (up : List ℕ)
    → (up ≢ [] → IsLocked (key_of number version (code_at up)) c) → HolderWaits c number version up
holder_waits c number version [] waits = tt
holder_waits c number version (i ∷ up) waits = waits (no_end i up)

pub holder_locked : (c : Contents) (number version : ℕ) (up : List ℕ) → up ≢ [] → HolderWaits c number version up
    → IsLocked (key_of number version (code_at up)) c
holder_locked c number version [] some waits = absurd (some refl)
holder_locked c number version (i ∷ up) some waits = waits

pub record_table : (p : Parts) (v : Inode) → IsWaiting p v → table (tree_of p v.number) [] ≡ addresses v
record_table p v h = table-root (tree_of p v.number) ∙ ap root_in (waiting_record p v h)

-- what holds of a way's first place and the rest, by an equation
pub at_way : (P : ℕ → List ℕ → Type 0) (way : List ℕ) (j : ℕ) (above : List ℕ) → way ≡ j ∷ above → P j above
    → (i : ℕ) (up : List ℕ) → way ≡ i ∷ up → P i up
at_way P way j above is h i up e =
    let first : j ≡ i = cc in let rest : above ≡ up = cc in subst (P i) rest (subst (λ k. P k above) first h)

-- what is there
pub some_there : (o : Option (List ℕ)) → IsSome o → (x : List ℕ) × (o ≡ Some x)
some_there None h = absurd (cc)
some_there (Some x) h = (x, refl)

-- a record that has the same attributes waits in place of another one
module _ (p q : Parts) (v w : Inode) (is : IsWaiting p v) (log : q.log ≡ p.log) (same : attributes w ≡ attributes v)
    (swap : Replaces p.waiting q.waiting w) where
  number_same : w.number ≡ v.number
  number_same = ap (λ (a : Attributes). a.number) same

  pub replaced_here : IsWaiting q w
  replaced_here = record {
    waits = swap.here;
    in_use = ap (λ (l : LogParts). (row_of l.tables w.number).used) log
        ∙ ap (λ n. (row_of p.log.tables n).used) number_same ∙ is.in_use;
    at_version = ap (λ (a : Attributes). a.version) same ∙ is.at_version ∙ ap (version_of p) (sym number_same)
        ∙ ap (λ (l : LogParts). (row_of l.tables w.number).version) (sym log);
  }

  pub replaced_others : (number : ℕ) → number ≢ v.number → waiting_in q.waiting number ≡ waiting_in p.waiting number
  replaced_others number other = swap.others number (λ e. other (e ∙ number_same))

  pub sets_record : (i a : ℕ) → q.cache ≡ p.cache → addresses w ≡ slice_set (addresses v) i a → Sets p q v i [] a
  sets_record i a cache changed = record {
    log = log;
    parent = ap (λ n. table (tree_of q n) []) (sym number_same) ∙ record_table q w replaced_here ∙ changed
        ∙ ap (λ ys. slice_set ys i a) (sym (record_table p v is));
    root = λ some. absurd (some refl);
    records = λ number other. record_same p q number log (replaced_others number other);
    waits = λ key other. ap (λ (s : Contents). block_in key s.locked) cache;
    record_only = λ _. cache;
    many = ap (λ (s : Contents). length s.locked) cache;
    clean = GainsNoClean-same p.cache q.cache cache;
    still = tt;
  }

  pub stays_record : q.cache ≡ p.cache → IsContents p.cache
      → All (λ (x : Inode). IsPresent p x.number x.version) p.waiting
      → q.waiting ≡ replaced p.waiting w → StaysWaiting p q v
  stays_record cache contents present items = record {
    cache = subst IsContents (sym cache) contents;
    present = all_present p q p.waiting q.waiting log items present replaced_here;
    after = w;
    here = replaced_here;
    same = same;
    others = replaced_others;
    numbers = swap.numbers;
  }
    where
      all_present : (p q : Parts) (xs ys : List Inode) → q.log ≡ p.log → ys ≡ replaced xs w
          → All (λ (x : Inode). IsPresent p x.number x.version) xs → IsWaiting q w
          → All (λ (x : Inode). IsPresent q x.number x.version) ys
      all_present p q xs ys log items present here =
          subst (All (λ (x : Inode). IsPresent q x.number x.version)) (sym items)
          (each_replaced (λ (x : Inode). IsPresent q x.number x.version) xs w
          (record { in_use = here.in_use; at_version = here.at_version })
          (All-weaker (λ (x : Inode). IsPresent p x.number x.version) (λ (x : Inode). IsPresent q x.number x.version)
          (λ x h. present_kept p q x.number x.version log h) xs present))

-- an address is set in an indirect block
module _ (p q : Parts) (v : Inode) (t : FileBlock) (i a : ℕ) (b : List ℕ) (some : way_to t ≢ []) (is : IsWaiting p v)
    (log : q.log ≡ p.log) (waiting : q.waiting ≡ p.waiting)
    (was : block_in (key_of v.number v.version (code_of t)) p.cache.locked ≡ Some b)
    (h : SetsEntry p.cache q.cache (key_of v.number v.version (code_of t)) i a b) where
  pub entry_here : IsWaiting q v
  entry_here = record {
    waits = ap (λ items. waiting_in items v.number) waiting ∙ is.waits;
    in_use = ap (λ (l : LogParts). (row_of l.tables v.number).used) log ∙ is.in_use;
    at_version = is.at_version ∙ ap (λ (l : LogParts). (row_of l.tables v.number).version) (sym log);
  }

  pub sets_entry : Sets p q v i (way_to t) a
  sets_entry = record {
    log = log;
    parent = held_table q v t h.after some entry_here h.rewritten.here ∙ h.changed
        ∙ ap (λ ys. slice_set ys i a) (sym (held_table p v t b some is was));
    root = λ _. record_same p q v.number log (ap (λ items. waiting_in items v.number) waiting);
    records = λ number other. record_same p q number log (ap (λ items. waiting_in items number) waiting);
    waits = λ key other. h.rewritten.others key
        (subst (λ c. same_key (key_of v.number v.version c) key ≡ false) (code_at-way_to t) other);
    record_only = λ e. absurd (some e);
    many = h.rewritten.many;
    clean = h.rewritten.clean;
    still = holder_waits q.cache v.number v.version (way_to t)
        (λ _. ap (λ c. is_some (block_in (key_of v.number v.version c) q.cache.locked)) (code_at-way_to t)
        ∙ ap is_some h.rewritten.here);
  }

  pub stays_entry : All (λ (x : Inode). IsPresent p x.number x.version) p.waiting → StaysWaiting p q v
  stays_entry present = record {
    cache = h.rewritten.formed;
    present = subst (All (λ (x : Inode). IsPresent q x.number x.version)) (sym waiting)
        (All-weaker (λ (x : Inode). IsPresent p x.number x.version) (λ (x : Inode). IsPresent q x.number x.version)
        (λ x was. present_kept p q x.number x.version log was) p.waiting present);
    after = v;
    here = entry_here;
    same = refl;
    others = λ number other. ap (λ items. waiting_in items number) waiting;
    numbers = ap numbers_of waiting;
  }
