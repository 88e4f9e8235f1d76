-- A directory's bytes with a block written without an entry list the rows without that one: `ListsRows-taken`, for
-- TakeLemmas and MovedStore; `absent_before` and `absent_after` are for ListingsSwapped too. The name stands in one
-- block only, as entries differ, so taking it from that block is taking it from the whole list (`without-middle`), and
-- all other blocks stay (Listings). The count of blocks stays (`taken_length`), as an emptied block isn't given back;
-- if it were, `behind` and the places of all later entries would move.
use Rattle.std.proofs.Common.{◌≡◌, ◌≢◌, ℕ, ◌+◌, ◌*◌, ◌/◌, ◌%◌, ◌≤◌, List, [], ◌∷◌, ◌++◌, length, None, sym, ap, subst}
use Rattle.std.proofs.Common.{◌∙◌, ⊎_elim, arith}
use Rattle.std.specs.Prelude.{IsSome, bytes_eq}
use Rattle.std.specs.FinMap as map
use Rattle.std.proofs.lemmas.Bool.{cases_Bool, both_ways}
use Rattle.std.proofs.lemmas.Slice.Eq.{bytes_eq-Decides}
use Rattle.lfs_types.specs.Splicing.{splice}
use Rattle.lfs_dirs.proofs.Changes.{number_in-nil, number_in-later, number_in-append, number_in-both, number_in-without}
use Rattle.lfs_dirs.proofs.Changes.{number_in-without_other, has_name-true, without-nil, without-here, without-later}
use Rattle.lfs_dirs.proofs.Changes.{without-absent, AreEntries-without}
use Rattle.lfs_dirs.specs.Directory.{Entry, AreEntries, has_name, number_in, without}
use Rattle.lfs_dirs.specs.Reading.{entries_of}
use Rattle.lfs_calls.specs.declared.directory.DirBlock.{DirBlock}
use Rattle.lfs_model.specs.World.{Rows, child, IsChild}
use Rattle.lfs_calls.specs.Content.{block_at, entries_below, all_entries, AreBlocks, ListsRows}
use Rattle.lfs_calls.specs.Removes.{IsTaking}
use Rattle.lfs_model.proofs.Children.{IsUnique}
use Rattle.lfs_calls.proofs.Listings.{entries_from, behind, old_listed, new_listed, blocks_after}
use Rattle.lfs_types.proofs.Pieces.{put_over, splice-put_over, length-put_over}
use Rattle.lfs_model.proofs.Shrunk.{child-removed, child-left_elsewhere}
use Rattle.lfs_types.proofs.Somewhere.{there_of}

-- ---- entries

without-append : (name : List ℕ) (es fs : List Entry) → without name (es ++ fs) ≡ without name es ++ without name fs
without-append name [] fs = ap (λ gs. gs ++ without name fs) (sym (without-nil name))
without-append name (e ∷ es) fs = ⊎_elim
    (λ t. without-here name e (es ++ fs) t ∙ without-append name es fs
    ∙ ap (λ gs. gs ++ without name fs) (sym (without-here name e es t)))
    (λ t. without-later name e (es ++ fs) t ∙ ap (λ gs. e ∷ gs) (without-append name es fs)
    ∙ ap (λ gs. gs ++ without name fs) (sym (without-later name e es t)))
    (cases_Bool (has_name name e))

-- a name that is in entries isn't among those before them
pub absent_before : (name : List ℕ) (es fs : List Entry) → AreEntries (es ++ fs) → IsSome (number_in name fs)
    → number_in name es ≡ None
absent_before name [] fs a some = number_in-nil name
absent_before name (e ∷ es) fs a some = ⊎_elim
    (λ t.
    let gone = (number_in-both name es fs (subst (λ q. number_in q (es ++ fs) ≡ None) (has_name-true name e t) a.1)).1
    in
    let found = (there_of (number_in name fs) some).is in
    absurd (cc))
    (λ t. number_in-later name e es t ∙ absent_before name es fs a.2 some)
    (cases_Bool (has_name name e))

-- nor among those behind them
pub absent_after : (name : List ℕ) (es fs : List Entry) → AreEntries (es ++ fs) → IsSome (number_in name es)
    → number_in name fs ≡ None
absent_after name [] fs a some =
    let none = number_in-nil name in
    let found = (there_of (number_in name []) some).is in
    absurd (cc)
absent_after name (e ∷ es) fs a some = ⊎_elim
    (λ t. (number_in-both name es fs (subst (λ q. number_in q (es ++ fs) ≡ None) (has_name-true name e t) a.1)).1)
    (λ t. absent_after name es fs a.2 (subst IsSome (number_in-later name e es t) some))
    (cases_Bool (has_name name e))

pub AreEntries-front : (es fs : List Entry) → AreEntries (es ++ fs) → AreEntries es
AreEntries-front [] fs a = tt
AreEntries-front (e ∷ es) fs a = (a.0, (number_in-both e.1 es fs a.1).0, AreEntries-front es fs a.2)

-- a name in the middle of entries is taken away from the middle alone
without-middle : (name : List ℕ) (xs es ys : List Entry) → AreEntries ((xs ++ es) ++ ys) → IsSome (number_in name es)
    → (xs ++ without name es) ++ ys ≡ without name ((xs ++ es) ++ ys)
without-middle name xs es ys a some =
    let before = absent_before name xs es (AreEntries-front (xs ++ es) ys a) some in
    let behind = absent_after name (xs ++ es) ys a (subst IsSome (sym (number_in-append name xs es before)) some) in
    sym (without-append name (xs ++ es) ys ∙ ap (λ gs. gs ++ without name ys) (without-append name xs es)
    ∙ ap (λ gs. (gs ++ without name es) ++ without name ys) (without-absent name xs before)
    ∙ ap (λ gs. (xs ++ without name es) ++ gs) (without-absent name ys behind))

-- ---- a directory's bytes

module _ (bytes name : List ℕ) (room : DirBlock) (k : ℕ) (taking : IsTaking bytes name room k) where
  taken_within : k ≤ length bytes / 512
  taken_within = omega (arith, taking.within)

  -- the block is put over the old one
  pub taken_put : splice bytes room.off room.block ≡ put_over bytes (512 * k) room.block
  taken_put = splice-put_over bytes room.off room.block (omega (arith, taking.block.size))
      (omega (arith, taking.off, taking.within))
      ∙ ap (λ off. put_over bytes off room.block) taking.off

  -- the bytes are as many as before
  pub taken_length : length (splice bytes room.off room.block) ≡ length bytes
  taken_length =
      let long = length-put_over bytes (512 * k) room.block (omega (arith, taking.within)) in
      ap (λ (bs : List ℕ). length bs) taken_put ∙ long ∙ omega (arith, taking.within, taking.block.size)

module _ (rows : Rows) (unique : IsUnique rows) (parent n : ℕ) (name : List ℕ) (hangs : IsChild rows parent name n)
    (bytes : List ℕ) (listing : ListsRows rows parent bytes) (whole : length bytes % 512 ≡ 0)
    (room : DirBlock) (k : ℕ) (taking : IsTaking bytes name room k) where
  abbrev within : k ≤ length bytes / 512
  within = taken_within bytes name room k taking

  abbrev put : splice bytes room.off room.block ≡ put_over bytes (512 * k) room.block
  put = taken_put bytes name room k taking

  -- what is listed is what was listed, without the name
  pub taken_listed : all_entries (splice bytes room.off room.block) ≡ without name (all_entries bytes)
  taken_listed =
      let before = entries_below bytes k in
      let after = entries_from bytes (k + 1) (behind bytes k room.block taking.block.size whole within) in
      let was : all_entries bytes ≡ (before ++ entries_of (block_at bytes k))
      ++ after = old_listed bytes k room.block taking.block.size whole within in
      ap all_entries put ∙ new_listed bytes k room.block taking.block.size whole within
      ∙ ap (λ es. (before ++ es) ++ after) taking.takes
      ∙ without-middle name before (entries_of (block_at bytes k)) after
      (subst AreEntries was listing.distinct) taking.listed
      ∙ ap (without name) (sym was)

  -- the bytes with the block list the rows without the one
  pub ListsRows-taken : ListsRows (map.remove rows n) parent (splice bytes room.off room.block)
  ListsRows-taken = record {
    blocks = subst AreBlocks (sym put) (blocks_after bytes k room.block taking.block.size whole within listing.blocks
        taking.block);
    distinct = subst AreEntries (sym taken_listed) (AreEntries-without name (all_entries bytes) listing.distinct);
    names = λ q. ap (number_in q) taken_listed ∙ ⊎_elim
        (λ t.
        let same : q ≡ name = (bytes_eq-Decides q name).0 t in
        subst (λ x. number_in x (without name (all_entries bytes)) ≡ child (map.remove rows n) parent x) (sym same)
        (number_in-without name (all_entries bytes) ∙ sym (child-removed rows n unique parent name hangs)))
        (λ t.
        let other : q ≢ name = λ e. both_ways _ t ((bytes_eq-Decides q name).1 e) in
        number_in-without_other name q (all_entries bytes) (λ e. other (sym e)) ∙ listing.names q
        ∙ sym (child-left_elsewhere rows n unique parent name hangs parent q (λ _ e. other e)))
        (cases_Bool (bytes_eq q name));
  }
