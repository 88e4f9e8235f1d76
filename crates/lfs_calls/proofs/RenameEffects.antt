-- After a Rename's blocks are written, the store shows the world after it: `shows_after` for a place that was free,
-- `shows_over` for that of another row, both for RenameOutcomes; `moves_first` and `swaps_place` say where the entries
-- stand. The judged rows are those to which the paths lead, so `effect` comes to `after_rename` with their numbers
-- (`to_places`), and that is what MovedNames says the blocks show. A name that is there needs no room (`roomy`), and
-- one that is free fills its directory just where no room was found (`fills`, `not_full`); if `after_rename` took
-- another order, both halves change.
use Rattle.std.proofs.Common.{◌≡◌, ◌≢◌, ℕ, ◌≤◌, ◌==◌, cond, List, length, None, Some, refl, sym, ap, subst, ◌∙◌, eq-eqb}
use Rattle.std.proofs.Common.{ne_eqb}
use Rattle.std.specs.Prelude.{if◌then◌else◌}
use Rattle.std.specs.FinMap as map
use Rattle.lfs_types.specs.Caller.{Caller}
use Rattle.lfs_types.specs.Stored.{bytes_of}
use Rattle.lfs_types.specs.Tree.{Row, World, Content, root}
use Rattle.lfs_types.specs.declared.request.Request.TheVariants.{Rename}
use Rattle.lfs_calls.specs.declared.renaming.Move.{Move}
use Rattle.lfs_calls.specs.declared.renaming.Places.{Places}
use Rattle.lfs_model.specs.World.{child, children, IsTree}
use Rattle.lfs_model.specs.Rules.{front, last, reached}
use Rattle.lfs_model.specs.Effects.{after_rename, effect, with_place, without_row}
use Rattle.lfs_calls.specs.Content.{Shows, FitsNowhere}
use Rattle.lfs_calls.specs.Makes.{IsRoom}
use Rattle.lfs_calls.specs.Removes.{IsTaking}
use Rattle.lfs_calls.specs.Outcomes.{FillsDirectory, taken_from}
use Rattle.lfs_calls.specs.Renames.{ArePlaces, HasNoRoom, IsMove, IsSwap, Leaves, MovesFirst}
use Rattle.lfs_calls.specs.Renames.{SwapsInPlace, WritesBlocks, block_put, name_left}
use Rattle.lfs_model.proofs.Children.{child-is}
use Rattle.lfs_calls.proofs.Crowded.{crowded}
use Rattle.lfs_calls.proofs.Directories.{bytes_listing}
use Rattle.lfs_calls.proofs.MovedPlaces.{has_room, hung}
use Rattle.lfs_calls.proofs.MovedNames as names
use Rattle.lfs_calls.proofs.SwappedRows.{swapped}
use Rattle.lfs_types.specs.declared.limits.TheConstants.{FILE_BLOCKS}

module _ {c : Content} {w : World} (shows : Shows c w) (tree : IsTree w.rows)
    (caller : Caller) {from to : List (List ℕ)} {move : Move} (is : IsMove c w.rows from to move) where
  abbrev p : ℕ
  p = move.removal.dir.number

  abbrev q : ℕ
  q = move.dir.number

  abbrev n : ℕ
  n = move.removal.file.number

  -- the row hangs under its old name
  abbrev pub leaves : Leaves c w.rows move (last from)
  leaves = record {
    hangs = record {
      hangs = is.removal.hangs;
      shown_dir = is.removal.shown_dir;
      shown_file = is.removal.shown_file;
      directory = is.removal.directory;
    };
    shown = is.arrival.shown;
    directory = is.arrival.directory;
  }

  abbrev row : Row
  row = (hung shows tree leaves).row

  -- ---- a directory that is full

  taken_is : taken_from w.rows from to ≡ name_left move (last from)
  taken_is = ap (λ m. if m == reached w.rows root (front to) then Some (last from) else None) is.removal.object
      ∙ ap (λ m. if p == m then Some (last from) else None) is.arrival.object

  -- a call that fills its directory finds no room in it
  pub filled : FillsDirectory c w (Rename from to) → (child w.rows q (last to) ≡ None)
      × HasNoRoom c move (last from) (last to) None
  filled full = (
    ap (λ m. child w.rows m (last to)) (sym is.arrival.object) ∙ full.0,
    subst (λ o. FitsNowhere (bytes_of c q) o (last to)) taken_is
        (subst (λ m. FitsNowhere (bytes_of c m) (taken_from w.rows from to) (last to)) is.arrival.object full.1),
  )

  module _ (free : child w.rows q (last to) ≡ None) where
    free_at : child w.rows (reached w.rows root (front to)) (last to) ≡ None
    free_at = ap (λ m. child w.rows m (last to)) is.arrival.object ∙ free

    -- where the new name fits nowhere, the call fills its directory
    pub fills : HasNoRoom c move (last from) (last to) None → FillsDirectory c w (Rename from to)
    fills full = (
      free_at,
      subst (λ o. FitsNowhere (bytes_of c (reached w.rows root (front to))) o (last to)) (sym taken_is)
          (subst (λ m. FitsNowhere (bytes_of c m) (name_left move (last from)) (last to)) (sym is.arrival.object) full),
    )

    -- a directory where it fits nowhere has at least 140 names
    pub crowds : HasNoRoom c move (last from) (last to) None → length (last to) ≤ 255
        → (child w.rows (reached w.rows root (front to)) (last to) ≡ None)
        × (FILE_BLOCKS ≤ length (children w.rows (reached w.rows root (front to))))
    crowds full short = (
      free_at,
      subst (λ m. FILE_BLOCKS ≤ length (children w.rows m)) (sym is.arrival.object)
          (crowded w.rows q (bytes_of c q) (name_left move (last from)) (last to)
          (bytes_listing shows q move.dir.attrs is.arrival.shown is.arrival.directory) full short),
    )

  -- a name that is there needs no room
  pub roomy : (m : ℕ) → child w.rows q (last to) ≡ Some m → FillsDirectory c w (Rename from to) → ⊥
  roomy m there full = let none = (filled full).0 in absurd (cc)

  -- ---- the world after it

  to_places : (numbers : ℕ) → effect numbers w caller (Rename from to)
      ≡ after_rename w n (child w.rows q (last to)) q (last to)
  to_places numbers =
      ap (λ m. after_rename w m (child w.rows (reached w.rows root (front to)) (last to))
      (reached w.rows root (front to)) (last to)) is.removal.row
      ∙ ap (λ m. after_rename w n (child w.rows m (last to)) m (last to)) is.arrival.object

  -- a row that has the place already stays there
  pub world_same : child w.rows q (last to) ≡ Some n → (numbers : ℕ) → effect numbers w caller (Rename from to) ≡ w
  world_same there numbers =
      to_places numbers ∙ ap (λ o. after_rename w n o q (last to)) there
      ∙ ap (λ b. cond b w (with_place (map.get w.rows n) n q (last to) (without_row n w))) (eq-eqb n n refl)

  world_free : child w.rows q (last to) ≡ None → (numbers : ℕ) → effect numbers w caller (Rename from to)
      ≡ record w { rows = map.insert w.rows n (record row { parent = q; name = last to }) }
  world_free free numbers =
      to_places numbers ∙ ap (λ o. after_rename w n o q (last to)) free
      ∙ ap (λ o. with_place o n q (last to) w) (hung shows tree leaves).there

  -- ---- the store, with the row in a place that was free

  module _ {places : Places} (found : ArePlaces c move (last from) (last to) None places) where
    -- where room was found, the directory isn't full
    pub not_full : HasNoRoom c move (last from) (last to) None → ⊥
    not_full full = has_room shows tree leaves found.taking.1 None (last to) places.room found.room.0
        found.room.1 full

    module _ (free : child w.rows q (last to) ≡ None) (after : Content)
        (writes : WritesBlocks c after p places.taken q places.room None) where
      -- the store with both blocks shows the world after it
      pub shows_after : (numbers : ℕ) → Shows after (effect numbers w caller (Rename from to))
      shows_after numbers = subst (Shows after) (sym (world_free free numbers))
          (names.shows_free shows tree leaves free found after writes)

      -- the new name is listed where there was room first
      pub moves_first : MovesFirst c after w.rows from to
      moves_first =
          let mid = block_put p places.taken c in
          let dir = reached w.rows root (front to) in
          record {
            taken = places.taken;
            takes = (
              found.taking.0,
              subst (λ m. IsTaking (bytes_of c m) (last from) places.taken found.taking.0)
                  (sym is.removal.object) found.taking.1,
            );
            room = places.room;
            lists = (
              found.room.0,
              subst (λ k. IsRoom (bytes_of (block_put k places.taken c) dir) (reached w.rows root from)
                  (last to) places.room found.room.0) (sym is.removal.object)
                  (subst (λ k. IsRoom (bytes_of (block_put p places.taken c) k) (reached w.rows root from)
                  (last to) places.room found.room.0) (sym is.arrival.object)
                  (subst (λ k. IsRoom (bytes_of mid q) k (last to) places.room found.room.0)
                  (sym is.removal.row) found.room.1)),
            );
            written = subst (λ k. WritesBlocks c after k places.taken dir places.room None) (sym is.removal.object)
                (subst (λ k. WritesBlocks c after p places.taken k places.room None) (sym is.arrival.object) writes);
          }

  -- ---- the store, with the row in the place of another

  module _ (m : ℕ) (there : child w.rows q (last to) ≡ Some m) (apart : m ≢ n) where
    world_over : (numbers : ℕ) → effect numbers w caller (Rename from to)
        ≡ record w {
          rows = swapped w.rows tree.unique n m p q (last from) (last to) apart (hung shows tree leaves)
              (child-is w.rows q (last to) m there);
        }
    world_over numbers =
        to_places numbers ∙ ap (λ o. after_rename w n o q (last to)) there
        ∙ ap (λ b. cond b w (with_place (map.get w.rows n) n q (last to) (without_row m w))) (ne_eqb m n apart)
        ∙ ap (λ o. with_place o n q (last to) (without_row m w)) (hung shows tree leaves).there

    module _ {places : Places} (found : ArePlaces c move (last from) (last to) (Some m) places)
        (after : Content) (writes : WritesBlocks c after p places.taken q places.room (Some m)) where
      -- the store with both blocks, and without the other's file, shows the world after it
      pub shows_over : (numbers : ℕ) → Shows after (effect numbers w caller (Rename from to))
      shows_over numbers = subst (Shows after) (sym (world_over numbers))
          (names.shows_over shows tree leaves m there apart found after writes)

      -- the new name keeps its place, with the row's number
      pub swaps_place : SwapsInPlace c after w.rows from to m
      swaps_place =
          let mid = block_put p places.taken c in
          let dir = reached w.rows root (front to) in
          record {
            taken = places.taken;
            takes = (
              found.taking.0,
              subst (λ k. IsTaking (bytes_of c k) (last from) places.taken found.taking.0)
                  (sym is.removal.object) found.taking.1,
            );
            room = places.room;
            swaps = (
              found.room.0,
              subst (λ k. IsSwap (bytes_of (block_put k places.taken c) dir) (last to)
                  (reached w.rows root from) places.room found.room.0) (sym is.removal.object)
                  (subst (λ k. IsSwap (bytes_of mid k) (last to) (reached w.rows root from) places.room found.room.0)
                  (sym is.arrival.object)
                  (subst (λ k. IsSwap (bytes_of mid q) (last to) k places.room found.room.0)
                  (sym is.removal.row) found.room.1)),
            );
            written = subst (λ k. WritesBlocks c after k places.taken dir places.room (Some m)) (sym is.removal.object)
                (subst (λ k. WritesBlocks c after p places.taken k places.room (Some m)) (sym is.arrival.object)
                writes);
          }
