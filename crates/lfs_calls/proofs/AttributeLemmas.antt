-- A Chmod, Chown or Chflags leaves a store that shows the world after it: `attrs_set` and `kind_stored` for these
-- calls, `sets_attrs` for `set_attrs`. The file's bytes and kind stay, so what users see of it changes just as the
-- request says (`seen_after`), also of a directory, of which they see no bytes. The attributes that are set are made
-- from those the store showed, so all fields are given at once; a field that changed by itself between would be
-- overwritten.
use Rattle.std.proofs.Common.{◌≡◌, ℕ, List, [], ◌∷◌, length, Some, Ok, refl, sym, ap, subst, ◌∙◌}
use Rattle.std.specs.Prelude.{IsSomeAnd}
use Rattle.std.specs.FinMap as map
use Rattle.lfs_types.specs.Caller.{Caller}
use Rattle.lfs_types.specs.Changes.{IsLength, applied, changed_at}
use Rattle.lfs_types.specs.Stored.{shown_attrs}
use Rattle.lfs_types.specs.Tree.{File, World, Content, root, file_of}
use Rattle.lfs_types.specs.declared.attrs.Attrs.{Attrs}
use Rattle.lfs_types.specs.declared.store.Change.TheVariants.{SetAttrs}
use Rattle.lfs_calls.specs.declared.walking.Reached.{Reached}
use Rattle.lfs_model.specs.World.{IsTree}
use Rattle.lfs_model.specs.Rules.{reached}
use Rattle.lfs_model.specs.Effects.{with_change}
use Rattle.lfs_calls.specs.Content.{visible, visible_bytes, Shows}
use Rattle.lfs_calls.specs.Reaches.{Reaches}
use Rattle.lfs_calls.specs.Attributes.{SetsAttrs}
use Rattle.lfs_calls.specs.Volumes.{InWorld, IsVolume}
use Rattle.lfs_calls.proofs.StateLemmas.{same_content}
use Rattle.lfs_types.specs.StoreStates.{StoreState}
use Rattle.lfs_calls.proofs.ChangedStore.{change_tree, change_shows}
use Rattle.lfs_model.proofs.Deciding.{walked-reached}
use Rattle.lfs_types.proofs.Maps.{get-insert_same, get-insert_other}
use Rattle.lfs_types.proofs.Somewhere.{some_and, is_some_and}
use Rattle.lfs_calls.proofs.StepLemmas.{ShownFile, shown_file}

-- ---- what a store is asked

-- a store that was asked to set attributes sets them
pub sets_attrs : (c : Content) (n : ℕ) (attrs : Attrs) → IsSomeAnd (map.get c n) (λ f. f.kind ≡ attrs.kind)
    → (new : Content) → new ≡ applied (SetAttrs n attrs ∷ []) c → SetsAttrs c new n attrs
sets_attrs c n attrs kind new is =
    let was = some_and (map.get c n) _ kind in
    let there : new ≡ map.insert c n (file_of attrs was.value.bytes) = is
    ∙ ap (λ o. changed_at o n (λ f. file_of attrs f.bytes) c) was.is in
    record {
      set = λ f e.
          ap (λ x. map.get x n) is ∙ ap (λ o. map.get (changed_at o n (λ g. file_of attrs g.bytes) c) n) e
          ∙ get-insert_same c n (file_of attrs f.bytes);
      others = λ q apart. ap (λ x. map.get x q) there ∙ get-insert_other c n (file_of attrs was.value.bytes) q apart;
    }

-- ---- the world after it

module _ (c : Content) (w : World) (shows : Shows c w) (tree : IsTree w.rows) (path : List (List ℕ)) (n : ℕ) (a : Attrs)
    (leads : reached w.rows root path ≡ n) (shown : Some a ≡ shown_attrs c n)
    (attrs : Attrs) (kind : attrs.kind ≡ a.kind) (change : File → File) (same : (bytes : List ℕ) → file_of attrs bytes
    ≡ change (file_of a bytes)) where
  abbrev old : ShownFile c n a
  old = shown_file c n a shown

  abbrev new_file : File
  new_file = file_of attrs old.file.bytes

  kind_is : attrs.kind ≡ old.file.kind
  kind_is = kind ∙ ap (λ (x : Attrs). x.kind) old.same

  -- what users see of the file after it
  seen_after : visible new_file ≡ change (visible old.file)
  seen_after =
      ap (λ k. file_of attrs (visible_bytes k old.file.bytes)) kind_is
      ∙ same (visible_bytes old.file.kind old.file.bytes)
      ∙ ap (λ (x : Attrs). change (file_of x (visible_bytes old.file.kind old.file.bytes))) old.same

  -- the store with the new attributes shows it
  pub attrs_shows : (after : Content) → SetsAttrs c after n attrs → Shows after (with_change w path change)
  attrs_shows after sets = change_shows c w shows tree path n leads old.file new_file old.stored kind_is change
      seen_after after
      (subst (λ k. IsLength k (length old.file.bytes)) (sym kind_is) (shows.sizes n old.file old.stored))
      (λ _. refl) (sets.set old.file old.stored) sets.others

  -- it is a tree
  pub attrs_tree : IsTree (with_change w path change).rows
  attrs_tree = change_tree c w shows tree path n leads old.file new_file old.stored kind_is change seen_after

-- ---- a call that sets attributes

module _ {s mid : StoreState} (caller : Caller) (path : List (List ℕ)) (same : mid ≡ s) (file : Reached)
    (leads : InWorld s (λ w. Reaches s.content w.rows caller 0 path (Ok file))) where
  -- the file has the kind that the store shows
  pub kind_stored : (w : World) → IsVolume s w
      → IsSomeAnd (map.get mid.content file.number) (λ f. f.kind ≡ file.attrs.kind)
  kind_stored w v =
      let f = shown_file s.content file.number file.attrs (leads w v).1 in
      is_some_and _ (ap (λ (c : Content). map.get c file.number) (same_content same) ∙ f.stored)
      (ap (λ (x : Attrs). x.kind) (sym f.same))

  -- the store shows the world with the changed file
  pub attrs_set : (new : StoreState) (attrs : Attrs) → attrs.kind ≡ file.attrs.kind → (change : File → File)
      → ((bytes : List ℕ) → file_of attrs bytes ≡ change (file_of file.attrs bytes))
      → SetsAttrs mid.content new.content file.number attrs → InWorld s (λ w. IsVolume new (with_change w path change))
  attrs_set new attrs kind change same_file sets w v =
      let r = leads w v in
      let object = walked-reached w.rows caller 0 0 root path file.number r.0 in
      record {
        shows = attrs_shows s.content w v.shows v.tree path file.number file.attrs object r.1 attrs kind change
            same_file new.content
            (subst (λ (c : Content). SetsAttrs c new.content file.number attrs) (same_content same) sets);
        tree = attrs_tree s.content w v.shows v.tree path file.number file.attrs object r.1 attrs kind change same_file;
      }
