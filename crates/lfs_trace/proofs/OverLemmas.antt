-- A checker that begins at the tree that a store shows: `can_copy`, `over_stands` and `relevelled`, for
-- `Checker::over`. A plain store can have a content whose numbers it has, whose files lie at the root's number or from
-- 4 on, and whose root is a directory; all that is so of a content that shows a tree, since each file has a row. Which
-- tree is shown doesn't depend on the securelevel, so the checker may stand at any.
use Rattle.std.proofs.Common.{◌≡◌, ◌≢◌, ℕ, ◌<◌, ◌≤◌, Option, None, Some, refl, sym, ap, subst, ◌∙◌}
use Rattle.std.specs.Prelude.{IsSome, option_map}
use Rattle.std.specs.FinMap as map
use Rattle.lfs_types.proofs.Somewhere.{is_some_and, some_and, there_of}
use Rattle.lfs_types.specs.Tree.{Content, File, Row, World, root}
use Rattle.lfs_types.specs.declared.attrs.Kind.TheVariants.{Directory}
use Rattle.lfs_types.specs.declared.level.Level.{Level}
use Rattle.lfs_model.specs.World.{IsTree}
use Rattle.lfs_calls.specs.Content.{Shows, visible}
use Rattle.lfs_flatfiles.specs.FlatFiles.{content_of}
use Rattle.lfs_flatfiles.specs.declared.flat_files.FlatFiles.{FlatFiles}
use Rattle.lfs_trace.specs.Checking.{StandsAt, standing}
use Rattle.lfs_trace.specs.Copying.{CanCopy}

row_there : (o : Option Row) (g : File) → Some g ≡ option_map (λ (r : Row). r.file) o → (r : Row) × (o ≡ Some r)
row_there None g e = absurd (cc)
row_there (Some r) g e = (r, refl)

file_there : (o : Option File) (g : File) → option_map visible o ≡ Some g
    → (f : File) × (o ≡ Some f) × (visible f ≡ g)
file_there None g e = absurd (cc)
file_there (Some f) g e = (f, refl, cc)

module _ (c : Content) (w : World) (shows : Shows c w) (tree : IsTree w.rows) where
  named : (n : ℕ) → IsSome (map.get c n) → n ≢ root → 4 ≤ n
  named n used other =
      let f = there_of (map.get c n) used in
      let r = row_there (map.get w.rows n) (visible f.value)
      (sym (ap (λ (o : Option File). option_map visible o) f.is) ∙ shows.files n) in
      tree.numbers n r.0 r.1 other

  -- a plain store can have what a store that shows a tree contains
  pub can_copy : (numbers : ℕ) → ((n : ℕ) → IsSome (map.get c n) → n < numbers) → CanCopy numbers c
  can_copy numbers within =
      let r = some_and (map.get w.rows root) _ tree.rooted in
      let f = file_there (map.get c root) r.value.file
      (shows.files root ∙ ap (λ (o : Option Row). option_map (λ (r : Row). r.file) o) r.is) in
      record {
        within = within;
        named = named;
        rooted = is_some_and (λ (f : File). f.kind ≡ Directory) f.1 (ap (λ (g : File). g.kind) f.2 ∙ r.holds.2);
        sizes = shows.sizes;
      }

  -- the same tree at another securelevel
  pub relevelled : (level : Level) → Shows c (record { level = level; rows = w.rows })
  relevelled level = record { files = shows.files; sizes = shows.sizes; listings = shows.listings }

pub over_stands : (store : FlatFiles) (c : Content) (level : Level) (segments : ℕ) (w : World)
    → content_of store.places.items ≡ c → Shows c w → IsTree w.rows → w.level ≡ level
    → StandsAt (standing store level segments) w
over_stands store c level segments w same shows tree at = record {
  shown = record { shows = subst (λ k. Shows k w) (sym same) shows; tree = tree };
  at_level = at;
}
