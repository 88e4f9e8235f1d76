-- What a store over a log store is kept as, and how the volume of a mount over it begins: `fresh_begun` for `fresh`,
-- `image_begun` for `over`, `kept_below` for `save`. An image of the log store that is flushed keeps what the store shows
-- at present, as both contain the same (`same_volume` of lfs_stands).
use Rattle.std.proofs.Common.{◌≡◌, ℕ, ◌∙◌, inl, inr, refl, sym, subst, [], Option, List, IsSome}
use Rattle.lfs_types.specs.StoreStates.{StoreState}
use Rattle.lfs_types.specs.Tree.{opening_world}
use Rattle.lfs_types.specs.declared.level.Level.{Level}
use Rattle.lfs_types.specs.declared.level.Level.TheVariants.{Insecure}
use Rattle.lfs_parts.specs.Store.{IsFlushed}
use Rattle.lfs_parts.specs.declared.parts.Parts.{Parts}
use Rattle.lfs_logstore.specs.States.{state_of}
use Rattle.lfs_volume.specs.Journals.{AtPresent, Begins}
use Rattle.lfs_volume.specs.Seen.{Seen}
use Rattle.lfs_checking.specs.Files.{HasImage, IsFreshStore, IsLoaded}
use Rattle.lfs_stands.specs.Stands.{Stand}
use Rattle.lfs_stands.proofs.OverLemmas.{same_volume}
use Rattle.lfs_fuse_talk.specs.Images.{HasBegun, IsKept}
use Rattle.lfs_fuse_talk.specs.declared.options.Options.{Options}

-- a volume over a store, at the beginning of its journal
abbrev pub first_seen : {F : Type 0} → F → Level → ℕ → Seen F
first_seen s level limit =
    record { store = s; level = level; since = s; since_level = level; journal = []; limit = limit }

-- that of a mount of a fresh one
pub fresh_begun : {F : Type 0} (state : F → StoreState) (stand : Stand F) (options : Options) (log : Parts) (s : F)
    (v mounted : Seen F) (limit : ℕ) → stand.parts s ≡ log → stand.within s
    → IsFreshStore options.serials options.params log → v ≡ first_seen s Insecure limit
    → Begins (state v.since) v.since_level opening_world → mounted ≡ v → HasBegun state stand options mounted
fresh_begun {F} state stand options log s v mounted limit on within laid_out is begins same =
    subst (λ (x : Seen F). HasBegun state stand options x) (sym (same ∙ is)) (record {
      within = within;
      store = inl (
        subst (λ (p : Parts). IsFreshStore options.serials options.params p) (sym on) laid_out,
        refl,
        subst (λ (x : Seen F). Begins (state x.since) x.since_level opening_world) is begins,
      );
      empty = refl;
      since = refl;
      since_level = refl;
    })

-- that of one of an image
pub image_begun : {F : Type 0} (state : F → StoreState) (stand : Stand F) (options : Options) (log : Parts) (s : F)
    (level : Level) (v mounted : Seen F) (limit : ℕ) → stand.parts s ≡ log → stand.within s → IsSome options.image
    → IsLoaded options.params.frames log level → v ≡ first_seen s level limit → mounted ≡ v
    → HasBegun state stand options mounted
image_begun {F} state stand options log s level v mounted limit on within image loaded is same =
    subst (λ (x : Seen F). HasBegun state stand options x) (sym (same ∙ is)) (record {
      within = within;
      store = inr (
        image,
        subst (λ (p : Parts). IsLoaded options.params.frames p level) (sym on) loaded,
      );
      empty = refl;
      since = refl;
      since_level = refl;
    })

-- what a talk left is kept where a file got the image of its log store
pub kept_below : {F W : Type 0} (contents : W → Option (List ℕ)) (state : F → StoreState) (stand : Stand F)
    (left : Seen F) (s : F) (level : Level) → (state s).content ≡ (state_of (stand.parts s)).content
    → IsFlushed (stand.parts s) → AtPresent state left (Begins (state s) level)
    → HasImage contents (stand.parts s).log level → IsKept contents state left
kept_below contents state stand left s level contains flushed shown image = record {
  store = stand.parts s;
  level = level;
  flushed = flushed;
  shown = λ from begun.
      let b = shown from begun in
      record { shown = same_volume (state s) (state_of (stand.parts s)) _ contains b.shown; at_level = b.at_level };
  image = image;
}
