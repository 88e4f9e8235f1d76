-- Where an audit begins: at the opening tree (`of_fresh`), or at what an image shows (`begun_by`, for `from_image`), by
-- which of them the options ask for (`begun_of`, for `begin`). No store knows its securelevel, so one that shows a tree
-- shows it at each (`leveled`); the image has the level, and the audit stands at the tree at this level. `within`, for
-- `Audit::over`: a file's number is a row's of the table, as the content has no file past the table's end.
use Rattle.std.proofs.Common.{◌≡◌, ℕ, ◌<◌, List, length, Option, None, Some, Result, Ok, Err, IfOk, refl, subst, ◌∙◌}
use Rattle.std.proofs.Common.{arith, inl, inr}
use Rattle.std.specs.Prelude.{IsSome}
use Rattle.std.specs.FinMap as map
use Rattle.std.proofs.lemmas.Bool.{cases_lt}
use Rattle.lfs_types.proofs.Somewhere.{none_there, there_of}
use Rattle.lfs_types.specs.StoreStates.{StoreState}
use Rattle.lfs_types.specs.Tree.{World, opening_world}
use Rattle.lfs_types.specs.declared.level.Level.{Level}
use Rattle.lfs_calls.specs.Volumes.{IsVolume}
use Rattle.lfs_parts.specs.declared.parts.Parts.{Parts}
use Rattle.lfs_parts.specs.Files.{content_of}
use Rattle.lfs_parts.proofs.FileLemmas.{file_at-none, get-content_of, record_of-past}
use Rattle.lfs_logstore.specs.States.{state_of}
use Rattle.lfs_trace.specs.Checking.{numbers_of}
use Rattle.lfs_auditing.specs.Audits.{HasReadNone}
use Rattle.lfs_auditing.specs.Beginnings.{BeginsBy, HasImageOf, IsBegun, IsBegunBy, IsReadFrom}
use Rattle.lfs_auditing.specs.declared.audit.Audit.{Audit}
use Rattle.lfs_auditing.specs.declared.options.Options.{Options}

-- each file's number is one of the volume's
pub within : (p : Parts) (n : ℕ) → IsSome (map.get (content_of p) n) → n < length p.log.tables.rows
within p n used = elim (cases_lt n (length p.log.tables.rows)) [
  | inl low ↦ low
  | inr past ↦
      let f = there_of (map.get (content_of p) n) used in
      none_there _ f.value (get-content_of p n ∙ file_at-none p n (record_of-past p n (omega (arith, past)))) f.is
]

-- a store shows a world at whatever securelevel
pub leveled : (s : StoreState) (w : World) (level : Level) → IsVolume s w → IsVolume s (record w { level = level })
leveled s w level is = record {
  shows = record { files = is.shows.files; sizes = is.shows.sizes; listings = is.shows.listings };
  tree = is.tree;
}

pub of_fresh : {T F : Type 0} (o : Option T) (remaining : F → Option (List ℕ)) (options : Options)
    (inodes segments : ℕ) → o ≡ None → inodes ≡ options.inodes → segments ≡ options.segments
    → BeginsBy o remaining options opening_world inodes segments
of_fresh None remaining options inodes segments none i s = (refl, i, s)
of_fresh (Some image) remaining options inodes segments none i s = absurd (cc)

pub of_image : {T F : Type 0} (o : Option T) (remaining : F → Option (List ℕ)) (options : Options) (w : World)
    (inodes segments : ℕ) → IsSome o → (file : F) → HasImageOf (remaining file) w inodes segments
    → BeginsBy o remaining options w inodes segments
of_image None remaining options w inodes segments some file has = absurd (cc)
of_image (Some image) remaining options w inodes segments some file has = (file, has)

-- what is loaded from an image is where an audit begins that stands at each tree that it shows
pub begun_by : (known : Option (List ℕ)) (store : Parts) (level : Level) (a : Audit) → IsReadFrom known store level
    → ((w : World) → IsVolume (state_of store) w → w.level ≡ level → HasReadNone w a)
    → numbers_of a.checker ≡ (state_of store).shape.numbers → a.checker.segments ≡ (state_of store).shape.segments
    → IsBegunBy known a
begun_by known store level a read begun numbers segments =
    let loaded = read.loaded in
    let w = loaded.world.0 in
    let from = record w { level = level } in
    let shown = leveled (state_of store) w level loaded.world.1 in
    record {
      from = from;
      image = record {
        bytes = loaded.bytes;
        whole = read.whole;
        image = record {
          log = store.log;
          level = level;
          volume = loaded.image;
          shown = subst (λ (p : Parts). IsVolume (state_of p) from) loaded.flushed shown;
          at_level = refl;
          inodes_are = numbers;
          segments_are = segments;
        };
      };
      read = begun from shown refl;
    }

-- so it begins as is asked where a file is named
pub begun_of : {F E : Type 0} (remaining : F → Option (List ℕ)) (options : Options) (r : Result Audit E)
    → IsSome options.from → (file : F) → IfOk r (IsBegunBy (remaining file))
    → IfOk r (λ a. a.denials ≡ options.denials) → IfOk r (IsBegun remaining options)
begun_of remaining options (Ok a) some file begun denials = record {
  from = begun.from;
  begins = of_image options.from remaining options begun.from _ _ some file begun.image;
  read = begun.read;
  denials = denials;
}
begun_of remaining options (Err fault) some file begun denials = tt
