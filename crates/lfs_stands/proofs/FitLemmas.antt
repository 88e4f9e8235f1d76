-- Nothing waits in a log store that was just laid out (`fresh_flushed`), nor in one that was loaded (`loaded_flushed`).
use Rattle.std.proofs.Common.{ℕ, Bool, ap, refl, subst, sym}
use Rattle.lfs_types.specs.declared.store.Params.{Params}
use Rattle.lfs_types.specs.declared.level.Level.{Level}
use Rattle.lfs_cache.specs.Contents.{Contents}
use Rattle.lfs_parts.specs.declared.parts.Parts.{Parts}
use Rattle.lfs_parts.specs.Store.{IsFlushed}
use Rattle.lfs_fsck.specs.Stored.{stored}
use Rattle.lfs_checking.specs.Files.{IsFreshStore, IsLoaded}

pub fresh_flushed : (params : Params) (serials : Bool) (p : Parts) → IsFreshStore serials params p → IsFlushed p
fresh_flushed params serials p fresh =
    record { no_record = fresh.no_record; no_frame = ap (λ (c : Contents). c.locked) fresh.cache }

pub loaded_flushed : (frames : ℕ) (p : Parts) (level : Level) → IsLoaded frames p level → IsFlushed p
loaded_flushed frames p level loaded =
    let empty : IsFlushed (stored frames p.log) = record { no_record = refl; no_frame = refl } in
    subst IsFlushed (sym loaded.flushed) empty
