-- How a store that is talked to stands on a log store.
use Rattle.std.specs.Prelude.{◌≡◌, ◌⊎◌, ◌<◌, ◌≤◌, Bool, true}
use Rattle.lfs_parts.specs.declared.parts.Parts.{Parts}
use Rattle.lfs_logstore.specs.States.{state_of}
use Rattle.lfs_share.specs.Answering.{shared_state}
use Rattle.lfs_share.specs.Share.{IsWithinShare, share_of, taken}
use Rattle.lfs_durable.specs.Kept.{CanBeFound}
use Rattle.lfs_durable_store.specs.Keeping.{Durably, IsKept}
use Rattle.lfs_disk_store.specs.Keeping.{IsOnDisk, OnDisk}
use Rattle.lfs_stands.specs.declared.unfit.Unfit.{Unfit}
use Rattle.lfs_stands.specs.declared.unfit.Unfit.TheVariants.{Lost, PastShare}

-- the parts of the log store, what holds of the store besides, on which log stores it may not stand, and why, and whether
-- it stands on one that is laid out with serials, or without
pub record Stand (S : Type 0) : Type 1 where
  pub parts : S → Parts
  pub within : S → Type 0
  pub refuses : Unfit → Parts → Type 0
  pub takes : Bool → Type 0

-- the log store itself: it stands as it is
abbrev pub log_stand : Stand Parts
log_stand = record {
  parts = λ p. p;
  within = λ p. Unit {0};
  refuses = λ why p. ⊥;
  takes = λ serials. Unit {0};
}

-- a log store has no two clean segments, or its files take more than the share of the volume
abbrev pub IsPastShare : Parts → Type 0
IsPastShare p =
    (p.log.clean ≤ 1) ⊎ (share_of p.log.memory.segments < taken (state_of p).shape.numbers (state_of p).content)

-- a store with a share: its files take no more than that
abbrev pub share_stand : Stand Parts
share_stand = record {
  parts = λ p. p;
  within = λ p. IsWithinShare (shared_state p);
  refuses = λ why p. (why ≡ PastShare) × IsPastShare p;
  takes = λ serials. Unit {0};
}

-- a durable store: its log store can be found again in its blocks, with all that its base contains
abbrev pub durable_stand : Stand Durably
durable_stand = record {
  parts = λ s. s.store;
  within = IsKept;
  refuses = λ why p. (why ≡ Lost) × (CanBeFound p → ⊥);
  takes = λ serials. serials ≡ true;
}

-- a durable store on a disk: so it is; and nothing waits, all is on the disk, and that has not failed
abbrev pub disk_stand : {D : Type 0} → Stand (OnDisk D)
disk_stand = record {
  parts = λ s. s.store.store;
  within = λ s. IsKept s.store × IsOnDisk s;
  refuses = λ why p. ⊥;
  takes = λ serials. serials ≡ true;
}
