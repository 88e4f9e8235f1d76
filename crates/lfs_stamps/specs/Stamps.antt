-- The three times of a file.
use Rattle.std.specs.Prelude.{ℕ, Option, None, Some}
use Rattle.lfs_fuse_wire.specs.declared.attributes.NewTime.{NewTime}
use Rattle.lfs_fuse_wire.specs.declared.attributes.NewTime.TheVariants.{Now, At}
use Rattle.lfs_fuse_wire.specs.declared.attributes.SetAttr.{SetAttr}
use Rattle.lfs_fuse_wire.specs.declared.attributes.Time.{Time}
use Rattle.lfs_stamps.specs.declared.stamps.Stamps.{Stamps}

-- where 1970 begins
abbrev pub epoch : Time
epoch = record { seconds = 0; nanoseconds = 0 }

-- a file that is made now
abbrev pub born : Time → Stamps
born now = record { accessed = now; modified = now; changed = now }

-- bytes or names that change now
abbrev pub written : Time → Stamps → Stamps
written now s = record { accessed = s.accessed; modified = now; changed = now }

-- attributes that change now
abbrev pub restated : Time → Stamps → Stamps
restated now s = record { accessed = s.accessed; modified = s.modified; changed = now }

-- the time that is to be set, or else the present one
abbrev pub time_or : Time → Time → Option NewTime → Time
time_or now present None = present
time_or now present (Some Now) = now
time_or now present (Some (At time)) = time

abbrev pub told_or : Time → Option Time → Time
told_or now None = now
told_or now (Some time) = time

-- a new size is a change of the bytes
abbrev pub sized : Time → Option ℕ → Time → Time
sized now None present = present
sized now (Some size) present = now

abbrev pub modified_by : Time → SetAttr → Time → Time
modified_by now fields present = time_or now (sized now fields.size present) fields.modified

-- attributes that are set now: the times that are told, and now for what else changes
abbrev pub set : Time → SetAttr → Stamps → Stamps
set now fields s = record {
  accessed = time_or now s.accessed fields.accessed;
  modified = modified_by now fields s.modified;
  changed = told_or now fields.changed;
}
