-- The fields of messages about attributes, each at its place behind the header (the FUSE protocol's fuse.h).
use Rattle.std.specs.Prelude.{ℕ, List, Bool, true, false, Option, Some, None}
use Rattle.std.specs.Bool.{then_some}
use Rattle.lfs_fuse_wire.specs.declared.attributes.Access.{Access}
use Rattle.lfs_fuse_wire.specs.declared.attributes.GetAttr.{GetAttr}
use Rattle.lfs_fuse_wire.specs.declared.attributes.NewTime.{NewTime}
use Rattle.lfs_fuse_wire.specs.declared.attributes.NewTime.TheVariants.{Now, At}
use Rattle.lfs_fuse_wire.specs.declared.attributes.SetAttr.{SetAttr}
use Rattle.lfs_fuse_wire.specs.declared.attributes.Time.{Time}
use Rattle.lfs_fuse_wire.specs.Kinds.{permissions_in}
use Rattle.lfs_fuse_wire.specs.Numbers.{at_least, has, number_at}

-- seconds and nanoseconds at two places
abbrev pub time_at : List ℕ → ℕ → ℕ → Time
time_at body seconds nanoseconds = record {
  seconds = number_at body seconds 8;
  nanoseconds = number_at body nanoseconds 4;
}

-- the time that is to be set, by whether one is and whether it is the server's own
abbrev pub new_time : Bool → Bool → Time → Option NewTime
new_time false now time = None
new_time true true time = Some Now
new_time true false time = Some (At time)

abbrev pub getattr_of : List ℕ → GetAttr
getattr_of body = record { handle = then_some (has (number_at body 0 4) 1) (number_at body 8 8) }

abbrev pub getattr_in : List ℕ → Option GetAttr
getattr_in = at_least 16 getattr_of

-- each field, if the bit of `valid` that stands for it is set
abbrev pub setattr_by : ℕ → List ℕ → SetAttr
setattr_by valid body = record {
  handle = then_some (has valid 0x40) (number_at body 8 8);
  size = then_some (has valid 0x8) (number_at body 16 8);
  permissions = then_some (has valid 0x1) (permissions_in (number_at body 68 4));
  uid = then_some (has valid 0x2) (number_at body 76 4);
  gid = then_some (has valid 0x4) (number_at body 80 4);
  accessed = new_time (has valid 0x10) (has valid 0x80) (time_at body 32 56);
  modified = new_time (has valid 0x20) (has valid 0x100) (time_at body 40 60);
  changed = then_some (has valid 0x400) (time_at body 48 64);
  kill_set_id = has valid 0x800;
}

abbrev pub setattr_in : List ℕ → Option SetAttr
setattr_in = at_least 88 (λ body. setattr_by (number_at body 0 4) body)

-- the bits of access(2)
abbrev pub access_asked : ℕ → Access
access_asked mask = record { read = has mask 4; write = has mask 2; execute = has mask 1 }

abbrev pub access_asked_in : List ℕ → Option Access
access_asked_in = at_least 8 (λ body. access_asked (number_at body 0 4))
