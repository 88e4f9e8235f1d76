-- What a check of a store that runs tells.
use Rattle.std.specs.Prelude.{◌≡◌, ℕ, ◌||◌, Bool, nat_lt, List, codes, length, if◌then◌else◌}
use Rattle.lfs_parts.specs.declared.parts.Parts.{Parts}
use Rattle.lfs_image.specs.Image.{IsLabelled}
use Rattle.lfs_checking.specs.Volumes.{well_text}

-- something waits to be written
abbrev pub waits : Parts → Bool
waits p = nat_lt 0 (length p.cache.locked) || nat_lt 0 (length p.waiting)

-- that a sync comes first, while something waits; else that the volume is well, and how full it is
abbrev pub check_text : Parts → List ℕ
check_text p = if waits p then codes "waiting: sync comes first\n" else well_text p.log

-- what is told of a store whose label stands: that it is well, as each is
abbrev pub IsCheckTold : Parts → List ℕ → Type 0
IsCheckTold p text = IsLabelled p.log → text ≡ check_text p
