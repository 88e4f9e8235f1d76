-- When what a cache of attributes says is true.
use Rattle.std.specs.Prelude.{◌≡◌, ℕ, Some}
use Rattle.lfs_types.specs.Stored.{shown_attrs}
use Rattle.lfs_types.specs.Tree.{Content}
use Rattle.lfs_types.specs.declared.attrs.Attrs.{Attrs}
use Rattle.lfs_known.specs.Says.{says}
use Rattle.lfs_known.specs.declared.slots.Slots.{Slots}

-- what a cache says is what a content shows
abbrev pub AreShown : Slots Attrs → Content → Type 0
AreShown cache c = (ino : ℕ) (attrs : Attrs) → says cache ino ≡ Some attrs
    → shown_attrs c ino ≡ Some attrs
