-- The levels, by their order, and who changes which flags at which.
use Rattle.std.specs.Prelude.{◌≡◌, ◌≢◌, ◌⊎◌, ◌↔◌, ℕ, ◌/◌, ◌≤◌, true, List, None}
use Rattle.lfs_types.specs.Caller.{Caller}
use Rattle.lfs_types.specs.Tree.{World}
use Rattle.lfs_types.specs.declared.attrs.Attrs.{Attrs}
use Rattle.lfs_types.specs.declared.level.Level.{Level}
use Rattle.lfs_types.specs.declared.level.Level.TheVariants.{PermanentlyInsecure, Insecure, Secure, HighlySecure}
use Rattle.lfs_types.specs.declared.request.Request.TheVariants.{Chflags, SetLevel}
use Rattle.lfs_model.specs.Rules.{decide}
use Rattle.lfs_laws.specs.LawSeen.{IsOff, IsOn, Sees}

-- one more than a level's number
abbrev pub height : Level → ℕ
height PermanentlyInsecure = 0
height Insecure = 1
height Secure = 2
height HighlySecure = 3

-- user 0 alone sets the level, and lower only as init
abbrev pub LevelByNumber : Type 0
LevelByNumber =
    (w : World) (caller : Caller) (level : Level)
    → (decide w caller (SetLevel level) ≡ None)
    ↔ ((caller.uid ≡ 0) × ((caller.init ≡ true) ⊎ (height w.level ≤ height level)))

-- another than user 0 sets flags of what he owns, where the bits from 0x10000 on stay and neither 0x20000 nor 0x40000
-- is set
abbrev pub FlagsByOwner : Type 0
FlagsByOwner =
    (w : World) (caller : Caller) (path : List (List ℕ)) (n flags : ℕ) (attrs : Attrs)
    → Sees w caller path n attrs
    → caller.uid ≢ 0
    → (decide w caller (Chflags path flags) ≡ None)
    ↔ ((caller.uid ≡ attrs.uid) × (attrs.flags / 0x1_0000 ≡ flags / 0x1_0000)
    × (IsOff attrs.flags 0x2_0000 × IsOff attrs.flags 0x4_0000))

-- user 0 sets all; but at levels 1 and 2 a set 0x20000 or 0x40000 stays set
abbrev pub FlagsByLevel : Type 0
FlagsByLevel =
    (w : World) (caller : Caller) (path : List (List ℕ)) (n flags : ℕ) (attrs : Attrs)
    → Sees w caller path n attrs
    → caller.uid ≡ 0
    → (decide w caller (Chflags path flags) ≡ None)
    ↔ ((height w.level ≤ 1)
    ⊎ ((IsOff attrs.flags 0x2_0000 ⊎ IsOn flags 0x2_0000) × (IsOff attrs.flags 0x4_0000 ⊎ IsOn flags 0x4_0000)))
