-- Who sets modes, owners and groups, by numbers.
use Rattle.std.specs.Prelude.{◌≡◌, ◌⊎◌, ◌↔◌, ℕ, List, Contains, None}
use Rattle.lfs_types.specs.Caller.{Caller}
use Rattle.lfs_types.specs.Tree.{World}
use Rattle.lfs_types.specs.declared.attrs.Attrs.{Attrs}
use Rattle.lfs_types.specs.declared.request.Request.TheVariants.{Chmod, Chown}
use Rattle.lfs_model.specs.Rules.{decide}
use Rattle.lfs_laws.specs.LawSeen.{Sees}

-- the mode of what no flag locks is set by user 0 and by its owner
abbrev pub ModeByOwner : Type 0
ModeByOwner =
    (w : World) (caller : Caller) (path : List (List ℕ)) (n mode : ℕ) (attrs : Attrs)
    → Sees w caller path n attrs
    → attrs.flags ≡ 0
    → (decide w caller (Chmod path mode) ≡ None) ↔ ((caller.uid ≡ 0) ⊎ (caller.uid ≡ attrs.uid))

-- its owner and group by user 0; and by its owner, who keeps the owner, and the group or gives one of his
abbrev pub GroupByOwner : Type 0
GroupByOwner =
    (w : World) (caller : Caller) (path : List (List ℕ)) (n uid gid : ℕ) (attrs : Attrs)
    → Sees w caller path n attrs
    → attrs.flags ≡ 0
    → (decide w caller (Chown path uid gid) ≡ None)
    ↔ ((caller.uid ≡ 0) ⊎ ((caller.uid ≡ attrs.uid) × (uid ≡ attrs.uid)
    × ((gid ≡ attrs.gid) ⊎ Contains caller.groups gid)))
