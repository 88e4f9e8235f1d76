-- Where a walk ends in a store.
use Rattle.std.specs.Prelude.{◌≡◌, ℕ, List, Some, Result, Ok, Err}
use Rattle.lfs_types.specs.Caller.{Caller}
use Rattle.lfs_types.specs.declared.attrs.Attrs.{Attrs}
use Rattle.lfs_types.specs.declared.attrs.Bit.TheVariants.{Search}
use Rattle.lfs_types.specs.declared.rule.Denial.{Denial}
use Rattle.lfs_types.specs.Stored.{shown_attrs}
use Rattle.lfs_types.specs.Tree.{Content, root}
use Rattle.lfs_rules.specs.Grants.{grants_of}
use Rattle.lfs_calls.specs.declared.walking.Reached.{Reached}
use Rattle.lfs_model.specs.World.{Rows}
use Rattle.lfs_model.specs.Walks.{walked}

-- a path leads to a row, whose attributes the store shows, or its walk is denied
abbrev pub Reaches : Content → Rows → Caller → ℕ → List (List ℕ) → Result Reached Denial → Type 0
Reaches c rows caller path names (Ok r) = (walked rows caller path 0 root names ≡ Ok r.number)
    × (Some r.attrs ≡ shown_attrs c r.number)
Reaches c rows caller path names (Err denial) = walked rows caller path 0 root names ≡ Err denial

-- a directory of these attributes grants search alike to every caller of a user, whatever his groups are
abbrev pub GrantsAlike : Attrs → ℕ → Type 0
GrantsAlike attrs uid =
    (c d : Caller) → c.uid ≡ uid → d.uid ≡ uid → grants_of c attrs Search ≡ grants_of d attrs Search

-- the walk along names from the root ends alike for every caller of a user, whatever his groups are: at the same row, or
-- with the same denial
abbrev pub EndsAlike : Rows → ℕ → List (List ℕ) → Type 0
EndsAlike rows uid names =
    (c d : Caller) → c.uid ≡ uid → d.uid ≡ uid → walked rows c 0 0 root names ≡ walked rows d 0 0 root names
