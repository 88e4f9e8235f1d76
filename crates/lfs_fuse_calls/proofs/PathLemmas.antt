-- Why a node has no path. One that is gone has no names, as none leads up from it (`gone_names`). Where the names up from
-- a node end at one that is lost, or are too long already, a name in the node makes no difference, as it can only add
-- bytes (`slashed_both`); a path that is found too long in the end is so too as its names are read from the node up.
use Rattle.std.proofs.Common.{◌≡◌, ℕ, ◌<◌, ◌+◌, List, [], ◌∷◌, ◌++◌, length, Option, None, Some, Result, Ok, Err, refl}
use Rattle.std.proofs.Common.{sym, ap, subst, ◌∙◌, arith, length-append}
use Rattle.std.specs.Prelude.{⊤}
use Rattle.std.specs.Option.{option_to_list}
use Rattle.lfs_types.specs.Paths.{slashed}
use Rattle.lfs_nodes.specs.declared.node.Hang.{Hang}
use Rattle.lfs_nodes.specs.declared.node.Hang.TheVariants.{Root, Gone}
use Rattle.lfs_nodes.specs.declared.fault.PathFault.{PathFault}
use Rattle.lfs_nodes.specs.declared.fault.PathFault.TheVariants.{Unknown, Stale, Long, Memory, Name}
use Rattle.lfs_nodes.specs.Places.{place_of}
use Rattle.lfs_nodes.specs.Ways.{LeadsUp, NamesDown}
use Rattle.lfs_nodes.proofs.WayLemmas.{slashed_reversed}
use Rattle.lfs_fuse_reply.specs.declared.errno.Errno.TheVariants.{ESTALE, ENAMETOOLONG}
use Rattle.lfs_fuse_calls.specs.Paths.{IsLost, IsPathOf, LacksNames}

-- why names may be wanting of a node that is gone: that, or want of memory
abbrev pub IsGoneFault : Result (List (List ℕ)) PathFault → Type 0
IsGoneFault (Err Stale) = ⊤
IsGoneFault (Err Memory) = ⊤
IsGoneFault result = ⊥

-- no name leads up from such a node
leads_nowhere : (hangs : ℕ → Option Hang) (id : ℕ) (names : List (List ℕ)) (top : ℕ) → hangs id ≡ Some Gone
    → LeadsUp hangs id names top → (names ≡ []) × (id ≡ top)
leads_nowhere hangs id [] top gone up = (refl, up)
leads_nowhere hangs id (name ∷ names) top gone up =
    let none : place_of (hangs id) ≡ None = ap place_of gone in
    let wrong : None ≡ Some _ = sym none ∙ up.1 in
    absurd (cc)

pub gone_names : (hangs : ℕ → Option Hang) (id : ℕ) → hangs id ≡ Some Gone
    → (result : Result (List (List ℕ)) PathFault) → NamesDown hangs id result → IsGoneFault result
gone_names hangs id gone (Ok names) way =
    let at = leads_nowhere hangs id way.0.names way.0.top gone way.0.up in
    let wrong : Some Gone ≡ Some Root = sym gone ∙ ap hangs at.1 ∙ way.0.holding.1 in
    absurd (cc)
gone_names hangs id gone (Err Unknown) way =
    let at = leads_nowhere hangs id way.names way.top gone way.up in
    let wrong : Some Gone ≡ None = sym gone ∙ ap hangs at.1 ∙ way.holding in
    absurd (cc)
gone_names hangs id gone (Err Stale) way = tt
gone_names hangs id gone (Err Long) way =
    let at = leads_nowhere hangs id way.names way.top gone way.up in
    let long : 1024 < length (slashed []) = subst (λ ns. 1024 < length (slashed ns)) at.0 way.holding in
    absurd (omega (arith, long))
gone_names hangs id gone (Err Memory) way = tt
gone_names hangs id gone (Err (Name fault)) way = way

-- names take as many bytes as two parts of them
slashed_both : (names more : List (List ℕ)) → length (slashed (names ++ more))
    ≡ length (slashed names) + length (slashed more)
slashed_both [] more = omega arith
slashed_both (n ∷ names) more =
    let rest = slashed_both names more in
    let before = length-append n (slashed names) in
    let after = length-append n (slashed (names ++ more)) in
    omega (arith, rest, before, after)

-- ---- why no names lead to a node, as the error that is told

pub unknown_lacks : (hangs : ℕ → Option Hang) (id : ℕ) (name : Option (List ℕ)) → NamesDown hangs id (Err Unknown)
    → LacksNames hangs id name ESTALE
unknown_lacks hangs id name way =
    record { names = way.names; top = way.top; up = way.up; holding = subst IsLost (sym way.holding) tt }

pub stale_lacks : (hangs : ℕ → Option Hang) (id : ℕ) (name : Option (List ℕ)) → NamesDown hangs id (Err Stale)
    → LacksNames hangs id name ESTALE
stale_lacks hangs id name way =
    record { names = way.names; top = way.top; up = way.up; holding = subst IsLost (sym way.holding) tt }

pub long_lacks : (hangs : ℕ → Option Hang) (id : ℕ) (name : Option (List ℕ)) → NamesDown hangs id (Err Long)
    → LacksNames hangs id name ENAMETOOLONG
long_lacks hangs id name way =
    let both = slashed_both way.names (option_to_list name) in
    let over = way.holding in
    record { names = way.names; top = way.top; up = way.up; holding = omega (arith, both, over) }

-- a path that is too long
pub over_lacks : (hangs : ℕ → Option Hang) (id : ℕ) (name : Option (List ℕ)) (path : List (List ℕ))
    → IsPathOf hangs id name path → 1024 < length (slashed path) → LacksNames hangs id name ENAMETOOLONG
over_lacks hangs id name path of over =
    let up = of.down.0 in
    let more = option_to_list name in
    let both = slashed_both up.names more in
    let down = slashed_both of.above more in
    let all = ap (λ ns. length (slashed ns)) of.all in
    let turned = slashed_reversed up.names in
    let same = ap (λ ns. length (slashed ns)) up.holding.0 in
    record { names = up.names; top = up.top; up = up.up; holding = omega (arith, both, down, all, turned, same, over) }
