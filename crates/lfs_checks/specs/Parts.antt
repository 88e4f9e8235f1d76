-- Parts of the tests of calls: what one function asks of one file or directory.
use Rattle.std.specs.Prelude.{ℕ, not, ◌||◌, List, [], ◌∷◌}
use Rattle.lfs_types.specs.Caller.{Caller}
use Rattle.lfs_types.specs.Kinds.{is_directory_kind}
use Rattle.lfs_types.specs.declared.attrs.Attrs.{Attrs}
use Rattle.lfs_types.specs.declared.attrs.Bit.TheVariants as bits
use Rattle.lfs_types.specs.declared.rule.Rule.TheVariants.{IsDirectory, IsNoDirectory, IsMutable, IsNotAppendOnly}
use Rattle.lfs_types.specs.declared.rule.Rule.TheVariants.{GrantsWrite, PassesSticky}
use Rattle.lfs_rules.specs.Grants.{grants_of}
use Rattle.lfs_rules.specs.Locks.{is_immutable, is_append_only}
use Rattle.lfs_rules.specs.Sticky.{is_barred}
use Rattle.lfs_model.specs.Rules.{Check, asks}

-- the tests of a directory that loses a name, at component k of the path of this index
abbrev pub losing_tests : Caller → ℕ → Attrs → ℕ → List Check
losing_tests caller path dir k =
    asks (not (is_immutable dir)) IsMutable path k
    ∷ asks (grants_of caller dir bits.Write) GrantsWrite path k
    ∷ asks (not (is_append_only dir)) IsNotAppendOnly path k
    ∷ []

-- the tests of what loses its name in a directory, at component k of the path of this index
abbrev pub lost_tests : Caller → ℕ → Attrs → Attrs → ℕ → List Check
lost_tests caller path dir file k =
    asks (not (is_barred caller dir file)) PassesSticky path k
    ∷ asks (not (is_immutable file)) IsMutable path k
    ∷ asks (not (is_append_only file)) IsNotAppendOnly path k
    ∷ []

-- the tests of the kinds of a moved row and of the one that it is to replace, at component k of the second path
abbrev pub kind_tests : Attrs → Attrs → ℕ → List Check
kind_tests moved there k =
    asks (not (is_directory_kind there.kind) || is_directory_kind moved.kind) IsNoDirectory 1 k
    ∷ asks (is_directory_kind there.kind || not (is_directory_kind moved.kind)) IsDirectory 1 k
    ∷ []
