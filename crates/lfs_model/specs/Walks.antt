-- Where a walk along names ends: at a row, or with a denial.
use Rattle.std.specs.Prelude.{ℕ, ◌+◌, List, [], ◌∷◌, Option, None, Some, Result, Ok, Err, if◌then◌else◌, ◌==◌, Bool}
use Rattle.std.specs.FinMap as map
use Rattle.lfs_types.specs.Caller.{Caller}
use Rattle.lfs_types.specs.declared.attrs.Bit.TheVariants as bits
use Rattle.lfs_types.specs.declared.rule.Denial.{Denial}
use Rattle.lfs_types.specs.declared.rule.Rule.TheVariants.{IsDirectory, GrantsSearch, NameThere}
use Rattle.lfs_types.specs.Tree.{root}
use Rattle.lfs_model.specs.World.{Rows, child}
use Rattle.lfs_model.specs.Rules.{is_directory_row, row_grants, visited}
use Rattle.std.specs.List.{list_any}

-- a row that is there, or the denial of the name at a component
abbrev pub found : ℕ → ℕ → Option ℕ → Result ℕ Denial
found path k None = Err (record { rule = NameThere; path = path; at = k })
found path k (Some n) = Ok n

-- one step of a walk, from the row at component k to the name at the next
abbrev pub stepped : Rows → Caller → ℕ → ℕ → ℕ → List ℕ → Result ℕ Denial
stepped rows caller path k at name =
    if is_directory_row (map.get rows at) then
    (if row_grants caller bits.Search (map.get rows at) then found path (k + 1) (child rows at name)
    else Err (record { rule = GrantsSearch; path = path; at = k }))
    else Err (record { rule = IsDirectory; path = path; at = k })

abbrev pub and_then : Result ℕ Denial → (ℕ → Result ℕ Denial) → Result ℕ Denial
and_then (Ok n) next = next n
and_then (Err denial) next = Err denial

-- the row at which a walk ends, or the denial of its first failing test
unfoldable pub walked : Rows → Caller → ℕ → ℕ → ℕ → List (List ℕ) → Result ℕ Denial
walked rows caller path k at [] = Ok at
walked rows caller path k at (name ∷ names) =
    and_then (stepped rows caller path k at name) (λ n. walked rows caller path (k + 1) n names)

-- whether names lead from the root through a row
abbrev pub is_on_way : Rows → List (List ℕ) → ℕ → Bool
is_on_way rows names n = list_any (λ m. m == n) (visited rows root names)
