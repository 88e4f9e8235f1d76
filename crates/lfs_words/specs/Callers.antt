-- The credentials that words of a script spell.
use Rattle.std.specs.Prelude.{ℕ, ◌==◌, Bool, true, false, nat_le, List, [], ◌∷◌, map, codes, Option, None, Some, Result}
use Rattle.std.specs.Prelude.{Err, if◌then◌else◌}
use Rattle.std.specs.List.{list_all, slice_split}
use Rattle.std.specs.Str.{bytes_eq}
use Rattle.std.specs.Str.Parse.{digits_value}
use Rattle.lfs_types.specs.Caller.{Caller}
use Rattle.lfs_types.specs.Credentials.{cred_fault}
use Rattle.lfs_types.specs.declared.cred.BadCred.{BadCred}
use Rattle.lfs_words.specs.Numbers.{is_numeral}
use Rattle.lfs_words.specs.declared.fault.FaultKind.{FaultKind}
use Rattle.lfs_words.specs.declared.fault.FaultKind.TheVariants.{Words, Number, Range, Cred}
use Rattle.lfs_words.specs.PathText.{unless}

-- what stands between the commas of a list of groups
abbrev pub groups_of : List ℕ → List (List ℕ)
groups_of word = slice_split (λ b. b == 44) word

abbrev pub is_decimal : List ℕ → Bool
is_decimal word = is_numeral 10 20 word

abbrev pub decimal_value : List ℕ → ℕ
decimal_value word = digits_value 10 word

-- whether the value of a decimal is below 2^32
abbrev pub is_short : List ℕ → Bool
is_short word = nat_le (decimal_value word) 4294967295

-- the first fault of decimals that stand in one word
abbrev pub decimals_fault : List (List ℕ) → Option FaultKind
decimals_fault parts =
    if list_all is_decimal parts then (if list_all is_short parts then None else Some Range)
    else Some Number

abbrev pub or_cred : Option BadCred → Option FaultKind
or_cred None = None
or_cred (Some fault) = Some (Cred fault)

abbrev pub or_else : Option FaultKind → Option FaultKind → Option FaultKind
or_else None next = next
or_else (Some kind) next = Some kind

-- the first fault of a user, a list of groups and the mark of init
abbrev pub caller_fault : List ℕ → List ℕ → Bool → Option FaultKind
caller_fault user groups init =
    or_else (decimals_fault (user ∷ [])) (or_else (decimals_fault (groups_of groups))
    (or_cred (cred_fault (decimal_value user) (map decimal_value (groups_of groups)) init)))

-- the caller that these words spell, or their first fault
abbrev pub caller_of : List ℕ → List ℕ → Bool → Result Caller FaultKind
caller_of user groups init =
    unless (caller_fault user groups init)
    (record { uid = decimal_value user; groups = map decimal_value (groups_of groups); init = init })

-- the caller that the words behind `as` spell
abbrev pub caller_said : List (List ℕ) → Result Caller FaultKind
caller_said [] = Err Words
caller_said (user ∷ []) = Err Words
caller_said (user ∷ groups ∷ []) = caller_of user groups false
caller_said (user ∷ groups ∷ mark ∷ []) =
    if bytes_eq mark (codes "init") then caller_of user groups true else Err Words
caller_said (user ∷ groups ∷ mark ∷ fourth ∷ more) = Err Words
