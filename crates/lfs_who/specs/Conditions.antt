-- Tests that leave open who the caller is, and for whom they are met.
use Rattle.std.specs.Prelude.{◌≡◌, ℕ, ◌==◌, ◌||◌, not, Bool, true, false, List, [], ◌∷◌, map, Option, None, Some}
use Rattle.lfs_types.specs.Caller.{Caller}
use Rattle.lfs_rules.specs.Grants.{grants_of}
use Rattle.lfs_rules.specs.Locks.{may_set_flags}
use Rattle.lfs_rules.specs.Owners.{is_in_group, is_owner_or_superuser, is_the_superuser, may_set_owner}
use Rattle.lfs_rules.specs.Sticky.{is_barred}
use Rattle.lfs_model.specs.Rules.{Check}
use Rattle.lfs_who.specs.declared.condition.Condition.{Condition}
use Rattle.lfs_who.specs.declared.condition.Condition.TheVariants.{Fixed, Grants, PassesSticky}
use Rattle.lfs_who.specs.declared.condition.Condition.TheVariants.{IsSuperuser, IsOwner, MaySetOwner, MaySetFlags}
use Rattle.lfs_who.specs.declared.condition.Outcome.{Outcome}
use Rattle.lfs_who.specs.declared.condition.Outcome.TheVariants.{Met, Unmet, Inside, Outside}
use Rattle.lfs_who.specs.declared.condition.Question.{Question}

-- whether a condition holds for a caller, by the rules' own definitions
abbrev pub holds : Caller → Condition → Bool
holds c (Fixed met) = met
holds c (Grants attrs bit) = grants_of c attrs bit
holds c (PassesSticky dir file) = not (is_barred c dir file)
holds c IsSuperuser = is_the_superuser c
holds c (IsOwner attrs) = is_owner_or_superuser c attrs
holds c (MaySetOwner attrs uid gid) = may_set_owner c attrs uid gid
holds c (MaySetFlags attrs flags) = may_set_flags c attrs.flags flags

-- the test that a question is of a caller
abbrev pub posed : Caller → Question → Check
posed c question = record { met = holds c question.condition; denial = question.denial }

abbrev pub all_posed : Caller → List Question → List Check
all_posed c questions = map (posed c) questions

-- whether an outcome is that a condition is met for a caller
abbrev pub is_met : Caller → Outcome → Bool
is_met c Met = true
is_met c Unmet = false
is_met c (Inside gid) = is_in_group c gid
is_met c (Outside gid) = not (is_in_group c gid)

-- a user has a part in a condition: it asks whether the caller is he
abbrev pub has_part : ℕ → Condition → Bool
has_part u (Fixed met) = false
has_part u (Grants attrs bit) = (u == 0) || (u == attrs.uid)
has_part u (PassesSticky dir file) = (u == 0) || ((u == dir.uid) || (u == file.uid))
has_part u IsSuperuser = u == 0
has_part u (IsOwner attrs) = (u == 0) || (u == attrs.uid)
has_part u (MaySetOwner attrs uid gid) = (u == 0) || (u == attrs.uid)
has_part u (MaySetFlags attrs flags) = u == 0

-- a caller is this user, or, without a user, has no part in a condition
abbrev pub IsUser : Option ℕ → Caller → Condition → Type 0
IsUser (Some u) c condition = c.uid ≡ u
IsUser None c condition = has_part c.uid condition ≡ false

-- a user in one group
abbrev pub alone : ℕ → ℕ → Caller
alone uid gid = record { uid = uid; groups = gid ∷ []; init = false }
