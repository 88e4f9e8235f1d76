-- The calls of a cleaner's pass.
use Rattle.std.specs.Prelude.{◌≡◌, ℕ, zero, suc, ◌+◌, ◌*◌, ◌/◌, ◌<◌, List, [], ◌∷◌, length, take, drop, Option, None}
use Rattle.std.specs.Prelude.{Some, if◌then◌else◌, ◌==◌}
use Rattle.lfs_types.specs.declared.cleaner.BlockInfo.{BlockInfo}
use Rattle.lfs_types.specs.declared.cleaner.CleanerCall.{CleanerCall}
use Rattle.lfs_types.specs.declared.cleaner.CleanerCall.TheVariants as call
use Rattle.lfs_model.specs.declared.journal.CleanerAnswer.{CleanerAnswer}
use Rattle.lfs_model.specs.declared.journal.CleanerAnswer.TheVariants.{Ifile, Infos, Bmapv, Marked, Cleaned}
use Rattle.lfs_cleaner.specs.Choosing.{HasNoDirty, IsChosen}
use Rattle.lfs_cleaner.specs.declared.pass.Pass.{Pass}
use Rattle.lfs_cleaner.specs.declared.pass.Stage.{Stage}
use Rattle.lfs_cleaner.specs.declared.pass.Stage.TheVariants.{Ready, Reading, Listing, Locating, Moving, Reclaiming}
use Rattle.lfs_cleaner.specs.declared.pass.Stage.TheVariants.{Over}

-- of the infos that were asked for those whose address is unchanged, in order
abbrev pub unchanged : List BlockInfo → List BlockInfo → List BlockInfo
unchanged [] present = []
unchanged (info ∷ asked) [] = []
unchanged (info ∷ asked) (now ∷ present) = if info.addr == now.addr then info ∷ unchanged asked present
    else unchanged asked present

-- ---- one call

-- no call is made any more
abbrev pub Ends : Option CleanerCall → Pass → Type 0
Ends made after = (made ≡ None) × (after.stage ≡ Over)

-- this call is made, in this stage of a pass with so many further rounds
abbrev pub MakesCall : CleanerCall → ℕ → Stage → Option CleanerCall → Pass → Type 0
MakesCall next rounds stage made after = (made ≡ Some next) × (after ≡ record { rounds = rounds; stage = stage })

-- a further round begins, if there is one
abbrev pub Begins : ℕ → Option CleanerCall → Pass → Type 0
Begins zero made after = Ends made after
Begins (suc rounds) made after = MakesCall call.Ifile rounds Reading made after

-- the infos of the chosen segment are asked for, if one is dirty
abbrev pub Chooses : ℕ → List ℕ → Option CleanerCall → Pass → Type 0
Chooses rounds bytes None after = HasNoDirty bytes × (after.stage ≡ Over)
Chooses rounds bytes made after = (segment : ℕ) × IsChosen bytes segment
    × MakesCall (call.Infos segment) rounds (Listing segment) made after

-- the next eight infos are to be written again; where none is left, the segment is to become clean
abbrev pub MarksNext : ℕ → ℕ → List BlockInfo → Option CleanerCall → Pass → Type 0
MarksNext rounds segment [] made after = MakesCall (call.Segclean segment) rounds Reclaiming made after
MarksNext rounds segment infos made after =
    MakesCall (call.Markv (take 8 infos)) rounds (Moving segment (drop 8 infos)) made after

-- what is called next in a stage of a pass with so many further rounds, the last call being answered so
abbrev pub IsNextCall : ℕ → Stage → Option CleanerAnswer → Option CleanerCall → Pass → Type 0
IsNextCall rounds Ready last made after = Begins rounds made after
IsNextCall rounds Reading (Some (Ifile bytes)) made after = Chooses rounds bytes made after
IsNextCall rounds (Listing segment) (Some (Infos infos)) made after =
    MakesCall (call.Bmapv infos) rounds (Locating segment infos) made after
IsNextCall rounds (Locating segment infos) (Some (Bmapv present)) made after =
    MarksNext rounds segment (unchanged infos present) made after
IsNextCall rounds (Moving segment left) (Some (Marked count)) made after = MarksNext rounds segment left made after
IsNextCall rounds Reclaiming (Some Cleaned) made after = Begins rounds made after
IsNextCall rounds stage last made after = Ends made after

-- a pass makes this call next, or none, and stands so then
abbrev pub Steps : Pass → Option CleanerAnswer → Option CleanerCall → Pass → Type 0
Steps before last made after = IsNextCall before.rounds before.stage last made after

-- ---- how many calls

-- how many calls a stage may have before it: 31 times eight infos at most
abbrev pub stage_calls : Stage → ℕ
stage_calls Ready = 0
stage_calls Reading = 34
stage_calls (Listing segment) = 33
stage_calls (Locating segment infos) = 32
stage_calls (Moving segment left) = 1 + (length left + 7) / 8
stage_calls Reclaiming = 0
stage_calls Over = 0

-- how many calls a pass may still make
abbrev pub calls_left : Pass → ℕ
calls_left pass = 35 * pass.rounds + stage_calls pass.stage

-- a pass may make these calls one after another: each is its next, told some answer, and leaves fewer
abbrev pub MayCall : Pass → List CleanerCall → Type 0
MayCall pass [] = Unit {0}
MayCall pass (made ∷ calls) =
    (last : Option CleanerAnswer) × (after : Pass) × Steps pass last (Some made) after
    × (calls_left after < calls_left pass) × MayCall after calls
