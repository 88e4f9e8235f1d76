-- How `lfs_check` ends.
use Rattle.std.specs.Prelude.{◌≡◌, ◌<◌, ◌⊎◌, ℕ, true, false, List, None, Option, Result, IfErr, IfOk, IfSome, IsSome}
use Rattle.std.specs.Prelude.{length, ⊤}
use Rattle.std.specs.Io.KnownBytes.{Appends}
use Rattle.clap.specs.Values.{kind_of}
use Rattle.clap.specs.declared.error.Error.{Error}
use Rattle.lfs_command.specs.Ends.{EndsUnasked}
use Rattle.lfs_checking.specs.declared.fault.CheckFault.{CheckFault}
use Rattle.lfs_checking.specs.declared.fault.CheckFault.TheVariants.{Open, Read, TooLong, Memory, Write}
use Rattle.lfs_checking.specs.Volumes.{IsVerdict}
use Rattle.lfs_rescue.specs.declared.fault.RescueFault.{RescueFault}
use Rattle.lfs_rescue.specs.declared.fault.RescueFault.TheVariants.{Check, Keep, Journal}
use Rattle.lfs_rescue.specs.declared.options.Options.{Options}
use Rattle.lfs_rescue.specs.Placing.{IsRecoverVerdict}

-- the status and the text of what was asked for of some bytes: a search for the volume whose blocks they are, or a check
-- of the image that they are
pub record IsAskedVerdict {F : Type 0} (contents remaining : F → Option (List ℕ)) (options : Options) (bytes : List ℕ)
    (status : ℕ) (text : List ℕ) : Type 0 where
  pub blocks : options.recovers ≡ true → IsRecoverVerdict contents remaining options bytes status text
  pub image : options.recovers ≡ false → IsVerdict bytes status text

-- what was read, which is what the reader had, where that is known, has a verdict of this status, whose text was written
pub record IsAnswered {F : Type 0} (contents remaining : F → Option (List ℕ)) (options : Options)
    (known before after : Option (List ℕ)) (status : ℕ) : Type 0 where
  pub bytes : List ℕ
  pub read : IfSome known (λ had. bytes ≡ had)
  pub text : List ℕ
  pub verdict : IsAskedVerdict contents remaining options bytes status text
  pub written : Appends before after text

-- why there is no verdict: nothing is written by then, but where a write fails; TooLong, that the reader had more bytes
-- than an image has
abbrev pub IsCheckFaultOf : {W : Type 0} → Option (List ℕ) → W → W → CheckFault → Type 0
IsCheckFaultOf known out_before out_after Open = out_after ≡ out_before
IsCheckFaultOf known out_before out_after Read = out_after ≡ out_before
IsCheckFaultOf known out_before out_after TooLong =
    IfSome known (λ bytes. 33612300 < length bytes) × (out_after ≡ out_before)
IsCheckFaultOf known out_before out_after Memory = out_after ≡ out_before
IsCheckFaultOf known out_before out_after Write = ⊤

-- the same; or an image that was asked for is not kept, or a journal that was named is not read, and nothing is written
abbrev pub IsRescueFaultOf : {W : Type 0} → Options → Option (List ℕ) → W → W → RescueFault → Type 0
IsRescueFaultOf options known out_before out_after (Check fault) = IsCheckFaultOf known out_before out_after fault
IsRescueFaultOf options known out_before out_after (Keep fault) = IsSome options.save × (out_after ≡ out_before)
IsRescueFaultOf options known out_before out_after (Journal fault) = IsSome options.journal × (out_after ≡ out_before)

-- a program ends with this status behind what it was to read: that of the verdict, and nothing is told on standard
-- error; or 1, for a fault
abbrev pub EndsReading : {F W D : Type 0} → (F → Option (List ℕ)) → (F → Option (List ℕ)) → Options → Option (List ℕ) → Option (List ℕ)
    → Option (List ℕ) → ℕ → W → W → D → D → Type 0
EndsReading contents remaining options known start out status out_before out_after err_before err_after =
    (IsAnswered contents remaining options known start out status × (err_after ≡ err_before))
    ⊎ ((status ≡ 1) × ((fault : RescueFault) × IsRescueFaultOf options known out_before out_after fault))

-- the file that was named was not opened: the status is 1, and nothing is written to standard output
abbrev pub IsUnopened : {W : Type 0} → Options → ℕ → W → W → Type 0
IsUnopened options status out_before out_after = (status ≡ 1) × (IsSome options.image × (out_after ≡ out_before))

-- The same of the bytes that were asked for, which are the reader's where no file is named; where one is, nothing is
-- read from standard input.
pub record EndsCheck {F R W D : Type 0} (contents remaining : F → Option (List ℕ)) (options : Options)
    (known start out : Option (List ℕ)) (status : ℕ) (in_before in_after : R) (out_before out_after : W)
    (err_before err_after : D) : Type 0 where
  pub bytes : Option (List ℕ)
  pub own : options.image ≡ None → bytes ≡ known
  pub unread : IsSome options.image → in_after ≡ in_before
  pub ends : EndsReading contents remaining options bytes start out status out_before out_after err_before err_after
      ⊎ IsUnopened options status out_before out_after

-- `lfs_check` ends with this status by what it was asked for: options, of which a file for an image and one of a journal
-- come with a search alone, as a check or a search ends; or else nothing is read
pub record IsCheckEnd {F R W D : Type 0} (contents remaining : F → Option (List ℕ)) (known start out : Option (List ℕ))
    (status : ℕ) (in_before in_after : R) (out_before out_after : W) (err_before err_after : D) : Type 0 where
  pub asked : Result Options Error
  pub saved : IfOk asked (λ options. IsSome options.save → options.recovers ≡ true)
  pub journaled : IfOk asked (λ options. IsSome options.journal → options.recovers ≡ true)
  pub run : IfOk asked (λ options. EndsCheck contents remaining options known start out status in_before in_after out_before
      out_after err_before err_after)
  pub not_run : IfErr asked (λ error. (in_after ≡ in_before)
      × EndsUnasked (kind_of error) status out_before out_after err_before err_after)

-- ---- for the functions within

-- why nothing is told of some bytes
abbrev pub IsFindingFault : Options → RescueFault → Type 0
IsFindingFault options (Check fault) = fault ≡ Memory
IsFindingFault options (Keep fault) = IsSome options.save
IsFindingFault options (Journal fault) = IsSome options.journal
