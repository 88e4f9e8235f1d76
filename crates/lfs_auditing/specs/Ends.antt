-- How `lfs_audit_trail` ends.
use Rattle.std.specs.Prelude.{◌≡◌, ◌≤◌, ℕ, List, Option, Result, IfErr, IfOk}
use Rattle.clap.specs.Values.{kind_of}
use Rattle.clap.specs.declared.error.Error.{Error}
use Rattle.lfs_command.specs.Ends.{EndsUnasked}
use Rattle.lfs_auditing.specs.Beginnings.{IsAuditedAsAsked}
use Rattle.lfs_auditing.specs.Ranges.{IsInRange}
use Rattle.lfs_auditing.specs.declared.options.Options.{Options}

-- A program that was asked for an audit ends with this status: 0 only where the journal that it was
-- asked of was read to its end and is legal from where it begins, and nothing is told; else 1.
pub record EndsAudit {F D : Type 0} (remaining : F → Option (List ℕ)) (options : Options)
    (known : Option (List ℕ)) (status : ℕ) (err_before err_after : D) : Type 0 where
  pub either : status ≤ 1
  pub quiet : status ≡ 0 → err_after ≡ err_before
  pub audited : status ≡ 0 → IsAuditedAsAsked remaining options known 0

-- `lfs_audit_trail` ends with this status by what it was asked for: options whose numbers are in
-- their ranges, as an audit ends, or else nothing is read
pub record IsTrailEnd {F R W D : Type 0} (remaining : F → Option (List ℕ))
    (known : Option (List ℕ)) (status : ℕ) (in_before in_after : R) (out_before out_after : W)
    (err_before err_after : D) : Type 0 where
  pub asked : Result Options Error
  pub ranges : IfOk asked IsInRange
  pub audit : IfOk asked (λ options. EndsAudit remaining options known status err_before err_after)
  pub not_run : IfErr asked (λ error. (in_after ≡ in_before)
      × EndsUnasked (kind_of error) status out_before out_after err_before err_after)
