-- How an audit ends that began as it was asked: `audited_by` for `audit_buffered`, `of_reader` and `of_file` for `run`,
-- and `ends_audit`, `ends_asked` and `ends_unasked` for the program. An audit that was made has the status of what it
-- stopped at, which is 0 or 1 (`status_low`), and tells no fault; one that was not made has 1. So by status 0 it was
-- made, and of the journal that was asked for: the reader's where no file is named, else that file's; the case that
-- isn't asked for is absurd.
use Rattle.std.proofs.Common.{◌≡◌, ℕ, ◌≤◌, List, Option, None, Some, Result, Ok, Err, IfOk, IfErr, refl, sym, subst, arith}
use Rattle.std.specs.Prelude.{IsSome, MatchResult}
use Rattle.std.proofs.lemmas.Bool.{false≢true}
use Rattle.clap.specs.Values.{kind_of}
use Rattle.clap.specs.declared.error.Error.{Error}
use Rattle.lfs_command.specs.Ends.{EndsUnasked}
use Rattle.lfs_types.specs.Tree.{World}
use Rattle.lfs_trace.specs.Checking.{numbers_of}
use Rattle.lfs_auditing.specs.Audits.{HasReadNone, IsAudited, status_of}
use Rattle.lfs_auditing.specs.Beginnings.{IsAuditedAsAsked, IsAuditedBy, IsBegun}
use Rattle.lfs_auditing.specs.Ends.{EndsAudit, IsTrailEnd}
use Rattle.lfs_auditing.specs.Ranges.{IsInRange}
use Rattle.lfs_auditing.specs.declared.audit.Audit.{Audit}
use Rattle.lfs_auditing.specs.declared.audit.Stop.{Stop}
use Rattle.lfs_auditing.specs.declared.audit.Stop.TheVariants as stops
use Rattle.lfs_auditing.specs.declared.options.Options.{Options}

pub audited_by : {F E : Type 0} (remaining : F → Option (List ℕ)) (options : Options) (known : Option (List ℕ)) (a : Audit)
    (r : Result ℕ E) → IsBegun remaining options a
    → IfOk r (λ status. (from : World) → HasReadNone from a
    → IsAudited known a.denials from (numbers_of a.checker) a.checker.segments status)
    → IfOk r (IsAuditedBy remaining options known)
audited_by remaining options known a (Ok status) begun audited = record {
  from = begun.from;
  inodes = _;
  segments = _;
  begins = begun.begins;
  audited = subst (λ d. IsAudited known d begun.from (numbers_of a.checker) a.checker.segments status) begun.denials
      (audited begun.from begun.read);
}
audited_by remaining options known a (Err fault) begun audited = tt

-- a journal is the reader's where no file is named
pub of_reader : {F E : Type 0} (remaining : F → Option (List ℕ)) (options : Options) (known : Option (List ℕ))
    (r : Result ℕ E) → options.journal ≡ None → IfOk r (IsAuditedBy remaining options known)
    → IfOk r (IsAuditedAsAsked remaining options known)
of_reader remaining options known (Ok status) none is = record {
  own = λ _. is;
  filed = λ some. absurd (false≢true (subst (λ o. IsSome o) none some));
}
of_reader remaining options known (Err fault) none is = tt

-- and a file's where one is
pub of_file : {F E : Type 0} (remaining : F → Option (List ℕ)) (options : Options) (known : Option (List ℕ))
    (r : Result ℕ E) → IsSome options.journal → (file : F) → IfOk r (IsAuditedBy remaining options (remaining file))
    → IfOk r (IsAuditedAsAsked remaining options known)
of_file remaining options known (Ok status) some file is = record {
  own = λ none. absurd (false≢true (subst (λ o. IsSome o) none some));
  filed = λ _. (file, is);
}
of_file remaining options known (Err fault) some file is = tt

status_low : (stop : Stop) → status_of stop ≤ 1
status_low stops.End = omega (arith)
status_low (stops.Illegal entry) = omega (arith)
status_low (stops.Unread why) = omega (arith)

audited_low : {F : Type 0} (remaining : F → Option (List ℕ)) (options : Options) (known : Option (List ℕ)) (status : ℕ)
    → IsAuditedBy remaining options known status → status ≤ 1
audited_low remaining options known status is =
    subst (λ n. n ≤ 1) (sym is.audited.status_is) (status_low is.audited.stop)

asked_low : {T F : Type 0} (o : Option T) (remaining : F → Option (List ℕ)) (options : Options)
    (known : Option (List ℕ)) (status : ℕ) → (o ≡ None → IsAuditedBy remaining options known status)
    → (IsSome o → (file : F) × IsAuditedBy remaining options (remaining file) status) → status ≤ 1
asked_low None remaining options known status own filed = audited_low remaining options known status (own refl)
asked_low (Some path) remaining options known status own filed =
    let found = filed refl in audited_low remaining options (remaining found.0) status found.1

pub ends_audit : {F D E : Type 0} (remaining : F → Option (List ℕ)) (options : Options) (known : Option (List ℕ))
    (status : ℕ) (err_before err_after : D) (r : Result ℕ E) → IfOk r (IsAuditedAsAsked remaining options known)
    → MatchResult r (λ given. (status ≡ given) × (err_after ≡ err_before)) (λ _. status ≡ 1)
    → EndsAudit remaining options known status err_before err_after
ends_audit remaining options known status err_before err_after (Ok given) is told =
    let as_asked = subst (λ n. IsAuditedAsAsked remaining options known n) (sym told.0) is in
    record {
      either = asked_low options.journal remaining options known status as_asked.own as_asked.filed;
      quiet = λ _. told.1;
      audited = λ zero. subst (λ n. IsAuditedAsAsked remaining options known n) zero as_asked;
    }
ends_audit remaining options known status err_before err_after (Err fault) is told = record {
  either = omega (arith, told);
  quiet = λ zero. absurd (omega (arith, told, zero));
  audited = λ zero. absurd (omega (arith, told, zero));
}

pub ends_asked : {F R W D : Type 0} (remaining : F → Option (List ℕ)) (known : Option (List ℕ)) (status : ℕ)
    (in_before in_after : R) (out_before out_after : W) (err_before err_after : D) (asked : Result Options Error)
    (options : Options) → asked ≡ Ok options → IfOk asked IsInRange
    → EndsAudit remaining options known status err_before err_after
    → IsTrailEnd remaining known status in_before in_after out_before out_after err_before err_after
ends_asked remaining known status in_before in_after out_before out_after err_before err_after asked options is ranges
    ends =
    record {
      asked = asked;
      ranges = ranges;
      audit = subst (λ a. IfOk a (λ o. EndsAudit remaining o known status err_before err_after)) (sym is) ends;
      not_run = subst (λ a. IfErr a (λ error. (in_after ≡ in_before)
          × EndsUnasked (kind_of error) status out_before out_after err_before err_after)) (sym is) tt;
    }

pub ends_unasked : {F R W D : Type 0} (remaining : F → Option (List ℕ)) (known : Option (List ℕ)) (status : ℕ)
    (stdin : R) (out_before out_after : W) (err_before err_after : D) (asked : Result Options Error) (error : Error)
    → asked ≡ Err error → IfOk asked IsInRange
    → EndsUnasked (kind_of error) status out_before out_after err_before err_after
    → IsTrailEnd remaining known status stdin stdin out_before out_after err_before err_after
ends_unasked remaining known status stdin out_before out_after err_before err_after asked error is ranges ends = record {
  asked = asked;
  ranges = ranges;
  audit = subst (λ a. IfOk a (λ o. EndsAudit remaining o known status err_before err_after)) (sym is) tt;
  not_run = subst (λ a. IfErr a (λ e. (stdin ≡ stdin)
      × EndsUnasked (kind_of e) status out_before out_after err_before err_after)) (sym is) (refl, ends);
}
