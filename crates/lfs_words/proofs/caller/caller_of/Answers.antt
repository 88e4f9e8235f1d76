use Rattle.std.proofs.Common.{◌≡◌, ℕ, Bool, List, Option, None, Some, map, take, subst, sym, ap, ◌∙◌}
use Rattle.std.proofs.lemmas.Result.{err_from_is_err_and}
use Rattle.lfs_types.specs.Caller.{Caller}
use Rattle.lfs_types.specs.Credentials.{cred_fault}
use Rattle.lfs_types.specs.declared.cred.BadCred.{BadCred}
use Rattle.lfs_words.specs.Callers.{groups_of, decimal_value}
use Rattle.lfs_words.proofs.GroupLists.{short_read, short_alone, short_refused, cred_fault-kept, kept_whole}
use Rattle.lfs_words.proofs.GroupLists.{caller_fine, caller_refused, user_refused, groups_refused}
use Rattle.lfs_words.proofs.caller.caller_of.Goals as goal

pub returns-in_err-uid : goal.returns-in_err-uid
returns-in_err-uid c =
    let exit = err_from_is_err_and c.from_residual.result c.from_residual.ensures.1 in
    rw (exit.1, exit.2) (user_refused c.args.user.now c.args.groups.now c.args.init _
    (short_refused c.args.user.now _ (sym c.short_decimal.ensures ∙ c.in_err-uid.was)))

pub returns-in_err-groups : goal.returns-in_err-groups
returns-in_err-groups c =
    let read = short_read c.args.user.now c.in_ok-uid.uid (sym c.short_decimal.ensures ∙ c.in_ok-uid.was) in
    let exit = err_from_is_err_and c.from_residual-in_err-groups.result c.from_residual-in_err-groups.ensures.1 in
    rw (exit.1, exit.2) (groups_refused c.args.user.now c.args.groups.now c.args.init _
    (short_alone c.args.user.now read.0 read.1) c.in_err-groups.ensures)

-- the fault of the kept groups of a user is that of all groups of the user's number
moved : (uid user : ℕ) (now gs : List ℕ) (init : Bool) (fault : Option BadCred) → uid ≡ user → now ≡ take 17 gs
    → cred_fault uid now init ≡ fault → cred_fault user gs init ≡ fault
moved uid user now gs init fault same kept e =
    sym (cred_fault-kept user gs init) ∙ subst (λ u. cred_fault u (take 17 gs) init ≡ fault) same
    (subst (λ xs. cred_fault uid xs init ≡ fault) kept e)

pub returns-in-Ok : goal.returns-in-Ok
returns-in-Ok c =
    let read = short_read c.args.user.now c.in_ok-uid.uid (sym c.short_decimal.ensures ∙ c.in_ok-uid.was) in
    let gs = map decimal_value (groups_of c.args.groups.now) in
    let user = decimal_value c.args.user.now in
    let split = c.in_ok-groups.ensures in
    let kept : c.as_slice.result.now ≡ take 17 gs = c.as_slice.ensures ∙ split.1 in
    let fine = moved c.in_ok-uid.uid user c.as_slice.result.now gs c.args.init None read.2 kept c.in-Ok.ensures.0 in
    let make : ℕ → List ℕ → Caller = λ u xs. record { uid = u; groups = xs; init = c.args.init } in (
      caller_fine c.args.user.now c.args.groups.now c.args.init
          (short_alone c.args.user.now read.0 read.1) split.0 fine,
      c.in-Ok.ensures.1 ∙ ap (λ u. make u c.as_slice.result.now) read.2
          ∙ ap (λ xs. make user xs) (kept ∙ kept_whole user gs c.args.init fine),
    )

pub returns-in-Err : goal.returns-in-Err
returns-in-Err c =
    let read = short_read c.args.user.now c.in_ok-uid.uid (sym c.short_decimal.ensures ∙ c.in_ok-uid.was) in
    let gs = map decimal_value (groups_of c.args.groups.now) in
    let user = decimal_value c.args.user.now in
    let split = c.in_ok-groups.ensures in
    let kept : c.as_slice.result.now ≡ take 17 gs = c.as_slice.ensures ∙ split.1 in
    let fault = moved c.in_ok-uid.uid user c.as_slice.result.now gs c.args.init
    (Some c.in-Err.fault) read.2 kept c.in-Err.ensures in
    caller_refused c.args.user.now c.args.groups.now c.args.init c.in-Err.fault
    (short_alone c.args.user.now read.0 read.1) split.0 fault
