use Rattle.std.proofs.Common.{inr, refl, sym, ap, subst, ◌∙◌, length}
use Rattle.std.specs.Prelude.{IsSome}
use Rattle.std.specs.FinMap.{get}
use Rattle.std.proofs.lemmas.Bool.{not-true}
use Rattle.std.proofs.lemmas.Result.{err_from_is_err_and}
use Rattle.lfs_types.specs.Kinds.{is_directory_kind}
use Rattle.lfs_types.specs.Stored.{bytes_of, slice_of}
use Rattle.lfs_types.specs.declared.answer.Resource.TheVariants.{NoMemory}
use Rattle.lfs_types.specs.declared.answer.Served.TheVariants as served
use Rattle.lfs_model.specs.Rules.{read_tests}
use Rattle.lfs_model.proofs.Deciding.{judged_all, met_first}
use Rattle.lfs_calls.proofs.CallLemmas.{lacking, shown}
use Rattle.lfs_calls.proofs.PathLemmas.{read_path, barred, not_reached, serves}
use Rattle.lfs_calls.proofs.ReadLemmas.{read_answer}
use Rattle.lfs_calls.proofs.StateLemmas.{same_content}
use Rattle.lfs_calls.proofs.StepLemmas.{shown_stored, size_stored}
use Rattle.lfs_calls.proofs.reading.read.Goals as goal

pub returns-in_err-file-clause-call : goal.returns-in_err-file-clause-call
returns-in_err-file-clause-call g c level =
    let p = err_from_is_err_and c.from_residual.result c.from_residual.ensures.1 in
    rw (p.1, p.2) (not_reached (read_path level c.args.cred.now c.args.path.now c.args.off c.args.len)
    c.find.ensures.state c.in_err-file.field-0.0 c.in_err-file.ensures.reach)

pub returns-in_err-may_read-clause-call : goal.returns-in_err-may_read-clause-call
returns-in_err-may_read-clause-call g c level =
    let p = err_from_is_err_and c.from_residual-in_err-may_read.result c.from_residual-in_err-may_read.ensures.1 in
    rw (p.1, p.2) (barred (read_path level c.args.cred.now c.args.path.now c.args.off c.args.len) c.in_ok-file.file
    c.in_ok-file.ensures.reach c.find.ensures.state c.depth.result c.depth.ensures c.in_err-may_read.field-0.0
    c.in_err-may_read.ensures)

pub read_bytes-requires-clause-used : goal.read_bytes-requires-clause-used
read_bytes-requires-clause-used g c =
    let t = c.requires in
    let file = c.in_ok-file.file in
    subst (λ x. IsSome (get x file.number)) (sym (same_content c.find.ensures.state))
    (shown_stored (g.F.FileStore.state c.args.store.now).content file.number file.attrs
    (c.in_ok-file.ensures.reach t.0 t.1).1)

pub read_bytes-requires-clause-size : goal.read_bytes-requires-clause-size
read_bytes-requires-clause-size g c =
    let t = c.requires in
    let file = c.in_ok-file.file in
    size_stored (g.F.FileStore.state c.args.store.now).content file.number file.attrs
    (c.in_ok-file.ensures.reach t.0 t.1).1
    ∙ ap (λ x. length (bytes_of x file.number)) (sym (same_content c.find.ensures.state))

pub returns-clause-call : goal.returns-clause-call
returns-clause-call g c level =
    let file = c.in_ok-file.file in
    let leads = c.in_ok-file.ensures.reach in
    let content = (g.F.FileStore.state c.args.store.now).content in
    let tests = judged_all (read_tests c.args.cred.now file.attrs c.depth.result) (sym c.in_ok-may_read.ensures) in
    let regular = not-true (is_directory_kind file.attrs.kind) (met_first _ _ _ tests).0 in
    shown level (c.read_bytes.ensures.state ∙ c.find.ensures.state) (served.Bytes c.in_ok-new.field-0)
    (serves (read_path level c.args.cred.now c.args.path.now c.args.off c.args.len) file leads c.depth.result
    c.depth.ensures c.in_ok-may_read.ensures (λ w h. h) (λ w h. h))
    (λ w v. let r = leads w v in
    read_answer content w v.shows c.args.cred.now c.args.path.now file.number file.attrs r.0 r.1 c.args.off c.args.len
    regular c.in_ok-new.field-0
    (c.in_ok-new.ensures ∙ c.in_ok-bytes.ensures.bytes
    ∙ ap (λ x. slice_of (bytes_of x file.number) c.args.off c.min-count.result) (same_content c.find.ensures.state)
    ∙ ap (slice_of (bytes_of content file.number) c.args.off) c.min-count.ensures))
    (λ w. refl)
    (λ w n dir. refl)

pub returns-in_err-bytes-clause-call : goal.returns-in_err-bytes-clause-call
returns-in_err-bytes-clause-call g c level =
    let p = err_from_is_err_and c.from_residual-in_err-bytes.result c.from_residual-in_err-bytes.ensures.1 in
    let file = c.in_ok-file.file in
    rw (p.1, p.2) (lacking level (c.read_bytes.ensures.state ∙ c.find.ensures.state) NoMemory
    (λ w v at.
    let x = serves (read_path level c.args.cred.now c.args.path.now c.args.off c.args.len) file
    c.in_ok-file.ensures.reach c.depth.result c.depth.ensures c.in_ok-may_read.ensures (λ w h. h) (λ w h. h) w v at
    in
    (x.allowed, x.numbered, x.roomy, inr tt)))

pub returns-in_err-new-clause-call : goal.returns-in_err-new-clause-call
returns-in_err-new-clause-call g c level =
    let p = err_from_is_err_and c.from_residual-in_err-new.result c.from_residual-in_err-new.ensures.1 in
    let file = c.in_ok-file.file in
    rw (p.1, p.2) (lacking level (c.read_bytes.ensures.state ∙ c.find.ensures.state) NoMemory
    (λ w v at.
    let x = serves (read_path level c.args.cred.now c.args.path.now c.args.off c.args.len) file
    c.in_ok-file.ensures.reach c.depth.result c.depth.ensures c.in_ok-may_read.ensures (λ w h. h) (λ w h. h) w v at
    in
    (x.allowed, x.numbered, x.roomy, inr tt)))
