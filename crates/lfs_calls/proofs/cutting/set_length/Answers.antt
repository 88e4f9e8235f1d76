use Rattle.std.proofs.Common.{false, [], ◌∷◌, refl, sym, ap, ◌∙◌}
use Rattle.std.proofs.lemmas.Bool.{leb-true}
use Rattle.std.proofs.lemmas.Result.{err_from_is_err_and}
use Rattle.std.specs.Prelude.{nat_le}
use Rattle.lfs_types.specs.declared.rule.Rule.TheVariants.{FitsFile}
use Rattle.lfs_model.specs.Rules.{asks, length_tests}
use Rattle.lfs_model.proofs.Deciding.{judged_all}
use Rattle.lfs_calls.proofs.AskedLemmas.{asked_refused, asked_served}
use Rattle.lfs_calls.proofs.CallLemmas.{done, refused}
use Rattle.lfs_calls.proofs.ChangeLemmas.{change_regular, change_more}
use Rattle.lfs_calls.proofs.CutLemmas.{cut_volume}
use Rattle.lfs_types.specs.Splicing.{resized}
use Rattle.lfs_types.specs.StoreStates.{StoreState}
use Rattle.lfs_types.specs.declared.request.Request.TheVariants.{SetLength}
use Rattle.lfs_model.specs.Effects.{effect}
use Rattle.lfs_calls.specs.Volumes.{InWorld, IsVolume}
use Rattle.lfs_calls.specs.Writes.{ChangesBytes}
use Rattle.lfs_calls.proofs.EntryLemmas.{bytes_keep}
use Rattle.lfs_calls.proofs.PathLemmas.{length_path, barred, not_reached, serves}
use Rattle.lfs_calls.proofs.StateLemmas.{same_content}
use Rattle.lfs_types.specs.Stored.{shown_attrs}
use Rattle.lfs_types.specs.declared.limits.TheConstants.{FILE_BYTES}
use Rattle.lfs_calls.proofs.cutting.set_length.Goals as goal
use Rattle.lfs_calls.proofs.cutting.set_length.Goals.{In_ok-may_set_length}

pub returns-in_err-file-clause-call : goal.returns-in_err-file-clause-call
returns-in_err-file-clause-call g c level =
    let p = err_from_is_err_and c.from_residual.result c.from_residual.ensures.1 in
    rw (p.1, p.2) (not_reached (length_path level c.args.cred.now c.args.path.now c.args.len) c.find.ensures.state
    c.in_err-file.field-0.0 c.in_err-file.ensures.reach)

pub returns-in_err-may_set_length-clause-call : goal.returns-in_err-may_set_length-clause-call
returns-in_err-may_set_length-clause-call g c level =
    let p = err_from_is_err_and c.from_residual-in_err-may_set_length.result
    c.from_residual-in_err-may_set_length.ensures.1 in
    rw (p.1, p.2) (barred (length_path level c.args.cred.now c.args.path.now c.args.len) c.in_ok-file.file
    c.in_ok-file.ensures.reach c.find.ensures.state c.depth.result c.depth.ensures c.in_err-may_set_length.field-0.0
    c.in_err-may_set_length.ensures)

pub cut-requires-clause-shown : goal.cut-requires-clause-shown
cut-requires-clause-shown g c =
    let t = c.requires in
    (c.in_ok-file.ensures.reach t.0 t.1).1 ∙ ap (λ x. shown_attrs x c.in_ok-file.file.number)
    (sym (same_content c.find.ensures.state))

pub cut-requires-clause-regular : goal.cut-requires-clause-regular
cut-requires-clause-regular g c =
    change_regular c.args.cred.now false c.in_ok-file.file.attrs c.depth.result
    (asks (nat_le c.args.len FILE_BYTES) FitsFile 0 c.depth.result ∷ [])
    (judged_all (length_tests c.args.cred.now c.args.len c.in_ok-file.file.attrs c.depth.result)
    (sym c.in_ok-may_set_length.ensures))

pub cut-requires-clause-fits : goal.cut-requires-clause-fits
cut-requires-clause-fits g c =
    leb-true _ _ (change_more c.args.cred.now false c.in_ok-file.file.attrs c.depth.result
    (nat_le c.args.len FILE_BYTES) (record { rule = FitsFile; path = 0; at = c.depth.result })
    (judged_all (length_tests c.args.cred.now c.args.len c.in_ok-file.file.attrs c.depth.result)
    (sym c.in_ok-may_set_length.ensures)))

pub returns-in_err-cut-clause-call : goal.returns-in_err-cut-clause-call
returns-in_err-cut-clause-call g c level =
    let p = err_from_is_err_and c.from_residual-in_err-cut.result c.from_residual-in_err-cut.ensures.1 in
    rw (p.1, p.2) (refused level c.find.ensures.state c.in_err-cut.field-0.0 tt
    (serves (length_path level c.args.cred.now c.args.path.now c.args.len) c.in_ok-file.file c.in_ok-file.ensures.reach
    c.depth.result c.depth.ensures c.in_ok-may_set_length.ensures (λ w h. h) (λ w h. h))
    c.in_err-cut.ensures.changes)

pub returns-clause-call : goal.returns-clause-call
returns-clause-call g c level =
    let file = c.in_ok-file.file in
    let tests = judged_all (length_tests c.args.cred.now c.args.len file.attrs c.depth.result)
    (sym c.in_ok-may_set_length.ensures) in
    done level c.find.ensures.state tt
    (serves (length_path level c.args.cred.now c.args.path.now c.args.len) file c.in_ok-file.ensures.reach
    c.depth.result c.depth.ensures c.in_ok-may_set_length.ensures (λ w h. h) (λ w h. h))
    (λ w. refl)
    (cut_volume (g.F.FileStore.state c.cut.new.store) c.args.cred.now c.args.path.now c.find.ensures.state file
    c.in_ok-file.ensures.reach c.args.len
    (change_regular c.args.cred.now false file.attrs c.depth.result
    (asks (nat_le c.args.len FILE_BYTES) FitsFile 0 c.depth.result ∷ []) tests)
    (leb-true _ _ (change_more c.args.cred.now false file.attrs c.depth.result (nat_le c.args.len FILE_BYTES)
    (record { rule = FitsFile; path = 0; at = c.depth.result }) tests)) c.in_ok-cut.ensures.changes.ok)
    (bytes_keep c.args.cred.now c.args.path.now c.find.ensures.state file c.in_ok-file.ensures.reach
    (g.F.FileStore.state c.cut.new.store)
    (change_regular c.args.cred.now false file.attrs c.depth.result
    (asks (nat_le c.args.len FILE_BYTES) FitsFile 0 c.depth.result ∷ []) tests) _ c.in_ok-cut.ensures.changes.ok)
    c.in_ok-cut.ensures.changes.follows

-- the changes make the call
makes : (g : _) (c : In_ok-may_set_length g) (s : StoreState)
    → ChangesBytes (g.F.FileStore.state c.find.new.store).content s.content c.in_ok-file.file.number c.args.cred.now
    (λ old. resized old c.args.len)
    → InWorld (g.F.FileStore.state c.args.store.now)
    (λ w. IsVolume s (effect (g.F.FileStore.state c.args.store.now).shape.numbers w c.args.cred.now
    (SetLength c.args.path.now c.args.len)))
makes g c s changes =
    let file = c.in_ok-file.file in
    let tests = judged_all (length_tests c.args.cred.now c.args.len file.attrs c.depth.result)
    (sym c.in_ok-may_set_length.ensures) in
    cut_volume s c.args.cred.now c.args.path.now c.find.ensures.state file c.in_ok-file.ensures.reach c.args.len
    (change_regular c.args.cred.now false file.attrs c.depth.result
    (asks (nat_le c.args.len FILE_BYTES) FitsFile 0 c.depth.result ∷ []) tests)
    (leb-true _ _ (change_more c.args.cred.now false file.attrs c.depth.result (nat_le c.args.len FILE_BYTES)
    (record { rule = FitsFile; path = 0; at = c.depth.result }) tests)) changes

pub returns-in_err-file-clause-asked : goal.returns-in_err-file-clause-asked
returns-in_err-file-clause-asked g c =
    let p = err_from_is_err_and c.from_residual.result c.from_residual.ensures.1 in
    rw (p.1, p.2) tt

pub returns-in_err-may_set_length-clause-asked : goal.returns-in_err-may_set_length-clause-asked
returns-in_err-may_set_length-clause-asked g c =
    let p = err_from_is_err_and c.from_residual-in_err-may_set_length.result
    c.from_residual-in_err-may_set_length.ensures.1 in
    rw (p.1, p.2) tt

pub returns-in_err-cut-clause-asked : goal.returns-in_err-cut-clause-asked
returns-in_err-cut-clause-asked g c =
    let k = (goal.at.returns-in_err-cut-clause-asked g c).In_ok-may_set_length in
    let p = err_from_is_err_and c.from_residual-in_err-cut.result c.from_residual-in_err-cut.ensures.1 in
    rw (p.1, p.2) (asked_refused g.F.FileStore.state g.F.FileStore.made
    (SetLength c.args.path.now c.args.len) c.args.cred.now c.find.ensures.state refl
    (makes g k) c.in_err-cut.field-0.0 c.in_err-cut.ensures.asked)

pub returns-clause-asked : goal.returns-clause-asked
returns-clause-asked g c =
    let k = (goal.at.returns-clause-asked g c).In_ok-may_set_length in
    asked_served g.F.FileStore.state g.F.FileStore.made
    (SetLength c.args.path.now c.args.len) c.args.cred.now c.find.ensures.state refl
    (makes g k) c.in_ok-cut.ensures.asked
