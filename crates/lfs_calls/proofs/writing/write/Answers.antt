use Rattle.std.proofs.Common.{◌≡◌, ◌≤◌, ℕ, ◌+◌, true, false, List, [], ◌∷◌, length, Ok, refl, sym, ap, subst, ◌∙◌}
use Rattle.std.proofs.Common.{arith}
use Rattle.std.specs.Prelude.{◌==◌, nat_le}
use Rattle.std.proofs.lemmas.Bool.{leb-true}
use Rattle.std.proofs.lemmas.Result.{err_from_is_err_and}
use Rattle.lfs_types.specs.Kinds.{is_directory_kind}
use Rattle.lfs_types.specs.declared.answer.Served.TheVariants.{Done}
use Rattle.lfs_types.specs.declared.rule.Rule.TheVariants.{FitsFile}
use Rattle.lfs_model.specs.Effects.{after_write, effect}
use Rattle.lfs_model.specs.Rules.{asks, is_end, judged, start_in, write_tests}
use Rattle.lfs_model.proofs.Deciding.{judged_all}
use Rattle.lfs_calls.specs.Volumes.{InWorld, IsVolume}
use Rattle.lfs_types.specs.Splicing.{splice}
use Rattle.lfs_types.specs.StoreStates.{StoreState}
use Rattle.lfs_types.specs.declared.request.Request.TheVariants.{Write}
use Rattle.lfs_calls.specs.Content.{Shows}
use Rattle.lfs_calls.specs.Writes.{ChangesBytes}
use Rattle.lfs_calls.proofs.AskedLemmas.{asked_refused, asked_served}
use Rattle.lfs_calls.proofs.CallLemmas.{done, refused, shown}
use Rattle.lfs_calls.proofs.ChangeLemmas.{change_regular, change_more, size_fits}
use Rattle.lfs_calls.proofs.EntryLemmas.{bytes_keep}
use Rattle.lfs_calls.proofs.PathLemmas.{write_path, barred, not_reached, serves}
use Rattle.lfs_calls.proofs.WriteLemmas.{write_volume, write_nothing}
use Rattle.lfs_calls.proofs.writing.write.Goals as goal
use Rattle.lfs_types.specs.declared.limits.TheConstants.{FILE_BYTES}
use Rattle.lfs_calls.proofs.writing.write.Goals.{After-start_in, In_ok-may_write}

tested : (g : _) (c : In_ok-may_write g) → Ok tt
    ≡ judged (write_tests c.args.cred.now c.args.place (length c.args.bytes.now) c.in_ok-file.file.attrs c.depth.result)
tested g c = c.in_ok-may_write.ensures ∙ ap
    (λ n. judged (write_tests c.args.cred.now c.args.place n c.in_ok-file.file.attrs c.depth.result))
    (ap (λ (bs : List ℕ). length bs) c.as_slice-bytes.ensures.value)

regular : (g : _) (c : In_ok-may_write g) → is_directory_kind c.in_ok-file.file.attrs.kind ≡ false
regular g c =
    let a = c.in_ok-file.file.attrs in
    change_regular c.args.cred.now (is_end c.args.place) a c.depth.result
    (asks (nat_le (start_in c.args.place a.size + length c.as_slice-bytes.result.now) FILE_BYTES) FitsFile 0
    c.depth.result ∷ [])
    (judged_all (write_tests c.args.cred.now c.args.place (length c.as_slice-bytes.result.now) a c.depth.result)
    (sym c.in_ok-may_write.ensures))

fitting : (g : _) (c : In_ok-may_write g)
    → nat_le (start_in c.args.place c.in_ok-file.file.attrs.size + length c.as_slice-bytes.result.now) FILE_BYTES ≡ true
fitting g c =
    let a = c.in_ok-file.file.attrs in
    change_more c.args.cred.now (is_end c.args.place) a c.depth.result
    (nat_le (start_in c.args.place a.size + length c.as_slice-bytes.result.now) FILE_BYTES)
    (record { rule = FitsFile; path = 0; at = c.depth.result })
    (judged_all (write_tests c.args.cred.now c.args.place (length c.as_slice-bytes.result.now) a c.depth.result)
    (sym c.in_ok-may_write.ensures))

pub returns-in_err-file-clause-call : goal.returns-in_err-file-clause-call
returns-in_err-file-clause-call g c level =
    let p = err_from_is_err_and c.from_residual.result c.from_residual.ensures.1 in
    rw (p.1, p.2) (not_reached (write_path level c.args.cred.now c.args.path.now c.args.place c.args.bytes.now)
    c.find.ensures.state c.in_err-file.field-0.0 c.in_err-file.ensures.reach)

pub returns-in_err-may_write-clause-call : goal.returns-in_err-may_write-clause-call
returns-in_err-may_write-clause-call g c level =
    let p = err_from_is_err_and c.from_residual-in_err-may_write.result c.from_residual-in_err-may_write.ensures.1 in
    let count = ap (λ (bs : List ℕ). length bs) c.as_slice-bytes.ensures.value in
    rw (p.1, p.2) (barred (write_path level c.args.cred.now c.args.path.now c.args.place c.args.bytes.now)
    c.in_ok-file.file c.in_ok-file.ensures.reach c.find.ensures.state c.depth.result c.depth.ensures
    c.in_err-may_write.field-0.0
    (c.in_err-may_write.ensures ∙ ap (λ n. judged
    (write_tests c.args.cred.now c.args.place n c.in_ok-file.file.attrs c.depth.result)) count))

pub returns-then-is_empty-clause-call : goal.returns-then-is_empty-clause-call
returns-then-is_empty-clause-call g c level =
    let k = (goal.at.returns-then-is_empty-clause-call g c).In_ok-may_write in
    let none : (length c.args.bytes.now == 0)
    ≡ true = ap (λ (bs : List ℕ). length bs == 0) (sym c.as_slice-bytes.ensures.value)
    ∙ sym c.if-is_empty.ensures in
    shown level c.find.ensures.state Done
    (serves (write_path level c.args.cred.now c.args.path.now c.args.place c.args.bytes.now) c.in_ok-file.file
    c.in_ok-file.ensures.reach c.depth.result c.depth.ensures (tested g k) (λ w h. h) (λ w h. h))
    (λ w v. refl)
    (λ w. write_nothing w c.args.cred.now c.args.path.now c.args.place c.args.bytes.now none)
    (λ w n dir. refl)

pub put-requires-clause-fits : goal.put-requires-clause-fits
put-requires-clause-fits g c =
    let k = (goal.at.put-requires-clause-fits g c).In_ok-may_write in
    omega (arith, leb-true _ _ (fitting g k), c.start_in.ensures)

pub put-requires-clause-size : goal.put-requires-clause-size
put-requires-clause-size g c =
    let k = (goal.at.put-requires-clause-size g c).In_ok-may_write in
    let t = c.requires in
    size_fits (g.F.FileStore.state c.args.store.now).content t.0 t.1.shows c.in_ok-file.file.number
    c.in_ok-file.file.attrs (c.in_ok-file.ensures.reach t.0 t.1).1 (regular g k)

pub returns-in_err-put-clause-call : goal.returns-in_err-put-clause-call
returns-in_err-put-clause-call g c level =
    let k = (goal.at.returns-in_err-put-clause-call g c).In_ok-may_write in
    let p = err_from_is_err_and c.from_residual-in_err-put.result c.from_residual-in_err-put.ensures.1 in
    rw (p.1, p.2) (refused level c.find.ensures.state c.in_err-put.field-0.0 tt
    (serves (write_path level c.args.cred.now c.args.path.now c.args.place c.args.bytes.now) c.in_ok-file.file
    c.in_ok-file.ensures.reach c.depth.result c.depth.ensures (tested g k) (λ w h. h) (λ w h. h))
    c.in_err-put.ensures.changes)

pub returns-clause-call : goal.returns-clause-call
returns-clause-call g c level =
    let k = (goal.at.returns-clause-call g c).In_ok-may_write in
    let old = g.F.FileStore.state c.args.store.now in
    let new = g.F.FileStore.state c.put.new.store in
    let bytes = c.as_slice-bytes.result.now in
    let some : (length bytes == 0) ≡ false = sym c.if-is_empty.ensures in
    done level c.find.ensures.state tt
    (serves (write_path level c.args.cred.now c.args.path.now c.args.place c.args.bytes.now) c.in_ok-file.file
    c.in_ok-file.ensures.reach c.depth.result c.depth.ensures (tested g k) (λ w h. h) (λ w h. h))
    (λ w. refl)
    (subst (λ (bs : List ℕ). InWorld old (λ w. IsVolume new
    (after_write w c.args.cred.now c.args.path.now c.args.place bs))) c.as_slice-bytes.ensures.value
    (write_volume new c.args.cred.now c.args.path.now c.args.place c.find.ensures.state c.in_ok-file.file
    c.in_ok-file.ensures.reach (regular g k) c.start_in.result bytes some c.start_in.ensures
    (omega (arith, leb-true _ _ (fitting g k), c.start_in.ensures)) c.in_ok-put.ensures.changes.ok))
    (bytes_keep c.args.cred.now c.args.path.now c.find.ensures.state c.in_ok-file.file c.in_ok-file.ensures.reach new
    (regular g k) _ c.in_ok-put.ensures.changes.ok)
    c.in_ok-put.ensures.changes.follows

-- the changes make the call
makes : (g : _) (c : After-start_in g) → is_directory_kind c.in_ok-file.file.attrs.kind ≡ false → c.start_in.result
    + length c.as_slice-bytes.result.now ≤ FILE_BYTES
    → (s : StoreState) → ChangesBytes (g.F.FileStore.state c.find.new.store).content s.content c.in_ok-file.file.number
    c.args.cred.now (λ old. splice old c.start_in.result c.as_slice-bytes.result.now)
    → InWorld (g.F.FileStore.state c.args.store.now)
    (λ w. IsVolume s (effect (g.F.FileStore.state c.args.store.now).shape.numbers w c.args.cred.now
    (Write c.args.path.now c.args.place c.args.bytes.now)))
makes g c regular fits s changes =
    let old = g.F.FileStore.state c.args.store.now in
    subst (λ (bs : List ℕ). InWorld old (λ w. IsVolume s
    (after_write w c.args.cred.now c.args.path.now c.args.place bs))) c.as_slice-bytes.ensures.value
    (write_volume s c.args.cred.now c.args.path.now c.args.place c.find.ensures.state c.in_ok-file.file
    c.in_ok-file.ensures.reach regular c.start_in.result c.as_slice-bytes.result.now
    (sym c.if-is_empty.ensures) c.start_in.ensures
    fits changes)

pub returns-in_err-file-clause-asked : goal.returns-in_err-file-clause-asked
returns-in_err-file-clause-asked g c =
    let p = err_from_is_err_and c.from_residual.result c.from_residual.ensures.1 in
    rw (p.1, p.2) tt

pub returns-in_err-may_write-clause-asked : goal.returns-in_err-may_write-clause-asked
returns-in_err-may_write-clause-asked g c =
    let p = err_from_is_err_and c.from_residual-in_err-may_write.result c.from_residual-in_err-may_write.ensures.1 in
    rw (p.1, p.2) tt

-- no bytes change nothing, and no store is asked
pub returns-then-is_empty-clause-asked : goal.returns-then-is_empty-clause-asked
returns-then-is_empty-clause-asked g c =
    let none : (length c.args.bytes.now == 0)
    ≡ true = ap (λ (bs : List ℕ). length bs == 0) (sym c.as_slice-bytes.ensures.value)
    ∙ sym c.if-is_empty.ensures in
    record {
      changes = [];
      came = (refl, c.find.ensures.state);
      makes = λ w v. subst (Shows (g.F.FileStore.state c.args.store.now).content)
          (sym (write_nothing w c.args.cred.now c.args.path.now c.args.place c.args.bytes.now none)) v.shows;
    }

pub returns-in_err-put-clause-asked : goal.returns-in_err-put-clause-asked
returns-in_err-put-clause-asked g c =
    let k = (goal.at.returns-in_err-put-clause-asked g c).After-start_in in
    let r = (goal.at.returns-in_err-put-clause-asked g c).In_ok-may_write in
    let fits : c.start_in.result + length c.as_slice-bytes.result.now ≤ FILE_BYTES =
    omega (arith, leb-true _ _ (fitting g r), c.start_in.ensures) in
    let p = err_from_is_err_and c.from_residual-in_err-put.result c.from_residual-in_err-put.ensures.1 in
    rw (p.1, p.2) (asked_refused g.F.FileStore.state g.F.FileStore.made
    (Write c.args.path.now c.args.place c.args.bytes.now) c.args.cred.now c.find.ensures.state refl
    (makes g k (regular g r) fits) c.in_err-put.field-0.0 c.in_err-put.ensures.asked)

pub returns-clause-asked : goal.returns-clause-asked
returns-clause-asked g c =
    let k = (goal.at.returns-clause-asked g c).After-start_in in
    let r = (goal.at.returns-clause-asked g c).In_ok-may_write in
    let fits : c.start_in.result + length c.as_slice-bytes.result.now ≤ FILE_BYTES =
    omega (arith, leb-true _ _ (fitting g r), c.start_in.ensures) in
    asked_served g.F.FileStore.state g.F.FileStore.made
    (Write c.args.path.now c.args.place c.args.bytes.now) c.args.cred.now c.find.ensures.state refl
    (makes g k (regular g r) fits) c.in_ok-put.ensures.asked
