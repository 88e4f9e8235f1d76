use Rattle.std.proofs.Common.{refl, ap}
use Rattle.std.proofs.lemmas.Result.{err_from_is_err_and}
use Rattle.lfs_types.specs.Tree.{file_of}
use Rattle.lfs_calls.proofs.AttributeLemmas.{attrs_set, kind_stored}
use Rattle.lfs_calls.proofs.AskedLemmas.{asked_refused, asked_served}
use Rattle.lfs_calls.proofs.CallLemmas.{done, refused}
use Rattle.lfs_calls.proofs.EntryLemmas.{attrs_keep}
use Rattle.lfs_calls.proofs.PathLemmas.{chown_path, barred, not_reached, serves}
use Rattle.lfs_types.specs.StoreStates.{StoreState}
use Rattle.lfs_types.specs.declared.request.Request.TheVariants.{Chown}
use Rattle.lfs_model.specs.Effects.{effect, given}
use Rattle.lfs_calls.specs.Attributes.{SetsAttrs}
use Rattle.lfs_calls.specs.Volumes.{InWorld, IsVolume}
use Rattle.lfs_calls.proofs.attributes.chown.Goals as goal
use Rattle.lfs_calls.proofs.attributes.chown.Goals.{After-mode_after-mode}

pub returns-in_err-file-clause-call : goal.returns-in_err-file-clause-call
returns-in_err-file-clause-call g c level =
    let p = err_from_is_err_and c.from_residual.result c.from_residual.ensures.1 in
    rw (p.1, p.2) (not_reached (chown_path level c.args.cred.now c.args.path.now c.args.uid c.args.gid)
    c.find.ensures.state c.in_err-file.field-0.0 c.in_err-file.ensures.reach)

pub returns-in_err-may_chown-clause-call : goal.returns-in_err-may_chown-clause-call
returns-in_err-may_chown-clause-call g c level =
    let p = err_from_is_err_and c.from_residual-in_err-may_chown.result c.from_residual-in_err-may_chown.ensures.1 in
    rw (p.1, p.2) (barred (chown_path level c.args.cred.now c.args.path.now c.args.uid c.args.gid) c.in_ok-file.file
    c.in_ok-file.ensures.reach c.find.ensures.state c.depth.result c.depth.ensures c.in_err-may_chown.field-0.0
    c.in_err-may_chown.ensures)

pub set_attrs-requires : goal.set_attrs-requires
set_attrs-requires g c =
    let t = c.requires in
    record {
      kind = kind_stored c.args.cred.now c.args.path.now c.find.ensures.state c.in_ok-file.file
          c.in_ok-file.ensures.reach t.0 t.1;
    }

pub returns-in_err-set_attrs-clause-call : goal.returns-in_err-set_attrs-clause-call
returns-in_err-set_attrs-clause-call g c level =
    let p = err_from_is_err_and c.from_residual-in_err-set_attrs.result c.from_residual-in_err-set_attrs.ensures.1 in
    rw (p.1, p.2) (refused level c.find.ensures.state c.in_err-set_attrs.field-0.0 tt
    (serves (chown_path level c.args.cred.now c.args.path.now c.args.uid c.args.gid) c.in_ok-file.file
    c.in_ok-file.ensures.reach c.depth.result c.depth.ensures c.in_ok-may_chown.ensures (λ w h. h) (λ w h. h))
    c.in_err-set_attrs.ensures.changes)

pub returns-clause-call : goal.returns-clause-call
returns-clause-call g c level =
    done level c.find.ensures.state tt
    (serves (chown_path level c.args.cred.now c.args.path.now c.args.uid c.args.gid) c.in_ok-file.file
    c.in_ok-file.ensures.reach c.depth.result c.depth.ensures c.in_ok-may_chown.ensures (λ w h. h) (λ w h. h))
    (λ w. refl)
    (attrs_set c.args.cred.now c.args.path.now c.find.ensures.state c.in_ok-file.file c.in_ok-file.ensures.reach
    (g.F.FileStore.state c.set_attrs.new.store)
    (record c.in_ok-file.file.attrs { uid = c.args.uid; gid = c.args.gid; mode = c.mode_after-mode.result }) refl
    (given c.args.cred.now c.args.uid c.args.gid)
    (λ bytes. ap (λ m. file_of (record c.in_ok-file.file.attrs { uid = c.args.uid; gid = c.args.gid; mode = m })
    bytes) c.mode_after-mode.ensures) c.in_ok-set_attrs.ensures.changes.ok)
    (attrs_keep c.args.cred.now c.args.path.now c.find.ensures.state c.in_ok-file.file c.in_ok-file.ensures.reach
    (g.F.FileStore.state c.set_attrs.new.store) _ c.in_ok-set_attrs.ensures.changes.ok)
    c.in_ok-set_attrs.ensures.changes.follows

-- the changes make the call
makes : (g : _) (c : After-mode_after-mode g) (s : StoreState)
    → SetsAttrs (g.F.FileStore.state c.find.new.store).content s.content c.in_ok-file.file.number
    (record c.in_ok-file.file.attrs { uid = c.args.uid; gid = c.args.gid; mode = c.mode_after-mode.result })
    → InWorld (g.F.FileStore.state c.args.store.now)
    (λ w. IsVolume s (effect (g.F.FileStore.state c.args.store.now).shape.numbers w c.args.cred.now
    (Chown c.args.path.now c.args.uid c.args.gid)))
makes g c s sets =
    attrs_set c.args.cred.now c.args.path.now c.find.ensures.state c.in_ok-file.file c.in_ok-file.ensures.reach s
    (record c.in_ok-file.file.attrs { uid = c.args.uid; gid = c.args.gid; mode = c.mode_after-mode.result }) refl
    (given c.args.cred.now c.args.uid c.args.gid)
    (λ bytes. ap (λ m. file_of (record c.in_ok-file.file.attrs { uid = c.args.uid; gid = c.args.gid; mode = m })
    bytes) c.mode_after-mode.ensures) sets

pub returns-in_err-file-clause-asked : goal.returns-in_err-file-clause-asked
returns-in_err-file-clause-asked g c =
    let p = err_from_is_err_and c.from_residual.result c.from_residual.ensures.1 in
    rw (p.1, p.2) tt

pub returns-in_err-may_chown-clause-asked : goal.returns-in_err-may_chown-clause-asked
returns-in_err-may_chown-clause-asked g c =
    let p = err_from_is_err_and c.from_residual-in_err-may_chown.result c.from_residual-in_err-may_chown.ensures.1 in
    rw (p.1, p.2) tt

pub returns-in_err-set_attrs-clause-asked : goal.returns-in_err-set_attrs-clause-asked
returns-in_err-set_attrs-clause-asked g c =
    let k = (goal.at.returns-in_err-set_attrs-clause-asked g c).After-mode_after-mode in
    let p = err_from_is_err_and c.from_residual-in_err-set_attrs.result c.from_residual-in_err-set_attrs.ensures.1 in
    rw (p.1, p.2) (asked_refused g.F.FileStore.state g.F.FileStore.made
    (Chown c.args.path.now c.args.uid c.args.gid) c.args.cred.now c.find.ensures.state c.of.ensures
    (makes g k) c.in_err-set_attrs.field-0.0 c.in_err-set_attrs.ensures.asked)

pub returns-clause-asked : goal.returns-clause-asked
returns-clause-asked g c =
    let k = (goal.at.returns-clause-asked g c).After-mode_after-mode in
    asked_served g.F.FileStore.state g.F.FileStore.made
    (Chown c.args.path.now c.args.uid c.args.gid) c.args.cred.now c.find.ensures.state c.of.ensures
    (makes g k) c.in_ok-set_attrs.ensures.asked
