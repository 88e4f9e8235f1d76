use Rattle.std.proofs.Common.{refl}
use Rattle.std.proofs.lemmas.Result.{err_from_is_err_and}
use Rattle.lfs_types.specs.Tree.{File}
use Rattle.lfs_calls.proofs.AttributeLemmas.{attrs_set, kind_stored}
use Rattle.lfs_calls.proofs.AskedLemmas.{asked_refused, asked_served}
use Rattle.lfs_calls.proofs.CallLemmas.{done, refused}
use Rattle.lfs_calls.proofs.EntryLemmas.{attrs_keep}
use Rattle.lfs_calls.proofs.PathLemmas.{chmod_path, barred, not_reached, serves}
use Rattle.lfs_types.specs.StoreStates.{StoreState}
use Rattle.lfs_types.specs.declared.request.Request.TheVariants.{Chmod}
use Rattle.lfs_model.specs.Effects.{effect}
use Rattle.lfs_calls.specs.Attributes.{SetsAttrs}
use Rattle.lfs_calls.specs.Volumes.{InWorld, IsVolume}
use Rattle.lfs_calls.proofs.attributes.chmod.Goals as goal
use Rattle.lfs_calls.proofs.attributes.chmod.Goals.{In_ok-may_chmod}

pub returns-in_err-file-clause-call : goal.returns-in_err-file-clause-call
returns-in_err-file-clause-call g c level =
    let p = err_from_is_err_and c.from_residual.result c.from_residual.ensures.1 in
    rw (p.1, p.2) (not_reached (chmod_path level c.args.cred.now c.args.path.now c.args.mode) c.find.ensures.state
    c.in_err-file.field-0.0 c.in_err-file.ensures.reach)

pub returns-in_err-may_chmod-clause-call : goal.returns-in_err-may_chmod-clause-call
returns-in_err-may_chmod-clause-call g c level =
    let p = err_from_is_err_and c.from_residual-in_err-may_chmod.result c.from_residual-in_err-may_chmod.ensures.1 in
    rw (p.1, p.2) (barred (chmod_path level c.args.cred.now c.args.path.now c.args.mode) c.in_ok-file.file
    c.in_ok-file.ensures.reach c.find.ensures.state c.depth.result c.depth.ensures c.in_err-may_chmod.field-0.0
    c.in_err-may_chmod.ensures)

pub set_attrs-requires : goal.set_attrs-requires
set_attrs-requires g c =
    let t = c.requires in
    record {
      kind = kind_stored c.args.cred.now c.args.path.now c.find.ensures.state c.in_ok-file.file
          c.in_ok-file.ensures.reach t.0 t.1;
    }

pub returns-in_err-set_attrs-clause-call : goal.returns-in_err-set_attrs-clause-call
returns-in_err-set_attrs-clause-call g c level =
    let p = err_from_is_err_and c.from_residual-in_err-set_attrs.result c.from_residual-in_err-set_attrs.ensures.1 in
    rw (p.1, p.2) (refused level c.find.ensures.state c.in_err-set_attrs.field-0.0 tt
    (serves (chmod_path level c.args.cred.now c.args.path.now c.args.mode) c.in_ok-file.file c.in_ok-file.ensures.reach
    c.depth.result c.depth.ensures c.in_ok-may_chmod.ensures (λ w h. h) (λ w h. h))
    c.in_err-set_attrs.ensures.changes)

pub returns-clause-call : goal.returns-clause-call
returns-clause-call g c level =
    done level c.find.ensures.state tt
    (serves (chmod_path level c.args.cred.now c.args.path.now c.args.mode) c.in_ok-file.file c.in_ok-file.ensures.reach
    c.depth.result c.depth.ensures c.in_ok-may_chmod.ensures (λ w h. h) (λ w h. h))
    (λ w. refl)
    (attrs_set c.args.cred.now c.args.path.now c.find.ensures.state c.in_ok-file.file c.in_ok-file.ensures.reach
    (g.F.FileStore.state c.set_attrs.new.store) (record c.in_ok-file.file.attrs { mode = c.args.mode }) refl
    (λ (f : File). record f { mode = c.args.mode }) (λ bytes. refl) c.in_ok-set_attrs.ensures.changes.ok)
    (attrs_keep c.args.cred.now c.args.path.now c.find.ensures.state c.in_ok-file.file c.in_ok-file.ensures.reach
    (g.F.FileStore.state c.set_attrs.new.store) _ c.in_ok-set_attrs.ensures.changes.ok)
    c.in_ok-set_attrs.ensures.changes.follows

-- the changes make the call
makes : (g : _) (c : In_ok-may_chmod g) (s : StoreState)
    → SetsAttrs (g.F.FileStore.state c.find.new.store).content s.content c.in_ok-file.file.number
    (record c.in_ok-file.file.attrs { mode = c.args.mode })
    → InWorld (g.F.FileStore.state c.args.store.now)
    (λ w. IsVolume s (effect (g.F.FileStore.state c.args.store.now).shape.numbers w c.args.cred.now
    (Chmod c.args.path.now c.args.mode)))
makes g c s sets =
    attrs_set c.args.cred.now c.args.path.now c.find.ensures.state c.in_ok-file.file c.in_ok-file.ensures.reach s
    (record c.in_ok-file.file.attrs { mode = c.args.mode }) refl (λ (f : File). record f { mode = c.args.mode })
    (λ bytes. refl) sets

pub returns-in_err-file-clause-asked : goal.returns-in_err-file-clause-asked
returns-in_err-file-clause-asked g c =
    let p = err_from_is_err_and c.from_residual.result c.from_residual.ensures.1 in
    rw (p.1, p.2) tt

pub returns-in_err-may_chmod-clause-asked : goal.returns-in_err-may_chmod-clause-asked
returns-in_err-may_chmod-clause-asked g c =
    let p = err_from_is_err_and c.from_residual-in_err-may_chmod.result c.from_residual-in_err-may_chmod.ensures.1 in
    rw (p.1, p.2) tt

pub returns-in_err-set_attrs-clause-asked : goal.returns-in_err-set_attrs-clause-asked
returns-in_err-set_attrs-clause-asked g c =
    let k = (goal.at.returns-in_err-set_attrs-clause-asked g c).In_ok-may_chmod in
    let p = err_from_is_err_and c.from_residual-in_err-set_attrs.result c.from_residual-in_err-set_attrs.ensures.1 in
    rw (p.1, p.2) (asked_refused g.F.FileStore.state g.F.FileStore.made
    (Chmod c.args.path.now c.args.mode) c.args.cred.now c.find.ensures.state c.of.ensures
    (makes g k) c.in_err-set_attrs.field-0.0 c.in_err-set_attrs.ensures.asked)

pub returns-clause-asked : goal.returns-clause-asked
returns-clause-asked g c =
    let k = (goal.at.returns-clause-asked g c).In_ok-may_chmod in
    asked_served g.F.FileStore.state g.F.FileStore.made
    (Chmod c.args.path.now c.args.mode) c.args.cred.now c.find.ensures.state c.of.ensures
    (makes g k) c.in_ok-set_attrs.ensures.asked
