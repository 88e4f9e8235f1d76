use Rattle.std.proofs.Common.{refl, sym, subst}
use Rattle.lfs_calls.specs.Asked.{IsAsked}
use Rattle.lfs_calls.specs.Calls.{IsCallAt, answered}
use Rattle.lfs_calls.proofs.LevelLemmas.{kept}
use Rattle.lfs_calls.proofs.serving.serve.Goals as goal

pub returns-in-Stat-clause-call : goal.returns-in-Stat-clause-call
returns-in-Stat-clause-call g c =
    subst (λ r. IsCallAt c.args.level.now (g.F.FileStore.state c.args.store.now)
    (g.F.FileStore.state c.stat.new.store) c.args.cred.now r c.stat.result) (sym c.in-Stat.is)
    (c.stat.ensures.call c.args.level.now)

pub returns-in-Read-clause-call : goal.returns-in-Read-clause-call
returns-in-Read-clause-call g c =
    subst (λ r. IsCallAt c.args.level.now (g.F.FileStore.state c.args.store.now)
    (g.F.FileStore.state c.read.new.store) c.args.cred.now r c.read.result) (sym c.in-Read.is)
    (c.read.ensures.call c.args.level.now)

pub returns-in-List-clause-call : goal.returns-in-List-clause-call
returns-in-List-clause-call g c =
    subst (λ r. IsCallAt c.args.level.now (g.F.FileStore.state c.args.store.now)
    (g.F.FileStore.state c.list.new.store) c.args.cred.now r c.list.result) (sym c.in-List.is)
    (c.list.ensures.call c.args.level.now)

pub returns-in-Write-clause-call : goal.returns-in-Write-clause-call
returns-in-Write-clause-call g c =
    subst (λ r. IsCallAt c.args.level.now (g.F.FileStore.state c.args.store.now)
    (g.F.FileStore.state c.write.new.store) c.args.cred.now r c.write.result) (sym c.in-Write.is)
    (c.write.ensures.call c.args.level.now)

pub returns-in-SetLength-clause-call : goal.returns-in-SetLength-clause-call
returns-in-SetLength-clause-call g c =
    subst (λ r. IsCallAt c.args.level.now (g.F.FileStore.state c.args.store.now)
    (g.F.FileStore.state c.set_length.new.store) c.args.cred.now r c.set_length.result) (sym c.in-SetLength.is)
    (c.set_length.ensures.call c.args.level.now)

pub returns-in-Chmod-clause-call : goal.returns-in-Chmod-clause-call
returns-in-Chmod-clause-call g c =
    subst (λ r. IsCallAt c.args.level.now (g.F.FileStore.state c.args.store.now)
    (g.F.FileStore.state c.chmod.new.store) c.args.cred.now r c.chmod.result) (sym c.in-Chmod.is)
    (c.chmod.ensures.call c.args.level.now)

pub returns-in-Chown-clause-call : goal.returns-in-Chown-clause-call
returns-in-Chown-clause-call g c =
    subst (λ r. IsCallAt c.args.level.now (g.F.FileStore.state c.args.store.now)
    (g.F.FileStore.state c.chown.new.store) c.args.cred.now r c.chown.result) (sym c.in-Chown.is)
    (c.chown.ensures.call c.args.level.now)

pub returns-in-Sync-clause-call : goal.returns-in-Sync-clause-call
returns-in-Sync-clause-call g c =
    subst (λ r. IsCallAt c.args.level.now (g.F.FileStore.state c.args.store.now)
    (g.F.FileStore.state c.sync.new.store) c.args.cred.now r c.sync.result) (sym c.in-Sync.is)
    (c.sync.ensures.call c.args.cred.now c.args.level.now)

pub returns-in-Create-clause-call : goal.returns-in-Create-clause-call
returns-in-Create-clause-call g c =
    subst (λ r. IsCallAt c.args.level.now (g.F.FileStore.state c.args.store.now)
    (g.F.FileStore.state c.create.new.store) c.args.cred.now r c.create.result) (sym c.in-Create.is)
    (c.create.ensures.call c.args.level.now)

pub returns-in-Mkdir-clause-call : goal.returns-in-Mkdir-clause-call
returns-in-Mkdir-clause-call g c =
    subst (λ r. IsCallAt c.args.level.now (g.F.FileStore.state c.args.store.now)
    (g.F.FileStore.state c.mkdir.new.store) c.args.cred.now r c.mkdir.result) (sym c.in-Mkdir.is)
    (c.mkdir.ensures.call c.args.level.now)

pub returns-in-Unlink-clause-call : goal.returns-in-Unlink-clause-call
returns-in-Unlink-clause-call g c =
    subst (λ r. IsCallAt c.args.level.now (g.F.FileStore.state c.args.store.now)
    (g.F.FileStore.state c.unlink.new.store) c.args.cred.now r c.unlink.result) (sym c.in-Unlink.is)
    (c.unlink.ensures.call c.args.level.now)

pub returns-in-Rmdir-clause-call : goal.returns-in-Rmdir-clause-call
returns-in-Rmdir-clause-call g c =
    subst (λ r. IsCallAt c.args.level.now (g.F.FileStore.state c.args.store.now)
    (g.F.FileStore.state c.rmdir.new.store) c.args.cred.now r c.rmdir.result) (sym c.in-Rmdir.is)
    (c.rmdir.ensures.call c.args.level.now)

pub returns-in-Rename-clause-call : goal.returns-in-Rename-clause-call
returns-in-Rename-clause-call g c =
    subst (λ r. IsCallAt c.args.level.now (g.F.FileStore.state c.args.store.now)
    (g.F.FileStore.state c.rename.new.store) c.args.cred.now r c.rename.result) (sym c.in-Rename.is)
    (c.rename.ensures.call c.args.level.now)

pub returns-in-Write-clause-asked : goal.returns-in-Write-clause-asked
returns-in-Write-clause-asked g c =
    subst (λ r. IsAsked g.F.FileStore.state g.F.FileStore.made c.args.store.now c.args.cred.now r
    (answered c.write.result) c.write.new.store) (sym c.in-Write.is) c.write.ensures.asked

pub returns-in-SetLength-clause-asked : goal.returns-in-SetLength-clause-asked
returns-in-SetLength-clause-asked g c =
    subst (λ r. IsAsked g.F.FileStore.state g.F.FileStore.made c.args.store.now c.args.cred.now r
    (answered c.set_length.result) c.set_length.new.store) (sym c.in-SetLength.is) c.set_length.ensures.asked

pub returns-in-Create-clause-asked : goal.returns-in-Create-clause-asked
returns-in-Create-clause-asked g c =
    subst (λ r. IsAsked g.F.FileStore.state g.F.FileStore.made c.args.store.now c.args.cred.now r
    (answered c.create.result) c.create.new.store) (sym c.in-Create.is) c.create.ensures.asked

pub returns-in-Mkdir-clause-asked : goal.returns-in-Mkdir-clause-asked
returns-in-Mkdir-clause-asked g c =
    subst (λ r. IsAsked g.F.FileStore.state g.F.FileStore.made c.args.store.now c.args.cred.now r
    (answered c.mkdir.result) c.mkdir.new.store) (sym c.in-Mkdir.is) c.mkdir.ensures.asked

pub returns-in-Unlink-clause-asked : goal.returns-in-Unlink-clause-asked
returns-in-Unlink-clause-asked g c =
    subst (λ r. IsAsked g.F.FileStore.state g.F.FileStore.made c.args.store.now c.args.cred.now r
    (answered c.unlink.result) c.unlink.new.store) (sym c.in-Unlink.is) c.unlink.ensures.asked

pub returns-in-Rmdir-clause-asked : goal.returns-in-Rmdir-clause-asked
returns-in-Rmdir-clause-asked g c =
    subst (λ r. IsAsked g.F.FileStore.state g.F.FileStore.made c.args.store.now c.args.cred.now r
    (answered c.rmdir.result) c.rmdir.new.store) (sym c.in-Rmdir.is) c.rmdir.ensures.asked

pub returns-in-Rename-clause-asked : goal.returns-in-Rename-clause-asked
returns-in-Rename-clause-asked g c =
    subst (λ r. IsAsked g.F.FileStore.state g.F.FileStore.made c.args.store.now c.args.cred.now r
    (answered c.rename.result) c.rename.new.store) (sym c.in-Rename.is) c.rename.ensures.asked

pub returns-in-Chmod-clause-asked : goal.returns-in-Chmod-clause-asked
returns-in-Chmod-clause-asked g c =
    subst (λ r. IsAsked g.F.FileStore.state g.F.FileStore.made c.args.store.now c.args.cred.now r
    (answered c.chmod.result) c.chmod.new.store) (sym c.in-Chmod.is) c.chmod.ensures.asked

pub returns-in-Chown-clause-asked : goal.returns-in-Chown-clause-asked
returns-in-Chown-clause-asked g c =
    subst (λ r. IsAsked g.F.FileStore.state g.F.FileStore.made c.args.store.now c.args.cred.now r
    (answered c.chown.result) c.chown.new.store) (sym c.in-Chown.is) c.chown.ensures.asked

pub returns-in-Chflags-clause-asked : goal.returns-in-Chflags-clause-asked
returns-in-Chflags-clause-asked g c =
    subst (λ r. IsAsked g.F.FileStore.state g.F.FileStore.made c.args.store.now c.args.cred.now r
    (answered c.chflags.result) c.chflags.new.store) (sym c.in-Chflags.is) c.chflags.ensures.asked

pub returns-in-Stat-clause-asked : goal.returns-in-Stat-clause-asked
returns-in-Stat-clause-asked g c =
    subst (λ r. IsAsked g.F.FileStore.state g.F.FileStore.made c.args.store.now c.args.cred.now r
    (answered c.stat.result) c.stat.new.store) (sym c.in-Stat.is) tt

pub returns-in-Read-clause-asked : goal.returns-in-Read-clause-asked
returns-in-Read-clause-asked g c =
    subst (λ r. IsAsked g.F.FileStore.state g.F.FileStore.made c.args.store.now c.args.cred.now r
    (answered c.read.result) c.read.new.store) (sym c.in-Read.is) tt

pub returns-in-List-clause-asked : goal.returns-in-List-clause-asked
returns-in-List-clause-asked g c =
    subst (λ r. IsAsked g.F.FileStore.state g.F.FileStore.made c.args.store.now c.args.cred.now r
    (answered c.list.result) c.list.new.store) (sym c.in-List.is) tt

pub returns-in-SetLevel-clause-asked : goal.returns-in-SetLevel-clause-asked
returns-in-SetLevel-clause-asked g c =
    subst (λ r. IsAsked g.F.FileStore.state g.F.FileStore.made c.args.store.now c.args.cred.now r
    (answered c.set_level.result) c.set_level.new.store) (sym c.in-SetLevel.is) tt

pub returns-in-Sync-clause-asked : goal.returns-in-Sync-clause-asked
returns-in-Sync-clause-asked g c =
    subst (λ r. IsAsked g.F.FileStore.state g.F.FileStore.made c.args.store.now c.args.cred.now r
    (answered c.sync.result) c.sync.new.store) (sym c.in-Sync.is) tt

pub returns-in-Stat-clause-level : goal.returns-in-Stat-clause-level
returns-in-Stat-clause-level g c = kept c.args.level.now _ _ (answered c.stat.result) c.in-Stat.is refl

pub returns-in-Read-clause-level : goal.returns-in-Read-clause-level
returns-in-Read-clause-level g c = kept c.args.level.now _ _ (answered c.read.result) c.in-Read.is refl

pub returns-in-List-clause-level : goal.returns-in-List-clause-level
returns-in-List-clause-level g c = kept c.args.level.now _ _ (answered c.list.result) c.in-List.is refl

pub returns-in-Write-clause-level : goal.returns-in-Write-clause-level
returns-in-Write-clause-level g c = kept c.args.level.now _ _ (answered c.write.result) c.in-Write.is refl

pub returns-in-SetLength-clause-level : goal.returns-in-SetLength-clause-level
returns-in-SetLength-clause-level g c = kept c.args.level.now _ _ (answered c.set_length.result) c.in-SetLength.is refl

pub returns-in-Create-clause-level : goal.returns-in-Create-clause-level
returns-in-Create-clause-level g c = kept c.args.level.now _ _ (answered c.create.result) c.in-Create.is refl

pub returns-in-Mkdir-clause-level : goal.returns-in-Mkdir-clause-level
returns-in-Mkdir-clause-level g c = kept c.args.level.now _ _ (answered c.mkdir.result) c.in-Mkdir.is refl

pub returns-in-Unlink-clause-level : goal.returns-in-Unlink-clause-level
returns-in-Unlink-clause-level g c = kept c.args.level.now _ _ (answered c.unlink.result) c.in-Unlink.is refl

pub returns-in-Rmdir-clause-level : goal.returns-in-Rmdir-clause-level
returns-in-Rmdir-clause-level g c = kept c.args.level.now _ _ (answered c.rmdir.result) c.in-Rmdir.is refl

pub returns-in-Rename-clause-level : goal.returns-in-Rename-clause-level
returns-in-Rename-clause-level g c = kept c.args.level.now _ _ (answered c.rename.result) c.in-Rename.is refl

pub returns-in-Chmod-clause-level : goal.returns-in-Chmod-clause-level
returns-in-Chmod-clause-level g c = kept c.args.level.now _ _ (answered c.chmod.result) c.in-Chmod.is refl

pub returns-in-Chown-clause-level : goal.returns-in-Chown-clause-level
returns-in-Chown-clause-level g c = kept c.args.level.now _ _ (answered c.chown.result) c.in-Chown.is refl

pub returns-in-Chflags-clause-level : goal.returns-in-Chflags-clause-level
returns-in-Chflags-clause-level g c = kept c.args.level.now _ _ (answered c.chflags.result) c.in-Chflags.is refl

pub returns-in-Sync-clause-level : goal.returns-in-Sync-clause-level
returns-in-Sync-clause-level g c = kept c.args.level.now _ _ (answered c.sync.result) c.in-Sync.is refl
