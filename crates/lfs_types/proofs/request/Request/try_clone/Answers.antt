use Rattle.lfs_types.proofs.request.Request.try_clone.Goals as goal
use Rattle.lfs_types.proofs.request.Request.try_clone.Goals.{in-Stat+in_ok-try_clone-in-Stat}
use Rattle.lfs_types.proofs.request.Request.try_clone.Goals.{in-Read+in_ok-try_clone-in-Read}
use Rattle.lfs_types.proofs.request.Request.try_clone.Goals.{in-Write+in_ok-copied_write-in-Write}
use Rattle.lfs_types.proofs.request.Request.try_clone.Goals.{in-List+in_ok-try_clone-in-List}
use Rattle.lfs_types.proofs.request.Request.try_clone.Goals.{in-SetLength+in_ok-try_clone-in-SetLength}
use Rattle.lfs_types.proofs.request.Request.try_clone.Goals.{in-Create+in_ok-try_clone-in-Create}
use Rattle.lfs_types.proofs.request.Request.try_clone.Goals.{in-Mkdir+in_ok-try_clone-in-Mkdir}
use Rattle.lfs_types.proofs.request.Request.try_clone.Goals.{in-Unlink+in_ok-try_clone-in-Unlink}
use Rattle.lfs_types.proofs.request.Request.try_clone.Goals.{in-Rmdir+in_ok-try_clone-in-Rmdir}
use Rattle.lfs_types.proofs.request.Request.try_clone.Goals.{in-Rename+in_ok-copied_rename-in-Rename}
use Rattle.lfs_types.proofs.request.Request.try_clone.Goals.{in-Chmod+in_ok-try_clone-in-Chmod}
use Rattle.lfs_types.proofs.request.Request.try_clone.Goals.{in-Chown+in_ok-try_clone-in-Chown}
use Rattle.lfs_types.proofs.request.Request.try_clone.Goals.{in-Chflags+in_ok-try_clone-in-Chflags, in-SetLevel}
use Rattle.lfs_types.proofs.request.Request.try_clone.Goals.{in-Sync}

pub returns-clause-copy : goal.returns-clause-copy
returns-clause-copy c =
    elim c.match-self.branch [
      | in-Stat+in_ok-try_clone-in-Stat w ↦ rw (w.result-is, w.in-Stat.is, w.in_ok-try_clone-in-Stat.ensures)
      | in-Read+in_ok-try_clone-in-Read w ↦ rw (w.result-is, w.in-Read.is, w.in_ok-try_clone-in-Read.ensures)
      | in-Write+in_ok-copied_write-in-Write w ↦ rw (w.result-is, w.in-Write.is, w.in_ok-copied_write-in-Write.ensures)
      | in-List+in_ok-try_clone-in-List w ↦ rw (w.result-is, w.in-List.is, w.in_ok-try_clone-in-List.ensures)
      | in-SetLength+in_ok-try_clone-in-SetLength w ↦
          rw (w.result-is, w.in-SetLength.is, w.in_ok-try_clone-in-SetLength.ensures)
      | in-Create+in_ok-try_clone-in-Create w ↦ rw (w.result-is, w.in-Create.is, w.in_ok-try_clone-in-Create.ensures)
      | in-Mkdir+in_ok-try_clone-in-Mkdir w ↦ rw (w.result-is, w.in-Mkdir.is, w.in_ok-try_clone-in-Mkdir.ensures)
      | in-Unlink+in_ok-try_clone-in-Unlink w ↦ rw (w.result-is, w.in-Unlink.is, w.in_ok-try_clone-in-Unlink.ensures)
      | in-Rmdir+in_ok-try_clone-in-Rmdir w ↦ rw (w.result-is, w.in-Rmdir.is, w.in_ok-try_clone-in-Rmdir.ensures)
      | in-Rename+in_ok-copied_rename-in-Rename w ↦
          rw (w.result-is, w.in-Rename.is, w.in_ok-copied_rename-in-Rename.ensures)
      | in-Chmod+in_ok-try_clone-in-Chmod w ↦ rw (w.result-is, w.in-Chmod.is, w.in_ok-try_clone-in-Chmod.ensures)
      | in-Chown+in_ok-try_clone-in-Chown w ↦ rw (w.result-is, w.in-Chown.is, w.in_ok-try_clone-in-Chown.ensures)
      | in-Chflags+in_ok-try_clone-in-Chflags w ↦
          rw (w.result-is, w.in-Chflags.is, w.in_ok-try_clone-in-Chflags.ensures)
      | in-SetLevel w ↦ rw (w.result-is, w.in-SetLevel.is)
      | in-Sync w ↦ rw (w.result-is, w.in-Sync.is)
    ]
