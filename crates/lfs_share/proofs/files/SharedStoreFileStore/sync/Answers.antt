use Rattle.lfs_logstore.specs.States.{shape_of}
use Rattle.lfs_share.proofs.GrowthLemmas.{same_share}
use Rattle.lfs_share.proofs.ShareLemmas.{kept_flushed, kept_written}
use Rattle.lfs_share.proofs.files.SharedStoreFileStore.sync.Goals as goal

pub invariant_of-self : goal.invariant_of-self
invariant_of-self c =
    let old = c.self.inside.store in
    let new = c.sync.new.self in
    let written = c.sync.ensures.written in
    let held = same_share old new c.self.inside.most written.content
    (λ i. shape_of (written.log.numbers i) (written.log.segments i)) c.self.invariant.1 c.self.invariant.2 in
    (kept_flushed new written.flushed (kept_written old new written c.self.invariant.0), held.0, held.1)
