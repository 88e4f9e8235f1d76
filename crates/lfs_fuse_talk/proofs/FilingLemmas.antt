-- Entries that go nowhere.
use Rattle.std.proofs.Common.{◌≡◌, ◌<◌, Bool, true, false, if◌then◌else◌, length, Result, Ok, Err, IfOk, OnOk, arith}
use Rattle.lfs_volume.specs.Seen.{Seen}
use Rattle.lfs_mount.specs.Tending.{let_go}
use Rattle.lfs_fuse_talk.specs.declared.filing.TheConstants.{LET_GO}

-- where there were few, there are few, whether they were let go or not
pub few_kept : {F E : Type 0} (before after : Seen F) (result : Result Bool E)
    → length before.journal < LET_GO
    → IfOk result (λ did. after ≡ (if did then let_go before else before))
    → OnOk result (length after.journal < LET_GO)
few_kept before after (Ok true) few is = rw is (omega arith)
few_kept before after (Ok false) few is = rw is few
few_kept before after (Err fault) few is = tt
