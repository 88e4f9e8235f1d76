use Rattle.lfs_mount.proofs.GoneLemmas.{gone_flagged, gone_handled, gone_renamed, gone_set}
use Rattle.lfs_mount.proofs.laws.gone_is_refused.Goals as goal

pub returns-clause-handled : goal.returns-clause-handled
returns-clause-handled g c caller nodes nodes_after node message reply old new gone h =
    gone_handled g.F.FileStore.state g.F.FileStore.is_flushed caller nodes nodes_after node message reply old new gone h

pub returns-clause-set : goal.returns-clause-set
returns-clause-set g c caller hangs node fields reply old new gone h =
    gone_set g.F.FileStore.state g.F.FileStore.is_flushed caller hangs node fields reply old new gone h

pub returns-clause-flagged : goal.returns-clause-flagged
returns-clause-flagged g c caller hangs node fields reply old new gone h =
    gone_flagged g.F.FileStore.state g.F.FileStore.is_flushed caller hangs node fields reply old new gone h

pub returns-clause-renamed : goal.returns-clause-renamed
returns-clause-renamed g c caller hangs node directory name new_name reply old new gone h =
    gone_renamed g.F.FileStore.state g.F.FileStore.is_flushed caller hangs node name directory new_name reply old new
    gone h
