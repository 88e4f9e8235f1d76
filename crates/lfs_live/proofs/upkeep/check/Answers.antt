use Rattle.std.proofs.Common.{IfOk, List, subst}
use Rattle.lfs_calls.specs.Volumes.{HasWorld, IsVolume}
use Rattle.lfs_model.specs.declared.journal.Entry.{Entry}
use Rattle.lfs_model.specs.Steps.{world_after}
use Rattle.lfs_volume.specs.Journals.{Begins}
use Rattle.lfs_live.proofs.TellingLemmas.{if_ok_at}
use Rattle.lfs_live.proofs.UpkeepLemmas.{if_ok_given}
use Rattle.lfs_live.proofs.upkeep.check.Goals as goal

pub returns : goal.returns
returns g c =
    let state = g.F.FileStore.state in
    let checked = g.F.ChecksLog.checked in
    let volume = c.args.volume.now in
    let result = c.check.result in
    let numbers = (state volume.store).shape.numbers in
    let journal = c.journal-journal.ensures in
    let told = subst (λ (s : g.row.F.Denot). IfOk result (λ text. HasWorld (state s) → checked s text.items)) c.store.ensures
    c.check.ensures in
    if_ok_at result (λ from. Begins (state volume.since) volume.since_level from) (λ from text. checked volume.store text.items)
    (λ from begins. if_ok_given result (λ text. checked volume.store text.items) told (
      world_after numbers volume.journal from,
      subst (λ (entries : List Entry). IsVolume (state volume.store) (world_after numbers entries from)) journal.entries
          (journal.legal from begins).shown,
    ))
