use Rattle.std.proofs.Common.{◌++◌, ◌∷◌, [], Option, Some, None, sym, ap, ◌∙◌, append-nil}
use Rattle.std.specs.List.{cons_option}
use Rattle.lfs_types.specs.declared.cleaner.BlockInfo.{BlockInfo}
use Rattle.lfs_inodes.specs.Slots.{slot_of}
use Rattle.lfs_log.proofs.ScanLemmas.{slot_info-read}
use Rattle.lfs_log.proofs.infos.push_slot_info.Goals as goal

pub returns-in-Some-clause-added : goal.returns-in-Some-clause-added
returns-in-Some-clause-added c =
    let info = slot_info-read c.args.address (slot_of c.args.block.now c.args.index)
    (Some c.in-Some.inode) c.in-Some.ensures.reading in
    c.push.ensures ∙ ap (λ (i : BlockInfo). c.args.infos.now ++ i ∷ []) c.info_of-info.ensures
    ∙ ap (λ (o : Option BlockInfo). c.args.infos.now ++ cons_option o []) (sym info)

pub returns-in_default-clause-added : goal.returns-in_default-clause-added
returns-in_default-clause-added c =
    let info = slot_info-read c.args.address (slot_of c.args.block.now c.args.index) None c.in_default.ensures.reading
    in
    sym (append-nil c.args.infos.now) ∙ ap (λ (o : Option BlockInfo). c.args.infos.now ++ cons_option o []) (sym info)
