use Rattle.std.proofs.Common.{◌+◌, ◌*◌, ◌∙◌, drop}
use Rattle.lfs_image.proofs.LoadingLemmas.{blocks_whole, same_body}
use Rattle.lfs_image.proofs.loading.read_log.Goals as goal

pub returns-clause-body : goal.returns-clause-body
returns-clause-body c =
    let head = c.args.head.now in
    let bytes = c.args.bytes.now in
    let blocks = c.in_ok-blocks.blocks.items in
    let count = head.segments * 64 in
    same_body head.serial c.in_ok-log.log c.in_ok-ifile.ifile blocks head.active head.used (drop (512 + 512 * count) bytes)
    (drop 512 bytes)
    (c.in_ok-log.ensures.memory ∙ c.in-Some.ensures.over) c.in_ok-log.ensures.tables c.in_ok-ifile.ensures.spelled
    (blocks_whole bytes blocks count c.in_ok-blocks.ensures.read)
