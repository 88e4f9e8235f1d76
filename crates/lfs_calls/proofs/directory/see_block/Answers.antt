use Rattle.std.proofs.Common.{take, drop, sym, ap, ◌∙◌}
use Rattle.lfs_types.specs.Stored.{bytes_of}
use Rattle.lfs_calls.specs.Makes.{with_block}
use Rattle.lfs_calls.proofs.WithBlock.{with_block-here, with_block-other}
use Rattle.lfs_calls.proofs.directory.see_block.Goals as goal
use Rattle.lfs_calls.proofs.directory.see_block.Goals.{in_default-via-in-Some+else-room-off, in_default-via-in_default}

pub returns-in-Some-clause-block : goal.returns-in-Some-clause-block
returns-in-Some-clause-block g c = with_block-here
    (bytes_of (g.F.FileStore.state c.args.store.now).content c.args.dir) c.args.taken c.in-Some.room c.in-Some.is
    c.requires.taken c.args.off c.if-room-off.true

pub returns-in_default-clause-block : goal.returns-in_default-clause-block
returns-in_default-clause-block g c =
    let bytes = bytes_of (g.F.FileStore.state c.args.store.now).content c.args.dir in
    elim c.in_default.branch [
      | in_default-via-in-Some+else-room-off w ↦ c.read_into.ensures.block
          ∙ sym (with_block-other bytes c.args.taken w.in-Some.room w.in-Some.is c.requires.taken c.args.off
          c.requires.aligned (λ same. w.if-room-off.false (sym same)))
      | in_default-via-in_default w ↦ c.read_into.ensures.block
          ∙ ap (λ o. take 512 (drop c.args.off (with_block bytes o))) (sym w.in_default.is)
    ]
