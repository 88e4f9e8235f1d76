use Rattle.std.proofs.Common.{◌*◌, ap, ◌∙◌, arith}
use Rattle.lfs_inodes.specs.Addresses.{cells}
use Rattle.lfs_cache.specs.Contents.{overwritten}
use Rattle.lfs_staging.proofs.EntryLemmas.{entry_over, entry_restages}
use Rattle.lfs_staging.proofs.HeldFrames.{overwritten_frames}
use Rattle.lfs_staging.proofs.addressing.set_entry.Goals as goal

pub returns-clause-set : goal.returns-clause-set
returns-clause-set c = λ block there.
    let over = c.overwrite.ensures.overwrites in let i = c.args.index in
    record {
      after = overwritten (4 * i) c.to_be_bytes.result block;
      changed = ap (λ word. cells (overwritten (4 * i) word block)) c.to_be_bytes.ensures
          ∙ entry_over block i c.args.address (over.block block there).0 c.requires.inside (omega arith);
      rewritten = entry_restages c.args.cache.now c.overwrite.new.self c.args.key (4 * i) c.to_be_bytes.result block
          over c.overwrite.ensures.formed there;
    }

pub returns-clause-held : goal.returns-clause-held
returns-clause-held c = overwritten_frames c.args.cache.now c.overwrite.new.self c.args.key (4 * c.args.index)
    c.to_be_bytes.result c.overwrite.ensures.overwrites c.requires.waits c.requires.table
