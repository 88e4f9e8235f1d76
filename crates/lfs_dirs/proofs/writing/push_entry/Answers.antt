use Rattle.lfs_dirs.specs.Reading.{entries_of}
use Rattle.lfs_dirs.proofs.Laws.{entries_of-block}
use Rattle.lfs_dirs.proofs.Adding.{block_added}
use Rattle.lfs_dirs.proofs.writing.push_entry.Goals as goal

pub returns-clause-block : goal.returns-clause-block
returns-clause-block c =
    let asked = c.requires in
    block_added c.args.block.now (entries_of c.args.block.now) (
      c.args.number,
      c.args.name.now,
    ) c.args.end c.write_entry.new.out
    asked.directory asked.at_end asked.room asked.entry asked.new_name c.write_entry.ensures

pub returns-clause-listed : goal.returns-clause-listed
returns-clause-listed c = entries_of-block _ _ (returns-clause-block c)
