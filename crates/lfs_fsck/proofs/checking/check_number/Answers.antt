use Rattle.std.proofs.Common.{sym, subst}
use Rattle.lfs_bmap.specs.declared.blocks.TheConstants.{BLOCK_CODES}
use Rattle.lfs_fsck.specs.Checks.{IsChecked, IsCounted}
use Rattle.lfs_fsck.proofs.KeyLemmas.{count_free, count_number}
use Rattle.lfs_fsck.proofs.StoreLemmas.{checked_file}
use Rattle.lfs_fsck.proofs.checking.check_number.Goals as goal

pub returns-in_default-clause-counted : goal.returns-in_default-clause-counted
returns-in_default-clause-counted c =
    count_free c.args.log.now c.args.number c.args.counts.now.items c.in_default.ensures.kept c.requires.below
    (sym c.in_default.ensures.place) c.requires.so_far

pub returns-clause-counted : goal.returns-clause-counted
returns-clause-counted c =
    count_number c.args.log.now c.args.number c.count_children.new.counts.items
    (subst (λ n. IsCounted c.args.log.now n BLOCK_CODES c.count_children.new.counts.items) c.in_ok-inode.ensures.number
    c.in_ok-count_children.ensures.ok)

pub returns-clause-file : goal.returns-clause-file
returns-clause-file c = λ used.
    let own = c.in_ok-inode.ensures.record in
    record {
      allowed = c.in_ok-inode.ensures.allowed;
      checked = subst (IsChecked c.args.log.now) c.in_ok-inode.ensures.number
          (checked_file c.args.log.now c.in_ok-inode.inode own own.formed c.in_ok-count_children.ensures.ok.here
          c.in_ok-check_tail.ensures.ok);
    }
