use Rattle.lfs_fsck.proofs.ReaderLemmas.{first_below, label_named, label_read, named_here, read_on}
use Rattle.lfs_fsck.proofs.names.name_at.Goals as goal

pub returns-then-address-eq0-clause-named : goal.returns-then-address-eq0-clause-named
returns-then-address-eq0-clause-named c =
    label_named c.args.log.now.memory c.args.segment c.args.address c.args.reader.now c.requires.from
    c.if-address-eq0.true c.requires.read

pub returns-then-address-eq0-clause-read : goal.returns-then-address-eq0-clause-read
returns-then-address-eq0-clause-read c =
    label_read c.args.log.now.memory c.args.segment c.args.address c.args.reader.now c.requires.from
    c.if-address-eq0.true c.requires.read

pub returns-clause-named : goal.returns-clause-named
returns-clause-named c =
    named_here c.args.log.now.memory c.args.segment c.args.address c.args.reader.now c.pass.result c.requires.from
    c.requires.below c.requires.read c.pass.ensures.named

pub returns-clause-read : goal.returns-clause-read
returns-clause-read c =
    read_on c.args.log.now.memory c.args.segment c.args.address c.has_serials.result c.args.reader.now c.pass.new.self
    c.block.result.now c.has_serials.ensures.serials
    (first_below c.args.segment c.args.address c.requires.from c.if-address-eq0.false) c.requires.read
    c.block.ensures.block c.pass.ensures.next
