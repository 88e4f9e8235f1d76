use Rattle.std.proofs.lemmas.Bool.{le-ltb, lt-ltb}
use Rattle.lfs_inodes.proofs.addresses.address.Goals as goal

pub returns-then-n-lt-SINGLE_END : goal.returns-then-n-lt-SINGLE_END
returns-then-n-lt-SINGLE_END c =
    rw (
      le-ltb c.args.n 12 c.if-n-lt-DIRECT_COUNT.false,
      lt-ltb c.args.n 140 c.if-n-lt-SINGLE_END.true,
    ) c.entry.ensures.read

pub returns-else-n-lt-SINGLE_END : goal.returns-else-n-lt-SINGLE_END
returns-else-n-lt-SINGLE_END c =
    rw (le-ltb c.args.n 12 c.if-n-lt-DIRECT_COUNT.false, le-ltb c.args.n 140 c.if-n-lt-SINGLE_END.false)
    c.entry-else-n-lt-SINGLE_END.ensures.read
