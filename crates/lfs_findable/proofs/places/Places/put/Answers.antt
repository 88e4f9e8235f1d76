use Rattle.std.proofs.Common.{sym}
use Rattle.std.proofs.lemmas.Bool.{ne_eqb}
use Rattle.lfs_findable.specs.Maps.{address_of}
use Rattle.lfs_findable.proofs.places.Places.put.Goals as goal

pub returns-clause-there : goal.returns-clause-there
unfolding address_of
returns-clause-there c = c.in_ok-insert.ensures.updates.1

pub returns-clause-others : goal.returns-clause-others
unfolding address_of
returns-clause-others c = λ q apart. c.in_ok-insert.ensures.updates.2 q (ne_eqb c.args.serial q (λ e. apart (sym e)))
