use Rattle.std.proofs.Common.{All, is_some, sym, ap, ◌∙◌, subst, arith}
use Rattle.std.proofs.lemmas.Bool.{le-ltb}
use Rattle.lfs_parts.specs.Waiting.{IsNumbered}
use Rattle.lfs_parts.proofs.RecordsLemmas.{none_past}
use Rattle.lfs_parts.proofs.records.Records.has.Goals as goal

pub returns-else-number-lt-MOST_INODES : goal.returns-else-number-lt-MOST_INODES
returns-else-number-lt-MOST_INODES c =
    le-ltb c.args.number 4096 (omega arith)
    ∙ sym (ap is_some (none_past c.args.self.now c.args.number
    (subst (All IsNumbered) c.self.view_is c.self.invariant.numbered) (omega arith)))
