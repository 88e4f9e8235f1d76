use Rattle.std.proofs.Common.{◌↔◌, List, length}
use Rattle.lfs_model.specs.declared.journal.Entry.{Entry}
use Rattle.lfs_settle.specs.Interleaving.{IsEntered}
use Rattle.lfs_settle.proofs.judging.behind_setup.Given as goal

abbrev pub invariant-loop-call : goal.invariant-loop-call
invariant-loop-call l =
    (later : List Entry) → IsEntered l.is_full l.rest l.calls l.given later
    ↔ IsEntered l.fn.is_full l.fn.entries l.fn.setup l.fn.answers later

abbrev pub decreases-loop-call : goal.decreases-loop-call
decreases-loop-call l = length l.calls
